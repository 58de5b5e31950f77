use Rattle.pybuf_struct.proofs.Whole.{format_fills}
use Rattle.pybuf_struct.proofs.RoundTrips.{packed_again}
use Rattle.pybuf_struct.proofs.laws.reads_what_was_written.Goals as goal

pub returns : goal.returns
returns c = λ text f pairs args bytes is packs. packed_again f pairs args bytes (format_fills text f is) packs
