use Rattle.pybuf_struct.proofs.Whole.{format_fills}
use Rattle.pybuf_struct.proofs.RoundTrips.{unpacked_again}
use Rattle.pybuf_struct.proofs.laws.writes_what_was_read.Goals as goal

pub returns : goal.returns
returns c = λ text f pairs args bytes is exact small reads. unpacked_again f pairs args bytes (format_fills text f is) exact small reads
