use Rattle.pybuf_struct.proofs.Whole.{format_fills}
use Rattle.pybuf_struct.proofs.RoundTrips.{length-packed_bytes}
use Rattle.pybuf_struct.proofs.laws.packing_fills_the_format.Goals as goal

pub returns : goal.returns
returns c = λ text f pairs args bytes is packs. length-packed_bytes f pairs args bytes (format_fills text f is) packs
