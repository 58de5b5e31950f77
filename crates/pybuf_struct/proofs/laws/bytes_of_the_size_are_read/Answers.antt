use Rattle.pybuf_struct.specs.Facts.{unpacked_at}
use Rattle.pybuf_struct.proofs.laws.bytes_of_the_size_are_read.Goals as goal

pub returns : goal.returns
returns c = λ f bytes long. unpacked_at f bytes long
