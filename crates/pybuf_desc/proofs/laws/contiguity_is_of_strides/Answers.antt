use Rattle.pybuf_desc.proofs.DescribedLayouts.{by_strides}
use Rattle.pybuf_desc.proofs.laws.contiguity_is_of_strides.Goals as goal

pub returns : goal.returns
returns c = λ d start view placed stands some. by_strides d start view stands some
