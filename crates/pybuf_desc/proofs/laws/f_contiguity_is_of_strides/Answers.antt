use Rattle.pybuf_desc.proofs.ColumnViews.{by_column_strides}
use Rattle.pybuf_desc.proofs.laws.f_contiguity_is_of_strides.Goals as goal

pub returns : goal.returns
returns c = λ d start view placed stands some. by_column_strides d start view stands some
