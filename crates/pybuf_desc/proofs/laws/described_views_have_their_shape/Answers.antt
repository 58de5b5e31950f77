use Rattle.pybuf_desc.proofs.DescribedLayouts.{described_shape}
use Rattle.pybuf_desc.proofs.laws.described_views_have_their_shape.Goals as goal

pub returns : goal.returns
returns c = described_shape
