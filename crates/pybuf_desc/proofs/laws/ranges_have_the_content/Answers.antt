use Rattle.pybuf_desc.proofs.RangeLaws.{ranges_content}
use Rattle.pybuf_desc.proofs.laws.ranges_have_the_content.Goals as goal

pub returns : goal.returns
returns c = ranges_content
