use Rattle.pybuf_desc.proofs.LinePieces.{lie_inside}
use Rattle.pybuf_desc.proofs.laws.lines_lie_inside.Goals as goal

pub returns : goal.returns
returns c = lie_inside
