use Rattle.pybuf_desc.proofs.LinePieces.{have_their_pieces}
use Rattle.pybuf_desc.proofs.laws.lines_have_their_pieces.Goals as goal

pub returns : goal.returns
returns c = have_their_pieces
