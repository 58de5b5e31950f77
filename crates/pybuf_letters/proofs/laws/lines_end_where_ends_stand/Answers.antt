use Rattle.pybuf_letters.proofs.LineParts.{ends_stand}
use Rattle.pybuf_letters.proofs.laws.lines_end_where_ends_stand.Goals as goal

pub returns : goal.returns
returns c = ends_stand
