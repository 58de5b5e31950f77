use Rattle.pybuf_letters.proofs.TitleLaws.{changes_letters}
use Rattle.pybuf_letters.proofs.laws.titles_change_letters.Goals as goal

pub returns : goal.returns
returns c = changes_letters
