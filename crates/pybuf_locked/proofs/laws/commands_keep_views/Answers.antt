use Rattle.pybuf_locked.proofs.Views.{kept}
use Rattle.pybuf_locked.proofs.laws.commands_keep_views.Goals as goal

pub returns : goal.returns
returns c = λ command fact e sound has. kept c.lengths_stay.ensures fact.view fact.length e command sound has
