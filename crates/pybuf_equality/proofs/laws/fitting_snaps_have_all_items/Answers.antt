use Rattle.pybuf_equality.proofs.Fitting.{all_items}
use Rattle.pybuf_equality.proofs.laws.fitting_snaps_have_all_items.Goals as goal

pub returns : goal.returns
returns c = all_items
