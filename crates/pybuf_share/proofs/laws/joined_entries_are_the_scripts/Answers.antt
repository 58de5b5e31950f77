use Rattle.pybuf_share.proofs.Scripts.{joined_are_scripts}
use Rattle.pybuf_share.proofs.laws.joined_entries_are_the_scripts.Goals as goal

pub returns : goal.returns
returns c = joined_are_scripts
