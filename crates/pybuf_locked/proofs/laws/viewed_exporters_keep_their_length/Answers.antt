use Rattle.pybuf_locked.proofs.Views.{as_long}
use Rattle.pybuf_locked.proofs.laws.viewed_exporters_keep_their_length.Goals as goal

pub returns : goal.returns
returns c = as_long
