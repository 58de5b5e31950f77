use Rattle.pybuf_state.specs.Exporter.{new_exporter}
use Rattle.pybuf_share.proofs.OneAfterOther.{of_one_thread}
use Rattle.pybuf_share.proofs.laws.legal_histories_are_of_one_thread.Goals as goal

pub returns : goal.returns
returns c = λ k opening entries legal. let one = of_one_thread (new_exporter k opening) entries legal in record { exporter = one.exporter; replies = one.replies }
