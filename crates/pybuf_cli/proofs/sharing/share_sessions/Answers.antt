use Rattle.pybuf_cli.proofs.Shared.{puts_history}
use Rattle.pybuf_cli.proofs.sharing.share_sessions.Goals as goal

pub returns-in-Ok-clause-done : goal.returns-in-Ok-clause-done
returns-in-Ok-clause-done g c = λ done. puts_history c.args.sessions c.in-Ok.joined _ _ c.in-Ok.ensures.run (c.write_history.ensures.put done)
