use Rattle.pybuf_share.proofs.Works.{sessions_next}
use Rattle.pybuf_share.proofs.running.sessions_of.Goals as goal

pub loop-worker-preserved : goal.loop-worker-preserved
loop-worker-preserved g c =
    sessions_next c.loop-worker.yielded c.in-Some.worker c.loop-worker.sessions.items c.push.new.self.items c.in_ok-session.session c.in_ok-push.ensures.items c.in_ok-session.ensures.session c.in_ok-session.ensures.done c.loop-worker.invariant
