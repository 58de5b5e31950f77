use Rattle.std.proofs.Common.{arith}
use Rattle.pybuf_sessions.proofs.Growing.{put_there}
use Rattle.pybuf_sessions.proofs.scripts.add_there.Goals as goal

pub returns : goal.returns
returns c =
    put_there c.args.scripts.now.items c.args.session c.args.command c.index_mut-script.result.now c.push.new.self (omega (arith, c.requires, c.args.scripts.now.ok))
    c.index_mut-script.ensures.value c.in_ok-push.ensures.ok
