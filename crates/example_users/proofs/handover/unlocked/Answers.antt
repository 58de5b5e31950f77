use Rattle.example_users.proofs.HandLemmas.{alone_by}
use Rattle.example_users.proofs.handover.unlocked.Goals as goal

pub returns-clause-ok : goal.returns-clause-ok
returns-clause-ok g c =
    alone_by c.args.shared c.args.session c.in_ok-all.all.items c.finish.result c.in_ok-all.ensures c.requires.number c.requires.plain c.finish.ensures.joined c.finish.ensures.theirs
