use Rattle.std.proofs.Common.{◌∙◌, ap, min, take, length}
use Rattle.pybuf_cli.proofs.Taking.{lent_rest, left_after}
use Rattle.pybuf_cli.proofs.memory.QuietSource.move_next.Goals as goal

pub returns-clause-count : goal.returns-clause-count
returns-clause-count c =
    c.move_front-count.ensures.count
    ∙ ap (λ x. min (min (length x) (length c.args.room.now)) c.args.most)
    (lent_rest _ _ c.deref.result.now c.self.inside.taken c.self.view_is c.deref.ensures.value)

pub returns-clause-moved : goal.returns-clause-moved
returns-clause-moved c =
    c.move_front-count.ensures.copied
    ∙ ap (take c.move_front-count.result) (lent_rest _ _ c.deref.result.now c.self.inside.taken c.self.view_is c.deref.ensures.value)

pub returns-clause-left : goal.returns-clause-left
returns-clause-left c = left_after _ _ c.self.inside.taken c.move_front-count.result c.self.view_is
