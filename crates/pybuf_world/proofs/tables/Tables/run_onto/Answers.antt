use Rattle.std.proofs.Common.{List, [], ◌∷◌, ◌++◌, ap, ◌∙◌}
use Rattle.pybuf_command.specs.declared.worlds.Reply.{Reply}
use Rattle.pybuf_world.proofs.Runs.{one_more}
use Rattle.pybuf_world.proofs.tables.Tables.run_onto.Goals as goal

pub loop-command-preserved : goal.loop-command-preserved
loop-command-preserved c = (
  one_more _ _ _ c.args.commands.now c.loop-command.command-index c.command-item.result c.in_ok-reply.reply _ _ _
      c.loop-command.invariant.0 c.loop-command-test.true c.command-item.is c.in_ok-reply.ensures.ok
      (c.push_reserved.ensures ∙ ap (λ (rs : List Reply). rs ++ c.in_ok-reply.reply ∷ []) c.in_ok-reserve.ensures.items),
  c.in_ok-reply.ensures.kept,
)
