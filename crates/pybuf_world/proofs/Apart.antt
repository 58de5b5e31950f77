-- In every world that a run reaches, no two items of a view share a byte.
use Rattle.std.proofs.Common.{List, length, subst}
use Rattle.std.proofs.Math.Seq.{take-length}
use Rattle.pybuf_lemmas.proofs.Lists.{element_holds}
use Rattle.pybuf_state.specs.Spaced.{IsSpaced}
use Rattle.pybuf_state.specs.Laws.{LiveLayoutsLieApart}
use Rattle.pybuf_command.specs.declared.worlds.Command.{Command}
use Rattle.pybuf_world.specs.World.{World, empty_world, world_after_all}
use Rattle.pybuf_world.specs.Sound.{IsSoundWorld}
use Rattle.pybuf_world.specs.Laws.{HasViewsOfItemsApart, RunsStaySound, RunsKeepItemsApart}

world_apart : LiveLayoutsLieApart → (w : World) → IsSoundWorld w → HasViewsOfItemsApart w
world_apart apart w sound i k e layout at found = apart e k layout (element_holds IsSpaced w.exporters i e sound.items_lie_apart at) found

-- The world after a whole run is sound, since the run is that of its first commands, as many as there are.
whole_sound : RunsStaySound → (commands : List Command) → IsSoundWorld (world_after_all empty_world commands)
whole_sound stays commands = subst (λ (cs : List Command). IsSoundWorld (world_after_all empty_world cs)) (take-length commands) (stays commands (length commands))

pub runs_apart : RunsStaySound → LiveLayoutsLieApart → RunsKeepItemsApart
runs_apart stays apart commands = world_apart apart (world_after_all empty_world commands) (whole_sound stays commands)
