-- Each reply of a run is one line.
use Rattle.std.proofs.Common.{[], ◌∷◌, ◌==◌}
use Rattle.std.specs.List.{list_any}
use Rattle.pybuf_lemmas.proofs.Booleans.{false_if_not_true}
use Rattle.pybuf_command.specs.declared.worlds.Command.{Command}
use Rattle.pybuf_world.specs.World.{World, wstep}
use Rattle.pybuf_world.specs.Laws.{WorldShownTextsAreOneLine}
use Rattle.pybuf_line.specs.Laws.{ShowsOneLine, NamesStaySingle}
use Rattle.pybuf_cli.specs.Laws.{RunsStaySingle}

shows_line : WorldShownTextsAreOneLine → (w : World) (c : Command) → ShowsOneLine (wstep w c).1
shows_line shown w c text is = false_if_not_true (list_any (λ b. b == 10) text) (shown w c text is)

pub runs_single : WorldShownTextsAreOneLine → NamesStaySingle → RunsStaySingle
runs_single shown replies name single w [] = tt
runs_single shown replies name single w (c ∷ cs) =
    (replies name single (wstep w c).1 (shows_line shown w c), runs_single shown replies name single (wstep w c).0 cs)
