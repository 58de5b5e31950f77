-- Laws over locked exporters that have a view.
use Rattle.std.specs.Prelude.{◌≡◌, ℕ, length, true}
use Rattle.pybuf_command.specs.declared.commands.LocalCommand.{LocalCommand}
use Rattle.pybuf_state.specs.Exporter.{Exporter}
use Rattle.pybuf_state.specs.Live.{is_live}
use Rattle.pybuf_state.specs.Sound.{IsSoundExporter}
use Rattle.pybuf_locked.specs.declared.viewed.ViewMadeAt.{ViewMadeAt}
use Rattle.pybuf_locked.specs.Locked.{KeepsInvariant}
use Rattle.pybuf_locked.specs.Viewed.{HasViewMadeAt}

-- no command takes a view away, or changes when it was made
abbrev pub CommandsKeepViews : Type 0
CommandsKeepViews = (command : LocalCommand) → KeepsInvariant (λ (fact : ViewMadeAt) (e : Exporter). HasViewMadeAt fact.view fact.length e) command

-- an exporter has the length that it had when a view was made, while that view is unreleased
abbrev pub ViewedExportersKeepTheirLength : Type 0
ViewedExportersKeepTheirLength = (view n : ℕ) (e : Exporter) → IsSoundExporter e → HasViewMadeAt view n e → is_live e view ≡ true → length e.bytes ≡ n
