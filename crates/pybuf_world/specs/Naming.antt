-- What the handles of a world name after a run of commands.
use Rattle.std.specs.Prelude.{◌≡◌, ℕ, List, true, slice_get, Some}
use Rattle.pybuf_command.specs.declared.worlds.Command.{Command}
use Rattle.pybuf_state.specs.Exporter.{Exporter, View}
use Rattle.pybuf_state.specs.Keeps.{IsSameOrReleased}
use Rattle.pybuf_world.specs.declared.named.Named.{Named}
use Rattle.pybuf_world.specs.declared.named.Named.TheVariants as named
use Rattle.pybuf_world.specs.World.{World, world_after_all}
use Rattle.pybuf_world.specs.Sound.{IsSoundWorld}

-- A handle names this view of the exporter that has this number.
pub record NamesView (w : World) (handle number k : ℕ) (v : View) : Type 0 where
  pub names : slice_get w.handles handle ≡ Some (named.View number k)
  pub exporter : Exporter
  pub there : slice_get w.exporters number ≡ Some exporter
  pub view : slice_get exporter.views k ≡ Some v

-- After every list of commands, a handle names what it named before.
abbrev pub HandlesStayInRuns : Type 0
HandlesStayInRuns = (w : World) (commands : List Command) (handle : ℕ) (n : Named) → slice_get w.handles handle ≡ Some n → slice_get (world_after_all w commands).handles handle ≡ Some n

-- A view that a handle names stays as it was, or becomes released.
abbrev pub RunsNameTheirViews : Type 0
RunsNameTheirViews =
    (w : World) (commands : List Command) (handle number k : ℕ) (v : View) → IsSoundWorld w → NamesView w handle number k v
    → (after : View) × IsSameOrReleased v after × NamesView (world_after_all w commands) handle number k after

-- A view that is released stays as it is.
abbrev pub ReleasedHandlesStay : Type 0
ReleasedHandlesStay =
    (w : World) (commands : List Command) (handle number k : ℕ) (v : View) → IsSoundWorld w → NamesView w handle number k v → v.released ≡ true
    → NamesView (world_after_all w commands) handle number k v
