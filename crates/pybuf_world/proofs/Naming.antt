-- What a handle names after a run of commands, and a view that is released.
use Rattle.std.proofs.Common.{◌≡◌, inl, inr, ℕ, Bool, true, [], ◌∷◌, ap, sym, ◌∙◌, refl, subst}
use Rattle.std.proofs.lemmas.Option.{slice_get_within}
use Rattle.pybuf_command.specs.declared.worlds.Command.{Command}
use Rattle.pybuf_state.specs.Exporter.{View}
use Rattle.pybuf_state.specs.Keeps.{IsSameOrReleased}
use Rattle.pybuf_world.specs.declared.named.Named.TheVariants as named
use Rattle.pybuf_world.specs.World.{World, wstep, world_after_all}
use Rattle.pybuf_world.specs.Sound.{IsSoundWorld}
use Rattle.pybuf_world.specs.Exporters.{ExporterLaws}
use Rattle.pybuf_world.specs.Laws.{HandlesStay, WorldLengthsStay}
use Rattle.pybuf_world.specs.Naming.{NamesView, HandlesStayInRuns, RunsNameTheirViews, ReleasedHandlesStay}
use Rattle.pybuf_world.proofs.Sound.{wstep_sound}

pub handles_in_runs : HandlesStay → HandlesStayInRuns
handles_in_runs stay w [] handle n is = is
handles_in_runs stay w (c ∷ cs) handle n is = handles_in_runs stay (wstep w c).0 cs handle n (stay w c handle (slice_get_within w.handles handle n is) ∙ is)

-- a view that a handle names after some commands
abbrev NamesAfter : World → ℕ → ℕ → ℕ → View → Type 0
NamesAfter w handle number k v = (after : View) × IsSameOrReleased v after × NamesView w handle number k after

named_after_one : HandlesStay → WorldLengthsStay → (w : World) (c : Command) (handle number k : ℕ) (v : View) → IsSoundWorld w → NamesView w handle number k v → NamesAfter (wstep w c).0 handle number k v
named_after_one stay lengths w c handle number k v sound names =
    let e = lengths w c sound number names.exporter names.there in
    let view = e.2.views k v names.view in
    (view.0, view.2, record { names = stay w c handle (slice_get_within w.handles handle (named.View number k) names.names) ∙ names.names; exporter = e.0; there = e.1; view = view.1 })

as_released : (v u : View) → u ≡ record v { released = true } → record u { released = true } ≡ record v { released = true }
as_released v u is = ap (λ (x : View). record x { released = true }) is

one_then_more : (v u t : View) → IsSameOrReleased v u → IsSameOrReleased u t → IsSameOrReleased v t
one_then_more v u t (inl first) (inl second) = inl (second ∙ first)
one_then_more v u t (inl first) (inr second) = inr (second ∙ ap (λ (x : View). record x { released = true }) first)
one_then_more v u t (inr first) (inl second) = inr (second ∙ first)
one_then_more v u t (inr first) (inr second) = inr (second ∙ as_released v u first)

and_more : (w : World) (handle number k : ℕ) (v u : View) → IsSameOrReleased v u → NamesAfter w handle number k u → NamesAfter w handle number k v
and_more w handle number k v u first later = (later.0, one_then_more v u later.0 first later.1, later.2)

pub named_after_runs : HandlesStay → WorldLengthsStay → ExporterLaws → RunsNameTheirViews
named_after_runs stay lengths laws w [] handle number k v sound names = (v, inl refl, names)
named_after_runs stay lengths laws w (c ∷ cs) handle number k v sound names =
    let one = named_after_one stay lengths w c handle number k v sound names in
    and_more (world_after_all (wstep w c).0 cs) handle number k v one.0 one.1 (named_after_runs stay lengths laws (wstep w c).0 cs handle number k one.0 (wstep_sound laws w c sound) one.2)

released_same : (v after : View) → v.released ≡ true → IsSameOrReleased v after → after ≡ v
released_same v after released (inl same) = same
released_same v after released (inr same) = same ∙ ap (λ (b : Bool). record v { released = b }) (sym released)

pub released_after_runs : RunsNameTheirViews → ReleasedHandlesStay
released_after_runs runs w cs handle number k v sound names released =
    let later = runs w cs handle number k v sound names in
    subst (NamesView (world_after_all w cs) handle number k) (released_same v later.0 released later.1) later.2
