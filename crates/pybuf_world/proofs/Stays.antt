-- What every command keeps of an exporter, it keeps of each exporter of a world.
use Rattle.std.proofs.Common.{◌≡◌, ℕ, ◌⊎◌, inl, inr, Bool, true, false, List, [], ◌∷◌, set, ap, sym, ◌∙◌, refl, subst, ◌≢◌}
use Rattle.std.specs.Prelude.{◌==◌, Option, Some, None, Result, Ok, Err, slice_get, if◌then◌else◌}
use Rattle.std.proofs.lemmas.Bool.Decides.{eqb_tells}
use Rattle.std.proofs.lemmas.Option.{slice_get_within}
use Rattle.pybuf_lemmas.proofs.Lists.{get-left, element_after_set, element_holds}
use Rattle.pybuf_value.specs.declared.faults.Fault.{Fault}
use Rattle.pybuf_value.specs.declared.faults.Fault.TheVariants as fault
use Rattle.pybuf_command.specs.declared.kinds.ExporterKind.{ExporterKind}
use Rattle.pybuf_command.specs.declared.kinds.Subject.{Subject}
use Rattle.pybuf_command.specs.declared.commands.Verb.{Verb}
use Rattle.pybuf_command.specs.declared.loans.Loan.{Loan}
use Rattle.pybuf_command.specs.declared.commands.LocalReply.{LocalReply}
use Rattle.pybuf_command.specs.declared.commands.LocalReply.TheVariants as local
use Rattle.pybuf_state.specs.Exporter.{Exporter}
use Rattle.pybuf_state.specs.Keeps.{LengthsStay, ReadOnlyBytesStay}
use Rattle.pybuf_state.specs.Sound.{IsSoundExporter}
use Rattle.pybuf_exporter.specs.Step.{estep}
use Rattle.pybuf_exporter.specs.Laws.{LengthsStayUnderCommands, ReadOnlyBytesStayUnderCommands, IteratorsStayUnderCommands}
use Rattle.pybuf_world.specs.declared.named.Named.{Named}
use Rattle.pybuf_world.specs.declared.named.Target.{Target}
use Rattle.pybuf_command.specs.declared.worlds.Command.{Command}
use Rattle.pybuf_command.specs.declared.worlds.Command.TheVariants as command
use Rattle.pybuf_command.specs.declared.worlds.Reply.TheVariants as reply
use Rattle.pybuf_command.specs.Handles.{handles_of_options}
use Rattle.pybuf_world.specs.World.{World, bytes_of_new, world_with_bytes, are_given, loans_of, world_after, step_with_loans, target_of, step_of_handle, wstep}
use Rattle.pybuf_world.specs.Sound.{IsSoundWorld}
use Rattle.pybuf_world.specs.Laws.{EachExporterStays, WorldLengthsStay, WorldReadOnlyBytesStay, KeepsIterators, WorldIteratorsStay}
use Rattle.pybuf_world.proofs.Lists.{slice_get-set_other}

-- The relation holds between an exporter and itself, and between an exporter before and after each command.
record IsKeptBySteps (Stays : Exporter → Exporter → Type 0) : Type 0 where
  same : (e : Exporter) → Stays e e
  step : (e : Exporter) (s : Subject) (v : Verb) (loans : List (ℕ × Loan)) → IsSoundExporter e → Stays e (estep e s v loans).0

-- One exporter is set, and the others stay.
one_set : (Stays : Exporter → Exporter → Type 0) → IsKeptBySteps Stays → (w : World) (j : ℕ) (old new : Exporter) → slice_get w.exporters j ≡ Some old → Stays old new
    → (i : ℕ) (e : Exporter) → ((j == i) ≡ true) × (j ≡ i) ⊎ ((j == i) ≡ false) × (j ≢ i) → slice_get w.exporters i ≡ Some e
    → (after : Exporter) × (slice_get (set w.exporters j new) i ≡ Some after) × Stays e after
one_set Stays kept w j old new found stays i e (inl same) at =
    let here : slice_get w.exporters i ≡ Some old = ap (slice_get w.exporters) (sym same.1) ∙ found in
    let is : old ≡ e = cc in (
      new,
      ap (slice_get (set w.exporters j new)) (sym same.1) ∙ element_after_set w.exporters j old new found,
      subst (λ (x : Exporter). Stays x new) is stays,
    )
one_set Stays kept w j old new found stays i e (inr other) at =
    (e, slice_get-set_other w.exporters j i new other.1 ∙ at, kept.same e)

-- The same if one more exporter is added behind them.
set_or_more : (Stays : Exporter → Exporter → Type 0) → IsKeptBySteps Stays → (w : World) (t : Target) (old new : Exporter) (r : LocalReply) → slice_get w.exporters t.exporter ≡ Some old → Stays old new
    → EachExporterStays Stays w (world_after w t (new, r)).0
set_or_more Stays kept w t old new (local.Fresh snap) found stays i e at =
    let one = one_set Stays kept w t.exporter old new found stays i e (eqb_tells t.exporter i) at in
    (one.0, get-left (set w.exporters t.exporter new) (_ ∷ []) i (slice_get_within (set w.exporters t.exporter new) i one.0 one.1) ∙ one.1, one.2)
set_or_more Stays kept w t old new (local.View k) found stays i e at = one_set Stays kept w t.exporter old new found stays i e (eqb_tells t.exporter i) at
set_or_more Stays kept w t old new (local.Iter k) found stays i e at = one_set Stays kept w t.exporter old new found stays i e (eqb_tells t.exporter i) at
set_or_more Stays kept w t old new local.Ok found stays i e at = one_set Stays kept w t.exporter old new found stays i e (eqb_tells t.exporter i) at
set_or_more Stays kept w t old new local.Itself found stays i e at = one_set Stays kept w t.exporter old new found stays i e (eqb_tells t.exporter i) at
set_or_more Stays kept w t old new local.Own found stays i e at = one_set Stays kept w t.exporter old new found stays i e (eqb_tells t.exporter i) at
set_or_more Stays kept w t old new (local.Item x) found stays i e at = one_set Stays kept w t.exporter old new found stays i e (eqb_tells t.exporter i) at
set_or_more Stays kept w t old new (local.Items shape items) found stays i e at = one_set Stays kept w t.exporter old new found stays i e (eqb_tells t.exporter i) at
set_or_more Stays kept w t old new (local.Bytes bytes) found stays i e at = one_set Stays kept w t.exporter old new found stays i e (eqb_tells t.exporter i) at
set_or_more Stays kept w t old new (local.Text text) found stays i e at = one_set Stays kept w t.exporter old new found stays i e (eqb_tells t.exporter i) at
set_or_more Stays kept w t old new (local.Shown text) found stays i e at = one_set Stays kept w t.exporter old new found stays i e (eqb_tells t.exporter i) at
set_or_more Stays kept w t old new (local.Truth truth) found stays i e at = one_set Stays kept w t.exporter old new found stays i e (eqb_tells t.exporter i) at
set_or_more Stays kept w t old new local.NotImplementedReply found stays i e at = one_set Stays kept w t.exporter old new found stays i e (eqb_tells t.exporter i) at
set_or_more Stays kept w t old new local.Stop found stays i e at = one_set Stays kept w t.exporter old new found stays i e (eqb_tells t.exporter i) at
set_or_more Stays kept w t old new (local.Numbers numbers) found stays i e at = one_set Stays kept w t.exporter old new found stays i e (eqb_tells t.exporter i) at
set_or_more Stays kept w t old new (local.ByteLists lists) found stays i e at = one_set Stays kept w t.exporter old new found stays i e (eqb_tells t.exporter i) at
set_or_more Stays kept w t old new (local.Refused f) found stays i e at = one_set Stays kept w t.exporter old new found stays i e (eqb_tells t.exporter i) at

loans_stay : (Stays : Exporter → Exporter → Type 0) → IsKeptBySteps Stays → (w : World) (t : Target) (v : Verb) (loans : List (ℕ × Loan)) (o : Option Exporter) → slice_get w.exporters t.exporter ≡ o
    → IsSoundWorld w → EachExporterStays Stays w (step_with_loans w t v loans o).0
loans_stay Stays kept w t v loans (Some old) found sound i e at =
    let sound_old = element_holds IsSoundExporter w.exporters t.exporter old sound.exporters_are_sound found in
    set_or_more Stays kept w t old (estep old t.subject v loans).0 (estep old t.subject v loans).1 found (kept.step old t.subject v loans sound_old) i e at
loans_stay Stays kept w t v loans None found sound i e at = (e, at, kept.same e)

handle_stays : (Stays : Exporter → Exporter → Type 0) → IsKeptBySteps Stays → (w : World) (handle : ℕ) (v : Verb) (o : Option Named) → IsSoundWorld w → EachExporterStays Stays w (step_of_handle w handle v o).0
handle_stays Stays kept w handle v (Some name) sound i e at =
    let t = target_of handle name in loans_stay Stays kept w t v (loans_of w t.exporter v) (slice_get w.exporters t.exporter) refl sound i e at
handle_stays Stays kept w handle v None sound i e at = (e, at, kept.same e)

bytes_stay : (Stays : Exporter → Exporter → Type 0) → IsKeptBySteps Stays → (w : World) (k : ExporterKind) (r : Result (List ℕ) Fault) → EachExporterStays Stays w (world_with_bytes w k r).0
bytes_stay Stays kept w k (Ok bytes) i e at =
    (e, get-left w.exporters (_ ∷ []) i (slice_get_within w.exporters i e at) ∙ at, kept.same e)
bytes_stay Stays kept w k (Err f) i e at = (e, at, kept.same e)

given_stays : (Stays : Exporter → Exporter → Type 0) → IsKeptBySteps Stays → (w : World) (given : Bool) (k : ExporterKind) (r : Result (List ℕ) Fault)
    → EachExporterStays Stays w (if given then world_with_bytes w k r else (w, reply.Refused fault.UnknownName)).0
given_stays Stays kept w true k r i e at = bytes_stay Stays kept w k r i e at
given_stays Stays kept w false k r i e at = (e, at, kept.same e)

each_stays : (Stays : Exporter → Exporter → Type 0) → IsKeptBySteps Stays → (w : World) (c : Command) → IsSoundWorld w → EachExporterStays Stays w (wstep w c).0
each_stays Stays kept w (command.New k options) sound i e at =
    given_stays Stays kept w (are_given w (handles_of_options options)) k (bytes_of_new w options) i e at
each_stays Stays kept w (command.Do handle v) sound i e at = handle_stays Stays kept w handle v (slice_get w.handles handle) sound i e at

same_lengths : (e : Exporter) → LengthsStay e e
same_lengths e = record { views = λ k v at. (v, at, inl refl); bytes = λ exported. refl }

pub world_lengths_stay_so : LengthsStayUnderCommands → WorldLengthsStay
world_lengths_stay_so stay w c sound = each_stays LengthsStay (record { same = same_lengths; step = stay }) w c sound

pub world_bytes_stay_so : ReadOnlyBytesStayUnderCommands → WorldReadOnlyBytesStay
world_bytes_stay_so stay w c sound = each_stays ReadOnlyBytesStay (record { same = λ e readonly. inl refl; step = stay }) w c sound

pub world_iterators_stay_so : IteratorsStayUnderCommands → WorldIteratorsStay
world_iterators_stay_so stay w c sound =
    each_stays KeepsIterators (record { same = λ e k it given. (it, given, record { subject = refl; exhausted = λ is. refl }); step = stay }) w c sound
