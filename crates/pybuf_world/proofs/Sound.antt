-- Every world after a command is sound, and the tables keep the right handles for the exporters.
use Rattle.std.proofs.Common.{◌≡◌, ℕ, ◌+◌, Bool, true, false, List, [], ◌∷◌, ◌++◌, length, take, set, ap, sym, ◌∙◌, refl, subst, arith}
use Rattle.std.specs.Prelude.{nat_lt, Option, Some, None, Result, Ok, Err, IfOk, OnErr, slice_get, if◌then◌else◌}
use Rattle.std.proofs.lemmas.List.{length-append, length-set}
use Rattle.std.proofs.lemmas.List.Elements.{All-push, All-set, All-nil}
use Rattle.pybuf_lemmas.proofs.Lists.{element_holds}
use Rattle.pybuf_value.specs.declared.faults.Fault.{Fault}
use Rattle.pybuf_value.specs.declared.faults.Fault.TheVariants as fault
use Rattle.pybuf_value.specs.Refusing.{◌>>=◌, IfDone}
use Rattle.pybuf_command.specs.declared.kinds.ExporterKind.{ExporterKind}
use Rattle.pybuf_command.specs.declared.commands.Verb.{Verb}
use Rattle.pybuf_command.specs.declared.commands.LocalReply.{LocalReply}
use Rattle.pybuf_command.specs.declared.commands.LocalReply.TheVariants as local
use Rattle.pybuf_command.specs.declared.loans.Loan.{Loan}
use Rattle.pybuf_value.specs.declared.snaps.Snap.{Snap}
use Rattle.pybuf_value.specs.declared.snaps.SnapKind.{SnapKind}
use Rattle.pybuf_value.specs.declared.snaps.SnapKind.TheVariants as snap_kind
use Rattle.pybuf_desc.specs.Apart.{HasItemsApart}
use Rattle.pybuf_command.specs.declared.kinds.Subject.TheVariants as subject
use Rattle.pybuf_state.specs.Exporter.{Exporter, View, new_exporter, has_subject, view_at, released_at, released_in}
use Rattle.pybuf_state.specs.Keeps.{IsSafe}
use Rattle.pybuf_state.specs.Sound.{IsSoundView, IsSoundExporter}
use Rattle.pybuf_state.specs.Spaced.{IsSpaced}
use Rattle.pybuf_verbs_views.specs.Laws.{ReleaseIsSafe}
use Rattle.pybuf_exporter.specs.Step.{estep}
use Rattle.pybuf_state.specs.Fresh.{is_readonly_subject, made_by_kind, made_of}
use Rattle.pybuf_exporter.specs.Laws.{NamesItsOwn}
use Rattle.pybuf_world.specs.declared.named.Named.{Named}
use Rattle.pybuf_world.specs.declared.named.Named.TheVariants as named
use Rattle.pybuf_world.specs.declared.named.Target.{Target}
use Rattle.pybuf_command.specs.declared.options.ByteInnerNewOptions.{ByteInnerNewOptions}
use Rattle.pybuf_command.specs.declared.worlds.Command.{Command}
use Rattle.pybuf_command.specs.declared.worlds.Command.TheVariants as command
use Rattle.pybuf_command.specs.declared.worlds.Reply.{Reply}
use Rattle.pybuf_command.specs.declared.worlds.Reply.TheVariants as reply
use Rattle.pybuf_command.specs.Handles.{handles_of_options}
use Rattle.pybuf_world.specs.World.{World, empty_world, with_exporter, bytes_of_new, world_with_bytes, are_given, step_of_new, loans_of, has_view, handles_with_copy, world_after, step_with_loans, target_of, step_of_handle, wstep, world_after_all, world_with_released, released_in_exporter, released_by_name, released_by}
use Rattle.pybuf_world.specs.Sound.{IsGiven, IsSoundWorld, StaysSound}
use Rattle.pybuf_world.specs.Exporters.{ExporterLaws}
use Rattle.pybuf_world.specs.Stepping.{local_step}
use Rattle.pybuf_world.specs.Tables.{AreOwners, owners_after}
use Rattle.pybuf_world.proofs.Handles.{AreNamed, AreFirst, stay_named, stay_first, named_with_new, first_with_new}
use Rattle.pybuf_world.proofs.Given.{HasAllOf, name_exporters, all_with_more, of_last, of_set, all_with_set}

pub empty_is_sound : IsSoundWorld empty_world
empty_is_sound = record {
  exporters_are_sound = All-nil IsSoundExporter;
  items_lie_apart = All-nil IsSpaced;
  names_are_given = All-nil (IsGiven []);
  exporters_are_named = λ i below. absurd (omega (arith, below));
}

-- what must hold of an exporter
pub record IsWell (e : Exporter) : Type 0 where
  pub sound : IsSoundExporter e
  pub apart : IsSpaced e

pub well_at : (w : World) (i : ℕ) (e : Exporter) → IsSoundWorld w → slice_get w.exporters i ≡ Some e → IsWell e
well_at w i e sound at = record {
  sound = element_holds IsSoundExporter w.exporters i e sound.exporters_are_sound at;
  apart = element_holds IsSpaced w.exporters i e sound.items_lie_apart at;
}

-- ---- a new exporter

-- A new exporter has no view.
new_is_well : (k : ExporterKind) (bytes : List ℕ) → IsWell (new_exporter k bytes)
new_is_well k bytes = record { sound = record { views = All-nil (IsSoundView k bytes) }; apart = record { views = All-nil (λ (v : View). HasItemsApart v.layout) } }

with_exporter_sound : (w : World) (e : Exporter) → IsSoundWorld w → IsWell e → IsSoundWorld (with_exporter w e).0
with_exporter_sound w e sound well =
    let more : length w.exporters + 1 ≡ length (w.exporters ++ e ∷ []) = sym (length-append w.exporters (e ∷ [])) in
    let handles = w.handles ++ named.Exporter (length w.exporters) ∷ [] in
    record {
      exporters_are_sound = All-push IsSoundExporter w.exporters e sound.exporters_are_sound well.sound;
      items_lie_apart = All-push IsSpaced w.exporters e sound.items_lie_apart well.apart;
      names_are_given =
          All-push (IsGiven (w.exporters ++ e ∷ [])) w.handles (named.Exporter (length w.exporters)) (all_with_more w.exporters e w.handles sound.names_are_given)
          (of_last w.exporters e (named.Exporter (length w.exporters)) refl refl);
      exporters_are_named =
          subst (λ (n : ℕ). AreNamed n handles) more
          (named_with_new (length w.exporters) w.handles (name_exporters w.exporters w.handles sound.names_are_given) sound.exporters_are_named);
    }

with_exporter_owned : (w : World) (e : Exporter) (owners : List ℕ) → IsSoundWorld w → AreOwners w owners → AreOwners (with_exporter w e).0 (owners ++ length w.handles ∷ [])
with_exporter_owned w e owners sound owned =
    let more : length w.exporters + 1 ≡ length (w.exporters ++ e ∷ []) = sym (length-append w.exporters (e ∷ [])) in
    let handles = w.handles ++ named.Exporter (length w.exporters) ∷ [] in
    record {
      counted = length-append owners (length w.handles ∷ []) ∙ ap (λ (n : ℕ). n + 1) owned.counted ∙ more;
      first =
          subst (λ (n : ℕ). AreFirst n handles (owners ++ length w.handles ∷ [])) more
          (first_with_new (length w.exporters) w.handles owners (name_exporters w.exporters w.handles sound.names_are_given) sound.exporters_are_named owned.counted owned.first);
    }

pub owned_after_new : (w after : World) (e : Exporter) (r : Reply) (owners later : List ℕ)
    → with_exporter w e ≡ (after, r) → later ≡ owners ++ length w.handles ∷ [] → IsSoundWorld w → AreOwners w owners → AreOwners after later
owned_after_new w after e r owners later is more sound owned =
    subst (AreOwners after) (sym more)
    (subst (λ (x : World × Reply). AreOwners x.0 (owners ++ length w.handles ∷ [])) is (with_exporter_owned w e owners sound owned))

with_bytes_sound : (w : World) (k : ExporterKind) (r : Result (List ℕ) Fault) → IsSoundWorld w → IsSoundWorld (world_with_bytes w k r).0
with_bytes_sound w k (Ok bytes) sound = with_exporter_sound w (new_exporter k bytes) sound (new_is_well k bytes)
with_bytes_sound w k (Err f) sound = sound

if_given_sound : (w : World) (given : Bool) (after : World × Reply) → IsSoundWorld w → IsSoundWorld after.0 → IsSoundWorld (if given then after else (w, reply.Refused fault.UnknownName)).0
if_given_sound w true after sound sound_after = sound_after
if_given_sound w false after sound sound_after = sound

pub step_of_new_sound : (w : World) (k : ExporterKind) (options : ByteInnerNewOptions) → IsSoundWorld w → IsSoundWorld (step_of_new w k options).0
step_of_new_sound w k options sound =
    let bytes = bytes_of_new w options in
    if_given_sound w (are_given w (handles_of_options options)) (world_with_bytes w k bytes) sound (with_bytes_sound w k bytes sound)

-- ---- a command on what a handle names

-- what must hold of an exporter that replaces another
pub record IsStepped (old new : Exporter) : Type 0 where
  pub well : IsWell new
  pub subjects : HasAllOf old new

-- the world after an exporter replaced another
pub with_set_sound : (w : World) (i : ℕ) (old e : Exporter) → IsSoundWorld w → slice_get w.exporters i ≡ Some old → IsStepped old e → IsSoundWorld (record w { exporters = set w.exporters i e })
with_set_sound w i old e sound at stepped =
    let same : length w.exporters ≡ length (set w.exporters i e) = sym (length-set w.exporters i e) in
    record {
      exporters_are_sound = All-set IsSoundExporter w.exporters i e stepped.well.sound sound.exporters_are_sound;
      items_lie_apart = All-set IsSpaced w.exporters i e stepped.well.apart sound.items_lie_apart;
      names_are_given = all_with_set w.exporters i old e w.handles at stepped.subjects sound.names_are_given;
      exporters_are_named = subst (λ (n : ℕ). AreNamed n w.handles) same sound.exporters_are_named;
    }

pub with_set_owned : (w : World) (i : ℕ) (e : Exporter) (owners : List ℕ) → AreOwners w owners → AreOwners (record w { exporters = set w.exporters i e }) owners
with_set_owned w i e owners owned =
    let same : length w.exporters ≡ length (set w.exporters i e) = sym (length-set w.exporters i e) in
    record {
      counted = owned.counted ∙ same;
      first = subst (λ (n : ℕ). AreFirst n w.handles owners) same owned.first;
    }

-- the world with one more handle, which names what is there
with_handle_sound : (w : World) (name : Named) → IsSoundWorld w → IsGiven w.exporters name → IsSoundWorld (record w { handles = w.handles ++ name ∷ [] })
with_handle_sound w name sound given = record {
  exporters_are_sound = sound.exporters_are_sound;
  items_lie_apart = sound.items_lie_apart;
  names_are_given = All-push (IsGiven w.exporters) w.handles name sound.names_are_given given;
  exporters_are_named = stay_named (length w.exporters) w.handles name sound.exporters_are_named;
}

with_handle_owned : (w : World) (name : Named) (owners : List ℕ) → AreNamed (length w.exporters) w.handles → AreOwners w owners → AreOwners (record w { handles = w.handles ++ name ∷ [] }) owners
with_handle_owned w name owners names owned = record {
  counted = owned.counted;
  first = stay_first (length w.exporters) w.handles name owners names owned.first;
}

-- what holds of the exporter that a copy makes: if it should have a view, it has one
pub record IsMade (viewed : Bool) (e : Exporter) : Type 0 where
  pub well : IsWell e
  pub first : viewed ≡ true → has_subject e (subject.View 0) ≡ true

-- the world with one more exporter, which has a view, and with the handles of both
with_viewed_sound : (w : World) (e : Exporter) (n : ℕ) → length w.exporters ≡ n → IsSoundWorld w → IsMade true e
    → IsSoundWorld (record { exporters = w.exporters ++ e ∷ []; handles = (w.handles ++ named.Exporter n ∷ []) ++ named.View n 0 ∷ [] })
with_viewed_sound w e n same sound made =
    subst (λ (m : ℕ). IsSoundWorld (record { exporters = w.exporters ++ e ∷ []; handles = (w.handles ++ named.Exporter m ∷ []) ++ named.View m 0 ∷ [] })) same
    (with_handle_sound (with_exporter w e).0 (named.View (length w.exporters) 0) (with_exporter_sound w e sound made.well) (of_last w.exporters e (named.View (length w.exporters) 0) refl (made.first refl)))

with_viewed_owned : (w : World) (e : Exporter) (n : ℕ) (owners : List ℕ) → length w.exporters ≡ n → IsSoundWorld w → IsWell e → AreOwners w owners
    → AreOwners (record { exporters = w.exporters ++ e ∷ []; handles = (w.handles ++ named.Exporter n ∷ []) ++ named.View n 0 ∷ [] }) (owners ++ length w.handles ∷ [])
with_viewed_owned w e n owners same sound well owned =
    subst (λ (m : ℕ). AreOwners (record { exporters = w.exporters ++ e ∷ []; handles = (w.handles ++ named.Exporter m ∷ []) ++ named.View m 0 ∷ [] }) (owners ++ length w.handles ∷ [])) same
    (with_handle_owned (with_exporter w e).0 (named.View (length w.exporters) 0) (owners ++ length w.handles ∷ []) (with_exporter_sound w e sound well).exporters_are_named
    (with_exporter_owned w e owners sound owned))

-- the world with one more exporter, which a copy makes, with a view or without one
with_made_sound : (viewed : Bool) (w : World) (e : Exporter) (n : ℕ) → length w.exporters ≡ n → IsSoundWorld w → IsMade viewed e
    → IsSoundWorld (record { exporters = w.exporters ++ e ∷ []; handles = handles_with_copy viewed n w.handles })
with_made_sound true w e n same sound made = with_viewed_sound w e n same sound made
with_made_sound false w e n same sound made =
    subst (λ (m : ℕ). IsSoundWorld (record { exporters = w.exporters ++ e ∷ []; handles = w.handles ++ named.Exporter m ∷ [] })) same (with_exporter_sound w e sound made.well)

with_made_owned : (viewed : Bool) (w : World) (e : Exporter) (n : ℕ) (owners : List ℕ) → length w.exporters ≡ n → IsSoundWorld w → IsWell e → AreOwners w owners
    → AreOwners (record { exporters = w.exporters ++ e ∷ []; handles = handles_with_copy viewed n w.handles }) (owners ++ length w.handles ∷ [])
with_made_owned true w e n owners same sound well owned = with_viewed_owned w e n owners same sound well owned
with_made_owned false w e n owners same sound well owned =
    subst (λ (m : ℕ). AreOwners (record { exporters = w.exporters ++ e ∷ []; handles = w.handles ++ named.Exporter m ∷ [] }) (owners ++ length w.handles ∷ [])) same (with_exporter_owned w e owners sound owned)

-- what a reply gives out: a view or an iterator that is there, or what a new exporter is made of
abbrev HandsOut : Exporter → Target → LocalReply → Type 0
HandsOut e t (local.Fresh snap) = IsMade (has_view snap.kind) (made_of (is_readonly_subject e t.subject) snap)
HandsOut e t (local.View k) = has_subject e (subject.View k) ≡ true
HandsOut e t (local.Iter k) = has_subject e (subject.Iter k) ≡ true
HandsOut e t _ = Unit {0}

after_sound : (w : World) (t : Target) (old e : Exporter) (r : LocalReply) → IsSoundWorld w → slice_get w.exporters t.exporter ≡ Some old → IsStepped old e → HandsOut e t r → IsSoundWorld (world_after w t (e, r)).0
after_sound w t old e (local.View k) sound at stepped out =
    with_handle_sound (record w { exporters = set w.exporters t.exporter e }) (named.View t.exporter k) (with_set_sound w t.exporter old e sound at stepped)
    (of_set w.exporters t.exporter old e (named.View t.exporter k) at refl out)
after_sound w t old e (local.Iter k) sound at stepped out =
    with_handle_sound (record w { exporters = set w.exporters t.exporter e }) (named.Iterator t.exporter k) (with_set_sound w t.exporter old e sound at stepped)
    (of_set w.exporters t.exporter old e (named.Iterator t.exporter k) at refl out)
after_sound w t old e (local.Fresh snap) sound at stepped out =
    with_made_sound (has_view snap.kind) (record w { exporters = set w.exporters t.exporter e }) (made_of (is_readonly_subject e t.subject) snap) (length w.exporters) (length-set w.exporters t.exporter e)
    (with_set_sound w t.exporter old e sound at stepped) out
after_sound w t old e local.Ok sound at stepped out = with_set_sound w t.exporter old e sound at stepped
after_sound w t old e local.Itself sound at stepped out = with_set_sound w t.exporter old e sound at stepped
after_sound w t old e local.Own sound at stepped out = with_set_sound w t.exporter old e sound at stepped
after_sound w t old e (local.Item x) sound at stepped out = with_set_sound w t.exporter old e sound at stepped
after_sound w t old e (local.Items shape items) sound at stepped out = with_set_sound w t.exporter old e sound at stepped
after_sound w t old e (local.Bytes bytes) sound at stepped out = with_set_sound w t.exporter old e sound at stepped
after_sound w t old e (local.Text text) sound at stepped out = with_set_sound w t.exporter old e sound at stepped
after_sound w t old e (local.Shown text) sound at stepped out = with_set_sound w t.exporter old e sound at stepped
after_sound w t old e (local.Truth truth) sound at stepped out = with_set_sound w t.exporter old e sound at stepped
after_sound w t old e local.NotImplementedReply sound at stepped out = with_set_sound w t.exporter old e sound at stepped
after_sound w t old e local.Stop sound at stepped out = with_set_sound w t.exporter old e sound at stepped
after_sound w t old e (local.Numbers numbers) sound at stepped out = with_set_sound w t.exporter old e sound at stepped
after_sound w t old e (local.ByteLists lists) sound at stepped out = with_set_sound w t.exporter old e sound at stepped
after_sound w t old e (local.Refused f) sound at stepped out = with_set_sound w t.exporter old e sound at stepped

after_owned : (w : World) (t : Target) (old e : Exporter) (r : LocalReply) (owners : List ℕ) → IsSoundWorld w → slice_get w.exporters t.exporter ≡ Some old → IsStepped old e → HandsOut e t r → AreOwners w owners
    → AreOwners (world_after w t (e, r)).0 (owners_after owners (length w.handles) r)
after_owned w t old e (local.View k) owners sound at stepped out owned =
    let names : AreNamed (length (set w.exporters t.exporter e)) w.handles = subst (λ (n : ℕ). AreNamed n w.handles) (sym (length-set w.exporters t.exporter e)) sound.exporters_are_named in
    with_handle_owned (record w { exporters = set w.exporters t.exporter e }) (named.View t.exporter k) owners names (with_set_owned w t.exporter e owners owned)
after_owned w t old e (local.Iter k) owners sound at stepped out owned =
    let names : AreNamed (length (set w.exporters t.exporter e)) w.handles = subst (λ (n : ℕ). AreNamed n w.handles) (sym (length-set w.exporters t.exporter e)) sound.exporters_are_named in
    with_handle_owned (record w { exporters = set w.exporters t.exporter e }) (named.Iterator t.exporter k) owners names (with_set_owned w t.exporter e owners owned)
after_owned w t old e (local.Fresh snap) owners sound at stepped out owned =
    with_made_owned (has_view snap.kind) (record w { exporters = set w.exporters t.exporter e }) (made_of (is_readonly_subject e t.subject) snap) (length w.exporters) owners (length-set w.exporters t.exporter e)
    (with_set_sound w t.exporter old e sound at stepped) out.well (with_set_owned w t.exporter e owners owned)
after_owned w t old e local.Ok owners sound at stepped out owned = with_set_owned w t.exporter e owners owned
after_owned w t old e local.Itself owners sound at stepped out owned = with_set_owned w t.exporter e owners owned
after_owned w t old e local.Own owners sound at stepped out owned = with_set_owned w t.exporter e owners owned
after_owned w t old e (local.Item x) owners sound at stepped out owned = with_set_owned w t.exporter e owners owned
after_owned w t old e (local.Items shape items) owners sound at stepped out owned = with_set_owned w t.exporter e owners owned
after_owned w t old e (local.Bytes bytes) owners sound at stepped out owned = with_set_owned w t.exporter e owners owned
after_owned w t old e (local.Text text) owners sound at stepped out owned = with_set_owned w t.exporter e owners owned
after_owned w t old e (local.Shown text) owners sound at stepped out owned = with_set_owned w t.exporter e owners owned
after_owned w t old e (local.Truth truth) owners sound at stepped out owned = with_set_owned w t.exporter e owners owned
after_owned w t old e local.NotImplementedReply owners sound at stepped out owned = with_set_owned w t.exporter e owners owned
after_owned w t old e local.Stop owners sound at stepped out owned = with_set_owned w t.exporter e owners owned
after_owned w t old e (local.Numbers numbers) owners sound at stepped out owned = with_set_owned w t.exporter e owners owned
after_owned w t old e (local.ByteLists lists) owners sound at stepped out owned = with_set_owned w t.exporter e owners owned
after_owned w t old e (local.Refused f) owners sound at stepped out owned = with_set_owned w t.exporter e owners owned

-- The exporter that a copy makes has a view, unless it is a bytearray.
made_has_view : (k : SnapKind) (readonly : Bool) (snap : Snap) → has_view k ≡ true → has_subject (made_by_kind k readonly snap) (subject.View 0) ≡ true
made_has_view snap_kind.ByteArray readonly snap viewed = absurd (cc)
made_has_view snap_kind.Bytes readonly snap viewed = refl
made_has_view snap_kind.Vector readonly snap viewed = refl
made_has_view snap_kind.View readonly snap viewed = refl
made_has_view snap_kind.Iterator readonly snap viewed = refl

handed_by_reply : ExporterLaws → (e : Exporter) (t : Target) (v : Verb) (loans : List (ℕ × Loan)) (r : LocalReply) → IsSoundExporter e → (estep e t.subject v loans).1 ≡ r → HandsOut (estep e t.subject v loans).0 t r
handed_by_reply laws e t v loans (local.Fresh snap) sound is =
    let copied = laws.copies e t.subject v loans snap is in
    subst (λ (x : Exporter). IsMade (has_view snap.kind) (made_of (is_readonly_subject x t.subject) snap)) (sym copied.0)
    (record {
      well = record { sound = (laws.faithful e t.subject snap sound copied.1).0; apart = laws.copies_apart (is_readonly_subject e t.subject) snap };
      first = made_has_view snap.kind (is_readonly_subject e t.subject) snap;
    })
handed_by_reply laws e t v loans (local.View k) sound is = subst (NamesItsOwn (estep e t.subject v loans).0) is (laws.names e t.subject v loans)
handed_by_reply laws e t v loans (local.Iter k) sound is = subst (NamesItsOwn (estep e t.subject v loans).0) is (laws.names e t.subject v loans)
handed_by_reply laws e t v loans local.Ok sound is = tt
handed_by_reply laws e t v loans local.Itself sound is = tt
handed_by_reply laws e t v loans local.Own sound is = tt
handed_by_reply laws e t v loans (local.Item x) sound is = tt
handed_by_reply laws e t v loans (local.Items shape items) sound is = tt
handed_by_reply laws e t v loans (local.Bytes bytes) sound is = tt
handed_by_reply laws e t v loans (local.Text text) sound is = tt
handed_by_reply laws e t v loans (local.Shown text) sound is = tt
handed_by_reply laws e t v loans (local.Truth truth) sound is = tt
handed_by_reply laws e t v loans local.NotImplementedReply sound is = tt
handed_by_reply laws e t v loans local.Stop sound is = tt
handed_by_reply laws e t v loans (local.Numbers numbers) sound is = tt
handed_by_reply laws e t v loans (local.ByteLists lists) sound is = tt
handed_by_reply laws e t v loans (local.Refused f) sound is = tt

hands_out : ExporterLaws → (e : Exporter) (t : Target) (v : Verb) (loans : List (ℕ × Loan)) → IsSoundExporter e → HandsOut (estep e t.subject v loans).0 t (estep e t.subject v loans).1
hands_out laws e t v loans sound = handed_by_reply laws e t v loans (estep e t.subject v loans).1 sound refl

steps : ExporterLaws → (e : Exporter) (t : Target) (v : Verb) (loans : List (ℕ × Loan)) → IsWell e → IsStepped e (estep e t.subject v loans).0
steps laws e t v loans well = record {
  well = record { sound = laws.keeps e t.subject v loans well.sound; apart = laws.apart e t.subject v loans well.sound well.apart };
  subjects = λ s has. laws.stays e t.subject v loans s well.sound has;
}

pub loans_sound : ExporterLaws → (w : World) (t : Target) (v : Verb) (loans : List (ℕ × Loan)) (o : Option Exporter) → slice_get w.exporters t.exporter ≡ o → IsSoundWorld w → IsSoundWorld (step_with_loans w t v loans o).0
loans_sound laws w t v loans (Some e) at sound =
    let well = well_at w t.exporter e sound at in
    after_sound w t e (estep e t.subject v loans).0 (estep e t.subject v loans).1 sound at (steps laws e t v loans well) (hands_out laws e t v loans well.sound)
loans_sound laws w t v loans None at sound = sound

loans_owned : ExporterLaws → (w : World) (t : Target) (v : Verb) (loans : List (ℕ × Loan)) (o : Option Exporter) (owners : List ℕ) → slice_get w.exporters t.exporter ≡ o → IsSoundWorld w → AreOwners w owners
    → AreOwners (step_with_loans w t v loans o).0 (owners_after owners (length w.handles) (local_step w t v loans o).1)
loans_owned laws w t v loans (Some e) owners at sound owned =
    let well = well_at w t.exporter e sound at in
    after_owned w t e (estep e t.subject v loans).0 (estep e t.subject v loans).1 owners sound at (steps laws e t v loans well) (hands_out laws e t v loans well.sound) owned
loans_owned laws w t v loans None owners at sound owned = owned

handle_sound : ExporterLaws → (w : World) (handle : ℕ) (v : Verb) (o : Option Named) → IsSoundWorld w → IsSoundWorld (step_of_handle w handle v o).0
handle_sound keeps w handle v (Some name) sound =
    let t = target_of handle name in loans_sound keeps w t v (loans_of w t.exporter v) (slice_get w.exporters t.exporter) refl sound
handle_sound keeps w handle v None sound = sound

-- ---- commands

-- A command keeps a world sound.
pub wstep_sound : ExporterLaws → (w : World) (c : Command) → IsSoundWorld w → IsSoundWorld (wstep w c).0
wstep_sound keeps w (command.New k options) sound = step_of_new_sound w k options sound
wstep_sound keeps w (command.Do handle v) sound = handle_sound keeps w handle v (slice_get w.handles handle) sound

-- A run of commands keeps a world sound.
all_sound : ExporterLaws → (w : World) (cs : List Command) → IsSoundWorld w → IsSoundWorld (world_after_all w cs)
all_sound keeps w [] sound = sound
all_sound keeps w (c ∷ cs) sound = all_sound keeps (wstep w c).0 cs (wstep_sound keeps w c sound)

pub stays_sound : ExporterLaws → (w : World) (cs : List Command) → IsSoundWorld w → StaysSound w cs
stays_sound keeps w cs sound k = all_sound keeps w (take k cs) sound

-- ---- if memory runs out

-- If memory runs out, nothing changes, so the world that is reached is sound in either case.
pub sound_in_either : {E : Type 0} → (w after : World) (stepped : World × Reply) (r : Result Reply E) → IfOk r (λ reply. stepped ≡ (after, reply)) → OnErr r (after ≡ w) → IsSoundWorld w → IsSoundWorld stepped.0 → IsSoundWorld after
sound_in_either w after stepped (Ok reply) is same sound sound_after = subst IsSoundWorld (ap (λ (p : World × Reply). p.0) is) sound_after
sound_in_either w after stepped (Err e) is same sound sound_after = subst IsSoundWorld (sym same) sound

-- The handles of the exporters are right in either case too.
pub owned_after_loans : {E : Type 0} → ExporterLaws → (w after : World) (t : Target) (v : Verb) (loans : List (ℕ × Loan)) (r : Result Reply E) (owners later : List ℕ)
    → IfOk r (λ reply. step_with_loans w t v loans (slice_get w.exporters t.exporter) ≡ (after, reply)) → OnErr r (after ≡ w)
    → IfOk r (λ _. later ≡ owners_after owners (length w.handles) (local_step w t v loans (slice_get w.exporters t.exporter)).1) → OnErr r (later ≡ owners)
    → IsSoundWorld w → AreOwners w owners → AreOwners after later
owned_after_loans laws w after t v loans (Ok reply) owners later is same stepped kept sound owned =
    subst (AreOwners after) (sym stepped)
    (subst (λ (x : World × Reply). AreOwners x.0 (owners_after owners (length w.handles) (local_step w t v loans (slice_get w.exporters t.exporter)).1)) is
    (loans_owned laws w t v loans (slice_get w.exporters t.exporter) owners refl sound owned))
owned_after_loans laws w after t v loans (Err e) owners later is same stepped kept sound owned = subst (AreOwners after) (sym kept) (subst (λ (x : World). AreOwners x owners) (sym same) owned)

-- ---- releases

-- A release leaves every view and every iterator there.
has_released : (e : Exporter) (k : ℕ) (v : View) → HasAllOf e (released_at e k v)
has_released e k v subject.Own has = has
has_released e k v (subject.View j) has = ap (nat_lt j) (length-set e.views k (record v { released = true })) ∙ has
has_released e k v (subject.Iter j) has = has

released_has : (e : Exporter) (k : ℕ) (r : Result View Fault) → IfDone (HasAllOf e) (r >>= (λ v. Ok (released_at e k v)))
released_has e k (Ok v) = has_released e k v
released_has e k (Err f) = tt

-- A release by a handle leaves what the effect of `release` leaves.
effect_steps : (e : Exporter) (r : Result Exporter Fault) → IsSafe e (r >>= (λ after. Ok (after, local.Ok))) → IfDone (HasAllOf e) r → IsWell e → IfDone (IsStepped e) r
effect_steps e (Ok after) safe has well =
    let keeps = safe.keeps well.sound in
    record { well = record { sound = keeps.sound; apart = keeps.items_apart well.apart }; subjects = has }
effect_steps e (Err f) safe has well = tt

released_is_sound : (w after : World) (i : ℕ) (old : Exporter) (r : Result Exporter Fault) → slice_get w.exporters i ≡ Some old → IfDone (IsStepped old) r → IsSoundWorld w → world_with_released w i r ≡ Ok after → IsSoundWorld after
released_is_sound w after i old (Ok e) at stepped sound is =
    let same : record w { exporters = set w.exporters i e } ≡ after = cc in subst IsSoundWorld same (with_set_sound w i old e sound at stepped)
released_is_sound w after i old (Err f) at stepped sound is = absurd (cc)

released_is_owned : (w after : World) (i : ℕ) (r : Result Exporter Fault) (owners : List ℕ) → AreOwners w owners → world_with_released w i r ≡ Ok after → AreOwners after owners
released_is_owned w after i (Ok e) owners owned is =
    let same : record w { exporters = set w.exporters i e } ≡ after = cc in subst (λ (x : World). AreOwners x owners) same (with_set_owned w i e owners owned)
released_is_owned w after i (Err f) owners owned is = absurd (cc)

exporter_released_sound : ReleaseIsSafe → (w after : World) (i k : ℕ) (o : Option Exporter) → slice_get w.exporters i ≡ o → IsSoundWorld w → released_in_exporter w i k o ≡ Ok after → IsSoundWorld after
exporter_released_sound safe w after i k (Some e) at sound is =
    released_is_sound w after i e (released_in e k) at (effect_steps e (released_in e k) (safe e k) (released_has e k (view_at e k)) (well_at w i e sound at)) sound is
exporter_released_sound safe w after i k None at sound is = absurd (cc)

exporter_released_owned : (w after : World) (i k : ℕ) (o : Option Exporter) (owners : List ℕ) → AreOwners w owners → released_in_exporter w i k o ≡ Ok after → AreOwners after owners
exporter_released_owned w after i k (Some e) owners owned is = released_is_owned w after i (released_in e k) owners owned is
exporter_released_owned w after i k None owners owned is = absurd (cc)

name_released_sound : ReleaseIsSafe → (w after : World) (o : Option Named) → IsSoundWorld w → released_by_name w o ≡ Ok after → IsSoundWorld after
name_released_sound safe w after (Some (named.View i k)) sound is = exporter_released_sound safe w after i k (slice_get w.exporters i) refl sound is
name_released_sound safe w after (Some (named.Exporter i)) sound is = absurd (cc)
name_released_sound safe w after (Some (named.Iterator i k)) sound is = absurd (cc)
name_released_sound safe w after None sound is = absurd (cc)

name_released_owned : (w after : World) (o : Option Named) (owners : List ℕ) → AreOwners w owners → released_by_name w o ≡ Ok after → AreOwners after owners
name_released_owned w after (Some (named.View i k)) owners owned is = exporter_released_owned w after i k (slice_get w.exporters i) owners owned is
name_released_owned w after (Some (named.Exporter i)) owners owned is = absurd (cc)
name_released_owned w after (Some (named.Iterator i k)) owners owned is = absurd (cc)
name_released_owned w after None owners owned is = absurd (cc)

-- A release keeps a world sound, and the handles of its exporters right.
pub released_by_sound : ReleaseIsSafe → (w after : World) (handle : ℕ) → IsSoundWorld w → released_by w handle ≡ Ok after → IsSoundWorld after
released_by_sound safe w after handle sound is = name_released_sound safe w after (slice_get w.handles handle) sound is

pub released_by_owned : (w after : World) (handle : ℕ) (owners later : List ℕ) → AreOwners w owners → later ≡ owners → released_by w handle ≡ Ok after → AreOwners after later
released_by_owned w after handle owners later owned same is = subst (AreOwners after) (sym same) (name_released_owned w after (slice_get w.handles handle) owners owned is)

-- If nothing changed, the handles of the exporters are the same.
pub same_owned : (w after : World) (owners later : List ℕ) → AreOwners w owners → after ≡ w → later ≡ owners → AreOwners after later
same_owned w after owners later owned same_world same = subst (AreOwners after) (sym same) (subst (λ (x : World). AreOwners x owners) (sym same_world) owned)
