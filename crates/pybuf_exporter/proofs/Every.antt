-- What holds of every command, by the laws of its effect.
use Rattle.std.proofs.Common.{◌≡◌, ℕ, ◌<◌, List, [], ◌∷◌, length, get_or, Bool, true, false, true≢false, ap, ap₂, sym, ◌∙◌, refl, subst, arith, inl}
use Rattle.std.specs.Prelude.{◌==◌, nat_lt, slice_get, slice_index, Option, Some, Result, Ok, Err, if◌then◌else◌}
use Rattle.std.proofs.lemmas.Option.{slice_get-get_or, slice_get_within}
use Rattle.std.proofs.lemmas.Bool.{eqb-true}
use Rattle.pybuf_lemmas.proofs.Booleans.{both_of}
use Rattle.pybuf_desc.specs.Facts.{whole_bytes}
use Rattle.pybuf_value.specs.declared.faults.Fault.{Fault}
use Rattle.pybuf_value.specs.declared.faults.Fault.TheVariants as fault
use Rattle.pybuf_value.specs.declared.halt.Halt.{Halt}
use Rattle.pybuf_value.specs.declared.halt.Halt.TheVariants as halt
use Rattle.pybuf_value.specs.declared.values.Value.{Value}
use Rattle.pybuf_value.specs.declared.values.Value.TheVariants as value
use Rattle.pybuf_value.specs.Refusing.{◌>>=◌, IfDone}
use Rattle.pybuf_struct.specs.Formats.{Format, format_of}
use Rattle.pybuf_struct.specs.Values.{unpacked_values}
use Rattle.pybuf_struct.specs.Laws.{BytesOfTheSizeAreRead}
use Rattle.pybuf_desc.specs.Items.{bytes_at}
use Rattle.pybuf_memoryview.specs.Sized.{is_size_of}
use Rattle.pybuf_command.specs.declared.kinds.Subject.{Subject}
use Rattle.pybuf_command.specs.declared.kinds.Subject.TheVariants as subject
use Rattle.pybuf_command.specs.declared.commands.Verb.{Verb}
use Rattle.pybuf_command.specs.declared.commands.Verb.TheVariants as verb
use Rattle.pybuf_command.specs.declared.commands.LocalReply.{LocalReply}
use Rattle.pybuf_command.specs.declared.commands.LocalReply.TheVariants as reply
use Rattle.pybuf_command.specs.declared.loans.Loan.{Loan}
use Rattle.pybuf_command.specs.Handles.{handles_of, handles_read}
use Rattle.pybuf_memoryview.specs.Items.{item_of_values}
use Rattle.pybuf_state.specs.Exporter.{Exporter, Iterator, has_subject}
use Rattle.pybuf_state.specs.Answers.{Answers}
use Rattle.pybuf_state.specs.Loans.{Lent, are_named, lents_by, names_of, snaps_of}
use Rattle.pybuf_state.specs.Sound.{IsSoundExporter}
use Rattle.pybuf_state.specs.Spaced.{IsSpaced}
use Rattle.pybuf_value.specs.declared.snaps.Snap.{Snap}
use Rattle.pybuf_state.specs.Fresh.{IsCopyOf}
use Rattle.pybuf_state.specs.Keeps.{Keeps, IsSameOrReleased, LengthsStay, ReadOnlyBytesStay, IsSameOrMoved, IteratorsStay, is_one_line, is_answer, IsSafe, RepliesCopy, IsCopied, IsIterated}
use Rattle.pybuf_state.specs.Laws.{ReadingKeeps, LiveLayoutsAreSound}
use Rattle.pybuf_verbs_views.specs.Laws.{ViewIsSafe, SliceIsSafe, CastIsSafe, ColumnCastIsSafe, ReleaseIsSafe, ToReadonlyIsSafe, RangeIsSafe, EnterIsSafe, ContiguousIsCopied}
use Rattle.pybuf_verbs_reads.specs.Laws.{GetIsSafe, BytesIsSafe, LenIsSafe, PropertyIsSafe, ToListIsSafe}
use Rattle.pybuf_verbs_writes.specs.Laws.{SetIsSafe, AssignIsSafe}
use Rattle.pybuf_verbs_edits.specs.Laws.{EditsAreSafe, DeleteOfViewIsSafe}
use Rattle.pybuf_verbs_compare.specs.Laws.{CompareIsSafe, HashIsSafe, ReprIsSafe}
use Rattle.pybuf_verbs_methods.specs.Laws.{CallIsSafe, ContainsIsSafe, HexIsSafe}
use Rattle.pybuf_verbs_iters.specs.Laws.{IterIsSafe, IteratorsAreSafe}
use Rattle.pybuf_exporter.specs.Step.{get_of_view, effect, answer_by, answer_of, settled_answer, estep, set_in_own, set_through_view}
use Rattle.pybuf_exporter.specs.Effects.{EffectsAreSafe, EffectIsSafe, StepsKeepSound}
use Rattle.pybuf_exporter.specs.Laws.{CommandsKeepSound, LengthsStayUnderCommands, ReadOnlyBytesStayUnderCommands, IteratorsStayUnderCommands, is_of_iterators, OthersLeaveIterators, IterationChangesNothingElse, RefusedCommandsChangeNothing, NamesAlikeDoTheSame, ItemsAreRead, FreshRepliesAreCopies, ShownTextsAreOneLine, CommandsKeepItemsApart, NamesItsOwn, RepliedNamesAreThere, SubjectsStay}

-- the laws of the effects
pub record EffectLaws : Type 0 where
  pub view : ViewIsSafe
  pub range : RangeIsSafe
  pub slice : SliceIsSafe
  pub cast : CastIsSafe
  pub column_cast : ColumnCastIsSafe
  pub release : ReleaseIsSafe
  pub enter : EnterIsSafe
  pub contiguous : ContiguousIsCopied
  pub toreadonly : ToReadonlyIsSafe
  pub get : GetIsSafe
  pub bytes : BytesIsSafe
  pub len : LenIsSafe
  pub property : PropertyIsSafe
  pub tolist : ToListIsSafe
  pub set : SetIsSafe
  pub assign : AssignIsSafe
  pub edits : EditsAreSafe
  pub delete_of_view : DeleteOfViewIsSafe
  pub compare : CompareIsSafe
  pub hash : HashIsSafe
  pub repr : ReprIsSafe
  pub call : CallIsSafe
  pub contains : ContainsIsSafe
  pub hex : HexIsSafe
  pub iter : IterIsSafe
  pub iterators : IteratorsAreSafe

get_of_view_safe : EffectLaws → (e : Exporter) (k : ℕ) (key : Value) → IsSafe e (get_of_view e k key)
get_of_view_safe laws e k (value.Slice slice) = laws.slice e k slice
get_of_view_safe laws e k (value.One s) = laws.get.1 e k (value.One s)
get_of_view_safe laws e k (value.Tuple parts) = laws.get.1 e k (value.Tuple parts)
get_of_view_safe laws e k (value.List parts) = laws.get.1 e k (value.List parts)
get_of_view_safe laws e k (value.Slices slices) = laws.get.1 e k (value.Slices slices)

set_through_view_safe : EffectLaws → (e : Exporter) (k : ℕ) (key v : Value) (lents : List Lent) → IsSafe e (set_through_view e k key v lents)
set_through_view_safe laws e k (value.Slice slice) v lents = laws.assign e k slice v lents
set_through_view_safe laws e k (value.One s) v lents = laws.set.1 e k (value.One s) v lents
set_through_view_safe laws e k (value.Tuple parts) v lents = laws.set.1 e k (value.Tuple parts) v lents
set_through_view_safe laws e k (value.List parts) v lents = laws.set.1 e k (value.List parts) v lents
set_through_view_safe laws e k (value.Slices slices) v lents = laws.set.1 e k (value.Slices slices) v lents

set_in_own_safe : EffectLaws → (e : Exporter) (key v : Value) (lents : List Lent) → IsSafe e (set_in_own e key v lents)
set_in_own_safe laws e (value.Slice slice) v lents = laws.edits e (verb.Set (value.Slice slice) v) lents
set_in_own_safe laws e (value.One s) v lents = laws.set.0 e (value.One s) v
set_in_own_safe laws e (value.Tuple parts) v lents = laws.set.0 e (value.Tuple parts) v
set_in_own_safe laws e (value.List parts) v lents = laws.set.0 e (value.List parts) v
set_in_own_safe laws e (value.Slices slices) v lents = laws.set.0 e (value.Slices slices) v

-- a lemma for each effect
pub effects_safe : EffectLaws → EffectsAreSafe
effects_safe laws e subject.Own verb.View lents = laws.view.0 e
effects_safe laws e subject.Own (verb.Get key) lents = laws.get.0 e key
effects_safe laws e subject.Own (verb.Set key value) lents = set_in_own_safe laws e key value lents
effects_safe laws e subject.Own (verb.Cast format shape) lents = tt
effects_safe laws e subject.Own (verb.CastF format shape) lents = tt
effects_safe laws e subject.Own (verb.ToBytes order) lents = laws.bytes.0 e order
effects_safe laws e subject.Own verb.Release lents = tt
effects_safe laws e subject.Own verb.Len lents = laws.len.0 e
effects_safe laws e subject.Own (verb.Property name) lents = laws.property.0 e name
effects_safe laws e subject.Own verb.ToReadonly lents = tt
effects_safe laws e subject.Own (verb.Range from to) lents = laws.range e from to
effects_safe laws e subject.Own verb.Enter lents = tt
effects_safe laws e subject.Own verb.Exit lents = tt
effects_safe laws e subject.Own verb.ToContiguous lents = tt
effects_safe laws e subject.Own verb.ToList lents = tt
effects_safe laws e subject.Own (verb.Del key) lents = laws.edits e (verb.Del key) lents
effects_safe laws e subject.Own (verb.Append v) lents = laws.edits e (verb.Append v) lents
effects_safe laws e subject.Own (verb.Extend v) lents = laws.edits e (verb.Extend v) lents
effects_safe laws e subject.Own (verb.Insert index v) lents = laws.edits e (verb.Insert index v) lents
effects_safe laws e subject.Own (verb.Pop index) lents = laws.edits e (verb.Pop index) lents
effects_safe laws e subject.Own (verb.Remove v) lents = laws.edits e (verb.Remove v) lents
effects_safe laws e subject.Own verb.Clear lents = laws.edits e verb.Clear lents
effects_safe laws e subject.Own verb.Reverse lents = laws.edits e verb.Reverse lents
effects_safe laws e subject.Own (verb.IAdd v) lents = laws.edits e (verb.IAdd v) lents
effects_safe laws e subject.Own (verb.IMul count) lents = laws.edits e (verb.IMul count) lents
effects_safe laws e subject.Own (verb.Init options) lents = laws.edits e (verb.Init options) lents
effects_safe laws e subject.Own verb.Take lents = laws.edits e verb.Take lents
effects_safe laws e subject.Own verb.Copy lents = laws.edits e verb.Copy lents
effects_safe laws e subject.Own (verb.Compare op other) lents = laws.compare.0 e op other lents
effects_safe laws e subject.Own verb.Hash lents = laws.hash.0 e
effects_safe laws e subject.Own verb.Repr lents = laws.repr.0 e
effects_safe laws e subject.Own verb.Iter lents = laws.iter.0 e
effects_safe laws e subject.Own verb.Next lents = laws.edits e verb.Next lents
effects_safe laws e subject.Own verb.LengthHint lents = laws.edits e verb.LengthHint lents
effects_safe laws e subject.Own (verb.SetState state) lents = laws.edits e (verb.SetState state) lents
effects_safe laws e subject.Own (verb.Contains v) lents = laws.contains e v (snaps_of lents)
effects_safe laws e subject.Own (verb.Hex sep group) lents = laws.edits e (verb.Hex sep group) lents
effects_safe laws e subject.Own (verb.Call method) lents = laws.call e method (snaps_of lents)
effects_safe laws e (subject.View k) verb.View lents = laws.view.1 e k
effects_safe laws e (subject.View k) (verb.Get key) lents = get_of_view_safe laws e k key
effects_safe laws e (subject.View k) (verb.Set key value) lents = set_through_view_safe laws e k key value lents
effects_safe laws e (subject.View k) (verb.Cast format shape) lents = laws.cast e k format shape
effects_safe laws e (subject.View k) (verb.CastF format shape) lents = laws.column_cast e k format shape
effects_safe laws e (subject.View k) (verb.ToBytes order) lents = laws.bytes.1 e k order
effects_safe laws e (subject.View k) verb.Release lents = laws.release e k
effects_safe laws e (subject.View k) verb.Len lents = laws.len.1 e k
effects_safe laws e (subject.View k) (verb.Property name) lents = laws.property.1 e k name
effects_safe laws e (subject.View k) verb.ToReadonly lents = laws.toreadonly e k
effects_safe laws e (subject.View k) (verb.Range from to) lents = tt
effects_safe laws e (subject.View k) verb.Enter lents = laws.enter e k
effects_safe laws e (subject.View k) verb.Exit lents = laws.release e k
effects_safe laws e (subject.View k) verb.ToContiguous lents = laws.contiguous e k
effects_safe laws e (subject.View k) verb.ToList lents = laws.tolist e k
effects_safe laws e (subject.View k) (verb.Del key) lents = laws.delete_of_view e k
effects_safe laws e (subject.View k) (verb.Append v) lents = tt
effects_safe laws e (subject.View k) (verb.Extend v) lents = tt
effects_safe laws e (subject.View k) (verb.Insert index v) lents = tt
effects_safe laws e (subject.View k) (verb.Pop index) lents = tt
effects_safe laws e (subject.View k) (verb.Remove v) lents = tt
effects_safe laws e (subject.View k) verb.Clear lents = tt
effects_safe laws e (subject.View k) verb.Reverse lents = tt
effects_safe laws e (subject.View k) (verb.IAdd v) lents = tt
effects_safe laws e (subject.View k) (verb.IMul count) lents = tt
effects_safe laws e (subject.View k) (verb.Init options) lents = tt
effects_safe laws e (subject.View k) verb.Take lents = tt
effects_safe laws e (subject.View k) verb.Copy lents = tt
effects_safe laws e (subject.View k) (verb.Compare op other) lents = laws.compare.1 e k op other lents
effects_safe laws e (subject.View k) verb.Hash lents = laws.hash.1 e k
effects_safe laws e (subject.View k) verb.Repr lents = laws.repr.1 e k
effects_safe laws e (subject.View k) verb.Iter lents = laws.iter.1 e k
effects_safe laws e (subject.View k) verb.Next lents = tt
effects_safe laws e (subject.View k) verb.LengthHint lents = tt
effects_safe laws e (subject.View k) (verb.SetState state) lents = tt
effects_safe laws e (subject.View k) (verb.Contains v) lents = tt
effects_safe laws e (subject.View k) (verb.Hex sep group) lents = laws.hex e k sep group (snaps_of lents)
effects_safe laws e (subject.View k) (verb.Call method) lents = tt
effects_safe laws e (subject.Iter k) v lents = laws.iterators e k v

-- ---- every command

-- A reply is no refusal. If it is something fresh, that is a copy, and the exporter is as before. If it shows a
-- text, that is one line. If it names a view or an iterator, that is there.
abbrev pub IsReplyTo : Exporter → Subject → Exporter → LocalReply → Type 0
IsReplyTo e s new (reply.Refused f) = ⊥
IsReplyTo e s new (reply.Fresh snap) = (new ≡ e) × IsCopyOf e s snap
IsReplyTo e s new (reply.Shown text) = is_one_line text ≡ true
IsReplyTo e s new (reply.View k) = has_subject new (subject.View k) ≡ true
IsReplyTo e s new (reply.Iter k) = has_subject new (subject.Iter k) ≡ true
IsReplyTo e s new _ = Unit {0}

-- what every command keeps of a sound exporter
pub record IsLeft (old new : Exporter) : Type 0 where
  pub sound : IsSoundExporter new
  pub lengths : LengthsStay old new
  pub readonly_bytes : ReadOnlyBytesStay old new
  pub iterators : IteratorsStay old.iterators new.iterators
  pub items_apart : IsSpaced old → IsSpaced new

-- what holds of every effect that isn't refused
pub record IsStep (e : Exporter) (s : Subject) (v : Verb) (after : Exporter × LocalReply) : Type 0 where
  pub leaves : IsSoundExporter e → IsLeft e after.0
  pub others : is_of_iterators s v ≡ false → IsSoundExporter e → after.0.iterators ≡ e.iterators
  pub nothing_else : is_of_iterators s v ≡ true → after.0 ≡ record e { iterators = after.0.iterators }
  pub replies : IsReplyTo e s after.0 after.1

same_iterators : (its : List Iterator) → IteratorsStay its its
same_iterators its = λ k it given. (it, given, record { subject = refl; exhausted = λ is. refl })

left_so : (old new : Exporter) → Keeps old new → IsLeft old new
left_so old new keeps = record {
  sound = keeps.sound;
  lengths = keeps.lengths;
  readonly_bytes = keeps.readonly_bytes;
  iterators = subst (λ (its : List Iterator). IteratorsStay old.iterators its) (sym keeps.iterators) (same_iterators old.iterators);
  items_apart = keeps.items_apart;
}

-- Nothing but iterators changes.
iterated_so : ReadingKeeps → (e new : Exporter) → new ≡ record e { iterators = new.iterators } → IteratorsStay e.iterators new.iterators → IsSoundExporter e → IsLeft e new
iterated_so reading e new same stay sound =
    subst (IsLeft e) (sym same)
    (record {
      sound = record { views = sound.views };
      lengths = record { views = (reading e sound).lengths.views; bytes = λ live. refl };
      readonly_bytes = λ readonly. inl refl;
      iterators = stay;
      items_apart = λ spaced. record { views = spaced.views };
    })

ordinary : (e : Exporter) (s : Subject) (new : Exporter) (r : LocalReply) → is_answer new r ≡ true → IsReplyTo e s new r
ordinary e s new (reply.Refused f) is = absurd (true≢false (sym is))
ordinary e s new (reply.Fresh snap) is = absurd (true≢false (sym is))
ordinary e s new reply.Ok is = tt
ordinary e s new (reply.View k) is = is
ordinary e s new reply.Itself is = tt
ordinary e s new reply.Own is = tt
ordinary e s new (reply.Item x) is = tt
ordinary e s new (reply.Items shape items) is = tt
ordinary e s new (reply.Bytes bytes) is = tt
ordinary e s new (reply.Text text) is = tt
ordinary e s new (reply.Shown text) is = is
ordinary e s new (reply.Truth truth) is = tt
ordinary e s new reply.NotImplementedReply is = tt
ordinary e s new (reply.Iter k) is = is
ordinary e s new reply.Stop is = tt
ordinary e s new (reply.Numbers numbers) is = tt
ordinary e s new (reply.ByteLists lists) is = tt

copied_reply : (e : Exporter) (s : Subject) (new : Exporter) (r : LocalReply) → new ≡ e → RepliesCopy e s r → IsReplyTo e s new r
copied_reply e s new (reply.Fresh snap) same copied = (same, copied)
copied_reply e s new (reply.Refused f) same copied = copied
copied_reply e s new reply.Ok same copied = tt
copied_reply e s new (reply.View k) same copied = absurd copied
copied_reply e s new reply.Itself same copied = tt
copied_reply e s new reply.Own same copied = tt
copied_reply e s new (reply.Item x) same copied = tt
copied_reply e s new (reply.Items shape items) same copied = tt
copied_reply e s new (reply.Bytes bytes) same copied = tt
copied_reply e s new (reply.Text text) same copied = tt
copied_reply e s new (reply.Shown text) same copied = absurd copied
copied_reply e s new (reply.Truth truth) same copied = tt
copied_reply e s new reply.NotImplementedReply same copied = tt
copied_reply e s new (reply.Iter k) same copied = absurd copied
copied_reply e s new reply.Stop same copied = tt
copied_reply e s new (reply.Numbers numbers) same copied = tt
copied_reply e s new (reply.ByteLists lists) same copied = tt

safe_step : (e : Exporter) (s : Subject) (v : Verb) (r : Result (Exporter × LocalReply) Fault) → is_of_iterators s v ≡ false → IsSafe e r → IfDone (IsStep e s v) r
safe_step e s v (Ok after) other safe = record {
  leaves = λ sound. left_so e after.0 (safe.keeps sound);
  others = λ is sound. (safe.keeps sound).iterators;
  nothing_else = λ is. absurd (true≢false (sym is ∙ other));
  replies = ordinary e s after.0 after.1 safe.answers;
}
safe_step e s v (Err f) other safe = tt

copied_step : ReadingKeeps → (e : Exporter) (s : Subject) (v : Verb) (r : Result (Exporter × LocalReply) Fault) → is_of_iterators s v ≡ false → IfDone (IsCopied e s) r → IfDone (IsStep e s v) r
copied_step reading e s v (Ok after) other copied = record {
  leaves = λ sound. subst (IsLeft e) (sym copied.same) (left_so e e (reading e sound));
  others = λ is sound. ap (λ (x : Exporter). x.iterators) copied.same;
  nothing_else = λ is. absurd (true≢false (sym is ∙ other));
  replies = copied_reply e s after.0 after.1 copied.same copied.copied;
}
copied_step reading e s v (Err f) other copied = tt

iterated_step : ReadingKeeps → (e : Exporter) (s : Subject) (v : Verb) (r : Result (Exporter × LocalReply) Fault) → is_of_iterators s v ≡ true → IfDone (IsIterated e) r → IfDone (IsStep e s v) r
iterated_step reading e s v (Ok after) of_iterators iterated = record {
  leaves = iterated_so reading e after.0 iterated.same iterated.iterators;
  others = λ is. absurd (true≢false (sym of_iterators ∙ is));
  nothing_else = λ is. iterated.same;
  replies = ordinary e s after.0 after.1 iterated.answers;
}
iterated_step reading e s v (Err f) of_iterators iterated = tt

effect_step : ReadingKeeps → (e : Exporter) (s : Subject) (v : Verb) (r : Result (Exporter × LocalReply) Fault) → EffectIsSafe e s v r → IfDone (IsStep e s v) r
effect_step reading e subject.Own verb.View r safe = safe_step e subject.Own verb.View r refl safe
effect_step reading e subject.Own (verb.Get key) r safe = safe_step e subject.Own (verb.Get key) r refl safe
effect_step reading e subject.Own (verb.Set key value) r safe = safe_step e subject.Own (verb.Set key value) r refl safe
effect_step reading e subject.Own (verb.Cast format shape) r safe = safe_step e subject.Own (verb.Cast format shape) r refl safe
effect_step reading e subject.Own (verb.CastF format shape) r safe = safe_step e subject.Own (verb.CastF format shape) r refl safe
effect_step reading e subject.Own (verb.ToBytes order) r safe = safe_step e subject.Own (verb.ToBytes order) r refl safe
effect_step reading e subject.Own verb.Release r safe = safe_step e subject.Own verb.Release r refl safe
effect_step reading e subject.Own verb.Len r safe = safe_step e subject.Own verb.Len r refl safe
effect_step reading e subject.Own (verb.Property name) r safe = safe_step e subject.Own (verb.Property name) r refl safe
effect_step reading e subject.Own verb.ToReadonly r safe = safe_step e subject.Own verb.ToReadonly r refl safe
effect_step reading e subject.Own (verb.Range from to) r safe = safe_step e subject.Own (verb.Range from to) r refl safe
effect_step reading e subject.Own verb.Enter r safe = safe_step e subject.Own verb.Enter r refl safe
effect_step reading e subject.Own verb.Exit r safe = safe_step e subject.Own verb.Exit r refl safe
effect_step reading e subject.Own verb.ToContiguous r safe = safe_step e subject.Own verb.ToContiguous r refl safe
effect_step reading e subject.Own verb.ToList r safe = safe_step e subject.Own verb.ToList r refl safe
effect_step reading e subject.Own (verb.Del key) r safe = safe_step e subject.Own (verb.Del key) r refl safe
effect_step reading e subject.Own (verb.Append v) r safe = safe_step e subject.Own (verb.Append v) r refl safe
effect_step reading e subject.Own (verb.Extend v) r safe = safe_step e subject.Own (verb.Extend v) r refl safe
effect_step reading e subject.Own (verb.Insert index v) r safe = safe_step e subject.Own (verb.Insert index v) r refl safe
effect_step reading e subject.Own (verb.Pop index) r safe = safe_step e subject.Own (verb.Pop index) r refl safe
effect_step reading e subject.Own (verb.Remove v) r safe = safe_step e subject.Own (verb.Remove v) r refl safe
effect_step reading e subject.Own verb.Clear r safe = safe_step e subject.Own verb.Clear r refl safe
effect_step reading e subject.Own verb.Reverse r safe = safe_step e subject.Own verb.Reverse r refl safe
effect_step reading e subject.Own (verb.IAdd v) r safe = safe_step e subject.Own (verb.IAdd v) r refl safe
effect_step reading e subject.Own (verb.IMul count) r safe = safe_step e subject.Own (verb.IMul count) r refl safe
effect_step reading e subject.Own (verb.Init options) r safe = safe_step e subject.Own (verb.Init options) r refl safe
effect_step reading e subject.Own verb.Take r safe = safe_step e subject.Own verb.Take r refl safe
effect_step reading e subject.Own verb.Copy r safe = copied_step reading e subject.Own verb.Copy r refl safe
effect_step reading e subject.Own (verb.Compare op other) r safe = safe_step e subject.Own (verb.Compare op other) r refl safe
effect_step reading e subject.Own verb.Hash r safe = safe_step e subject.Own verb.Hash r refl safe
effect_step reading e subject.Own verb.Repr r safe = safe_step e subject.Own verb.Repr r refl safe
effect_step reading e subject.Own verb.Iter r safe = iterated_step reading e subject.Own verb.Iter r refl safe
effect_step reading e subject.Own verb.Next r safe = safe_step e subject.Own verb.Next r refl safe
effect_step reading e subject.Own verb.LengthHint r safe = safe_step e subject.Own verb.LengthHint r refl safe
effect_step reading e subject.Own (verb.SetState state) r safe = safe_step e subject.Own (verb.SetState state) r refl safe
effect_step reading e subject.Own (verb.Contains v) r safe = safe_step e subject.Own (verb.Contains v) r refl safe
effect_step reading e subject.Own (verb.Hex sep group) r safe = safe_step e subject.Own (verb.Hex sep group) r refl safe
effect_step reading e subject.Own (verb.Call method) r safe = safe_step e subject.Own (verb.Call method) r refl safe
effect_step reading e (subject.Iter k) v r safe = iterated_step reading e (subject.Iter k) v r refl safe
effect_step reading e (subject.View k) verb.ToContiguous r safe = copied_step reading e (subject.View k) verb.ToContiguous r refl safe
effect_step reading e (subject.View k) verb.View r safe = safe_step e (subject.View k) verb.View r refl safe
effect_step reading e (subject.View k) (verb.Range from to) r safe = safe_step e (subject.View k) (verb.Range from to) r refl safe
effect_step reading e (subject.View k) (verb.Get key) r safe = safe_step e (subject.View k) (verb.Get key) r refl safe
effect_step reading e (subject.View k) (verb.Set key value) r safe = safe_step e (subject.View k) (verb.Set key value) r refl safe
effect_step reading e (subject.View k) (verb.Cast format shape) r safe = safe_step e (subject.View k) (verb.Cast format shape) r refl safe
effect_step reading e (subject.View k) (verb.CastF format shape) r safe = safe_step e (subject.View k) (verb.CastF format shape) r refl safe
effect_step reading e (subject.View k) (verb.ToBytes order) r safe = safe_step e (subject.View k) (verb.ToBytes order) r refl safe
effect_step reading e (subject.View k) verb.Release r safe = safe_step e (subject.View k) verb.Release r refl safe
effect_step reading e (subject.View k) verb.Enter r safe = safe_step e (subject.View k) verb.Enter r refl safe
effect_step reading e (subject.View k) verb.Exit r safe = safe_step e (subject.View k) verb.Exit r refl safe
effect_step reading e (subject.View k) verb.ToList r safe = safe_step e (subject.View k) verb.ToList r refl safe
effect_step reading e (subject.View k) verb.Len r safe = safe_step e (subject.View k) verb.Len r refl safe
effect_step reading e (subject.View k) (verb.Property name) r safe = safe_step e (subject.View k) (verb.Property name) r refl safe
effect_step reading e (subject.View k) verb.ToReadonly r safe = safe_step e (subject.View k) verb.ToReadonly r refl safe
effect_step reading e (subject.View k) (verb.Del key) r safe = safe_step e (subject.View k) (verb.Del key) r refl safe
effect_step reading e (subject.View k) (verb.Append v) r safe = safe_step e (subject.View k) (verb.Append v) r refl safe
effect_step reading e (subject.View k) (verb.Extend v) r safe = safe_step e (subject.View k) (verb.Extend v) r refl safe
effect_step reading e (subject.View k) (verb.Insert index v) r safe = safe_step e (subject.View k) (verb.Insert index v) r refl safe
effect_step reading e (subject.View k) (verb.Pop index) r safe = safe_step e (subject.View k) (verb.Pop index) r refl safe
effect_step reading e (subject.View k) (verb.Remove v) r safe = safe_step e (subject.View k) (verb.Remove v) r refl safe
effect_step reading e (subject.View k) verb.Clear r safe = safe_step e (subject.View k) verb.Clear r refl safe
effect_step reading e (subject.View k) verb.Reverse r safe = safe_step e (subject.View k) verb.Reverse r refl safe
effect_step reading e (subject.View k) (verb.IAdd v) r safe = safe_step e (subject.View k) (verb.IAdd v) r refl safe
effect_step reading e (subject.View k) (verb.IMul count) r safe = safe_step e (subject.View k) (verb.IMul count) r refl safe
effect_step reading e (subject.View k) (verb.Init options) r safe = safe_step e (subject.View k) (verb.Init options) r refl safe
effect_step reading e (subject.View k) verb.Take r safe = safe_step e (subject.View k) verb.Take r refl safe
effect_step reading e (subject.View k) verb.Copy r safe = safe_step e (subject.View k) verb.Copy r refl safe
effect_step reading e (subject.View k) (verb.Compare op other) r safe = safe_step e (subject.View k) (verb.Compare op other) r refl safe
effect_step reading e (subject.View k) verb.Hash r safe = safe_step e (subject.View k) verb.Hash r refl safe
effect_step reading e (subject.View k) verb.Repr r safe = safe_step e (subject.View k) verb.Repr r refl safe
effect_step reading e (subject.View k) verb.Iter r safe = iterated_step reading e (subject.View k) verb.Iter r refl safe
effect_step reading e (subject.View k) verb.Next r safe = safe_step e (subject.View k) verb.Next r refl safe
effect_step reading e (subject.View k) verb.LengthHint r safe = safe_step e (subject.View k) verb.LengthHint r refl safe
effect_step reading e (subject.View k) (verb.SetState state) r safe = safe_step e (subject.View k) (verb.SetState state) r refl safe
effect_step reading e (subject.View k) (verb.Contains v) r safe = safe_step e (subject.View k) (verb.Contains v) r refl safe
effect_step reading e (subject.View k) (verb.Hex sep group) r safe = safe_step e (subject.View k) (verb.Hex sep group) r refl safe
effect_step reading e (subject.View k) (verb.Call method) r safe = safe_step e (subject.View k) (verb.Call method) r refl safe

chosen : (e : Exporter) (s : Subject) (v : Verb) (b : Bool) (r : Result (Exporter × LocalReply) Fault) → IfDone (IsStep e s v) r → IfDone (IsStep e s v) (if b then r else Err fault.UnknownName)
chosen e s v true r step = step
chosen e s v false r step = tt

answered_by : EffectsAreSafe → ReadingKeeps → (e : Exporter) (s : Subject) (v : Verb) (named : ℕ → Option Loan) → IfDone (IsStep e s v) (answer_by e s v named)
answered_by effects reading e s v named =
    let lents = lents_by e named (handles_read s v) in
    chosen e s v (are_named e named (handles_of v)) (effect e s v lents) (effect_step reading e s v (effect e s v lents) (effects e s v lents))

pub answered_step : EffectsAreSafe → ReadingKeeps → (e : Exporter) (s : Subject) (v : Verb) (loans : List (ℕ × Loan)) → IfDone (IsStep e s v) (answer_of e s v loans)
answered_step effects reading e s v loans = answered_by effects reading e s v (names_of loans)

settled_leaves : ReadingKeeps → (e : Exporter) (s : Subject) (v : Verb) (r : Result (Exporter × LocalReply) Fault) → IfDone (IsStep e s v) r → IsSoundExporter e → IsLeft e (settled_answer e r).0
settled_leaves reading e s v (Ok after) step sound = step.leaves sound
settled_leaves reading e s v (Err f) step sound = left_so e e (reading e sound)

step_leaves : EffectsAreSafe → ReadingKeeps → (e : Exporter) (s : Subject) (v : Verb) (loans : List (ℕ × Loan)) → IsSoundExporter e → IsLeft e (estep e s v loans).0
step_leaves effects reading e s v loans sound = settled_leaves reading e s v (answer_of e s v loans) (answered_step effects reading e s v loans) sound

pub steps_keep : EffectsAreSafe → ReadingKeeps → StepsKeepSound
steps_keep effects reading e s v named sound = (settled_leaves reading e s v (answer_by e s v named) (answered_by effects reading e s v named) sound).sound

pub sound_stays : EffectsAreSafe → ReadingKeeps → CommandsKeepSound
sound_stays effects reading e s v loans sound = (step_leaves effects reading e s v loans sound).sound

pub lengths_stay_so : EffectsAreSafe → ReadingKeeps → LengthsStayUnderCommands
lengths_stay_so effects reading e s v loans sound = (step_leaves effects reading e s v loans sound).lengths

pub bytes_stay_so : EffectsAreSafe → ReadingKeeps → ReadOnlyBytesStayUnderCommands
bytes_stay_so effects reading e s v loans sound = (step_leaves effects reading e s v loans sound).readonly_bytes

pub iterators_stay_so : EffectsAreSafe → ReadingKeeps → IteratorsStayUnderCommands
iterators_stay_so effects reading e s v loans sound = (step_leaves effects reading e s v loans sound).iterators

-- commands of iterators, and all other commands
settled_others : (e : Exporter) (s : Subject) (v : Verb) (r : Result (Exporter × LocalReply) Fault) → IfDone (IsStep e s v) r → IsSoundExporter e → is_of_iterators s v ≡ false → (settled_answer e r).0.iterators ≡ e.iterators
settled_others e s v (Ok after) step sound other = step.others other sound
settled_others e s v (Err f) step sound other = refl

pub others_leave_so : EffectsAreSafe → ReadingKeeps → OthersLeaveIterators
others_leave_so effects reading e s v loans sound other = settled_others e s v (answer_of e s v loans) (answered_step effects reading e s v loans) sound other

settled_iterated : (e : Exporter) (s : Subject) (v : Verb) (r : Result (Exporter × LocalReply) Fault) → IfDone (IsStep e s v) r → is_of_iterators s v ≡ true
    → (settled_answer e r).0 ≡ record e { iterators = (settled_answer e r).0.iterators }
settled_iterated e s v (Ok after) step is = step.nothing_else is
settled_iterated e s v (Err f) step is = refl

pub nothing_else_so : EffectsAreSafe → ReadingKeeps → IterationChangesNothingElse
nothing_else_so effects reading e s v loans is = settled_iterated e s v (answer_of e s v loans) (answered_step effects reading e s v loans) is

-- If the reply is a refusal, the exporter is as before.
settled_refusal : (e : Exporter) (s : Subject) (v : Verb) (r : Result (Exporter × LocalReply) Fault) (f : Fault) → IfDone (IsStep e s v) r → (settled_answer e r).1 ≡ reply.Refused f → (settled_answer e r).0 ≡ e
settled_refusal e s v (Ok after) f step is = absurd (subst (IsReplyTo e s after.0) is step.replies)
settled_refusal e s v (Err g) f step is = refl

pub refusals_stay_so : EffectsAreSafe → ReadingKeeps → RefusedCommandsChangeNothing
refusals_stay_so effects reading e s v loans f is = settled_refusal e s v (answer_of e s v loans) f (answered_step effects reading e s v loans) is

-- If the reply is something fresh, that is a copy, and the exporter is as before.
settled_fresh : (e : Exporter) (s : Subject) (v : Verb) (r : Result (Exporter × LocalReply) Fault) (snap : Snap) → IfDone (IsStep e s v) r → (settled_answer e r).1 ≡ reply.Fresh snap
    → ((settled_answer e r).0 ≡ e) × (IsCopyOf e s snap)
settled_fresh e s v (Ok after) snap step is = subst (IsReplyTo e s after.0) is step.replies
settled_fresh e s v (Err g) snap step is = absurd (cc)

pub fresh_are_copies : EffectsAreSafe → ReadingKeeps → FreshRepliesAreCopies
fresh_are_copies effects reading e s v loans snap is = settled_fresh e s v (answer_of e s v loans) snap (answered_step effects reading e s v loans) is

-- If the reply shows a text, that is one line.
settled_shown : (e : Exporter) (s : Subject) (v : Verb) (r : Result (Exporter × LocalReply) Fault) (text : List ℕ) → IfDone (IsStep e s v) r → (settled_answer e r).1 ≡ reply.Shown text → is_one_line text ≡ true
settled_shown e s v (Ok after) text step is = subst (IsReplyTo e s after.0) is step.replies
settled_shown e s v (Err g) text step is = absurd (cc)

pub shown_are_one_line : EffectsAreSafe → ReadingKeeps → ShownTextsAreOneLine
shown_are_one_line effects reading e s v loans text is = settled_shown e s v (answer_of e s v loans) text (answered_step effects reading e s v loans) is

-- After a command, no two items of a view share a byte, if that was so before.
pub items_stay_apart : EffectsAreSafe → ReadingKeeps → CommandsKeepItemsApart
items_stay_apart effects reading e s v loans sound spaced = (step_leaves effects reading e s v loans sound).items_apart spaced

-- If the reply names a view or an iterator, that is there.
reply_names : (e : Exporter) (s : Subject) (new : Exporter) (r : LocalReply) → IsReplyTo e s new r → NamesItsOwn new r
reply_names e s new (reply.View k) is = is
reply_names e s new (reply.Iter k) is = is
reply_names e s new (reply.Refused f) is = tt
reply_names e s new (reply.Fresh snap) is = tt
reply_names e s new reply.Ok is = tt
reply_names e s new reply.Itself is = tt
reply_names e s new reply.Own is = tt
reply_names e s new (reply.Item x) is = tt
reply_names e s new (reply.Items shape items) is = tt
reply_names e s new (reply.Bytes bytes) is = tt
reply_names e s new (reply.Text text) is = tt
reply_names e s new (reply.Shown text) is = tt
reply_names e s new (reply.Truth truth) is = tt
reply_names e s new reply.NotImplementedReply is = tt
reply_names e s new reply.Stop is = tt
reply_names e s new (reply.Numbers numbers) is = tt
reply_names e s new (reply.ByteLists lists) is = tt

settled_names : (e : Exporter) (s : Subject) (v : Verb) (r : Result (Exporter × LocalReply) Fault) → IfDone (IsStep e s v) r → NamesItsOwn (settled_answer e r).0 (settled_answer e r).1
settled_names e s v (Ok after) step = reply_names e s after.0 after.1 step.replies
settled_names e s v (Err g) step = tt

pub names_are_there : EffectsAreSafe → ReadingKeeps → RepliedNamesAreThere
names_are_there effects reading e s v loans = settled_names e s v (answer_of e s v loans) (answered_step effects reading e s v loans)

element_at : {X : Type 0} (xs : List X) (k : ℕ) → k < length xs → X
element_at [] k below = absurd (omega (arith, below))
element_at (x ∷ xs) k below = x

-- A list that keeps each of its elements at its number has no fewer.
still_there : {X : Type 0} (P : X → X → Type 0) (xs ys : List X) → ((k : ℕ) (x : X) → slice_get xs k ≡ Some x → (y : X) × (slice_get ys k ≡ Some y) × P x y) → (k : ℕ) → nat_lt k (length xs) ≡ true → nat_lt k (length ys) ≡ true
still_there P xs ys stays k there =
    let below : k < length xs = grind (arith, there) in
    let d = element_at xs k below in
    let found = stays k (get_or xs k d) (slice_get-get_or xs k d below) in
    let within = slice_get_within ys k found.0 found.1 in
    grind (arith, within)

has_still : (old new : Exporter) → LengthsStay old new → IteratorsStay old.iterators new.iterators → (s : Subject) → has_subject old s ≡ true → has_subject new s ≡ true
has_still old new lengths iterators subject.Own has = has
has_still old new lengths iterators (subject.View k) has = still_there IsSameOrReleased old.views new.views lengths.views k has
has_still old new lengths iterators (subject.Iter k) has = still_there IsSameOrMoved old.iterators new.iterators iterators k has

pub subjects_stay_so : EffectsAreSafe → ReadingKeeps → SubjectsStay
subjects_stay_so effects reading e s v loans other sound has =
    let left = step_leaves effects reading e s v loans sound in has_still e (estep e s v loans).0 left.lengths left.iterators other has

pub alike_steps : NamesAlikeDoTheSame
alike_steps e s v named others alike =
    ap₂ (λ (known : Bool) (lents : List Lent). settled_answer e (if known then effect e s v lents else Err fault.UnknownName)) alike.known alike.lent

-- ---- items

-- A format that has a size is in the grammar, and its items have that size.
spelled_by : (text : List ℕ) (itemsize : ℕ) (r : Result Format Fault) → format_of text ≡ r → is_size_of itemsize r ≡ true → (f : Format) × (format_of text ≡ Ok f) × (f.size ≡ itemsize)
spelled_by text itemsize (Ok f) is sized = (f, is, eqb-true f.size itemsize (both_of (nat_lt 0 itemsize) (f.size == itemsize) sized).1)
spelled_by text itemsize (Err g) is sized = absurd (true≢false (sym sized))

pub each_item_is_read : LiveLayoutsAreSound → BytesOfTheSizeAreRead → ItemsAreRead
each_item_is_read live reads e k layout i sound found below =
    let sound_layout = live e k layout sound found in
    let spelled = spelled_by layout.format layout.itemsize (format_of layout.format) refl sound_layout.formed.sized in
    let bytes = bytes_at e.bytes layout.itemsize (slice_index layout.starts i) in
    let long : length bytes ≡ spelled.0.size = whole_bytes e.bytes layout.itemsize (slice_index layout.starts i) (sound_layout.inside i 0 below) ∙ sym spelled.2 in (
      spelled.0,
      spelled.1,
      spelled.2,
      ap (λ (r : Result Format Fault). item_of_values (r >>= λ format. unpacked_values format bytes)) spelled.1
          ∙ ap item_of_values (reads spelled.0 bytes long),
    )

-- The exporter after an answer is sound.
pub closes_sound : (e new : Exporter) (r : Result LocalReply Halt) (answer : Result (Exporter × LocalReply) Fault) → Answers answer e r new → IsSoundExporter e → IsSoundExporter (settled_answer e answer).0 → IsSoundExporter new
closes_sound e new (Ok r) answer is sound kept = subst (λ (x : Result (Exporter × LocalReply) Fault). IsSoundExporter (settled_answer e x).0) is kept
closes_sound e new (Err (halt.Refused f)) answer is sound kept = subst IsSoundExporter (sym is.1) sound
closes_sound e new (Err halt.NoMemory) answer is sound kept = subst IsSoundExporter (sym is) sound
