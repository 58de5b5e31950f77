-- What was never given is refused with `UnknownName`.
use Rattle.std.proofs.Common.{◌≡◌, ℕ, List, [], ◌∷◌, Bool, true, false, true≢false, ap, sym, ◌∙◌, refl}
use Rattle.std.specs.Prelude.{◌==◌, ◌&&◌, ◌||◌, Option, Some, Result, Err, if◌then◌else◌}
use Rattle.std.specs.List.{list_any}
use Rattle.std.specs.Option.{ok_or, option_map}
use Rattle.std.proofs.lemmas.Bool.{eqb-true}
use Rattle.pybuf_lemmas.proofs.Booleans.{and_false}
use Rattle.pybuf_lemmas.proofs.Lists.{nothing_past_the_end}
use Rattle.pybuf_value.specs.Facts.{first_refuses}
use Rattle.pybuf_value.specs.declared.faults.Fault.{Fault}
use Rattle.pybuf_value.specs.declared.faults.Fault.TheVariants as fault
use Rattle.pybuf_value.specs.declared.snaps.Snap.{Snap}
use Rattle.pybuf_value.specs.declared.values.Scalar.TheVariants as scalar
use Rattle.pybuf_value.specs.declared.values.Value.{Value}
use Rattle.pybuf_value.specs.declared.values.Value.TheVariants as value
use Rattle.pybuf_value.specs.Refusing.{◌>>=◌, unless}
use Rattle.pybuf_value.specs.Snaps.{content_of, content_of_named, content_of_bytes, bytes_in}
use Rattle.pybuf_shaping.specs.Arguments.{fill_of_named, table_read, tables_of}
use Rattle.pybuf_desc.specs.Layouts.{Layout}
use Rattle.pybuf_command.specs.declared.kinds.Subject.{Subject}
use Rattle.pybuf_command.specs.declared.kinds.Subject.TheVariants as subject
use Rattle.pybuf_command.specs.declared.commands.Verb.{Verb}
use Rattle.pybuf_command.specs.declared.commands.Verb.TheVariants as verb
use Rattle.pybuf_command.specs.declared.commands.LocalReply.{LocalReply}
use Rattle.pybuf_command.specs.declared.loans.Loan.{Loan}
use Rattle.pybuf_command.specs.Handles.{handles_of, handles_read}
use Rattle.pybuf_state.specs.Exporter.{Exporter, View, Iterator, has_subject, view_at, live_layout, released_in, iterator_at}
use Rattle.pybuf_state.specs.Loans.{Lent, is_named, are_named, lents_by, names_of}
use Rattle.pybuf_state.specs.Snaps.{snap_of_view}
use Rattle.pybuf_verbs_reads.specs.Property.{is_exports}
use Rattle.pybuf_verbs_writes.specs.Set.{set_target}
use Rattle.pybuf_verbs_writes.specs.Assign.{assign_target, assign_of_lent}
use Rattle.pybuf_verbs_iters.specs.Iterators.{iterator_over_bytes, effect_on_iterator}
use Rattle.pybuf_exporter.specs.Step.{get_of_view, set_through_view, effect_on_view, effect, answer_by, settled_answer}
use Rattle.pybuf_exporter.specs.Handles.{HasUnknownHandle, UnknownHandlesAreRefused, UnlentHandlesAreRefused}

-- ---- handles

-- The unknown handle is the first, or one of the others.
first_or_later : (e : Exporter) (named : ℕ → Option Loan) (h x : ℕ) (is any all : Bool) → (x == h) ≡ is → (is || any) ≡ true → is_named e (named h) ≡ false → (any ≡ true → all ≡ false) → (is_named e (named x) && all) ≡ false
first_or_later e named h x true any all same among unknown later = ap (λ (n : ℕ). is_named e (named n) && all) (eqb-true x h same) ∙ ap (λ (b : Bool). b && all) unknown
first_or_later e named h x false any all same among unknown later = ap (λ (b : Bool). is_named e (named x) && b) (later among) ∙ and_false (is_named e (named x))

not_all_named : (e : Exporter) (named : ℕ → Option Loan) (h : ℕ) (handles : List ℕ) → list_any (λ (given : ℕ). given == h) handles ≡ true → is_named e (named h) ≡ false → are_named e named handles ≡ false
not_all_named e named h [] among unknown = absurd (true≢false (sym among))
not_all_named e named h (x ∷ xs) among unknown =
    first_or_later e named h x (x == h) (list_any (λ (given : ℕ). given == h) xs) (are_named e named xs) refl among unknown (λ later. not_all_named e named h xs later unknown)

one_is_enough : (e : Exporter) (v : Verb) (named : ℕ → Option Loan) → HasUnknownHandle e v named → are_named e named (handles_of v) ≡ false
one_is_enough e v named has = not_all_named e named has.handle (handles_of v) has.held has.unknown

unknown_answer : (e : Exporter) (s : Subject) (v : Verb) (named : ℕ → Option Loan) → are_named e named (handles_of v) ≡ false → answer_by e s v named ≡ Err fault.UnknownName
unknown_answer e s v named unknown = ap (λ (b : Bool). if b then effect e s v (lents_by e named (handles_read s v)) else Err fault.UnknownName) unknown

-- ---- subjects

no_view : (e : Exporter) (k : ℕ) → has_subject e (subject.View k) ≡ false → view_at e k ≡ Err fault.UnknownName
no_view e k none = ap (λ (o : Option View). ok_or o fault.UnknownName) (nothing_past_the_end e.views k none)

no_layout : (e : Exporter) (k : ℕ) → view_at e k ≡ Err fault.UnknownName → live_layout e k ≡ Err fault.UnknownName
no_layout e k none = first_refuses (view_at e k) _ fault.UnknownName none

no_iterator : (e : Exporter) (k : ℕ) → has_subject e (subject.Iter k) ≡ false → iterator_at e k ≡ Err fault.UnknownName
no_iterator e k none = ap (λ (o : Option Iterator). ok_or o fault.UnknownName) (nothing_past_the_end e.iterators k none)

no_item : (e : Exporter) (k : ℕ) (key : Value) → live_layout e k ≡ Err fault.UnknownName → get_of_view e k key ≡ Err fault.UnknownName
no_item e k (value.Slice slice) none = first_refuses (live_layout e k) _ fault.UnknownName none
no_item e k key none = first_refuses (live_layout e k) _ fault.UnknownName none

no_target : (e : Exporter) (k : ℕ) (key v : Value) (lents : List Lent) → live_layout e k ≡ Err fault.UnknownName → set_through_view e k key v lents ≡ Err fault.UnknownName
no_target e k (value.Slice slice) v lents none = first_refuses (assign_target e k slice v) _ fault.UnknownName (first_refuses (live_layout e k) _ fault.UnknownName none)
no_target e k key v lents none = first_refuses (set_target e k key v) _ fault.UnknownName (first_refuses (live_layout e k) _ fault.UnknownName none)

no_property : {B : Type 0} (exports : Bool) (r : Result Layout Fault) (f : Layout → Result B Fault) → r ≡ Err fault.UnknownName → (unless exports fault.UnknownName >>= λ _. r >>= f) ≡ Err fault.UnknownName
no_property true r f none = refl
no_property false r f none = first_refuses r f fault.UnknownName none

of_view : (e : Exporter) (k : ℕ) (v : Verb) (lents : List Lent) → view_at e k ≡ Err fault.UnknownName → live_layout e k ≡ Err fault.UnknownName → effect_on_view e k v lents ≡ Err fault.UnknownName
of_view e k verb.View lents none dead = first_refuses (live_layout e k) _ fault.UnknownName dead
of_view e k (verb.Get key) lents none dead = no_item e k key dead
of_view e k (verb.Set key v) lents none dead = no_target e k key v lents dead
of_view e k (verb.Cast format shape) lents none dead = first_refuses (live_layout e k) _ fault.UnknownName dead
of_view e k (verb.CastF format shape) lents none dead = first_refuses (live_layout e k) _ fault.UnknownName dead
of_view e k (verb.ToBytes order) lents none dead = first_refuses (live_layout e k) _ fault.UnknownName dead
of_view e k verb.Release lents none dead = first_refuses (released_in e k) _ fault.UnknownName (first_refuses (view_at e k) _ fault.UnknownName none)
of_view e k verb.Enter lents none dead = first_refuses (live_layout e k) _ fault.UnknownName dead
of_view e k verb.Exit lents none dead = first_refuses (released_in e k) _ fault.UnknownName (first_refuses (view_at e k) _ fault.UnknownName none)
of_view e k verb.ToContiguous lents none dead = first_refuses (live_layout e k) _ fault.UnknownName dead
of_view e k verb.ToList lents none dead = first_refuses (live_layout e k) _ fault.UnknownName dead
of_view e k verb.Len lents none dead = first_refuses (live_layout e k) _ fault.UnknownName dead
of_view e k (verb.Property p) lents none dead = no_property (is_exports p) (live_layout e k) _ dead
of_view e k verb.ToReadonly lents none dead = first_refuses (live_layout e k) _ fault.UnknownName dead
of_view e k (verb.Del key) lents none dead = first_refuses (live_layout e k) _ fault.UnknownName dead
of_view e k (verb.Compare op other) lents none dead = first_refuses (view_at e k) _ fault.UnknownName none
of_view e k verb.Hash lents none dead = first_refuses (live_layout e k) _ fault.UnknownName dead
of_view e k verb.Repr lents none dead = first_refuses (view_at e k) _ fault.UnknownName none
of_view e k verb.Iter lents none dead = first_refuses (live_layout e k) _ fault.UnknownName dead
of_view e k (verb.Hex sep group) lents none dead = first_refuses (live_layout e k) _ fault.UnknownName dead
of_view e k _ lents none dead = refl

of_iterator : (e : Exporter) (k : ℕ) (v : Verb) → iterator_at e k ≡ Err fault.UnknownName → effect_on_iterator e k v ≡ Err fault.UnknownName
of_iterator e k verb.Iter none = first_refuses (iterator_at e k) _ fault.UnknownName none
of_iterator e k verb.Next none = first_refuses (iterator_at e k) _ fault.UnknownName none
of_iterator e k verb.LengthHint none = first_refuses (iterator_over_bytes e k) _ fault.UnknownName (first_refuses (iterator_at e k) _ fault.UnknownName none)
of_iterator e k (verb.SetState state) none = first_refuses (iterator_over_bytes e k) _ fault.UnknownName (first_refuses (iterator_at e k) _ fault.UnknownName none)
of_iterator e k _ none = refl

of_subject : (e : Exporter) (s : Subject) (v : Verb) (lents : List Lent) → has_subject e s ≡ false → effect e s v lents ≡ Err fault.UnknownName
of_subject e subject.Own v lents none = absurd (true≢false none)
of_subject e (subject.View k) v lents none = of_view e k v lents (no_view e k none) (no_layout e k (no_view e k none))
of_subject e (subject.Iter k) v lents none = of_iterator e k v (no_iterator e k none)

known_or_not : (b : Bool) (r : Result (Exporter × LocalReply) Fault) → r ≡ Err fault.UnknownName → (if b then r else Err fault.UnknownName) ≡ Err fault.UnknownName
known_or_not true r is = is
known_or_not false r is = refl

unknown_subject : (e : Exporter) (s : Subject) (v : Verb) (named : ℕ → Option Loan) → has_subject e s ≡ false → answer_by e s v named ≡ Err fault.UnknownName
unknown_subject e s v named none = known_or_not (are_named e named (handles_of v)) (effect e s v (lents_by e named (handles_read s v))) (of_subject e s v (lents_by e named (handles_read s v)) none)

-- ---- the laws

pub unknown_refused : UnknownHandlesAreRefused
unknown_refused = record {
  one = one_is_enough;
  names = λ e s v named unknown. ap (settled_answer e) (unknown_answer e s v named unknown);
  loans = λ e s v loans unknown. ap (settled_answer e) (unknown_answer e s v (names_of loans) unknown);
  subjects = λ e s v loans none. ap (settled_answer e) (unknown_subject e s v (names_of loans) none);
  assigned = λ e lender k j slice none. ap (λ (o : Option View). assign_of_lent e k slice (option_map (snap_of_view lender.bytes) o)) (nothing_past_the_end lender.views j none);
}

pub unlent_refused : UnlentHandlesAreRefused
unlent_refused pairs h none = record {
  source = ap content_of_named none;
  borrowed = ap content_of none;
  read = ap content_of_named none;
  packed = ap content_of_bytes none;
  sought = first_refuses (bytes_in pairs (value.One (scalar.Handle h))) _ fault.UnknownName (ap content_of_named none);
  added = λ bytes. first_refuses (bytes_in pairs (value.One (scalar.Handle h))) _ fault.UnknownName (ap content_of_named none);
  tested = λ test. first_refuses (bytes_in pairs (value.One (scalar.Handle h))) _ fault.UnknownName (ap content_of_named none);
  filled = ap fill_of_named none;
  mapped = λ delete bytes. first_refuses (tables_of pairs (Some (value.One (scalar.Handle h))) delete) _ fault.UnknownName (first_refuses (table_read (bytes_in pairs (value.One (scalar.Handle h)))) _ fault.UnknownName (ap (λ (o : Option Snap). table_read (content_of_named o)) none));
}
