-- The effects of iterators change nothing but iterators.
use Rattle.std.proofs.Common.{◌≡◌, ℕ, ◌+◌, List, [], ◌∷◌, ◌++◌, Bool, true, false, true≢false, sym, refl, ◌∙◌, ap, arith}
use Rattle.std.specs.Prelude.{Option, Some, None, Result, Ok, Err, not, nat_lt, slice_get, length}
use Rattle.std.proofs.lemmas.List.{length-append}
use Rattle.pybuf_state.specs.Facts.{iterator_given}
use Rattle.pybuf_value.specs.declared.faults.Fault.{Fault}
use Rattle.pybuf_value.specs.declared.faults.Fault.TheVariants as fault
use Rattle.pybuf_value.specs.declared.values.Item.{Item}
use Rattle.pybuf_value.specs.declared.values.Value.{Value}
use Rattle.pybuf_value.specs.Numbers.{number_of}
use Rattle.pybuf_value.specs.Refusing.{◌>>=◌, unless, IfDone, done_bind}
use Rattle.pybuf_command.specs.declared.kinds.Subject.{Subject}
use Rattle.pybuf_command.specs.declared.kinds.Subject.TheVariants as subject
use Rattle.pybuf_command.specs.declared.commands.Verb.TheVariants as verb
use Rattle.pybuf_command.specs.declared.commands.LocalReply.{LocalReply}
use Rattle.pybuf_command.specs.declared.commands.LocalReply.TheVariants as reply
use Rattle.pybuf_state.specs.Exporter.{Exporter, Iterator, live_layout, iterator_at, with_iterator, iterator_put}
use Rattle.pybuf_state.specs.Keeps.{is_answer, is_vector, IsSameOrMoved, IsIterated}
use Rattle.pybuf_state.specs.Laws.{NewIteratorsStay, MovedIteratorsStay}
use Rattle.pybuf_verbs_iters.specs.Iterators.{item_over, moved_on, next_unless, is_over_bytes, iterator_over_bytes, clamped, put_unless}
use Rattle.pybuf_verbs_iters.specs.Laws.{IterIsSafe, IteratorsAreSafe}

bind : {A : Type 0} (e : Exporter) (r : Result A Fault) (f : A → Result (Exporter × LocalReply) Fault) → ((a : A) → r ≡ Ok a → IfDone (IsIterated e) (f a)) → IfDone (IsIterated e) (r >>= f)
bind e r f after = done_bind (IsIterated e) r f after

-- ---- the three ways of an effect

-- The iterator that was added is there.
last_is_there : (its : List Iterator) (it : Iterator) → nat_lt (length its) (length (its ++ it ∷ [])) ≡ true
last_is_there its it = let more : length (its ++ it ∷ []) ≡ length its + 1 = length-append its (it ∷ []) in grind (arith, more)

made : NewIteratorsStay → (e : Exporter) (s : Subject) → IsIterated e (with_iterator e s)
made new e s =
    let it : Iterator = record { subject = s; position = 0; exhausted = false } in
    record { same = refl; iterators = new e.iterators it; answers = last_is_there e.iterators it }

-- Nothing changes.
read : (e : Exporter) (r : LocalReply) → is_answer e r ≡ true → IsIterated e (e, r)
read e r answers = record { same = refl; iterators = λ k it given. (it, given, record { subject = refl; exhausted = λ is. refl }); answers = answers }

-- An iterator that isn't exhausted moves.
moved : MovedIteratorsStay → (e : Exporter) (k : ℕ) (it after : Iterator) (r : LocalReply) → slice_get e.iterators k ≡ Some it → IsSameOrMoved it after → is_answer (iterator_put e k after) r ≡ true → IsIterated e (iterator_put e k after, r)
moved stays e k it after r given move answers = record { same = refl; iterators = stays e.iterators k it after given move; answers = answers }

-- It may move to any place, and become exhausted.
at_place : (it : Iterator) (place : ℕ) → it.exhausted ≡ false → IsSameOrMoved it (record it { position = place })
at_place it place goes = record { subject = refl; exhausted = λ is. absurd (true≢false (sym is ∙ goes)) }

at_end : (it : Iterator) → it.exhausted ≡ false → IsSameOrMoved it (record it { exhausted = true })
at_end it goes = record { subject = refl; exhausted = λ is. absurd (true≢false (sym is ∙ goes)) }

-- ---- `next`

moved_on_so : MovedIteratorsStay → (e : Exporter) (k : ℕ) (it : Iterator) (x : Option Item) → slice_get e.iterators k ≡ Some it → it.exhausted ≡ false → IsIterated e (moved_on e k it x)
moved_on_so stays e k it (Some x) given goes = moved stays e k it (record it { position = it.position + 1 }) (reply.Item x) given (at_place it (it.position + 1) goes) refl
moved_on_so stays e k it None given goes = moved stays e k it (record it { exhausted = true }) reply.Stop given (at_end it goes) refl

next_by : MovedIteratorsStay → (e : Exporter) (k : ℕ) (it : Iterator) (b : Bool) → it.exhausted ≡ b → slice_get e.iterators k ≡ Some it → IfDone (IsIterated e) (next_unless b e k it)
next_by stays e k it true is given = read e reply.Stop refl
next_by stays e k it false is given = bind e (item_over e it.subject it.position) _ (λ x _. moved_on_so stays e k it x given is)

-- ---- how many items are left, and the place that an iterator is moved to

over_bytes_case : (b : Bool) (it found : Iterator) → (unless (not b) fault.UnknownName >>= λ _. Ok it) ≡ Ok found → it ≡ found
over_bytes_case true it found is = cc
over_bytes_case false it found is = absurd (cc)

over_bytes_of : (r : Result Iterator Fault) (found : Iterator) → (r >>= λ it. unless (not (is_over_bytes it.subject)) fault.UnknownName >>= λ _. Ok it) ≡ Ok found → r ≡ Ok found
over_bytes_of (Ok it) found is = ap (λ (x : Iterator). let there : Result Iterator Fault = Ok x in there) (over_bytes_case (is_over_bytes it.subject) it found is)
over_bytes_of (Err f) found is = absurd (cc)

put_by : MovedIteratorsStay → (e : Exporter) (k : ℕ) (it : Iterator) (state : Value) (b : Bool) → it.exhausted ≡ b → slice_get e.iterators k ≡ Some it → IfDone (IsIterated e) (put_unless b e k it state)
put_by stays e k it state true is given = read e reply.Ok refl
put_by stays e k it state false is given =
    bind e (number_of state) _ (λ number _.
    moved stays e k it (record it { position = clamped (length e.bytes) number }) reply.Ok given (at_place it (clamped (length e.bytes) number) is) refl)

-- ---- the laws

pub iter_safe : NewIteratorsStay → IterIsSafe
iter_safe new = (
  (λ e. bind e (unless (is_vector e.kind) fault.UnknownName) _ (λ _ _. made new e subject.Own)),
  (λ e k. bind e (live_layout e k) _ (λ layout _. made new e (subject.View k))),
)

pub iterators_safe : MovedIteratorsStay → IteratorsAreSafe
iterators_safe stays e k verb.Iter = bind e (iterator_at e k) _ (λ it _. read e reply.Itself refl)
iterators_safe stays e k verb.Next = bind e (iterator_at e k) _ (λ it found. next_by stays e k it it.exhausted refl (iterator_given (slice_get e.iterators k) it found))
iterators_safe stays e k verb.LengthHint = bind e (iterator_over_bytes e k) _ (λ it _. read e _ refl)
iterators_safe stays e k (verb.SetState state) =
    bind e (iterator_over_bytes e k) _ (λ it found.
    put_by stays e k it state it.exhausted refl (iterator_given (slice_get e.iterators k) it (over_bytes_of (iterator_at e k) it found)))
iterators_safe stays e k v = tt
