-- The number of numbers stays while a view is unreleased.
use Rattle.std.proofs.Common.{◌≡◌, ℕ, zero, suc, ◌+◌, ◌<◌, ◌≤◌, Bool, true, false, not, cond, List, [], ◌∷◌, ◌++◌, length, take, drop, map, set, refl, sym, ap, subst, ◌∙◌, arith, ℤ, slice_get, length-append, length-set}
use Rattle.std.specs.Prelude.{Result, Ok, Err, count_by, nat_lt, ok_or, unwrap_or, negsuc}
use Rattle.std.specs.List.{range_with_len}
use Rattle.std.proofs.lemmas.Bool.{ltb-false}
use Rattle.std.proofs.lemmas.List.{take-append-drop, take-take, length-map}
use Rattle.std.proofs.lemmas.List.Sums.{sum_by-cons}
use Rattle.pybuf_value.specs.declared.faults.Fault.{Fault}
use Rattle.pybuf_value.specs.declared.faults.Fault.TheVariants as fault
use Rattle.pybuf_value.specs.Refusing.{◌>>=◌, unless, IfDone, done_bind}
use Rattle.pybuf_array.specs.declared.operations.ArrayOp.{ArrayOp}
use Rattle.pybuf_array.specs.declared.operations.ArrayOp.TheVariants as op
use Rattle.pybuf_array.specs.declared.operations.ArrayReply.{ArrayReply}
use Rattle.pybuf_value.specs.Numbers.{fitted_number}
use Rattle.pybuf_index.specs.Parts.{saturated_parts_of, picks_of}
use Rattle.pybuf_index.specs.Places.{saturated_place, entry_in}
use Rattle.pybuf_slice.specs.Edits.{replaced_range}
use Rattle.pybuf_slice.specs.Reads.{elements_at}
use Rattle.pybuf_numbers.specs.Numbers.{numbers_of, is_whole, swapped}
use Rattle.pybuf_array.specs.declared.operations.ArrayReply.TheVariants as reply
use Rattle.pybuf_array.specs.Array.{Array, ArrayView, first_place, exports_in, may_resize, in_range, all_in_range, view_at, live_view, place_in_view, number_at, without, with_numbers, with_view, is_unreleased, appended, extended, inserted, popped, removed, read_from, number_named, put_at, view_sliced, number_in_view, put_in_view, released_in}
use Rattle.pybuf_array.specs.Operations.{replied, told, done, settled, astep, array_after_all, IsOut, is_out, KeepsLengthWhileViewed}

-- what stays from one array to a later one
pub record Keeps (a b : Array) : Type 0 where
  pub more : length a.views ≤ length b.views
  pub out : (k : ℕ) → k < length a.views → IsOut b k → IsOut a k
  pub same : (k : ℕ) → IsOut a k → length b.numbers ≡ length a.numbers

kept : (a : Array) → Keeps a a
kept a = record { more = omega arith; out = λ k there is. is; same = λ k is. refl }

none_out : (views : List ArrayView) (k : ℕ) → count_by is_unreleased views ≡ 0 → is_out (slice_get views k) ≡ true → ⊥
none_out [] k none is = cc
none_out (v ∷ views) zero none is =
    let sum : count_by is_unreleased (v ∷ views) ≡ cond (not v.released) 1 0 + count_by is_unreleased views = sum_by-cons (λ (w : ArrayView). cond (is_unreleased w) 1 0) v views in
    omega (arith, sum, ap {B = ℕ} (λ b. cond b 1 0) is)
none_out (v ∷ views) (suc k) none is =
    let sum : count_by is_unreleased (v ∷ views) ≡ cond (not v.released) 1 0 + count_by is_unreleased views = sum_by-cons (λ (w : ArrayView). cond (is_unreleased w) 1 0) v views in
    none_out views k (omega (arith, sum)) is

unless_not : (b r : Bool) (f : Fault) → unless b f ≡ Ok r → b ≡ false
unless_not true r f is = absurd cc
unless_not false r f is = refl

-- ---- the ways in which an array changes

resized : (a : Array) (numbers : List ℤ) (b : Bool) → may_resize a ≡ Ok b → Keeps a (with_numbers a numbers)
resized a numbers b may =
    let none : nat_lt 0 (exports_in a) ≡ false = unless_not (nat_lt 0 (exports_in a)) b fault.Buffer may in
    record {
      more = omega arith;
      out = λ k there is. is;
      same = λ k is. absurd (none_out a.views k (omega (arith, ltb-false _ _ none)) is);
    }

written : (a : Array) (numbers : List ℤ) → length numbers ≡ length a.numbers → Keeps a (with_numbers a numbers)
written a numbers long = record { more = omega arith; out = λ k there is. is; same = λ k is. long }

got_front : (views more : List ArrayView) (k : ℕ) → k < length views → slice_get (views ++ more) k ≡ slice_get views k
got_front [] more k there = absurd (omega arith)
got_front (v ∷ views) more zero there = refl
got_front (v ∷ views) more (suc k) there = got_front views more k (omega arith)

seen : (a : Array) (indices : List ℕ) → Keeps a (with_view a indices)
seen a indices = record {
  more = omega (arith, length-append a.views (record { indices = indices; released = false } ∷ []));
  out = λ k there is. ap is_out (sym (got_front a.views (record { indices = indices; released = false } ∷ []) k there)) ∙ is;
  same = λ k is. refl;
}

put_released : (views : List ArrayView) (j k : ℕ) (v : ArrayView) → v.released ≡ true → is_out (slice_get (set views j v) k) ≡ true → is_out (slice_get views k) ≡ true
put_released [] j k v over is = is
put_released (w ∷ views) zero zero v over is = let shut : not v.released ≡ false = ap not over in absurd cc
put_released (w ∷ views) zero (suc k) v over is = is
put_released (w ∷ views) (suc j) zero v over is = is
put_released (w ∷ views) (suc j) (suc k) v over is = put_released views j k v over is

shut : (a : Array) (j : ℕ) (v : ArrayView) → Keeps a (record a { views = set a.views j (record v { released = true }) })
shut a j v = record {
  more = omega (arith, length-set a.views j (record v { released = true }));
  out = λ k there is. put_released a.views j k (record v { released = true }) refl is;
  same = λ k is. refl;
}

-- ---- operations

abbrev To : {X : Type 0} → Array → Array × X → Type 0
To a after = Keeps a after.0

-- a chain of checks, each of whose results has a name
chain : {X A : Type 0} (a : Array) (r : Result A Fault) (f : A → Result (Array × X) Fault) → ((x : A) → r ≡ Ok x → IfDone (To a) (f x)) → IfDone (To a) (r >>= f)
chain a r f after = done_bind (To a) r f after

by_reply : {X : Type 0} (a : Array) (form : X → ArrayReply) (r : Result (Array × X) Fault) → IfDone (To a) r → Keeps a (settled a (replied form r)).0
by_reply a form (Ok after) keeps = keeps
by_reply a form (Err f) keeps = kept a

by_telling : {X : Type 0} (a : Array) (form : X → ArrayReply) (r : Result X Fault) → Keeps a (settled a (told a form r)).0
by_telling a form (Ok x) = kept a
by_telling a form (Err f) = kept a

abbrev resizing : {X : Type 0} → Array → List ℤ → X → Result (Array × X) Fault
resizing a numbers x = may_resize a >>= (λ _. Ok (with_numbers a numbers, x))

resizing_keeps : {X : Type 0} (a : Array) (numbers : List ℤ) (x : X) → IfDone (To a) (resizing a numbers x)
resizing_keeps a numbers x = chain a (may_resize a) (λ _. Ok (with_numbers a numbers, x)) (λ b may. resized a numbers b may)

abbrev inserted_in : Array → ℤ → ℤ → List ℤ
inserted_in a i n = replaced_range a.numbers (saturated_place (length a.numbers) i) (saturated_place (length a.numbers) i) (n ∷ [])

step_keeps : (a : Array) (o : ArrayOp) → Keeps a (astep a o).0
step_keeps a (op.Append value) =
    by_reply a done (appended a value)
    (chain a (in_range a value) (λ _. resizing a (a.numbers ++ value ∷ []) tt) (λ x is. resizing_keeps a (a.numbers ++ value ∷ []) tt))
step_keeps a (op.Extend values) =
    by_reply a done (extended a values)
    (chain a (all_in_range a values) (λ _. resizing a (a.numbers ++ values) tt) (λ x is. resizing_keeps a (a.numbers ++ values) tt))
step_keeps a (op.Insert index value) =
    by_reply a done (inserted a index value)
    (chain a (fitted_number fault.Overflow index) (λ i. in_range a value >>= (λ _. resizing a (inserted_in a i value) tt)) (λ i is.
    chain a (in_range a value) (λ _. resizing a (inserted_in a i value) tt) (λ x ranged. resizing_keeps a (inserted_in a i value) tt)))
step_keeps a (op.Pop index) =
    by_reply a reply.Number (popped a index)
    (chain a (fitted_number fault.Overflow (unwrap_or index (negsuc 0))) (λ i. entry_in (length a.numbers) i >>= (λ place. resizing a (without a place) (number_at a place))) (λ i is.
    chain a (entry_in (length a.numbers) i) (λ place. resizing a (without a place) (number_at a place)) (λ place there. resizing_keeps a (without a place) (number_at a place))))
step_keeps a (op.Remove value) =
    by_reply a done (removed a value)
    (chain a (ok_or (first_place a.numbers value) fault.Value) (λ place. resizing a (without a place) tt) (λ place is. resizing_keeps a (without a place) tt))
step_keeps a (op.FromBytes bytes) =
    by_reply a done (read_from a bytes)
    (chain a (unless (not (is_whole a.code bytes)) fault.Value) (λ _. resizing a (a.numbers ++ numbers_of a.code bytes) tt) (λ x is. resizing_keeps a (a.numbers ++ numbers_of a.code bytes) tt))
step_keeps a (op.Get index) = by_telling a reply.Number (number_named a index)
step_keeps a (op.Set index value) =
    by_reply a done (put_at a index value)
    (chain a (entry_in (length a.numbers) index) (λ place. in_range a value >>= (λ _. Ok (with_numbers a (set a.numbers place value), tt))) (λ place is.
    chain a (in_range a value) (λ _. Ok (with_numbers a (set a.numbers place value), tt)) (λ x ranged. written a (set a.numbers place value) (length-set a.numbers place value))))
step_keeps a op.Len = kept a
step_keeps a op.ToList = kept a
step_keeps a op.ToBytes = kept a
step_keeps a op.ByteSwap = written a (map (swapped a.code) a.numbers) (length-map a.numbers (swapped a.code))
step_keeps a op.View = seen a (range_with_len 0 (length a.numbers))
step_keeps a (op.ViewSlice view slice) =
    by_reply a reply.View (view_sliced a view slice)
    (chain a (live_view a view) (λ v. saturated_parts_of slice >>= (λ parts. Ok (with_view a (elements_at v.indices (picks_of (length v.indices) parts)), length a.views))) (λ v is.
    chain a (saturated_parts_of slice) (λ parts. Ok (with_view a (elements_at v.indices (picks_of (length v.indices) parts)), length a.views)) (λ parts good. seen a (elements_at v.indices (picks_of (length v.indices) parts)))))
step_keeps a (op.ViewGet view index) = by_telling a reply.Number (number_in_view a view index)
step_keeps a (op.ViewSet view index value) =
    by_reply a done (put_in_view a view index value)
    (chain a (place_in_view a view index) (λ place. in_range a value >>= (λ _. Ok (with_numbers a (set a.numbers place value), tt))) (λ place is.
    chain a (in_range a value) (λ _. Ok (with_numbers a (set a.numbers place value), tt)) (λ x ranged. written a (set a.numbers place value) (length-set a.numbers place value))))
step_keeps a (op.Release view) =
    by_reply a done (released_in a view)
    (chain a (view_at a view) (λ v. Ok (record a { views = set a.views view (record v { released = true }) }, tt)) (λ v is. shut a view v))

-- ---- runs

pub record StaysWhileOut (a b : Array) (k : ℕ) : Type 0 where
  pub out : IsOut a k
  pub same : length b.numbers ≡ length a.numbers

run_keeps : (a : Array) (ops : List ArrayOp) (k : ℕ) → k < length a.views → IsOut (array_after_all a ops) k → StaysWhileOut a (array_after_all a ops) k
run_keeps a [] k there is = record { out = is; same = refl }
run_keeps a (o ∷ ops) k there is =
    let step = step_keeps a o in
    let rest = run_keeps (astep a o).0 ops k (omega (arith, step.more)) is in
    let was = step.out k there rest.out in
    record { out = was; same = rest.same ∙ step.same k was }

after_all : (a : Array) (xs ys : List ArrayOp) → array_after_all a (xs ++ ys) ≡ array_after_all (array_after_all a xs) ys
after_all a [] ys = refl
after_all a (x ∷ xs) ys = after_all (astep a x).0 xs ys

pub lengths_stay : (a : Array) (ops : List ArrayOp) → KeepsLengthWhileViewed a ops
lengths_stay a ops m n k ordered there is =
    let first : Array = array_after_all a (take m ops) in
    let rest : List ArrayOp = drop m (take n ops) in
    let cut : take n ops ≡ take m ops ++ rest = sym (take-append-drop m (take n ops)) ∙ ap (λ front. front ++ rest) (take-take m n ops ordered) in
    let whole : array_after_all a (take n ops) ≡ array_after_all first rest = ap (array_after_all a) cut ∙ after_all a (take m ops) rest in
    ap (λ (b : Array). length b.numbers) whole ∙ (run_keeps first rest k there (subst (λ (b : Array). IsOut b k) whole is)).same
