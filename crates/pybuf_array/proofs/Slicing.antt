-- A slice of a slice of a view shows what the second picks among the picks of the first.
use Rattle.std.proofs.Common.{◌≡◌, ℕ, zero, suc, ◌<◌, false, List, [], ◌∷◌, ◌++◌, length, refl, sym, ◌∙◌, ap, arith}
use Rattle.std.specs.Prelude.{Option, Some, None, Result, Ok, Err, slice_get}
use Rattle.std.specs.List.{All, cons_option}
use Rattle.std.specs.Option.{ok_or, option_and_then}
use Rattle.std.proofs.lemmas.Option.{slice_get-get_or}
use Rattle.pybuf_index.specs.Facts.{slice_parts_move}
use Rattle.pybuf_value.specs.declared.faults.Fault.{Fault}
use Rattle.pybuf_value.specs.declared.faults.Fault.TheVariants as fault
use Rattle.pybuf_value.specs.declared.values.PySlice.{PySlice}
use Rattle.pybuf_value.specs.Refusing.{◌>>=◌, unless}
use Rattle.pybuf_index.specs.Parts.{SliceParts, saturated_parts_of, picks_of}
use Rattle.pybuf_index.specs.Laws.{EachSlice, PicksAre}
use Rattle.pybuf_slice.specs.Reads.{elements_at}
use Rattle.pybuf_array.specs.Array.{Array, ArrayView, live_view, with_view, view_sliced}
use Rattle.pybuf_array.specs.Laws.{picks_of_picks, SlicesOfSlices}

-- ---- elements of elements

-- The element at the first index comes first, and then the elements at the other indices.
with_first : (xs : List ℕ) (p x : ℕ) (ps : List ℕ) → slice_get xs p ≡ Some x → elements_at xs (p ∷ ps) ≡ x ∷ elements_at xs ps
with_first xs p x ps there = ap (λ (o : Option ℕ). cons_option o (elements_at xs ps)) there

rest_below : (n p : ℕ) (ps : List ℕ) → All (λ i. i < n) (p ∷ ps) → All (λ i. i < n) ps
rest_below n p ps below = λ k d there. below (suc k) d (omega (arith, there))

first_there : (xs : List ℕ) (p : ℕ) (ps : List ℕ) → All (λ i. i < length xs) (p ∷ ps) → (x : ℕ) × (slice_get xs p ≡ Some x)
first_there xs p ps below = (_, slice_get-get_or xs p 0 (below 0 0 (omega arith)))

as_many : (xs ps : List ℕ) → All (λ i. i < length xs) ps → length (elements_at xs ps) ≡ length ps
as_many xs [] below = refl
as_many xs (p ∷ ps) below =
    let there = first_there xs p ps below in
    ap (λ (ys : List ℕ). length ys) (with_first xs p there.0 ps there.1) ∙ ap suc (as_many xs ps (rest_below (length xs) p ps below))

-- The element at a place of such a list is the one at the index that stands there.
element_there : (xs ps : List ℕ) (k : ℕ) → All (λ i. i < length xs) ps →
    slice_get (elements_at xs ps) k ≡ option_and_then (slice_get xs) (slice_get ps k)
element_there xs [] k below = refl
element_there xs (p ∷ ps) zero below =
    let there = first_there xs p ps below in
    ap (λ (ys : List ℕ). slice_get ys 0) (with_first xs p there.0 ps there.1) ∙ sym there.1
element_there xs (p ∷ ps) (suc k) below =
    let there = first_there xs p ps below in
    ap (λ (ys : List ℕ). slice_get ys (suc k)) (with_first xs p there.0 ps there.1) ∙ element_there xs ps k (rest_below (length xs) p ps below)

one_more : (xs : List ℕ) (o : Option ℕ) (qs : List ℕ) →
    cons_option (option_and_then (slice_get xs) o) (elements_at xs qs) ≡ elements_at xs (cons_option o qs)
one_more xs None qs = refl
one_more xs (Some p) qs = refl

chosen_twice : (xs ps qs : List ℕ) → All (λ i. i < length xs) ps → elements_at (elements_at xs ps) qs ≡ elements_at xs (elements_at ps qs)
chosen_twice xs ps [] below = refl
chosen_twice xs ps (q ∷ qs) below =
    ap (λ (o : Option ℕ). cons_option o (elements_at (elements_at xs ps) qs)) (element_there xs ps q below)
    ∙ (ap (cons_option (option_and_then (slice_get xs) (slice_get ps q))) (chosen_twice xs ps qs below)
    ∙ one_more xs (slice_get ps q) (elements_at ps qs))

-- ---- slices of views

-- The array with one more view, which shows what a slice picks of another. The pair has the number of the new
-- view.
abbrev with_slice : Array → ArrayView → SliceParts → Array × ℕ
with_slice a v parts = (with_view a (elements_at v.indices (picks_of (length v.indices) parts)), length a.views)

abbrev slicing : Array → ArrayView → Result SliceParts Fault → Result (Array × ℕ) Fault
slicing a v read = read >>= (λ parts. Ok (with_slice a v parts))

-- a view that was sliced, by the parts of the slice
record IsSliced (a : Array) (v : ArrayView) (read : Result SliceParts Fault) (b : Array) (m : ℕ) : Type 0 where
  parts : SliceParts
  is : read ≡ Ok parts
  after : b ≡ with_view a (elements_at v.indices (picks_of (length v.indices) parts))
  number : m ≡ length a.views

sliced_by : (a : Array) (v : ArrayView) (read : Result SliceParts Fault) (b : Array) (m : ℕ) →
    slicing a v read ≡ Ok (b, m) →
    IsSliced a v read b m
sliced_by a v (Ok parts) b m is =
    let done : with_slice a v parts ≡ (b, m) = cc in
    record {
      parts = parts;
      is = refl;
      after = ap (λ (x : Array × ℕ). x.0) (sym done);
      number = ap (λ (x : Array × ℕ). x.1) (sym done);
    }
sliced_by a v (Err f) b m is = absurd (cc)

sliced : (a b : Array) (v : ArrayView) (k m : ℕ) (s : PySlice) → live_view a k ≡ Ok v → view_sliced a k s ≡ Ok (b, m) →
    IsSliced a v (saturated_parts_of s) b m
sliced a b v k m s live is =
    sliced_by a v (saturated_parts_of s) b m
    (ap (λ (r : Result ArrayView Fault). r >>= (λ w. slicing a w (saturated_parts_of s))) (sym live) ∙ is)

last_there : (views : List ArrayView) (v : ArrayView) → slice_get (views ++ v ∷ []) (length views) ≡ Some v
last_there [] v = refl
last_there (w ∷ views) v = last_there views v

-- The view that was made last is unreleased.
last_live : (a : Array) (indices : List ℕ) → live_view (with_view a indices) (length a.views) ≡ Ok (record { indices = indices; released = false })
last_live a indices =
    ap (λ (o : Option ArrayView). ok_or o fault.UnknownName >>= (λ v. unless v.released fault.Value >>= (λ _. Ok v)))
    (last_there a.views (record { indices = indices; released = false }))

pub slices_of_slices : EachSlice PicksAre → SlicesOfSlices
slices_of_slices picks_are a b c v k m n s t live once twice =
    let first = sliced a b v k m s live once in
    let chosen : List ℕ = elements_at v.indices (picks_of (length v.indices) first.parts) in
    let made : ArrayView = record { indices = chosen; released = false } in
    let next : live_view b m ≡ Ok made =
    ap (λ (x : Array). live_view x m) first.after ∙ (ap (live_view (with_view a chosen)) first.number ∙ last_live a chosen) in
    let second = sliced b c made m n t next twice in
    let below : All (λ i. i < length v.indices) (picks_of (length v.indices) first.parts) =
    (picks_are (length v.indices) first.parts.start first.parts.stop first.parts.step (slice_parts_move s first.parts first.is)).inside in
    let long : length chosen ≡ length (picks_of (length v.indices) first.parts) = as_many v.indices (picks_of (length v.indices) first.parts) below in
    let shown : elements_at chosen (picks_of (length chosen) second.parts) ≡ elements_at v.indices (picks_of_picks (length v.indices) first.parts second.parts) =
    ap (λ (l : ℕ). elements_at chosen (picks_of l second.parts)) long
    ∙ chosen_twice v.indices (picks_of (length v.indices) first.parts) (picks_of (length (picks_of (length v.indices) first.parts)) second.parts) below in
    record {
      first = first.parts;
      second = second.parts;
      first_of = first.is;
      second_of = second.is;
      shown =
          ap (λ (x : Array). slice_get x.views n) second.after
          ∙ (ap (slice_get (with_view b (elements_at chosen (picks_of (length chosen) second.parts))).views) second.number
          ∙ (last_there b.views (record { indices = elements_at chosen (picks_of (length chosen) second.parts); released = false })
          ∙ ap (λ (i : List ℕ). Some (record { indices = i; released = false })) shown));
    }
