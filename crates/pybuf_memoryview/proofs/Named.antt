-- The items that keys name exist.
use Rattle.std.proofs.Common.{◌≡◌, ℕ, ◌+◌, ◌*◌, ◌<◌, List, [], ◌∷◌, length, map, Bool, true, false, ◌∙◌, refl, subst, arith, mul_comm}
use Rattle.std.specs.Prelude.{ℤ, ◌==◌, not, nat_lt, slice_index, Result, Ok, Err, if◌then◌else◌}
use Rattle.std.specs.List.{list_all}
use Rattle.std.proofs.lemmas.Bool.{eqb-true, ltb-false}
use Rattle.std.proofs.lemmas.List.{length-map}
use Rattle.std.proofs.lemmas.Nat.{mul-add-lt}
use Rattle.pybuf_lemmas.proofs.Booleans.{true_if_not_false}
use Rattle.pybuf_value.specs.Facts.{done_holds, passed_unless}
use Rattle.pybuf_index.specs.Facts.{entry_below}
use Rattle.pybuf_value.specs.declared.faults.Fault.{Fault}
use Rattle.pybuf_value.specs.declared.faults.Fault.TheVariants as fault
use Rattle.pybuf_value.specs.declared.values.Scalar.{Scalar}
use Rattle.pybuf_value.specs.declared.values.Scalar.TheVariants as scalar
use Rattle.pybuf_value.specs.declared.values.Value.{Value}
use Rattle.pybuf_value.specs.declared.values.Value.TheVariants as value
use Rattle.pybuf_value.specs.Refusing.{unless, IfDone, done_bind}
use Rattle.pybuf_index.specs.Places.{entry_in}
use Rattle.pybuf_desc.specs.Layouts.{product}
use Rattle.pybuf_memoryview.specs.Items.{index_in}
use Rattle.pybuf_memoryview.specs.Keys.{is_number, part_number, fits_word, item_at_indices, item_of_tuple, item_of_index, item_among, only_item, item_of_key}
use Rattle.pybuf_memoryview.specs.Laws.{KeysNameItems}

-- the item is one of those of a shape
abbrev Below : List ℕ → ℕ → Type 0
Below shape item = item < product shape

at_indices : (shape : List ℕ) (indices : List ℤ) → length indices ≡ length shape → IfDone (Below shape) (item_at_indices shape indices)
at_indices [] [] one_each = omega arith
at_indices [] (index ∷ indices) one_each = absurd (omega (arith, one_each))
at_indices (n ∷ shape) [] one_each = absurd (omega (arith, one_each))
at_indices (n ∷ shape) (index ∷ indices) one_each =
    done_bind (Below (n ∷ shape)) (entry_in n index) _ (λ entry found.
    done_bind (Below (n ∷ shape)) (item_at_indices shape indices) _ (λ item rest.
    subst (λ (most : ℕ). entry * product shape + item < most) (mul_comm (product shape) n)
    (mul-add-lt entry (product shape) item n (entry_below n index entry found)
    (done_holds (Below shape) (item_at_indices shape indices) item (at_indices shape indices (let same : length indices ≡ length shape = omega (arith, one_each) in same)) rest))))

-- two lengths are equal if neither is less than the other
as_long : (a b : ℕ) → nat_lt a b ≡ false → nat_lt b a ≡ false → a ≡ b
as_long a b below above = omega (arith, ltb-false a b below, ltb-false b a above)

of_tuple : (shape : List ℕ) (parts : List Scalar) → IfDone (Below shape) (item_of_tuple shape parts)
of_tuple shape parts =
    let P = Below shape in
    done_bind P (unless (not (list_all is_number parts)) fault.Kind) _ (λ _ _.
    done_bind P (unless (not (list_all fits_word parts)) fault.Index) _ (λ _ _.
    done_bind P (unless (nat_lt (length parts) (length shape)) fault.NotImplemented) _ (λ u few.
    done_bind P (unless (nat_lt (length shape) (length parts)) fault.Kind) _ (λ v many.
    at_indices shape (map part_number parts)
    (length-map parts part_number ∙ as_long (length parts) (length shape) (passed_unless (nat_lt (length parts) (length shape)) fault.NotImplemented u few) (passed_unless (nat_lt (length shape) (length parts)) fault.Kind v many))))))

one_entry : (shape : List ℕ) (entry : ℕ) → length shape ≡ 1 → entry < slice_index shape 0 → Below shape entry
one_entry [] entry one below = absurd (omega (arith, one))
one_entry (n ∷ []) entry one below = let here : entry < n = below in omega (arith, here)
one_entry (n ∷ (m ∷ shape)) entry one below = absurd (omega (arith, one))

done_entry : (shape : List ℕ) (index : ℤ) → length shape ≡ 1 → (r : Result ℕ Fault) → entry_in (slice_index shape 0) index ≡ r → IfDone (Below shape) r
done_entry shape index one (Ok entry) is = one_entry shape entry one (entry_below (slice_index shape 0) index entry is)
done_entry shape index one (Err f) is = tt

of_index : (shape : List ℕ) (key : Value) → IfDone (Below shape) (item_of_index shape key)
of_index shape key =
    let P = Below shape in
    done_bind P (index_in key) _ (λ index _.
    done_bind P (unless (not (length shape == 1)) fault.NotImplemented) _ (λ u one.
    done_entry shape index (eqb-true (length shape) 1 (true_if_not_false (length shape == 1) (passed_unless (not (length shape == 1)) fault.NotImplemented u one))) (entry_in (slice_index shape 0) index) refl))

among : (shape : List ℕ) (key : Value) → IfDone (Below shape) (item_among shape key)
among shape (value.Tuple parts) = of_tuple shape parts
among shape (value.Slices []) = of_index shape (value.Slices [])
among shape (value.Slices (slice ∷ slices)) = tt
among shape (value.One s) = of_index shape (value.One s)
among shape (value.Slice s) = of_index shape (value.Slice s)
among shape (value.List parts) = of_index shape (value.List parts)

-- a view without dimensions has one item
only : (shape : List ℕ) → length shape ≡ 0 → Below shape 0
only [] none = omega arith
only (n ∷ shape) none = absurd (omega (arith, none))

only_named : (shape : List ℕ) (key : Value) → length shape ≡ 0 → IfDone (Below shape) (only_item key)
only_named shape (value.Tuple []) none = only shape none
only_named shape (value.Tuple (part ∷ parts)) none = tt
only_named shape (value.One scalar.None) none = tt
only_named shape (value.One (scalar.Bool truth)) none = tt
only_named shape (value.One (scalar.Int n)) none = tt
only_named shape (value.One (scalar.Text text)) none = tt
only_named shape (value.One (scalar.Bytes bytes)) none = tt
only_named shape (value.One scalar.Ellipsis) none = only shape none
only_named shape (value.One (scalar.Handle h)) none = tt
only_named shape (value.Slice s) none = tt
only_named shape (value.List parts) none = tt
only_named shape (value.Slices slices) none = tt

chosen : (shape : List ℕ) (key : Value) (b : Bool) → (length shape == 0) ≡ b → IfDone (Below shape) (if b then only_item key else item_among shape key)
chosen shape key true is = only_named shape key (eqb-true (length shape) 0 is)
chosen shape key false is = among shape key

pub named_below : KeysNameItems
named_below shape key item is = done_holds (Below shape) (item_of_key shape key) item (chosen shape key (length shape == 0) refl) is
