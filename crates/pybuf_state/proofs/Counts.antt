-- How many items a shape has once one more entry is counted.
use Rattle.std.proofs.Common.{◌≡◌, ℕ, zero, suc, ◌+◌, ◌*◌, ◌<◌, ◌≤◌, List, length, take, get_or, ap, sym, ◌∙◌, arith, min, ◌⊎◌, inl, inr}
use Rattle.std.proofs.Math.Nat.{mul_assoc, mul-zero, min-eq_left, min-eq_right, le_refl, le_trans, le-mul_of_pos_right}
use Rattle.std.proofs.lemmas.Bool.{cases_lt}
use Rattle.std.proofs.lemmas.List.{take_more}
use Rattle.pybuf_desc.specs.Facts.{product-push}
use Rattle.pybuf_desc.specs.Layouts.{product}
use Rattle.pybuf_memoryview.specs.Sized.{byte_count}

past : (a n most : ℕ) → most ≤ a → min (a * suc n) most ≡ most
past a n most over = min-eq_right (le_trans over (le-mul_of_pos_right a (omega arith)))

cut_past : (a n most : ℕ) → most ≤ a → min (most * n) most ≡ min (a * n) most
cut_past a zero most over = ap (λ k. min k most) (mul-zero most ∙ sym (mul-zero a))
cut_past a (suc n) most over = past most n most (le_refl most) ∙ sym (past a n most over)

cut_case : (a n most : ℕ) → (a < most) ⊎ (most ≤ a) → min (min a most * n) most ≡ min (a * n) most
cut_case a n most (inl under) = ap (λ k. min (k * n) most) (min-eq_left (omega (arith, under)))
cut_case a n most (inr over) = ap (λ k. min (k * n) most) (min-eq_right over) ∙ cut_past a n most over

-- a count that was cut off before can be cut off again without change
pub cut_again : (a n most : ℕ) → min (min a most * n) most ≡ min (a * n) most
cut_again a n most = cut_case a n most (cases_lt a most)

pub count_more : (itemsize : ℕ) (shape : List ℕ) (i d most : ℕ) → i < length shape → min (min (byte_count itemsize (take i shape)) most * get_or shape i d) most ≡ min (byte_count itemsize (take (i + 1) shape)) most
count_more itemsize shape i d most below =
    let n : ℕ = get_or shape i d in
    let grown : byte_count itemsize (take i shape) * n ≡ byte_count itemsize (take (i + 1) shape) =
    mul_assoc itemsize (product (take i shape)) n ∙ ap (λ k. itemsize * k) (sym (product-push (take i shape) n))
    ∙ ap (λ (xs : List ℕ). byte_count itemsize xs) (sym (take_more shape i d below)) in
    cut_again (byte_count itemsize (take i shape)) n most ∙ ap (λ k. min k most) grown
