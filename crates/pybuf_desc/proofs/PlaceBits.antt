-- A place that the code computes over bits is the number that it stands for.
use Rattle.std.proofs.Common.{◌≡◌, ℕ, ◌^◌, ◌<◌, ℤ, pos, negsuc, ◌+ℤ◌, ◌-ℤ◌, ◌*ℤ◌, ◌≤ℤ◌, ◌<ℤ◌, nat_abs, ap, ap₂, sym, ◌∙◌, subst, arith, Fits, SFits, w64, to_z, of_z}
use Rattle.std.proofs.lemmas.Int.{ints, to_z-of_z, to_z_pos}
use lib.Dec.{T}
use lib.Signed.{non_neg}

-- a number that is at least 0 and fits `isize` is a `usize`
pub is_place : (z : ℤ) → pos 0 ≤ℤ z → z <ℤ pos (2 ^ 63) → T (non_neg z) × Fits w64 (nat_abs z)
is_place (pos n) low high = (tt, let fits : n < 2 ^ 63 = omega (arith, ints, high) in record { fits = omega (arith, fits) })
is_place (negsuc n) low high = absurd (omega (arith, ints, low))

place_fits : (z : ℤ) → pos 0 ≤ℤ z → z <ℤ pos (2 ^ 63) → SFits w64 z
place_fits z low high = omega (arith, ints, low, high)

-- the product of a count and a stride fits
product_of : (count : ℕ) (stride : ℤ) → count < 2 ^ 63 → SFits w64 stride → SFits w64 (pos count *ℤ stride) → to_z w64 (of_z w64 (to_z w64 count *ℤ to_z w64 (of_z w64 stride))) ≡ pos count *ℤ stride
product_of count stride f g h =
    ap (λ (z : ℤ). to_z w64 (of_z w64 z)) (ap₂ (λ (x y : ℤ). x *ℤ y) (to_z_pos w64 count f) (to_z-of_z w64 stride g)) ∙ to_z-of_z w64 (pos count *ℤ stride) h

pub place_after : (place count : ℕ) (stride : ℤ) → place < 2 ^ 63 → count < 2 ^ 63 → SFits w64 stride → SFits w64 (pos count *ℤ stride)
    → pos 0 ≤ℤ (pos place +ℤ pos count *ℤ stride) → (pos place +ℤ pos count *ℤ stride) <ℤ pos (2 ^ 63)
    → T (non_neg (to_z w64 (of_z w64 (to_z w64 place +ℤ to_z w64 (of_z w64 (to_z w64 count *ℤ to_z w64 (of_z w64 stride)))))))
    × Fits w64 (nat_abs (to_z w64 (of_z w64 (to_z w64 place +ℤ to_z w64 (of_z w64 (to_z w64 count *ℤ to_z w64 (of_z w64 stride)))))))
place_after place count stride e f g h low high =
    let sum : ℤ = pos place +ℤ pos count *ℤ stride in
    let same : to_z w64 (of_z w64 (to_z w64 place +ℤ to_z w64 (of_z w64 (to_z w64 count *ℤ to_z w64 (of_z w64 stride))))) ≡ sum =
    ap (λ (z : ℤ). to_z w64 (of_z w64 z)) (ap₂ (λ (x y : ℤ). x +ℤ y) (to_z_pos w64 place e) (product_of count stride f g h)) ∙ to_z-of_z w64 sum (place_fits sum low high) in
    subst (λ (z : ℤ). T (non_neg z) × Fits w64 (nat_abs z)) (sym same) (is_place sum low high)

pub place_earlier : (place count : ℕ) (stride : ℤ) → place < 2 ^ 63 → count < 2 ^ 63 → SFits w64 stride → SFits w64 (pos count *ℤ stride)
    → pos 0 ≤ℤ (pos place -ℤ pos count *ℤ stride) → (pos place -ℤ pos count *ℤ stride) <ℤ pos (2 ^ 63)
    → T (non_neg (to_z w64 (of_z w64 (to_z w64 place -ℤ to_z w64 (of_z w64 (to_z w64 count *ℤ to_z w64 (of_z w64 stride)))))))
    × Fits w64 (nat_abs (to_z w64 (of_z w64 (to_z w64 place -ℤ to_z w64 (of_z w64 (to_z w64 count *ℤ to_z w64 (of_z w64 stride)))))))
place_earlier place count stride e f g h low high =
    let difference : ℤ = pos place -ℤ pos count *ℤ stride in
    let same : to_z w64 (of_z w64 (to_z w64 place -ℤ to_z w64 (of_z w64 (to_z w64 count *ℤ to_z w64 (of_z w64 stride))))) ≡ difference =
    ap (λ (z : ℤ). to_z w64 (of_z w64 z)) (ap₂ (λ (x y : ℤ). x -ℤ y) (to_z_pos w64 place e) (product_of count stride f g h)) ∙ to_z-of_z w64 difference (place_fits difference low high) in
    subst (λ (z : ℤ). T (non_neg z) × Fits w64 (nat_abs z)) (sym same) (is_place difference low high)
