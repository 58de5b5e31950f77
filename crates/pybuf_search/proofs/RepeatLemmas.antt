-- The bytes, repeated n times.
use Rattle.std.proofs.Common.{◌≡◌, ℕ, zero, suc, ◌+◌, ◌*◌, List, [], ◌∷◌, ◌++◌, length, refl, ap, arith, length-append, add-one}
use Rattle.std.proofs.Common.{◌^◌, nat_lt, Ok, Err, if◌then◌else◌}
use Rattle.bstr.specs.Text.{repeated}
use Rattle.pybuf_value.specs.declared.faults.Fault.TheVariants as fault
use Rattle.pybuf_value.specs.Texts.{fitted}

pub repeated_zero : (bytes : List ℕ) → repeated 0 bytes ≡ []
unfolding repeated
repeated_zero bytes = refl

-- If there are no bytes, there are still none, however often they are repeated.
pub repeated_none : (n : ℕ) (bytes : List ℕ) → length bytes ≡ 0 → repeated n bytes ≡ []
unfolding repeated
repeated_none zero bytes none = refl
repeated_none (suc n) [] none = ap (λ l. l ++ []) (repeated_none n [] none)
repeated_none (suc n) (b ∷ bytes) none = absurd (omega arith)

pub length-repeated : (n : ℕ) (bytes : List ℕ) → length (repeated n bytes) ≡ length bytes * n
unfolding repeated
length-repeated zero bytes = omega arith
length-repeated (suc n) bytes = grind (arith, length-append (repeated n bytes) bytes, length-repeated n bytes)

-- the bytes, repeated once more
pub repeated_next : (n : ℕ) (bytes : List ℕ) → repeated (n + 1) bytes ≡ repeated n bytes ++ bytes
unfolding repeated
repeated_next n bytes = ap (λ k. repeated k bytes) (add-one n)

-- The number of the bytes alone tells whether there are too many.
pub fitted_repeated : (n : ℕ) (bytes : List ℕ) → fitted (repeated n bytes) ≡ (if nat_lt (length bytes * n) (2 ^ 63) then Ok (repeated n bytes) else Err fault.Overflow)
fitted_repeated n bytes = ap (λ (size : ℕ). if nat_lt size (2 ^ 63) then Ok (repeated n bytes) else Err fault.Overflow) (length-repeated n bytes)
