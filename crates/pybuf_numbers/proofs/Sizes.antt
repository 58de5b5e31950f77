-- The sizes of codes.
use Rattle.std.proofs.Common.{◌≡◌, ℕ, ◌*◌, ◌/◌, ◌%◌, ◌<◌, refl, arith, ap, ◌∙◌, ◌⊎◌, inl, inr}
use Rattle.std.specs.Prelude.{IsTrue, true, ◌==◌}
use Rattle.std.proofs.Math.Nat.{mul-div_cancel_left, mul-mod_right, div-add-mod}
use Rattle.std.proofs.lemmas.Bool.Decides.{nat_tests}
use Rattle.pybuf_struct.specs.Digits.{is_width}
use Rattle.pybuf_numbers.specs.declared.codes.ArrayCode.{ArrayCode}
use Rattle.pybuf_numbers.specs.declared.codes.ArrayCode.TheVariants as code
use Rattle.pybuf_numbers.specs.Codes.{size_of}

pub some_size : (c : ArrayCode) → 0 < size_of c
some_size code.SByte = omega arith
some_size code.UByte = omega arith
some_size code.Short = omega arith
some_size code.UShort = omega arith
some_size code.Int = omega arith
some_size code.UInt = omega arith
some_size code.Long = omega arith
some_size code.ULong = omega arith
some_size code.LongLong = omega arith
some_size code.ULongLong = omega arith

pub is_a_width : (c : ArrayCode) → IsTrue (is_width (size_of c))
is_a_width code.SByte = refl
is_a_width code.UByte = refl
is_a_width code.Short = refl
is_a_width code.UShort = refl
is_a_width code.Int = refl
is_a_width code.UInt = refl
is_a_width code.Long = refl
is_a_width code.ULong = refl
is_a_width code.LongLong = refl
is_a_width code.ULongLong = refl

-- If a length is k times a size, it has room for k of that size.
pub count_from_length : (s k n : ℕ) → 0 < s → n ≡ s * k → n / s ≡ k
count_from_length s k n some same = ap (λ m. m / s) same ∙ mul-div_cancel_left k some

pub whole_from_length : (s k n : ℕ) → n ≡ s * k → (n % s == 0) ≡ true
whole_from_length s k n same = let none : n % s ≡ 0 = ap (λ m. m % s) same ∙ mul-mod_right s k in rw none refl

pub length_from_whole : (s n : ℕ) → (n % s == 0) ≡ true → n ≡ s * (n / s)
length_from_whole s n whole = let none : n % s ≡ 0 = grind (arith, nat_tests) in omega (arith, div-add-mod n s)

pub sizes : (c : ArrayCode) → (size_of c ≡ 1) ⊎ ((size_of c ≡ 2) ⊎ ((size_of c ≡ 4) ⊎ (size_of c ≡ 8)))
sizes code.SByte = inl refl
sizes code.UByte = inl refl
sizes code.Short = inr (inl refl)
sizes code.UShort = inr (inl refl)
sizes code.Int = inr (inr (inl refl))
sizes code.UInt = inr (inr (inl refl))
sizes code.Long = inr (inr (inr refl))
sizes code.ULong = inr (inr (inr refl))
sizes code.LongLong = inr (inr (inr refl))
sizes code.ULongLong = inr (inr (inr refl))
