-- The first place of a byte, as `bstr` and as std name it.
use Rattle.std.proofs.Common.{◌≡◌, ℕ, ◌<◌, Bool, ◌==◌, List, length, Option, Some, None, arith, tests}
use Rattle.std.specs.List.{position, position_or_len}
use Rattle.std.proofs.lemmas.Bool.{false_from_ne_true}
use Rattle.std.proofs.lemmas.List.Sums.{position_or_len_is}
use Rattle.bstr.specs.Find.{IsFirstByte, is_byte}

at_end : (test : ℕ → Bool) (bytes : List ℕ) → position_or_len test bytes ≡ length bytes → None ≡ position test bytes
at_end test bytes h = grind (arith, tests)

at_place : (test : ℕ → Bool) (bytes : List ℕ) (i : ℕ) → i < length bytes → position_or_len test bytes ≡ i → Some i ≡ position test bytes
at_place test bytes i high h = grind (arith, tests)

pub position_of_byte : (byte : ℕ) (bytes : List ℕ) (found : Option ℕ) → IsFirstByte (is_byte byte) bytes found → found ≡ position (λ b. b == byte) bytes
position_of_byte byte bytes None h =
    at_end (is_byte byte) bytes
    (position_or_len_is (is_byte byte) bytes (length bytes) 0 (omega arith) (λ k below. false_from_ne_true _ (h k (omega arith) below)) (λ below. absurd (omega arith)))
position_of_byte byte bytes (Some i) h =
    let high : i < length bytes = h.0.high in
    at_place (is_byte byte) bytes i high
    (position_or_len_is (is_byte byte) bytes i 0 (omega arith) (λ k below. false_from_ne_true _ (h.0.before k (omega arith) below)) (λ below. h.1))
