-- The first record of bytes, and the records after it.
use Rattle.std.proofs.Common.{◌≡◌, ℕ, ◌-◌, ◌<◌, ◌≤◌, ◌%◌, List, ◌∷◌, length, take, drop, sym, ap, ◌∙◌, inl, inr, arith}
use Rattle.std.proofs.lemmas.Bool.{cases_lt}
use Rattle.std.proofs.lemmas.List.{length-drop}
use Rattle.std.proofs.Math.Nat.{mod-eq-sub-mod, mod-eq_of_lt}
use Rattle.pybuf_table.specs.Facts.{rows_more}
use Rattle.pybuf_value.specs.declared.values.Scalar.{Scalar}
use Rattle.pybuf_struct.specs.Formats.{Format}
use Rattle.pybuf_struct.specs.Values.{values}
use Rattle.pybuf_table.specs.Records.{rows, IsLeft}

pub left_more : (f : Format) (bytes : List ℕ) → IsLeft f bytes → f.size ≤ length bytes → IsLeft f (drop f.size bytes)
left_more f bytes is within = record {
  some_size = is.some_size;
  whole = ap (λ (n : ℕ). n % f.size) (length-drop f.size bytes) ∙ sym (mod-eq-sub-mod within) ∙ is.whole;
}

-- The bytes of whole records have a record if there are any bytes.
pub has_record : (f : Format) (bytes : List ℕ) → IsLeft f bytes → 0 < length bytes → f.size ≤ length bytes
has_record f bytes is some =
    elim (cases_lt (length bytes) f.size) [
      | inl less ↦ let rest : length bytes % f.size ≡ length bytes = mod-eq_of_lt less in absurd (omega (arith, rest, is.whole))
      | inr within ↦ within
    ]

pub row_comes : (f : Format) (bytes front rest : List ℕ) (size : ℕ) (row : List Scalar) → IsLeft f bytes → 0 < length bytes → size ≡ f.size → front ≡ take size bytes → rest ≡ drop size bytes → row ≡ values f front
    → rows f bytes ≡ row ∷ rows f rest
row_comes f bytes front rest size row is some size_is front_is rest_is row_is =
    let more : rows f bytes ≡ values f (take f.size bytes) ∷ rows f (drop f.size bytes) = rows_more f bytes is.some_size (has_record f bytes is some) in
    rw (row_is, front_is, rest_is, size_is) more

pub left_past : (f : Format) (bytes rest : List ℕ) (size : ℕ) → IsLeft f bytes → 0 < length bytes → size ≡ f.size → rest ≡ drop size bytes → IsLeft f rest
left_past f bytes rest size is some size_is rest_is = rw (rest_is, size_is) (left_more f bytes is (has_record f bytes is some))
