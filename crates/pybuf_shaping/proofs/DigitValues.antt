-- The table of the values of digits is right for each byte.
use Rattle.std.proofs.Common.{◌≡◌, refl, sym, ap, ◌∙◌, ℕ, ◌<◌, List, [], ◌∷◌, Option, Some, None, Bool, true, false, get_or, slice_index, ◌==◌, arith}
use Rattle.std.specs.List.{list_all, range_with_len}
use Rattle.std.specs.Prelude.{nat_lt, not, ◌&&◌}
use Rattle.std.proofs.lemmas.Bool.{eqb-true, lt-ltb}
use Rattle.std.proofs.lemmas.List.FromFn.{get_or-range_with_len}
use Rattle.std.proofs.lemmas.List.Sums.{AllPass-from_list_all}
use Rattle.hex.specs.Hex.{hex_digit_value}
use Rattle.pybuf_letters.specs.Classes.{is_blank}
use Rattle.pybuf_shaping.specs.Digits.{value_below_16}

abbrev pub values : List ℕ
values =
    16 ∷ 16 ∷ 16 ∷ 16 ∷ 16 ∷ 16 ∷ 16 ∷ 16 ∷ 16 ∷ 16 ∷ 16 ∷ 16 ∷ 16 ∷ 16 ∷ 16 ∷ 16 ∷
    16 ∷ 16 ∷ 16 ∷ 16 ∷ 16 ∷ 16 ∷ 16 ∷ 16 ∷ 16 ∷ 16 ∷ 16 ∷ 16 ∷ 16 ∷ 16 ∷ 16 ∷ 16 ∷
    16 ∷ 16 ∷ 16 ∷ 16 ∷ 16 ∷ 16 ∷ 16 ∷ 16 ∷ 16 ∷ 16 ∷ 16 ∷ 16 ∷ 16 ∷ 16 ∷ 16 ∷ 16 ∷
    0 ∷ 1 ∷ 2 ∷ 3 ∷ 4 ∷ 5 ∷ 6 ∷ 7 ∷ 8 ∷ 9 ∷ 16 ∷ 16 ∷ 16 ∷ 16 ∷ 16 ∷ 16 ∷
    16 ∷ 10 ∷ 11 ∷ 12 ∷ 13 ∷ 14 ∷ 15 ∷ 16 ∷ 16 ∷ 16 ∷ 16 ∷ 16 ∷ 16 ∷ 16 ∷ 16 ∷ 16 ∷
    16 ∷ 16 ∷ 16 ∷ 16 ∷ 16 ∷ 16 ∷ 16 ∷ 16 ∷ 16 ∷ 16 ∷ 16 ∷ 16 ∷ 16 ∷ 16 ∷ 16 ∷ 16 ∷
    16 ∷ 10 ∷ 11 ∷ 12 ∷ 13 ∷ 14 ∷ 15 ∷ 16 ∷ 16 ∷ 16 ∷ 16 ∷ 16 ∷ 16 ∷ 16 ∷ 16 ∷ 16 ∷
    16 ∷ 16 ∷ 16 ∷ 16 ∷ 16 ∷ 16 ∷ 16 ∷ 16 ∷ 16 ∷ 16 ∷ 16 ∷ 16 ∷ 16 ∷ 16 ∷ 16 ∷ 16 ∷
    16 ∷ 16 ∷ 16 ∷ 16 ∷ 16 ∷ 16 ∷ 16 ∷ 16 ∷ 16 ∷ 16 ∷ 16 ∷ 16 ∷ 16 ∷ 16 ∷ 16 ∷ 16 ∷
    16 ∷ 16 ∷ 16 ∷ 16 ∷ 16 ∷ 16 ∷ 16 ∷ 16 ∷ 16 ∷ 16 ∷ 16 ∷ 16 ∷ 16 ∷ 16 ∷ 16 ∷ 16 ∷
    16 ∷ 16 ∷ 16 ∷ 16 ∷ 16 ∷ 16 ∷ 16 ∷ 16 ∷ 16 ∷ 16 ∷ 16 ∷ 16 ∷ 16 ∷ 16 ∷ 16 ∷ 16 ∷
    16 ∷ 16 ∷ 16 ∷ 16 ∷ 16 ∷ 16 ∷ 16 ∷ 16 ∷ 16 ∷ 16 ∷ 16 ∷ 16 ∷ 16 ∷ 16 ∷ 16 ∷ 16 ∷
    16 ∷ 16 ∷ 16 ∷ 16 ∷ 16 ∷ 16 ∷ 16 ∷ 16 ∷ 16 ∷ 16 ∷ 16 ∷ 16 ∷ 16 ∷ 16 ∷ 16 ∷ 16 ∷
    16 ∷ 16 ∷ 16 ∷ 16 ∷ 16 ∷ 16 ∷ 16 ∷ 16 ∷ 16 ∷ 16 ∷ 16 ∷ 16 ∷ 16 ∷ 16 ∷ 16 ∷ 16 ∷
    16 ∷ 16 ∷ 16 ∷ 16 ∷ 16 ∷ 16 ∷ 16 ∷ 16 ∷ 16 ∷ 16 ∷ 16 ∷ 16 ∷ 16 ∷ 16 ∷ 16 ∷ 16 ∷
    16 ∷ 16 ∷ 16 ∷ 16 ∷ 16 ∷ 16 ∷ 16 ∷ 16 ∷ 16 ∷ 16 ∷ 16 ∷ 16 ∷ 16 ∷ 16 ∷ 16 ∷ 16 ∷ []

abbrev same_value : Option ℕ → Option ℕ → Bool
same_value None None = true
same_value None (Some b) = false
same_value (Some a) None = false
same_value (Some a) (Some b) = a == b

same_is : (one other : Option ℕ) → same_value one other ≡ true → one ≡ other
same_is None None same = refl
same_is None (Some b) same = cc same
same_is (Some a) None same = cc same
same_is (Some a) (Some b) same = ap Some (eqb-true a b same)

abbrev is_right_at : ℕ → Bool
is_right_at digit = same_value (hex_digit_value digit) (value_below_16 (slice_index values digit))

right_everywhere : list_all is_right_at (range_with_len 0 256) ≡ true
right_everywhere = refl

pub value_of_digit : (digit : ℕ) → digit < 256 → hex_digit_value digit ≡ value_below_16 (slice_index values digit)
value_of_digit digit small =
    let place : get_or (range_with_len 0 256) digit 0 ≡ digit = get_or-range_with_len 0 256 digit 0 small ∙ omega arith in
    let inside = AllPass-from_list_all is_right_at (range_with_len 0 256) right_everywhere digit 0 small in
    same_is (hex_digit_value digit) (value_below_16 (slice_index values digit))
    (ap is_right_at (sym place) ∙ inside)

abbrev is_printed_at : ℕ → Bool
is_printed_at digit = not (nat_lt (slice_index values digit) 16 && is_blank digit)

printed_everywhere : list_all is_printed_at (range_with_len 0 256) ≡ true
printed_everywhere = refl

not_both : (one other : Bool) → not (one && other) ≡ true → one ≡ true → other ≡ false
not_both true false apart is = refl
not_both true true apart is = cc apart
not_both false other apart is = cc is

-- A digit is no blank.
pub printed_digit : (digit : ℕ) → digit < 256 → slice_index values digit < 16 → is_blank digit ≡ false
printed_digit digit small below =
    let place : get_or (range_with_len 0 256) digit 0 ≡ digit = get_or-range_with_len 0 256 digit 0 small ∙ omega arith in
    let inside = AllPass-from_list_all is_printed_at (range_with_len 0 256) printed_everywhere digit 0 small in
    let apart : is_printed_at digit ≡ true = ap is_printed_at (sym place) ∙ inside in
    not_both (nat_lt (slice_index values digit) 16) (is_blank digit) apart (lt-ltb (slice_index values digit) 16 below)
