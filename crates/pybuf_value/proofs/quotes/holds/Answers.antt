use Rattle.std.proofs.Common.{◌≡◌, ◌==◌, ℕ, ◌<◌, ◌≤◌, Bool, List, length, Option, Some, None, sym, ap, ◌∙◌, ⊎_elim, arith}
use Rattle.std.specs.Prelude.{is_some, nat_lt}
use Rattle.std.specs.List.{list_any, position, position_or_len}
use Rattle.std.proofs.lemmas.Bool.{cases_lt, cond-true, cond-false, lt-ltb, le-ltb}
use Rattle.std.proofs.lemmas.List.Folds.{list_any_none, list_any_at}
use Rattle.std.proofs.lemmas.List.Sums.{passes_at_first, fails_before_first}
use Rattle.pybuf_value.proofs.quotes.holds.Goals as goal

-- A byte is found if one of the bytes is it.
found-list_any : (test : ℕ → Bool) (bytes : List ℕ) → is_some (position test bytes) ≡ list_any test bytes
found-list_any test bytes = ⊎_elim there nowhere (cases_lt (position_or_len test bytes) (length bytes))
  where
    there : position_or_len test bytes < length bytes → is_some (position test bytes) ≡ list_any test bytes
    there inside =
        ap (λ (place : Option ℕ). is_some place)
        (cond-true (nat_lt (position_or_len test bytes) (length bytes)) (Some (position_or_len test bytes)) None (lt-ltb _ _ inside))
        ∙ sym (list_any_at test bytes (position_or_len test bytes) 0 inside (passes_at_first test bytes 0 inside))

    nowhere : length bytes ≤ position_or_len test bytes → is_some (position test bytes) ≡ list_any test bytes
    nowhere past =
        ap (λ (place : Option ℕ). is_some place)
        (cond-false (nat_lt (position_or_len test bytes) (length bytes)) (Some (position_or_len test bytes)) None (le-ltb _ _ past))
        ∙ sym (list_any_none test bytes (λ k d inside. fails_before_first test bytes k d (omega arith)))

pub returns : goal.returns
returns c =
    c.is_some.ensures
    ∙ (ap (λ (place : Option ℕ). is_some place) c.place_of_byte.ensures ∙ found-list_any (λ b. b == c.args.byte) c.args.bytes.now)
