-- Loans that are found by their places.
use Rattle.std.proofs.Common.{◌≡◌, ℕ, zero, suc, ◌+◌, ◌==◌, ◌&&◌, true, List, [], ◌∷◌, ◌++◌, length, Some, None, ap, sym, ◌∙◌, refl, arith}
use Rattle.std.specs.Option.{option_map}
use Rattle.std.specs.Prelude.{slice_get}
use Rattle.pybuf_command.specs.declared.loans.Loan.{Loan}
use Rattle.pybuf_command.specs.Loans.{loan_of, are_placed_from}

-- one more pair
pub placed_and_one : (n : ℕ) (pairs : List (ℕ × Loan)) (pair : ℕ × Loan) → are_placed_from n (pairs ++ pair ∷ []) ≡ are_placed_from n pairs && (pair.0 == n + length pairs)
placed_and_one n [] pair = grind (arith)
placed_and_one n (first ∷ pairs) pair = grind (arith, placed_and_one (suc n) pairs pair)

found_from : (n : ℕ) (pairs : List (ℕ × Loan)) (k : ℕ) → are_placed_from n pairs ≡ true → loan_of pairs (n + k) ≡ option_map (λ (pair : ℕ × Loan). pair.1) (slice_get pairs k)
found_from n [] k placed = refl
found_from n (pair ∷ pairs) zero placed = grind (arith, placed)
found_from n (pair ∷ pairs) (suc k) placed = grind (arith, placed, found_from (suc n) pairs k)

found_by_place : (pairs : List (ℕ × Loan)) (h : ℕ) → are_placed_from 0 pairs ≡ true → loan_of pairs h ≡ option_map (λ (pair : ℕ × Loan). pair.1) (slice_get pairs h)
found_by_place pairs h placed = let start : h ≡ 0 + h = omega arith in ap (loan_of pairs) start ∙ found_from 0 pairs h placed

-- the loan of a handle is that of the pair at its place
pub found_at_place : (pairs : List (ℕ × Loan)) (h : ℕ) (pair : ℕ × Loan) → are_placed_from 0 pairs ≡ true → slice_get pairs h ≡ Some pair → Some pair.1 ≡ loan_of pairs h
found_at_place pairs h pair placed at = sym (found_by_place pairs h placed ∙ ap (option_map (λ (pair : ℕ × Loan). pair.1)) at)

-- There is no loan if the list has no such place.
pub none_past_places : (pairs : List (ℕ × Loan)) (h : ℕ) → are_placed_from 0 pairs ≡ true → slice_get pairs h ≡ None → None ≡ loan_of pairs h
none_past_places pairs h placed past = sym (found_by_place pairs h placed ∙ ap (option_map (λ (pair : ℕ × Loan). pair.1)) past)
