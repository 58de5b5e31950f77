use Rattle.std.proofs.Common.{◌≡◌, ℕ, suc, ◌<◌, length, List, [], ◌∷◌, Bool, true, get_or, ℤ, pos, subst, arith, refl}
use Rattle.std.specs.List.{list_all}
use Rattle.std.proofs.lemmas.List.{get_or_default}
use Rattle.pybuf_numbers.specs.Codes.{holds}
use Rattle.pybuf_numbers.proofs.codes.ArrayCode.holds_all.Goals as goal

all_true : (p : ℤ → Bool) (xs : List ℤ) → ((k : ℕ) → k < length xs → p (get_or xs k (pos 0)) ≡ true) → true ≡ list_all p xs
all_true p [] each = refl
all_true p (x ∷ xs) each = let here : p x ≡ true = each 0 (omega arith) in rw here (all_true p xs (λ k inside. each (suc k) (omega arith)))

pub returns-clause-all : goal.returns-clause-all
returns-clause-all c = all_true (holds c.args.self) c.args.numbers.now (λ k inside. c.loop-number.invariant k (omega arith))

pub returns-clause-each : goal.returns-clause-each
returns-clause-each c h k d inside =
    subst (λ (n : ℤ). holds c.args.self n ≡ true) (get_or_default c.args.numbers.now k (pos 0) d inside) (c.loop-number.invariant k (omega arith))
