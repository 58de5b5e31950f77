-- Truth values: what holds together, what holds apart, and tests that are turned.
use Rattle.std.proofs.Common.{◌≡◌, Bool, true, false, refl, not, ◌||◌, true≢false, sym, cond, ◌==◌}
use Rattle.std.specs.Prelude.{◌&&◌, if◌then◌else◌}
use Rattle.std.specs.Bool.{Decides}

pub first_of_both : (a b : Bool) → (a && b) ≡ true → a ≡ true
first_of_both true b p = refl
first_of_both false b p = p

pub second_of_both : (a b : Bool) → (a && b) ≡ true → b ≡ true
second_of_both true b h = h
second_of_both false b h = cc

pub false_if_not_true : (b : Bool) → not b ≡ true → b ≡ false
false_if_not_true false h = refl
false_if_not_true true h = cc h

pub either_associates : (a b c : Bool) → (if a then true else (if b then true else c)) ≡ (if (if a then true else b) then true else c)
either_associates true b c = refl
either_associates false b c = refl

pub either_turned : (a b : Bool) → (if a then true else (if b then true else false)) ≡ (if b then true else a)
either_turned true true = refl
either_turned true false = refl
either_turned false true = refl
either_turned false false = refl

pub neither_of : (a b : Bool) → (a || b) ≡ false → (a ≡ false) × (b ≡ false)
neither_of true b h = absurd (cc)
neither_of false b h = (refl, h)

pub both_of : (a b : Bool) → (a && b) ≡ true → (a ≡ true) × (b ≡ true)
both_of true b is = (refl, is)
both_of false b is = absurd (cc)

pub both_hold : (a b : Bool) → a ≡ true → b ≡ true → (a && b) ≡ true
both_hold true b p q = q
both_hold false b p q = p

pub decided_alike : {b : Bool} {P Q : Type 0} → (P → Q) → (Q → P) → Decides b P → Decides b Q
decided_alike f g d = (λ h. f (d.0 h), λ q. d.1 (g q))

pub both_decided : {P Q : Type 0} (a b : Bool) → Decides a P → Decides b Q → Decides (a && b) (P × Q)
both_decided a b d e = (λ h. (d.0 (both_of a b h).0, e.0 (both_of a b h).1), λ p. both_hold a b (d.1 p.0) (e.1 p.1))

pub and_false : (b : Bool) → (b && false) ≡ false
and_false true = refl
and_false false = refl

pub second_of_neither : (a b : Bool) → (a || b) ≡ false → b ≡ false
second_of_neither true b h = cc
second_of_neither false b h = h

pub first_of_neither : (a b : Bool) → (a || b) ≡ false → a ≡ false
first_of_neither true b h = h
first_of_neither false b h = refl

pub false_if_never_true : (b : Bool) → (b ≡ true → ⊥) → b ≡ false
false_if_never_true true denied = absurd (denied refl)
false_if_never_true false denied = refl

pub false_is_not_true : {A : Type 0} → false ≡ true → A
false_is_not_true is = absurd (true≢false (sym is))

pub false_if_untrue : (b : Bool) → ¬ (b ≡ true) → b ≡ false
false_if_untrue true h = absurd (h refl)
false_if_untrue false h = refl

pub quote_is_no_line_end : (double : Bool) → (cond double 34 39 == 10) ≡ false
quote_is_no_line_end true = refl
quote_is_no_line_end false = refl

pub and_not_true : (b : Bool) → (b && not true) ≡ false
and_not_true true = refl
and_not_true false = refl

pub true_if_not_false : (b : Bool) → not b ≡ false → b ≡ true
true_if_not_false true is = refl
true_if_not_false false is = absurd (true≢false is)
