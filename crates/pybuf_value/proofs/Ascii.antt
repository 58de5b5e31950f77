-- A text of ASCII has no byte from 128 on.
use Rattle.std.proofs.Common.{◌≡◌, refl, sym, subst, ap, ◌∙◌, ℕ, zero, suc, ◌<◌, ◌≤◌, List, [], ◌∷◌, Bool, true, false, arith}
use Rattle.std.specs.Prelude.{◌&&◌, nat_lt, slice_index}
use Rattle.std.specs.Bool.{MatchBool}
use Rattle.std.specs.Str.{IsAscii, IsNotAscii}
use Rattle.pybuf_value.specs.Texts.{is_ascii}

pub all_below : (bytes : List ℕ) → IsAscii bytes → is_ascii bytes ≡ true
all_below [] below = refl
all_below (b ∷ bytes) below =
    let first : nat_lt b 128 ≡ true = grind (arith, below 0) in
    ap (λ (x : Bool). x && is_ascii bytes) first ∙ all_below bytes (λ i. below (suc i))

pub one_above : (bytes : List ℕ) (i : ℕ) → 128 ≤ slice_index bytes i → is_ascii bytes ≡ false
one_above [] i above = absurd (grind (arith, above))
one_above (b ∷ bytes) zero above =
    let first : nat_lt b 128 ≡ false = grind (arith, above) in
    ap (λ (x : Bool). x && is_ascii bytes) first
one_above (b ∷ bytes) (suc i) above = both_false (nat_lt b 128) (is_ascii bytes) (one_above bytes i above)
  where
    both_false : (x y : Bool) → y ≡ false → (x && y) ≡ false
    both_false true y is = is
    both_false false y is = refl

pub decided : (test : Bool) (bytes : List ℕ) → MatchBool test (IsAscii bytes) (IsNotAscii bytes) → test ≡ is_ascii bytes
decided true bytes is = sym (all_below bytes is)
decided false bytes is = sym (one_above bytes is.0 is.1)
