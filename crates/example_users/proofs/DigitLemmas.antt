-- How large the number of some bytes can be.
use Rattle.std.proofs.Common.{◌≡◌, ℕ, suc, ◌+◌, ◌*◌, ◌<◌, ◌≤◌, ◌^◌, List, [], ◌∷◌, length, arith}
use Rattle.std.specs.List.{All}
use Rattle.std.proofs.Math.Nat.{mul-le-mul_right, pow-suc}
use Rattle.std.proofs.lemmas.List.Elements.{All-head, All-tail}
use Rattle.pybuf_struct.specs.Digits.{little_endian}

one_more : (d p rest far : ℕ) → d < 256 → rest + p * 256 ≤ far → d * p + rest + p ≤ far
one_more d p rest far small below = let most : d * p ≤ 255 * p = mul-le-mul_right p (omega arith) in omega arith

pub little_endian-below : (i : ℕ) (digits : List ℕ) → All (λ d. d < 256) digits → little_endian i digits + 256 ^ i ≤ 256 ^ (i + length digits)
little_endian-below i [] small = let same : i + 0 ≡ i = omega arith in rw same (omega arith)
little_endian-below i (d ∷ digits) small =
    let shifted : i + suc (length digits) ≡ suc i + length digits = omega arith in
    let rest : little_endian (suc i) digits + 256 ^ suc i ≤ 256 ^ (suc i + length digits) = little_endian-below (suc i) digits (All-tail (λ d. d < 256) d digits small) in
    rw shifted (one_more d (256 ^ i) (little_endian (suc i) digits) _ (All-head (λ d. d < 256) d digits small) (rw (pow-suc 256 i) at rest))
