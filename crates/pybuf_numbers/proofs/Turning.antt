-- Pieces that are reversed, one after the other.
use Rattle.std.proofs.Common.{◌≡◌, ℕ, zero, suc, ◌+◌, ◌*◌, ◌≤◌, List, [], ◌++◌, length, take, drop, sym, ap, ◌∙◌, arith, length-append, length-drop, append_assoc, mul-zero}
use Rattle.std.specs.Prelude.{reverse}
use Rattle.std.specs.List.{flat_map}
use Rattle.std.specs.Simd.{first_chunks}
use Rattle.std.proofs.Math.Nat.{mul-suc}
use Rattle.std.proofs.lemmas.List.{take_at, drop_at, drop-drop, length-reverse, length-take-le, append-nil}
use Rattle.std.proofs.lemmas.List.Concat.{flat_map-append}
use Rattle.pybuf_numbers.proofs.Pieces.{pieces_split}

length_turned : (s k : ℕ) (xs : List ℕ) → s * k ≤ length xs → length (flat_map reverse (first_chunks s k xs)) ≡ s * k
length_turned s zero xs inside = sym (mul-zero s)
length_turned s (suc k) xs inside =
    let far : s * suc k ≡ s + s * k = omega (arith, mul-suc s k) in
    omega (arith, length-append (reverse (take s xs)) (flat_map reverse (first_chunks s k (drop s xs))), length-reverse (take s xs), length-take-le s xs (omega arith), length_turned s k (drop s xs) (omega (arith, length-drop s xs)))

-- One more piece is reversed.
pub turned_more : (s k at n : ℕ) (xs ys piece : List ℕ) → ys ≡ flat_map reverse (first_chunks s k xs) ++ drop (s * k) xs → s * k + s ≤ length xs → at ≡ s * k → n ≡ s
    → piece ≡ reverse (take n (drop at ys))
    → take at ys ++ (piece ++ drop n (drop at ys)) ≡ flat_map reverse (first_chunks s (k + 1) xs) ++ drop (s * (k + 1)) xs
turned_more s k at n xs ys piece is inside start long turn =
    let front : List ℕ = flat_map reverse (first_chunks s k xs) in
    let rest : List ℕ = drop (s * k) xs in
    let count : length front ≡ at = omega (arith, length_turned s k xs (omega arith)) in
    let low : take at ys ≡ front = ap (λ zs. take at zs) is ∙ take_at front rest at count in
    let high : drop at ys ≡ rest = ap (λ zs. drop at zs) is ∙ drop_at front rest at count in
    let next : s * (k + 1) ≡ s * k + s = omega (arith, mul-suc s k) in
    let turned_piece : piece ≡ reverse (take s rest) = turn ∙ ap (λ zs. reverse (take n zs)) high ∙ ap (λ m. reverse (take m rest)) long in
    let after : drop n (drop at ys) ≡ drop (s * (k + 1)) xs = ap (λ zs. drop n zs) high ∙ ap (λ m. drop m rest) long ∙ drop-drop s (s * k) xs ∙ ap (λ m. drop m xs) (sym next) in
    let more : flat_map reverse (first_chunks s (k + 1) xs) ≡ front ++ (reverse (take s rest) ++ []) = ap (flat_map reverse) (pieces_split s k 1 xs) ∙ flat_map-append reverse (first_chunks s k xs) (first_chunks s 1 rest) in
    ap (λ zs. zs ++ (piece ++ drop n (drop at ys))) low
    ∙ (ap (λ zs. front ++ (zs ++ drop n (drop at ys))) turned_piece
    ∙ (ap (λ zs. front ++ (reverse (take s rest) ++ zs)) after
    ∙ (sym (append_assoc front (reverse (take s rest)) (drop (s * (k + 1)) xs))
    ∙ ap (λ zs. zs ++ drop (s * (k + 1)) xs) (ap (λ zs. front ++ zs) (sym (append-nil (reverse (take s rest)))) ∙ sym more))))
