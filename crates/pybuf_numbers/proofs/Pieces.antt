-- Pieces that all have the same size.
use Rattle.std.proofs.Common.{◌≡◌, ℕ, zero, suc, ◌+◌, ◌-◌, ◌*◌, ◌<◌, ◌≤◌, List, ◌∷◌, ◌++◌, length, take, drop, refl, sym, ap, ◌∙◌, arith, slice_get, Some, length-drop, length-append, zero-add, mul-zero}
use Rattle.std.proofs.Math.Nat.{mul-suc, mul-le-mul_left, mul-add}
use Rattle.std.proofs.lemmas.List.{drop-drop, take-append-le, drop-append-le, take_at, drop_at, take-append-drop, length-take-le}
use Rattle.std.specs.Simd.{first_chunks}
use Rattle.pybuf_lemmas.proofs.Lists.{length_of_chunks}

-- the first i pieces, and then j more
pub pieces_split : (s i j : ℕ) (xs : List ℕ) → first_chunks s (i + j) xs ≡ first_chunks s i xs ++ first_chunks s j (drop (s * i) xs)
pieces_split s zero j xs =
    let none : s * 0 ≡ 0 = mul-zero s in
    let same : 0 + j ≡ j = zero-add j in
    rw (same, none) refl
pieces_split s (suc i) j xs =
    let more : suc i + j ≡ suc (i + j) = omega arith in
    let far : s * suc i ≡ s + s * i = omega (arith, mul-suc s i) in
    rw (more, far) (ap (λ rest. take s xs ∷ rest) (pieces_split s i j (drop s xs) ∙ ap (λ ys. first_chunks s i (drop s xs) ++ first_chunks s j ys) (drop-drop (s * i) s xs)))

-- It doesn't matter what lies behind them.
pub pieces_within : (s k : ℕ) (xs ys : List ℕ) → s * k ≤ length xs → first_chunks s k (xs ++ ys) ≡ first_chunks s k xs
pieces_within s zero xs ys inside = refl
pieces_within s (suc k) xs ys inside =
    let far : s * suc k ≡ s + s * k = omega (arith, mul-suc s k) in
    let near : s ≤ length xs = omega arith in
    let first : take s (xs ++ ys) ≡ take s xs = take-append-le s xs ys near in
    let after : drop s (xs ++ ys) ≡ drop s xs ++ ys = drop-append-le s xs ys near in
    ap (λ piece. piece ∷ first_chunks s k (drop s (xs ++ ys))) first
    ∙ (ap (λ rest. take s xs ∷ first_chunks s k rest) after
    ∙ ap (λ rest. take s xs ∷ rest) (pieces_within s k (drop s xs) ys (omega (arith, length-drop s xs))))

-- the pieces of a list's front
pub pieces_of_front : (s k n : ℕ) (xs : List ℕ) → s * k ≤ n → n ≤ length xs → first_chunks s k (take n xs) ≡ first_chunks s k xs
pieces_of_front s k n xs inside near =
    sym (pieces_within s k (take n xs) (drop n xs) (omega (arith, length-take-le n xs near)))
    ∙ ap (λ ys. first_chunks s k ys) (take-append-drop n xs)

-- the piece at a place
pub piece_at : (s k i : ℕ) (xs : List ℕ) → i < k → slice_get (first_chunks s k xs) i ≡ Some (take s (drop (s * i) xs))
piece_at s zero i xs below = absurd (omega arith)
piece_at s (suc k) zero xs below = let none : s * 0 ≡ 0 = mul-zero s in rw none refl
piece_at s (suc k) (suc i) xs below =
    let far : s * suc i ≡ s + s * i = omega (arith, mul-suc s i) in
    rw far (piece_at s k i (drop s xs) (omega arith) ∙ ap (λ ys. Some (take s ys)) (drop-drop (s * i) s xs))

pub pieces_taken : (s i k : ℕ) (xs : List ℕ) → i ≤ k → take i (first_chunks s k xs) ≡ first_chunks s i xs
pieces_taken s i k xs some =
    let all : k ≡ i + (k - i) = omega arith in
    ap (λ n. take i (first_chunks s n xs)) all
    ∙ (ap (λ ps. take i ps) (pieces_split s i (k - i) xs)
    ∙ take_at (first_chunks s i xs) _ i (length_of_chunks s i xs))

pub pieces_dropped : (s j k : ℕ) (xs : List ℕ) → j ≤ k → drop j (first_chunks s k xs) ≡ first_chunks s (k - j) (drop (s * j) xs)
pieces_dropped s j k xs some =
    let all : k ≡ j + (k - j) = omega arith in
    ap (λ n. drop j (first_chunks s n xs)) all
    ∙ (ap (λ ps. drop j ps) (pieces_split s j (k - j) xs)
    ∙ drop_at (first_chunks s j xs) _ j (length_of_chunks s j xs))

-- other pieces in place of those from one place up to another
pub pieces_edited : (s i j k m : ℕ) (xs others : List ℕ) → i ≤ j → j ≤ k → s * k ≤ length xs → length others ≡ s * m
    → first_chunks s (i + (m + (k - j))) (take (s * i) xs ++ (others ++ drop (s * j) xs)) ≡ take i (first_chunks s k xs) ++ (first_chunks s m others ++ drop j (first_chunks s k xs))
pieces_edited s i j k m xs others ordered inside room long =
    let low : s * i ≤ s * j = mul-le-mul_left s ordered in
    let high : s * j ≤ s * k = mul-le-mul_left s inside in
    let front : length (take (s * i) xs) ≡ s * i = length-take-le (s * i) xs (omega arith) in
    let rest : List ℕ = others ++ drop (s * j) xs in
    pieces_split s i (m + (k - j)) (take (s * i) xs ++ rest)
    ∙ (ap (λ ps. ps ++ first_chunks s (m + (k - j)) (drop (s * i) (take (s * i) xs ++ rest)))
    (pieces_within s i (take (s * i) xs) rest (omega arith) ∙ pieces_of_front s i (s * i) xs (omega arith) (omega arith) ∙ sym (pieces_taken s i k xs (omega arith)))
    ∙ ap (λ ps. take i (first_chunks s k xs) ++ ps)
    (ap (λ ys. first_chunks s (m + (k - j)) ys) (drop_at (take (s * i) xs) rest (s * i) front)
    ∙ (pieces_split s m (k - j) rest
    ∙ (ap (λ ps. ps ++ first_chunks s (k - j) (drop (s * m) rest)) (pieces_within s m others (drop (s * j) xs) (omega arith))
    ∙ ap (λ ps. first_chunks s m others ++ ps) (ap (λ ys. first_chunks s (k - j) ys) (drop_at others (drop (s * j) xs) (s * m) long) ∙ sym (pieces_dropped s j k xs inside))))))

pub length_edited : (s i j k m : ℕ) (xs others : List ℕ) → i ≤ j → j ≤ k → length xs ≡ s * k → length others ≡ s * m
    → length (take (s * i) xs ++ (others ++ drop (s * j) xs)) ≡ s * (i + (m + (k - j)))
length_edited s i j k m xs others ordered inside room long =
    let low : s * i ≤ s * j = mul-le-mul_left s ordered in
    let high : s * j ≤ s * k = mul-le-mul_left s inside in
    let all : k ≡ j + (k - j) = omega arith in
    let whole : s * k ≡ s * j + s * (k - j) = ap (λ n. s * n) all ∙ mul-add s j (k - j) in
    let sum : s * (i + (m + (k - j))) ≡ s * i + s * (m + (k - j)) = mul-add s i (m + (k - j)) in
    let sum2 : s * (m + (k - j)) ≡ s * m + s * (k - j) = mul-add s m (k - j) in
    omega (arith, length-append (take (s * i) xs) (others ++ drop (s * j) xs), length-append others (drop (s * j) xs), length-take-le (s * i) xs (omega arith), length-drop (s * j) xs)
