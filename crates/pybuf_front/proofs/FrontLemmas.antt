-- Bytes behind room, and the vector that has both.
use Rattle.std.proofs.Common.{◌≡◌, ℕ, ◌+◌, ◌-◌, ◌≤◌, List, ◌++◌, length, ap, sym, ◌∙◌, arith, take, drop, length-drop, length-append}
use Rattle.std.proofs.lemmas.List.{drop-take, drop-drop, drop_at, drop-append-le, take-append-le, length-take-le}
use Rattle.std.specs.Prelude.{slice_range}
use Rattle.pybuf_slice.specs.Edits.{replaced_range}

-- what is written behind the room, without the room
pub write_behind : {X : Type 0} → (i n : ℕ) (xs ws : List X) → length xs ≡ n → i ≤ n
    → drop i (take n ((take i xs ++ (ws ++ drop (length ws) (drop i xs))) ++ drop (length (take i xs ++ (ws ++ drop (length ws) (drop i xs)))) xs))
    ≡ take (length (drop i xs)) (ws ++ drop (length ws) (drop i xs))
write_behind i n xs ws e l =
    let rest = drop i xs in
    let over = ws ++ drop (length ws) rest in
    let long = take i xs ++ over in
    let all = long ++ drop (length long) xs in
    let count : length rest ≡ n - i = length-drop i xs ∙ ap (λ k. k - i) e in
    let whole : i + (n - i) ≡ n = omega (arith, l) in
    let at : length (take i xs) ≡ i = length-take-le i xs (omega (arith, e, l)) in
    let inner : drop i long ≡ over = drop_at (take i xs) over i at in
    let early : drop i all ≡ over ++ drop (length long) xs =
    drop-append-le i long (drop (length long) xs) (omega (arith, at, length-append (take i xs) over)) ∙ ap (λ k. k ++ drop (length long) xs) inner in
    let enough : length rest ≤ length over = omega (arith, length-append ws (drop (length ws) rest), length-drop (length ws) rest) in
    ap (λ k. drop i (take k all)) (sym whole) ∙ drop-take i (n - i) all ∙ ap (take (n - i)) early ∙ ap (λ k. take k (over ++ drop (length long) xs)) (sym count) ∙ take-append-le (length rest) over (drop (length long) xs) enough

-- A range behind the room is replaced, and this is what is there without the room.
pub replaced_behind : {X : Type 0} → (i start end : ℕ) (xs ys : List X) → i + start ≤ length xs
    → drop i (replaced_range xs (i + start) (i + end) ys) ≡ replaced_range (drop i xs) start end ys
replaced_behind i start end xs ys l =
    let tail = ys ++ drop (i + end) xs in
    let enough : i ≤ length (take (i + start) xs) = omega (arith, length-take-le (i + start) xs l) in
    drop-append-le i (take (i + start) xs) tail enough
    ∙ ap (λ k. k ++ tail) (drop-take i start xs)
    ∙ ap (λ k. take start (drop i xs) ++ (ys ++ k)) (sym (drop-drop end i xs))

-- what is written from a place behind the room on, without the room
pub write_within : {X : Type 0} → (r s n : ℕ) (xs ws : List X) → length xs ≡ n → r + s ≤ n
    → drop r (take n ((take (r + s) xs ++ (ws ++ drop (length ws) (drop (r + s) xs))) ++ drop (length (take (r + s) xs ++ (ws ++ drop (length ws) (drop (r + s) xs)))) xs))
    ≡ take (length (drop r xs))
    ((take s (drop r xs) ++ (ws ++ drop (length ws) (drop s (drop r xs)))) ++ drop (length (take s (drop r xs) ++ (ws ++ drop (length ws) (drop s (drop r xs))))) (drop r xs))
write_within r s n xs ws e l =
    let rest = drop r xs in
    let over = ws ++ drop (length ws) (drop (r + s) xs) in
    let long = take (r + s) xs ++ over in
    let all = long ++ drop (length long) xs in
    let under = take s rest ++ (ws ++ drop (length ws) (drop s rest)) in
    let count : length rest ≡ n - r = length-drop r xs ∙ ap (λ k. k - r) e in
    let whole : r + (n - r) ≡ n = omega (arith, l) in
    let at : length (take (r + s) xs) ≡ r + s = length-take-le (r + s) xs (omega (arith, e, l)) in
    let inner : drop r long ≡ under =
    drop-append-le r (take (r + s) xs) over (omega (arith, at)) ∙ ap (λ k. k ++ over) (drop-take r s xs) ∙ ap (λ k. take s rest ++ (ws ++ drop (length ws) k)) (sym (drop-drop s r xs)) in
    let early : drop r all ≡ under ++ drop (length long) xs =
    drop-append-le r long (drop (length long) xs) (omega (arith, at, length-append (take (r + s) xs) over)) ∙ ap (λ k. k ++ drop (length long) xs) inner in
    let first : length (take s rest) ≡ s = length-take-le s rest (omega (arith, count, l)) in
    let enough : length rest ≤ length under =
    omega (arith, first, length-append (take s rest) (ws ++ drop (length ws) (drop s rest)), length-append ws (drop (length ws) (drop s rest)), length-drop (length ws) (drop s rest), length-drop s rest) in
    ap (λ k. drop r (take k all)) (sym whole) ∙ drop-take r (n - r) all ∙ ap (take (n - r)) early ∙ ap (λ k. take k (under ++ drop (length long) xs)) (sym count)
    ∙ take-append-le (length rest) under (drop (length long) xs) enough
    ∙ sym (take-append-le (length rest) under (drop (length under) rest) enough)

-- a range behind the room, without the room
pub between_behind : {X : Type 0} → (r start end : ℕ) (xs : List X) → slice_range xs (r + start) (r + end) ≡ slice_range (drop r xs) start end
between_behind r start end xs =
    let count : (r + end) - (r + start) ≡ end - start = omega arith in
    ap (λ k. take k (drop (r + start) xs)) count ∙ ap (take (end - start)) (sym (drop-drop start r xs))
