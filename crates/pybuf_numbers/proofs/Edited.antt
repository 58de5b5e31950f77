-- The numbers of bytes, after other bytes replaced some of them.
use Rattle.std.proofs.Common.{◌≡◌, ℕ, zero, suc, ◌+◌, ◌-◌, ◌*◌, ◌/◌, ◌%◌, ◌<◌, ◌≤◌, List, [], ◌∷◌, ◌++◌, length, take, drop, map, refl, sym, ap, ◌∙◌, arith, ℤ, slice_get, Some, length-append}
use Rattle.std.specs.Prelude.{true, ◌==◌}
use Rattle.std.specs.Simd.{first_chunks}
use Rattle.std.proofs.lemmas.List.{take-map, drop-map, take_all, length-map, map-append, append-nil}
use Rattle.std.proofs.Math.Nat.{mul-suc, mul-add}
use Rattle.pybuf_lemmas.proofs.Lists.{length_of_chunks}
use Rattle.pybuf_slice.specs.Edits.{replaced_range}
use Rattle.pybuf_numbers.proofs.Sizes.{count_from_length, whole_from_length, length_from_whole}
use Rattle.pybuf_numbers.proofs.Pieces.{pieces_edited, length_edited, piece_at}

drop_past : {X : Type 0} (n : ℕ) (xs : List X) → length xs ≤ n → drop n xs ≡ []
drop_past zero [] past = refl
drop_past zero (x ∷ xs) past = absurd (omega arith)
drop_past (suc n) [] past = refl
drop_past (suc n) (x ∷ xs) past = drop_past n xs (omega arith)

-- numbers that have one size, each by its bytes
module _ (f : List ℕ → ℤ) (s : ℕ) (some : 0 < s) where
  abbrev pub spelled : List ℕ → List ℤ
  spelled xs = map f (first_chunks s (length xs / s) xs)

  pub length_spelled : (xs : List ℕ) → length (spelled xs) ≡ length xs / s
  length_spelled xs = length-map (first_chunks s (length xs / s) xs) f ∙ length_of_chunks s (length xs / s) xs

  get_mapped : (ps : List (List ℕ)) (i : ℕ) (p : List ℕ) → slice_get ps i ≡ Some p → slice_get (map f ps) i ≡ Some (f p)
  get_mapped [] i p is = absurd cc
  get_mapped (q ∷ ps) zero p is = let same : q ≡ p = cc in ap (λ x. Some (f x)) same
  get_mapped (q ∷ ps) (suc i) p is = get_mapped ps i p is

  pub spelled_at : (xs : List ℕ) (place : ℕ) → place < length (spelled xs) → slice_get (spelled xs) place ≡ Some (f (take s (drop (s * place) xs)))
  spelled_at xs place below = get_mapped _ place _ (piece_at s (length xs / s) place xs (omega (arith, length_spelled xs)))

  mapped_edit : (i j : ℕ) (ps qs : List (List ℕ)) → map f (take i ps ++ (qs ++ drop j ps)) ≡ take i (map f ps) ++ (map f qs ++ drop j (map f ps))
  mapped_edit i j ps qs =
      map-append f (take i ps) (qs ++ drop j ps)
      ∙ (ap (λ ys. ys ++ map f (qs ++ drop j ps)) (sym (take-map f i ps))
      ∙ ap (λ ys. take i (map f ps) ++ ys) (map-append f qs (drop j ps) ∙ ap (λ ys. map f qs ++ ys) (sym (drop-map f j ps))))

  pub spelled_edit : (i j : ℕ) (xs others : List ℕ) → i ≤ j → j ≤ length xs / s → (length xs % s == 0) ≡ true → (length others % s == 0) ≡ true
      → spelled (replaced_range xs (s * i) (s * j) others) ≡ replaced_range (spelled xs) i j (spelled others)
  spelled_edit i j xs others ordered inside whole other =
      let k : ℕ = length xs / s in
      let m : ℕ = length others / s in
      let long : length xs ≡ s * k = length_from_whole s (length xs) whole in
      let more : length others ≡ s * m = length_from_whole s (length others) other in
      let count : length (replaced_range xs (s * i) (s * j) others) / s ≡ i + (m + (k - j)) =
      count_from_length s (i + (m + (k - j))) _ some (length_edited s i j k m xs others ordered inside long more) in
      ap (λ n. map f (first_chunks s n (replaced_range xs (s * i) (s * j) others))) count
      ∙ (ap (map f) (pieces_edited s i j k m xs others ordered inside (omega arith) more)
      ∙ mapped_edit i j (first_chunks s k xs) (first_chunks s m others))

  pub whole_edit : (i j : ℕ) (xs others : List ℕ) → i ≤ j → j ≤ length xs / s → (length xs % s == 0) ≡ true → (length others % s == 0) ≡ true
      → (length (replaced_range xs (s * i) (s * j) others) % s == 0) ≡ true
  whole_edit i j xs others ordered inside whole other =
      let k : ℕ = length xs / s in
      let m : ℕ = length others / s in
      whole_from_length s (i + (m + (k - j))) _ (length_edited s i j k m xs others ordered inside (length_from_whole s (length xs) whole) (length_from_whole s (length others) other))

  pub spelled_append : (xs others : List ℕ) → (length xs % s == 0) ≡ true → (length others % s == 0) ≡ true → spelled (xs ++ others) ≡ spelled xs ++ spelled others
  spelled_append xs others whole other =
      let k : ℕ = length xs / s in
      let long : length xs ≡ s * k = length_from_whole s (length xs) whole in
      let all : take (s * k) xs ≡ xs = take_all (s * k) xs (omega arith) in
      let none : drop (s * k) xs ≡ [] = drop_past (s * k) xs (omega arith) in
      let seen : length (spelled xs) ≡ k = length_spelled xs in
      let every : take k (spelled xs) ≡ spelled xs = take_all k (spelled xs) (omega arith) in
      let nothing : drop k (spelled xs) ≡ [] = drop_past k (spelled xs) (omega arith) in
      ap spelled (sym (ap (λ front. front ++ (others ++ drop (s * k) xs)) all ∙ ap (λ rest. xs ++ (others ++ rest)) none ∙ ap (λ rest. xs ++ rest) (append-nil others)))
      ∙ (spelled_edit k k xs others (omega arith) (omega arith) whole other
      ∙ (ap (λ front. front ++ (spelled others ++ drop k (spelled xs))) every ∙ ap (λ rest. spelled xs ++ (spelled others ++ rest)) nothing ∙ ap (λ rest. spelled xs ++ rest) (append-nil (spelled others))))

  pub spelled_one : (piece : List ℕ) → length piece ≡ s → spelled piece ≡ f piece ∷ []
  spelled_one piece long =
      let count : length piece / s ≡ 1 = count_from_length s 1 (length piece) some (omega (arith, mul-suc s 0)) in
      ap (λ n. map f (first_chunks s n piece)) count ∙ ap (λ p. f p ∷ []) (take_all s piece (omega arith))

  pub whole_one : (piece : List ℕ) → length piece ≡ s → (length piece % s == 0) ≡ true
  whole_one piece long = whole_from_length s 1 (length piece) (omega (arith, mul-suc s 0))

  pub whole_append : (xs others : List ℕ) → (length xs % s == 0) ≡ true → (length others % s == 0) ≡ true → (length (xs ++ others) % s == 0) ≡ true
  whole_append xs others whole other =
      whole_from_length s (length xs / s + length others / s) (length (xs ++ others))
      (omega (arith, length-append xs others, length_from_whole s (length xs) whole, length_from_whole s (length others) other, mul-add s (length xs / s) (length others / s)))
