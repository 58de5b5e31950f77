-- Lists of numbers and their bytes, and numbers whose bytes are reversed.
use Rattle.std.proofs.Common.{◌≡◌, ℕ, zero, suc, ◌+◌, ◌*◌, ◌/◌, ◌<◌, ◌≤◌, List, [], ◌∷◌, ◌++◌, length, take, drop, map, get_or, refl, sym, ap, subst, ◌∙◌, arith, ℤ, slice_get, Some, length-drop, append_assoc, mul-zero}
use Rattle.std.specs.Prelude.{reverse, All}
use Rattle.std.specs.List.{flat_map, AllByRecursion}
use Rattle.std.specs.Simd.{first_chunks}
use Rattle.std.proofs.Math.Nat.{mul-suc, mul-div-le}
use Rattle.std.proofs.lemmas.List.{take_at, drop_at, length-reverse, reverse-reverse, length-take-le, take-append-drop, get_or_default, append-nil}
use Rattle.std.proofs.lemmas.List.Concat.{flat_map-append}
use Rattle.std.proofs.lemmas.List.Elements.{All-take, All-drop, All-from_recursion, recursion_from_All}
use Rattle.pybuf_numbers.specs.declared.codes.ArrayCode.{ArrayCode}
use Rattle.pybuf_numbers.specs.Codes.{size_of}
use Rattle.pybuf_numbers.specs.Numbers.{number_in, digits_of, numbers_of, bytes_of, swapped}
use Rattle.pybuf_numbers.specs.Laws.{Fits, ReadsBack, NumbersReadBack, BytesReadBack, NumbersAreInRange, SwappingTwiceIsNothing}
use Rattle.pybuf_numbers.proofs.Sizes.{length_from_whole}
use Rattle.pybuf_numbers.proofs.Ranges.{wide}
use Rattle.std.proofs.Common.{to_z, of_z}
use Rattle.std.specs.Int.{w128}
use Rattle.std.proofs.lemmas.Int.{to_z-of_z}
use Rattle.pybuf_lemmas.proofs.Lists.{bytes_of_all}
use Rattle.pybuf_numbers.specs.Facts.{numbers_of_none, no_array_items_whole}
use Rattle.pybuf_numbers.proofs.Digits.{IsBytes}
use Rattle.pybuf_numbers.proofs.CodeLemmas.{length_digits, number_again, piece_again, digits_bytes, reversed_bytes, one_again, one_whole, append_is, append_whole}

-- ---- lists

list_back : (c : ArrayCode) (list : List ℤ) → AllByRecursion (Fits c) list → ReadsBack c list
list_back c [] fit = record { numbers = numbers_of_none c; whole = no_array_items_whole c }
list_back c (n ∷ ns) fit =
    let rest = list_back c ns fit.1 in
    record {
      numbers = append_is c (digits_of c n) (bytes_of c ns) (one_whole c n) rest.whole ∙ (ap (λ xs. xs ++ numbers_of c (bytes_of c ns)) (one_again c n fit.0) ∙ ap (λ xs. n ∷ xs) rest.numbers);
      whole = append_whole c (digits_of c n) (bytes_of c ns) (one_whole c n) rest.whole;
    }

pub numbers_back : NumbersReadBack
numbers_back c list all = list_back c list (recursion_from_All (Fits c) list all)

pieces_back : (c : ArrayCode) (k : ℕ) (bytes : List ℕ) → length bytes ≡ size_of c * k → All (λ b. b < 256) bytes → flat_map (digits_of c) (map (number_in c) (first_chunks (size_of c) k bytes)) ≡ bytes
pieces_back c zero [] long all = refl
pieces_back c zero (b ∷ bytes) long all = absurd (omega (arith, mul-zero (size_of c)))
pieces_back c (suc k) bytes long all =
    let s : ℕ = size_of c in
    let far : s * suc k ≡ s * k + s = mul-suc s k in
    let front : length (take s bytes) ≡ s = length-take-le s bytes (omega arith) in
    let piece = piece_again c (take s bytes) front (bytes_of_all (take s bytes) (All-take (λ b. b < 256) s bytes all)) in
    ap (λ d. d ++ flat_map (digits_of c) (map (number_in c) (first_chunks s k (drop s bytes)))) piece.digits
    ∙ (ap (λ rest. take s bytes ++ rest) (pieces_back c k (drop s bytes) (omega (arith, length-drop s bytes)) (All-drop (λ b. b < 256) s bytes all))
    ∙ take-append-drop s bytes)

pub bytes_back : BytesReadBack
bytes_back c bytes all whole = pieces_back c (length bytes / size_of c) bytes (length_from_whole (size_of c) (length bytes) whole) all

pieces_fit : (c : ArrayCode) (k : ℕ) (bytes : List ℕ) → size_of c * k ≤ length bytes → All (λ b. b < 256) bytes → AllByRecursion (Fits c) (map (number_in c) (first_chunks (size_of c) k bytes))
pieces_fit c zero bytes inside all = tt
pieces_fit c (suc k) bytes inside all =
    let s : ℕ = size_of c in
    let far : s * suc k ≡ s * k + s = mul-suc s k in
    let front : length (take s bytes) ≡ s = length-take-le s bytes (omega arith) in (
      (piece_again c (take s bytes) front (bytes_of_all (take s bytes) (All-take (λ b. b < 256) s bytes all))).fits,
      pieces_fit c k (drop s bytes) (omega (arith, length-drop s bytes)) (All-drop (λ b. b < 256) s bytes all),
    )

pub numbers_fit : NumbersAreInRange
numbers_fit c bytes all = All-from_recursion (Fits c) (numbers_of c bytes) (pieces_fit c (length bytes / size_of c) bytes (mul-div-le (length bytes) (size_of c)) all)

-- ---- reversed bytes

pub swap_back : SwappingTwiceIsNothing
swap_back c n fits =
    let d : List ℕ = digits_of c n in
    let r = piece_again c (reverse d) (length-reverse d ∙ length_digits c n) (reversed_bytes d (digits_bytes c n)) in
    record {
      fits = r.fits;
      twice = ap (λ x. number_in c (reverse x)) r.digits ∙ (ap (number_in c) (reverse-reverse d) ∙ number_again c n fits);
    }

pub all_bytes : (xs : List ℕ) → IsBytes xs → All (λ b. b < 256) xs
all_bytes xs bytes k d inside = subst (λ (n : ℕ). n < 256) (get_or_default xs k 0 d inside) (bytes k)

turned_pieces : (c : ArrayCode) (k : ℕ) (bytes rest : List ℕ) → size_of c * k ≤ length bytes → All (λ b. b < 256) (flat_map reverse (first_chunks (size_of c) k bytes) ++ rest)
    → map (number_in c) (first_chunks (size_of c) k (flat_map reverse (first_chunks (size_of c) k bytes) ++ rest)) ≡ map (swapped c) (map (number_in c) (first_chunks (size_of c) k bytes))
turned_pieces c zero bytes rest inside all = refl
turned_pieces c (suc k) bytes rest inside all =
    let s : ℕ = size_of c in
    let far : s * suc k ≡ s * k + s = mul-suc s k in
    let piece : List ℕ = take s bytes in
    let others : List ℕ = flat_map reverse (first_chunks s k (drop s bytes)) in
    let long : length piece ≡ s = length-take-le s bytes (omega arith) in
    let back : length (reverse piece) ≡ s = length-reverse piece ∙ long in
    let whole : (reverse piece ++ others) ++ rest ≡ reverse piece ++ (others ++ rest) = append_assoc (reverse piece) others rest in
    let front : take s ((reverse piece ++ others) ++ rest) ≡ reverse piece = ap (take s) whole ∙ take_at (reverse piece) (others ++ rest) s back in
    let after : drop s ((reverse piece ++ others) ++ rest) ≡ others ++ rest = ap (drop s) whole ∙ drop_at (reverse piece) (others ++ rest) s back in
    let turned_bytes : IsBytes (reverse piece) = bytes_of_all (reverse piece) (subst (All (λ b. b < 256)) front (All-take (λ b. b < 256) s ((reverse piece ++ others) ++ rest) all)) in
    let piece_bytes : IsBytes piece = subst IsBytes (reverse-reverse piece) (reversed_bytes (reverse piece) turned_bytes) in
    let same : swapped c (number_in c piece) ≡ number_in c (reverse piece) = ap (λ x. number_in c (reverse x)) (piece_again c piece long piece_bytes).digits in
    ap (λ p. number_in c p ∷ map (number_in c) (first_chunks s k (drop s ((reverse piece ++ others) ++ rest)))) front
    ∙ (ap (λ p. number_in c (reverse piece) ∷ map (number_in c) (first_chunks s k p)) after
    ∙ (ap (λ ns. number_in c (reverse piece) ∷ ns) (turned_pieces c k (drop s bytes) rest (omega (arith, length-drop s bytes)) (subst (All (λ b. b < 256)) after (All-drop (λ b. b < 256) s ((reverse piece ++ others) ++ rest) all)))
    ∙ ap (λ n. n ∷ map (swapped c) (map (number_in c) (first_chunks s k (drop s bytes)))) (sym same)))

-- the numbers after their bytes were reversed
pub swap_is : (c : ArrayCode) (bytes new : List ℕ) (s k : ℕ) → s ≡ size_of c → k ≡ length bytes / size_of c → length new ≡ length bytes → IsBytes new
    → new ≡ flat_map reverse (first_chunks s k bytes) ++ drop (s * k) bytes → numbers_of c new ≡ map (swapped c) (numbers_of c bytes)
swap_is c bytes new s k size count long small is =
    let n : ℕ = length bytes / size_of c in
    let turned : new ≡ flat_map reverse (first_chunks (size_of c) n bytes) ++ drop (s * k) bytes =
    is ∙ (ap (λ m. flat_map reverse (first_chunks m k bytes) ++ drop (s * k) bytes) size ∙ ap (λ m. flat_map reverse (first_chunks (size_of c) m bytes) ++ drop (s * k) bytes) count) in
    ap (λ m. map (number_in c) (first_chunks (size_of c) (m / size_of c) new)) long
    ∙ (ap (λ xs. map (number_in c) (first_chunks (size_of c) n xs)) turned
    ∙ turned_pieces c n bytes (drop (s * k) bytes) (mul-div-le (length bytes) (size_of c)) (subst (All (λ b. b < 256)) turned (all_bytes new small)))

turned_none : ℕ → List ℕ
turned_none k = flat_map reverse (first_chunks 1 k [])

none_pieces : (k : ℕ) → turned_none k ≡ []
unfolding turned_none
none_pieces zero = refl
none_pieces (suc k) = none_pieces k

-- A single byte that is reversed stays as it is.
pub ones_turned : (k : ℕ) (xs : List ℕ) → flat_map reverse (first_chunks 1 k xs) ++ drop k xs ≡ xs
unfolding turned_none
ones_turned zero xs = refl
ones_turned (suc k) [] = ap (λ (front : List ℕ). front ++ []) (none_pieces (suc k))
ones_turned (suc k) (x ∷ xs) = ap (λ rest. x ∷ rest) (ones_turned k xs)

pub ones_are : (s k : ℕ) (xs : List ℕ) → s ≡ 1 → xs ≡ flat_map reverse (first_chunks s k xs) ++ drop (s * k) xs
ones_are s k xs one =
    let far : s * k ≡ k = ap (λ m. m * k) one ∙ omega arith in
    sym (ap (λ m. flat_map reverse (first_chunks m k xs) ++ drop (s * k) xs) one ∙ (ap (λ m. flat_map reverse (first_chunks 1 k xs) ++ drop m xs) far ∙ ones_turned k xs))

-- ---- steps of loops

pub took : {X : Type 0} (xs : List X) (i : ℕ) (x : X) → slice_get xs i ≡ Some x → take (i + 1) xs ≡ take i xs ++ x ∷ []
took [] i x is = absurd cc
took (y ∷ ys) zero x is = let same : y ≡ x = cc in ap (λ z. z ∷ []) same
took (y ∷ ys) (suc i) x is = let more : suc i + 1 ≡ suc (i + 1) = omega arith in rw more (ap (λ zs. y ∷ zs) (took ys i x is))

pub bytes_took : (c : ArrayCode) (xs : List ℤ) (i : ℕ) (x : ℤ) → slice_get xs i ≡ Some x → bytes_of c (take (i + 1) xs) ≡ bytes_of c (take i xs) ++ digits_of c x
bytes_took c xs i x is = ap (bytes_of c) (took xs i x is) ∙ (flat_map-append (digits_of c) (take i xs) (x ∷ []) ∙ ap (λ d. bytes_of c (take i xs) ++ d) (append-nil (digits_of c x)))

got : (xs : List ℤ) (i : ℕ) (d : ℤ) → i < length xs → slice_get xs i ≡ Some (get_or xs i d)
got [] i d inside = absurd (omega arith)
got (x ∷ xs) zero d inside = refl
got (x ∷ xs) (suc i) d inside = got xs i d (omega arith)

-- the bytes of one more number
pub bytes_more : (c : ArrayCode) (xs : List ℤ) (bytes new word : List ℕ) (i s : ℕ) (d : ℤ) → bytes ≡ bytes_of c (take i xs) → i < length xs → All (Fits c) xs → s ≡ size_of c
    → take (size_of c) word ≡ digits_of c (to_z w128 (of_z w128 (get_or xs i d))) → new ≡ bytes ++ take s word → new ≡ bytes_of c (take (i + 1) xs)
bytes_more c xs bytes new word i s d before inside all size spelled is =
    let same : to_z w128 (of_z w128 (get_or xs i d)) ≡ get_or xs i d = to_z-of_z w128 (get_or xs i d) (wide c (get_or xs i d) (all i d inside)) in
    is ∙ (ap (λ n. bytes ++ take n word) size ∙ (ap (λ w. bytes ++ w) spelled ∙ (ap (λ n. bytes ++ digits_of c n) same
    ∙ (ap (λ b. b ++ digits_of c (get_or xs i d)) before ∙ sym (bytes_took c xs i (get_or xs i d) (got xs i d inside))))))
