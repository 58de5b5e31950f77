-- Natural numbers: products, quotients and order.
use Rattle.std.proofs.Common.{◌≡◌, ℕ, zero, suc, ◌*◌, ◌<◌, arith, zero-mul, ◌≢◌, false, true≢false, ◌+◌, ◌≤◌, pos, ◌+ℤ◌, ◌≤ℤ◌, ◌-ℤ◌, ◌-◌, negsuc, ◌<ℤ◌, ◌/◌, ◌%◌, div-add-mod', inl, inr, [], ◌∷◌, ◌++◌, ◌∙◌, ap, List, refl, neg_ℤ, zero-lt-suc, mul-pos, Bool, true, tests, length, ◌^◌, sym}
use Rattle.std.specs.Prelude.{◌==◌, ◌⊎◌, All, cond, not, ◌&&◌, nat_lt}
use Rattle.std.proofs.lemmas.Int.{ints}
use Rattle.std.specs.List.{range_with_len}
use Rattle.std.proofs.lemmas.List.FromFn.{length-range_with_len, get_or-range_with_len}
use Rattle.std.specs.Int.Signed.{lt_z}
use Rattle.std.proofs.lemmas.Bool.{le-ltb, eqb-true}
use Rattle.std.specs.Fmt.{digit_glyph}
use Rattle.std.specs.Char.{is_ascii_digit, digit_value}
use Rattle.std.proofs.lemmas.Str.Parse.{digit_from_value}
use Rattle.std.specs.Int.{bytes_low_first}
use Rattle.std.proofs.lemmas.Nat.{div-mul-add}
use Rattle.pybuf_lemmas.proofs.Booleans.{both_of}

pub first_factor_positive : (n m : ℕ) → 0 < n * m → 0 < n
first_factor_positive zero m some = (let none : 0 * m ≡ 0 = zero-mul m in absurd (omega (arith, none, some)))
first_factor_positive (suc n) m some = omega arith

pub second_factor_positive : (a b : ℕ) → 0 < a * b → 0 < b
second_factor_positive a zero some = absurd (omega (arith, some))
second_factor_positive a (suc b) some = omega arith

pub positive_if_nonzero : (n : ℕ) → (n == 0) ≡ false → 0 < n
positive_if_nonzero zero is = absurd (true≢false is)
positive_if_nonzero (suc n) is = omega arith

pub low_first : (low s : ℕ) → pos 0 ≤ℤ (pos low -ℤ pos s +ℤ pos s)
low_first low s = omega (arith, ints)

pub high_first : (high s n : ℕ) → high ≤ n → (pos high +ℤ negsuc 0 -ℤ negsuc s +ℤ negsuc s) <ℤ pos n
high_first high s n h = omega (arith, ints)

pub positive_is_nonzero : (n : ℕ) → 0 < n → pos n ≢ pos 0
positive_is_nonzero zero h e = omega arith
positive_is_nonzero (suc n) h e = cc

pub whole_quotient : (len size : ℕ) → len % size ≡ 0 → len / size * size ≡ len
whole_quotient len size e = let d = div-add-mod' len size in omega (arith, d, e)

pub item_ends_before_next : (i j size : ℕ) → i < j → i * size + size ≤ j * size
item_ends_before_next i j size less = grind arith

pub either_order_turned : (a b c d : ℕ) → (a ≤ b) ⊎ (c ≤ d) → (c ≤ d) ⊎ (a ≤ b)
either_order_turned a b c d (inl x) = inr x
either_order_turned a b c d (inr x) = inl x

pub range_with_one_more : (a n : ℕ) → range_with_len a (suc n) ≡ range_with_len a n ++ (a + n) ∷ []
range_with_one_more a zero = ap (λ x. x ∷ []) (omega arith)
range_with_one_more a (suc n) = ap (λ rest. a ∷ rest) (range_with_one_more (a + 1) n ∙ ap (λ x. range_with_len (a + 1) n ++ x ∷ []) (omega arith))

pub range_inside : (len start n : ℕ) → start + n ≤ len → All (λ place. place < len) (range_with_len start n)
range_inside len start n fits = λ k d below.
    let within : k < n = omega (arith, below, length-range_with_len start n) in
    omega (arith, within, fits, get_or-range_with_len start n k d within)

pub range_of_sum : (a m n : ℕ) → range_with_len a (m + n) ≡ range_with_len a m ++ range_with_len (a + m) n
range_of_sum a zero n = let same : 0 + n ≡ n = omega arith in let at : a + 0 ≡ a = omega arith in rw (same, at) refl
range_of_sum a (suc m) n =
    let same : suc m + n ≡ suc (m + n) = omega arith in
    let at : (a + 1) + m ≡ a + suc m = omega arith in
    ap (range_with_len a) same ∙ ap (λ (xs : List ℕ). a ∷ xs) (range_of_sum (a + 1) m n ∙ ap (λ (k : ℕ). range_with_len (a + 1) m ++ range_with_len k n) at)

pub zero_if_integer_zero : (n : ℕ) → pos n ≡ pos 0 → n ≡ 0
zero_if_integer_zero n e = cc

pub zero_if_negation_zero : (n : ℕ) → neg_ℤ (pos n) ≡ pos 0 → n ≡ 0
zero_if_negation_zero zero e = refl
zero_if_negation_zero (suc n) e = absurd (cc)

pub product_is_not_none : (a b n : ℕ) → n ≡ suc a * suc b → n ≡ 0 → ⊥
product_is_not_none a b n e z = let more : 0 < suc a * suc b = mul-pos (zero-lt-suc a) (zero-lt-suc b) in omega (arith, more, e, z)

pub step_below_start : (a n : ℕ) → pos 0 ≤ℤ (pos a +ℤ negsuc n) → suc n ≤ a
step_below_start a n low = omega (arith, ints, low)

pub place_a_step_lower : (a n : ℕ) → suc n ≤ a → pos a +ℤ negsuc n ≡ pos (a - suc n)
place_a_step_lower a n low = omega (arith, ints, low)

pub next_lower_place : (start n j a : ℕ) → a + j * suc n ≡ start → suc n ≤ a → (a - suc n) + (j + 1) * suc n ≡ start
next_lower_place start n j a at low =
    let more : (j + 1) * suc n ≡ j * suc n + suc n = grind arith in
    omega (arith, at, low, more)

pub place_below_start : (start m a : ℕ) → a + m ≡ start → start - m ≡ a
place_below_start start m a at = omega (arith, at)

pub natural_is_not_below_zero : (n : ℕ) → lt_z (pos n) (pos 0) ≡ false
natural_is_not_below_zero n = le-ltb n 0 (let low : 0 ≤ n = omega arith in low)

pub positive_has_predecessor : (n : ℕ) → 0 < n → n ≡ suc (n - 1)
positive_has_predecessor n some = omega (arith, some)

pub none_counted : (released : Bool) (n : ℕ) → cond (not released) 1 0 + n ≡ 0 → (released ≡ true) × (n ≡ 0)
none_counted true n none = (refl, omega (arith, none))
none_counted false n none = absurd (omega (arith, none))

pub equal_numbers_pass : (n m : ℕ) → n ≡ m → (n == m) ≡ true
equal_numbers_pass n m h = grind (arith, tests)

-- no blank in a text
abbrev pub is_unbroken : ℕ → Bool
is_unbroken b = not (b == 32)

pub unbroken_is_no_blank : (x : ℕ) → is_unbroken x ≡ true → (x == 32) ≡ false
unbroken_is_no_blank x h = grind (arith, tests)

pub other_than_quote : (b : ℕ) → b ≢ 39 → (b == 39) ≡ false
other_than_quote b h = grind (arith, tests)

pub digit_is_no_line_end : (d : ℕ) → (digit_glyph false d == 10) ≡ false
digit_is_no_line_end d = grind (arith, tests)

pub passed_numbers_are_equal : (n k : ℕ) → (n == k) ≡ true → n ≡ k
passed_numbers_are_equal n k h = grind (arith, tests)

pub number_equals_itself : (n : ℕ) → (n == n) ≡ true
number_equals_itself n = grind (arith, tests)

pub value_below_ten_is_digit : (c : ℕ) → digit_value c < 10 → is_ascii_digit c ≡ true
value_below_ten_is_digit c h = let r = digit_from_value c h in grind (arith, tests, r)

pub length_low_first : (i k n : ℕ) → length (bytes_low_first i k n) ≡ k
length_low_first i zero n = refl
length_low_first i (suc k) n = ap suc (length_low_first (suc i) k n)

pub below_zero : (size n : ℕ) → n < 256 ^ size → pos n -ℤ pos (256 ^ size) ≡ negsuc (256 ^ size - suc n)
below_zero size n lt = omega (arith, ints)

pub quotient_more : (len size : ℕ) → 0 < size → size ≤ len → len / size ≡ suc ((len - size) / size)
quotient_more len size some within =
    let q : ℕ = (len - size) / size in
    let r : ℕ = (len - size) % size in
    let whole : q * size + r ≡ len - size = div-add-mod' (len - size) size in
    let small : r < size = omega arith in
    let same : suc q * size + r ≡ len = omega (arith, whole) in
    ap (λ (n : ℕ). n / size) (sym same) ∙ div-mul-add (suc q) size r small

pub size_is_one : (size : ℕ) → (nat_lt 0 size && 1 == size) ≡ true → size ≡ 1
size_is_one size is = sym (eqb-true 1 size (both_of (nat_lt 0 size) (1 == size) is).1)
