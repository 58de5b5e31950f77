-- The texts of values have only bytes of ASCII.
use Rattle.std.proofs.Common.{◌≡◌, ℕ, ◌<◌, ◌/◌, ◌%◌, zero, suc, List, [], ◌∷◌, ◌++◌, slice_index, Bool, true, false, cond, ◌==◌, ◌&&◌, not, refl, ◌∙◌, ap, arith, ℤ, pos, negsuc}
use Rattle.std.specs.Prelude.{nat_lt}
use Rattle.std.specs.List.{flat_map, list_all, list_any}
use Rattle.std.specs.Str.{IsAscii, IsUtf8}
use Rattle.std.specs.Fmt.{signed_decimal, digits, digits_onto, digit_glyph, decimal}
use Rattle.std.proofs.lemmas.List.Folds.{list_all-append}
use Rattle.std.proofs.lemmas.Bool.Decides.{nat_tests}
use Rattle.std.proofs.lemmas.Str.{IsUtf8-from_ascii, IsUtf8-append}
use Rattle.hex.specs.Hex.{lower_digits}
use Rattle.pybuf_value.specs.declared.values.Scalar.{Scalar}
use Rattle.pybuf_value.specs.declared.values.Scalar.TheVariants as scalar
use Rattle.pybuf_value.specs.Quotes.{quote_of, escaped_byte, quoted_text, repr_of}
use Rattle.pybuf_value.specs.Spelling.{truth_text, handle_text, scalar_text}
use Rattle.pybuf_value.specs.Texts.{is_ascii}

abbrev AllAscii : List ℕ → Type 0
AllAscii xs = list_all (λ b. nat_lt b 128) xs ≡ true

byte_ascii : (xs : List ℕ) (k : ℕ) → AllAscii xs → slice_index xs k < 128
byte_ascii [] k h = omega arith
byte_ascii (x ∷ xs) zero h = grind (arith, nat_tests)
byte_ascii (x ∷ xs) (suc k) h = byte_ascii xs k (grind (arith, nat_tests))

both : (xs ys : List ℕ) → AllAscii xs → AllAscii ys → AllAscii (xs ++ ys)
both xs ys h k = list_all-append (λ b. nat_lt b 128) xs ys ∙ (ap (λ b. b && list_all (λ c. nat_lt c 128) ys) h ∙ k)

first : (b : ℕ) (xs : List ℕ) → nat_lt b 128 ≡ true → AllAscii xs → AllAscii (b ∷ xs)
first b xs h k = ap (λ t. t && list_all (λ c. nat_lt c 128) xs) h ∙ k

glyph_ascii : (n : ℕ) → nat_lt (digit_glyph false (n % 10)) 128 ≡ true
glyph_ascii n = grind (arith, nat_tests)

digits_step : (k n : ℕ) (last : Bool) (acc : List ℕ) → AllAscii acc → ((m : ℕ) (more : List ℕ) → AllAscii more → AllAscii (digits_onto k 10 false m more)) →
    AllAscii (cond last (digit_glyph false (n % 10) ∷ acc) (digits_onto k 10 false (n / 10) (digit_glyph false (n % 10) ∷ acc)))
digits_step k n true acc h others = first (digit_glyph false (n % 10)) acc (glyph_ascii n) h
digits_step k n false acc h others = others (n / 10) (digit_glyph false (n % 10) ∷ acc) (first (digit_glyph false (n % 10)) acc (glyph_ascii n) h)

digits_ascii : (k n : ℕ) (acc : List ℕ) → AllAscii acc → AllAscii (digits_onto k 10 false n acc)
digits_ascii zero n acc h = h
digits_ascii (suc k) n acc h = digits_step k n (n / 10 == 0) acc h (digits_ascii k)

decimal_ascii : (n : ℕ) → AllAscii (decimal n)
unfolding digits
decimal_ascii n = digits_ascii 64 n [] refl

hex_ascii : (k : ℕ) → slice_index lower_digits k < 128
hex_ascii k = byte_ascii lower_digits k refl

escaped_ascii : (q b : ℕ) → q < 128 → AllAscii (escaped_byte q b)
escaped_ascii q b h = grind (arith, nat_tests, hex_ascii (b / 16), hex_ascii (b % 16))

all_escaped_ascii : (q : ℕ) (bytes : List ℕ) → q < 128 → AllAscii (flat_map (escaped_byte q) bytes)
all_escaped_ascii q [] h = refl
all_escaped_ascii q (b ∷ bytes) h = both (escaped_byte q b) (flat_map (escaped_byte q) bytes) (escaped_ascii q b h) (all_escaped_ascii q bytes h)

quote_by : (double : Bool) → cond double 34 39 < 128
quote_by true = omega arith
quote_by false = omega arith

quote_small : (bytes : List ℕ) → quote_of bytes < 128
quote_small bytes = quote_by (list_any (λ b. b == 39) bytes && not (list_any (λ b. b == 34) bytes))

quoted_all_ascii : (bytes : List ℕ) → AllAscii (quoted_text bytes)
quoted_all_ascii bytes =
    let q = quote_of bytes in
    let small : q < 128 = quote_small bytes in
    let one : nat_lt q 128 ≡ true = grind (arith, nat_tests) in
    first q (flat_map (escaped_byte q) bytes ++ q ∷ []) one
    (both (flat_map (escaped_byte q) bytes) (q ∷ []) (all_escaped_ascii q bytes small) (first q [] one refl))

truth_ascii : (truth : Bool) → AllAscii (truth_text truth)
truth_ascii true = refl
truth_ascii false = refl

number_ascii : (n : ℤ) → AllAscii (signed_decimal n)
number_ascii (pos n) = decimal_ascii n
number_ascii (negsuc n) = first 45 (decimal (suc n)) refl (decimal_ascii (suc n))

scalar_all_ascii : (s : Scalar) → AllAscii (scalar_text handle_text s)
scalar_all_ascii scalar.None = refl
scalar_all_ascii (scalar.Bool truth) = truth_ascii truth
scalar_all_ascii (scalar.Int number) = number_ascii number
scalar_all_ascii (scalar.Text text) = quoted_all_ascii text
scalar_all_ascii (scalar.Bytes bytes) = first 98 (quoted_text bytes) refl (quoted_all_ascii bytes)
scalar_all_ascii scalar.Ellipsis = refl
scalar_all_ascii (scalar.Handle handle) = first 104 (decimal handle) refl (decimal_ascii handle)

pub scalar_ascii : (s : Scalar) → IsAscii (scalar_text handle_text s)
scalar_ascii s i = byte_ascii (scalar_text handle_text s) i (scalar_all_ascii s)

quoted_utf8 : (bytes : List ℕ) → IsUtf8 (quoted_text bytes)
quoted_utf8 bytes = IsUtf8-from_ascii (quoted_text bytes) (λ i. byte_ascii (quoted_text bytes) i (quoted_all_ascii bytes))

pub utf8_from_ascii : (text : List ℕ) → is_ascii text ≡ true → IsUtf8 text
utf8_from_ascii text h = IsUtf8-from_ascii text (λ i. byte_ascii text i h)

-- a quoted text behind two texts and in front of another
pub between_utf8 : (name opening bytes closing : List ℕ) → IsUtf8 name → IsUtf8 opening → IsUtf8 closing → IsUtf8 (repr_of (name ++ opening) bytes closing)
between_utf8 name opening bytes closing h k l =
    IsUtf8-append ((name ++ opening) ++ quoted_text bytes) closing
    (IsUtf8-append (name ++ opening) (quoted_text bytes) (IsUtf8-append name opening h k) (quoted_utf8 bytes)) l
