-- Digits that are read pair by pair.
use Rattle.std.proofs.Common.{◌≡◌, refl, sym, ap, ◌∙◌, ℕ, ◌<◌, ◌+◌, ◌*◌, ◌/◌, ◌%◌, List, [], ◌∷◌, ◌++◌, Result, Ok, Err, Some, None, true, false, not, cond, length, get_or, take, drop, eq-eqb, slice_index, inl, inr, ◌==◌, arith}
use Rattle.std.specs.Prelude.{is_some}
use Rattle.std.proofs.lemmas.Bool.{cases_eq, false≢true, lt-ltb, le-ltb}
use Rattle.std.proofs.lemmas.Bool.Decides.{nat_tests}
use Rattle.std.specs.List.{All, flat_map}
use Rattle.std.proofs.lemmas.List.{append_assoc, drop_more, take_at, drop_at}
use Rattle.std.proofs.lemmas.List.Sums.{AllPass-from_list_all}
use Rattle.std.proofs.lemmas.List.Elements.{All-head, All-tail, All-same, All-take, All-drop, filter-append}
use Rattle.pybuf_lemmas.proofs.Booleans.{false_if_not_true}
use Rattle.hex.specs.Hex.{encode_with, encode_lower, hex_digit_value, is_hex_digit, lower_digits}
use Rattle.hex.proofs.HexLemmas.{IsDigits-lower_digits}
use Rattle.pybuf_value.specs.declared.faults.Fault.{Fault}
use Rattle.pybuf_value.specs.declared.faults.Fault.TheVariants as fault
use Rattle.pybuf_value.specs.Refusing.{◌>>=◌}
use Rattle.pybuf_letters.specs.Classes.{is_blank}
use Rattle.pybuf_shaping.specs.Digits.{byte_of_digits, bytes_of_hex, behind, value_below_16}
use Rattle.pybuf_shaping.specs.Laws.{DigitsReadBack, SeparatorsLeftOut, without}

-- bytes in front of those that what is left of a text gives
abbrev pub bytes_before : List ℕ → Result (List ℕ) Fault → Result (List ℕ) Fault
bytes_before bytes (Ok rest) = Ok (bytes ++ rest)
bytes_before bytes (Err f) = Err f

-- no bytes in front of them
pub nothing_before : (rest : Result (List ℕ) Fault) → bytes_before [] rest ≡ rest
nothing_before (Ok rest) = refl
nothing_before (Err f) = refl

-- one byte, and then the others
pub one_more : (bytes : List ℕ) (byte : ℕ) (rest : Result (List ℕ) Fault) → bytes_before bytes (rest >>= (λ others. Ok (byte ∷ others))) ≡ bytes_before (bytes ++ byte ∷ []) rest
one_more bytes byte (Ok rest) = ap Ok (sym (append_assoc bytes (byte ∷ []) rest))
one_more bytes byte (Err f) = refl

-- The text has a blank in front.
pub skip : (c : ℕ) (text : List ℕ) → is_blank c ≡ true → bytes_of_hex (c ∷ text) ≡ bytes_of_hex text
skip c [] blank = ap (λ t. cond t (Ok []) (Err fault.Value)) blank
skip c (d ∷ text) blank = ap (λ t. cond t (bytes_of_hex (d ∷ text)) (byte_of_digits (hex_digit_value c) (hex_digit_value d) >>= (λ byte. bytes_of_hex text >>= (λ bytes. Ok (byte ∷ bytes))))) blank

-- The text has a pair in front.
pub pair : (c d byte : ℕ) (text : List ℕ) → is_blank c ≡ false → byte_of_digits (hex_digit_value c) (hex_digit_value d) ≡ Ok byte →
    bytes_of_hex (c ∷ d ∷ text) ≡ (bytes_of_hex text >>= (λ bytes. Ok (byte ∷ bytes)))
pair c d byte text printed digits =
    ap (λ t. cond t (bytes_of_hex (d ∷ text)) (byte_of_digits (hex_digit_value c) (hex_digit_value d) >>= (λ byte. bytes_of_hex text >>= (λ bytes. Ok (byte ∷ bytes))))) printed
    ∙ ap (λ r. r >>= (λ byte. bytes_of_hex text >>= (λ bytes. Ok (byte ∷ bytes)))) digits

-- The text has no pair in front.
pub bad : (c : ℕ) (text : List ℕ) → is_blank c ≡ false → hex_digit_value c ≡ None → bytes_of_hex (c ∷ text) ≡ Err fault.Value
bad c [] printed none = ap (λ t. cond t (Ok []) (Err fault.Value)) printed
bad c (d ∷ text) printed none =
    ap (λ t. cond t (bytes_of_hex (d ∷ text)) (byte_of_digits (hex_digit_value c) (hex_digit_value d) >>= (λ byte. bytes_of_hex text >>= (λ bytes. Ok (byte ∷ bytes))))) printed
    ∙ ap (λ h. byte_of_digits h (hex_digit_value d) >>= (λ byte. bytes_of_hex text >>= (λ bytes. Ok (byte ∷ bytes)))) none

-- A number below 16 is the value of a digit, and no other number is.
value_kept : (n : ℕ) → n < 16 → value_below_16 n ≡ Some n
value_kept n small = ap (λ t. cond t (Some n) None) (lt-ltb n 16 small)

pub value_refused : (n : ℕ) → 15 < n → value_below_16 n ≡ None
value_refused n large = ap (λ t. cond t (Some n) None) (le-ltb n 16 (omega (arith, large)))

pub blank_step : (text : List ℕ) (at : ℕ) → at < length text → is_blank (get_or text at 0) ≡ true → bytes_of_hex (drop (at + 1) text) ≡ bytes_of_hex (drop at text)
blank_step text at inside blank = sym (ap bytes_of_hex (drop_more text at 0 inside) ∙ skip (get_or text at 0) (drop (at + 1) text) blank)

pub pair_step : (text bytes : List ℕ) (at byte : ℕ) → at + 1 < length text → is_blank (get_or text at 0) ≡ false →
    byte_of_digits (hex_digit_value (get_or text at 0)) (hex_digit_value (get_or text (at + 1) 0)) ≡ Ok byte →
    bytes_before (bytes ++ byte ∷ []) (bytes_of_hex (drop (at + 2) text)) ≡ bytes_before bytes (bytes_of_hex (drop at text))
pair_step text bytes at byte inside printed digits =
    let two : drop at text ≡ get_or text at 0 ∷ get_or text (at + 1) 0 ∷ drop (at + 1 + 1) text =
    drop_more text at 0 (omega (arith, inside)) ∙ ap (λ t. get_or text at 0 ∷ t) (drop_more text (at + 1) 0 inside) in
    let same : at + 1 + 1 ≡ at + 2 = omega arith in
    sym (ap (λ t. bytes_before bytes (bytes_of_hex t)) two
    ∙ (ap (bytes_before bytes) (pair (get_or text at 0) (get_or text (at + 1) 0) byte (drop (at + 1 + 1) text) printed digits)
    ∙ (one_more bytes byte (bytes_of_hex (drop (at + 1 + 1) text))
    ∙ ap (λ n. bytes_before (bytes ++ byte ∷ []) (bytes_of_hex (drop n text))) same)))

-- A byte that is neither a blank nor a digit is refused.
pub bad_step : (text : List ℕ) (at : ℕ) → at < length text → is_blank (get_or text at 0) ≡ false → hex_digit_value (get_or text at 0) ≡ None → bytes_of_hex (drop at text) ≡ Err fault.Value
bad_step text at inside printed none = ap bytes_of_hex (drop_more text at 0 inside) ∙ bad (get_or text at 0) (drop (at + 1) text) printed none

-- A refusal behind some bytes is a refusal of the whole text.
pub refused_behind : (bytes : List ℕ) (rest whole : Result (List ℕ) Fault) → bytes_before bytes rest ≡ whole → rest ≡ Err fault.Value → whole ≡ Err fault.Value
refused_behind bytes rest whole same refused = sym same ∙ ap (bytes_before bytes) refused

-- Two digits whose values are below 16 spell a byte.
pub byte_of_values : (c d high low : ℕ) → hex_digit_value c ≡ value_below_16 high → hex_digit_value d ≡ value_below_16 low → high < 16 → low < 16 → byte_of_digits (hex_digit_value c) (hex_digit_value d) ≡ Ok (high * 16 + low)
byte_of_values c d high low one other small less =
    let first : hex_digit_value c ≡ Some high = one ∙ value_kept high small in
    let second : hex_digit_value d ≡ Some low = other ∙ value_kept low less in
    ap (λ h. byte_of_digits h (hex_digit_value d)) first ∙ ap (byte_of_digits (Some high)) second

-- ---- the digits of bytes are read as the bytes

no_blank : (d : ℕ) → d < 16 → is_blank (slice_index lower_digits d) ≡ false
no_blank d small = false_if_not_true (is_blank (slice_index lower_digits d)) (AllPass-from_list_all (λ c. not (is_blank c)) lower_digits refl d 0 small)

digits_of : (b : ℕ) → b < 256 → byte_of_digits (hex_digit_value (slice_index lower_digits (b / 16))) (hex_digit_value (slice_index lower_digits (b % 16))) ≡ Ok b
digits_of b small =
    let high = IsDigits-lower_digits (b / 16) (omega arith) in
    let low = IsDigits-lower_digits (b % 16) (omega arith) in
    let whole : b / 16 * 16 + b % 16 ≡ b = omega arith in
    ap (λ h. byte_of_digits h (hex_digit_value (slice_index lower_digits (b % 16)))) high
    ∙ (ap (byte_of_digits (Some (b / 16))) low ∙ ap Ok whole)

pub read_back : (bytes : List ℕ) → DigitsReadBack bytes
unfolding encode_with
read_back [] all = refl
read_back (b ∷ bytes) all =
    let small : b < 256 = All-head (λ b. b < 256) b bytes all in
    pair (slice_index lower_digits (b / 16)) (slice_index lower_digits (b % 16)) b (encode_lower bytes) (no_blank (b / 16) (omega arith)) (digits_of b small)
    ∙ ap (λ r. r >>= (λ others. Ok (b ∷ others))) (read_back bytes (All-tail (λ b. b < 256) b bytes all))

-- ---- separators that are left out

nothing : [] ≡ encode_lower []
unfolding encode_with
nothing = refl

encode-append : (xs ys : List ℕ) → encode_lower (xs ++ ys) ≡ encode_lower xs ++ encode_lower ys
unfolding encode_with
encode-append [] ys = refl
encode-append (b ∷ xs) ys = ap (λ t. slice_index lower_digits (b / 16) ∷ slice_index lower_digits (b % 16) ∷ t) (encode-append xs ys)

all_front : (xs ys : List ℕ) → All (λ b. b < 256) (xs ++ ys) → All (λ b. b < 256) xs
all_front xs ys all = All-same (λ b. b < 256) xs (take (length xs) (xs ++ ys)) (sym (take_at xs ys (length xs) refl)) (All-take (λ b. b < 256) (length xs) (xs ++ ys) all)

all_behind : (xs ys : List ℕ) → All (λ b. b < 256) (xs ++ ys) → All (λ b. b < 256) ys
all_behind xs ys all = All-same (λ b. b < 256) ys (drop (length xs) (xs ++ ys)) (sym (drop_at xs ys (length xs) refl)) (All-drop (λ b. b < 256) (length xs) (xs ++ ys) all)

apart : (x y : ℕ) → is_hex_digit x ≡ true → is_hex_digit y ≡ false → (x == y) ≡ false
apart x y digit other = elim (cases_eq x y) [
  | inl same ↦ absurd (false≢true (sym other ∙ (ap is_hex_digit (sym same) ∙ digit)))
  | inr different ↦ grind (arith, nat_tests)
]

is_digit : (d : ℕ) → d < 16 → is_hex_digit (slice_index lower_digits d) ≡ true
is_digit d small = ap is_some (IsDigits-lower_digits d small)

kept : (separator c : ℕ) (text : List ℕ) → (c == separator) ≡ false → without separator (c ∷ text) ≡ c ∷ without separator text
kept separator c text other = ap (λ t. cond (not t) (c ∷ without separator text) (without separator text)) other

dropped : (separator : ℕ) (text : List ℕ) → without separator (separator ∷ text) ≡ without separator text
dropped separator text = ap (λ t. cond (not t) (separator ∷ without separator text) (without separator text)) (eq-eqb separator separator refl)

digits_kept : (separator : ℕ) → is_hex_digit separator ≡ false → (bytes : List ℕ) → All (λ b. b < 256) bytes → without separator (encode_lower bytes) ≡ encode_lower bytes
unfolding encode_with
digits_kept separator other [] all = refl
digits_kept separator other (b ∷ bytes) all =
    let small : b < 256 = All-head (λ b. b < 256) b bytes all in
    let high : ℕ = slice_index lower_digits (b / 16) in
    let low : ℕ = slice_index lower_digits (b % 16) in
    kept separator high (low ∷ encode_lower bytes) (apart high separator (is_digit (b / 16) (omega arith)) other)
    ∙ (ap (λ t. high ∷ t) (kept separator low (encode_lower bytes) (apart low separator (is_digit (b % 16) (omega arith)) other))
    ∙ ap (λ t. high ∷ low ∷ t) (digits_kept separator other bytes (All-tail (λ b. b < 256) b bytes all)))

further_left_out : (separator : ℕ) → is_hex_digit separator ≡ false → (groups : List (List ℕ)) → All (λ b. b < 256) (flat_map (λ group. group) groups) →
    without separator (flat_map (behind separator) groups) ≡ encode_lower (flat_map (λ group. group) groups)
further_left_out separator other [] all = nothing
further_left_out separator other (group ∷ groups) all =
    let rest : List ℕ = flat_map (λ group. group) groups in
    filter-append (λ c. not (c == separator)) (behind separator group) (flat_map (behind separator) groups)
    ∙ (ap (λ t. t ++ without separator (flat_map (behind separator) groups)) (dropped separator (encode_lower group) ∙ digits_kept separator other group (all_front group rest all))
    ∙ (ap (λ t. encode_lower group ++ t) (further_left_out separator other groups (all_behind group rest all))
    ∙ sym (encode-append group rest)))

pub left_out : (separator : ℕ) (groups : List (List ℕ)) → SeparatorsLeftOut separator groups
left_out separator [] all other = nothing
left_out separator (group ∷ groups) all other =
    let rest : List ℕ = flat_map (λ group. group) groups in
    filter-append (λ c. not (c == separator)) (encode_lower group) (flat_map (behind separator) groups)
    ∙ (ap (λ t. t ++ without separator (flat_map (behind separator) groups)) (digits_kept separator other group (all_front group rest all))
    ∙ (ap (λ t. encode_lower group ++ t) (further_left_out separator other groups (all_behind group rest all))
    ∙ sym (encode-append group rest)))
