-- Groups of bytes: how long their text is, and from which end they are counted.
use Rattle.std.proofs.Common.{◌≡◌, ℕ, ◌+◌, ◌-◌, ◌*◌, ◌<◌, ◌≤◌, zero, suc, List, [], ◌∷◌, ◌++◌, length, take, drop, refl, ap, sym, ◌∙◌, subst, arith, min, true, false, ℤ, pos, negsuc, ◌≢◌, Ok, nat_abs}
use Rattle.std.specs.Int.Signed.{lt_z}
use Rattle.std.proofs.lemmas.Bool.{false≢true, lt-ltb}
use Rattle.pybuf_value.specs.Refusing.{◌>>=◌}
use Rattle.pybuf_value.specs.Texts.{fitted}
use Rattle.std.specs.Prelude.{nat_lt}
use Rattle.std.proofs.lemmas.Bool.Decides.{nat_tests}
use Rattle.std.specs.List.{flat_map, list_all, All}
use Rattle.std.specs.Str.{IsAscii, IsUtf8}
use Rattle.std.proofs.Math.Nat.{suc-mul, mod-lt}
use Rattle.std.proofs.lemmas.Nat.{div-add-mod'}
use Rattle.std.proofs.lemmas.List.{append_assoc, take-append-drop, length-append, length-take, length-drop, take_min, drop_min, drop-drop, nil_from_length}
use Rattle.std.proofs.lemmas.List.Elements.{All-nil, All-cons}
use Rattle.std.proofs.lemmas.Str.{IsAscii-append, IsUtf8-from_ascii}
use Rattle.std.proofs.lemmas.Str.Ascii.{IsAscii-nil, IsAscii-cons}
use Rattle.hex.specs.Hex.{encode_lower, lower_digits}
use Rattle.hex.proofs.HexLemmas.{length-encode_with, IsAscii-encode_with}
use Rattle.pybuf_shaping.specs.Laws.{AreFromRight, AreFromLeft}
use Rattle.pybuf_shaping.specs.Digits.{groups_of, further, first_size, behind, separated, groups_from_left, groups_from_right, separator_in, text_by_groups}

-- ---- one more group

pub one_more : (separator size n m room : ℕ) (rest out : List ℕ) → n ≡ suc m → room ≡ min size (length rest) →
    ((out ++ separator ∷ []) ++ encode_lower (take room rest)) ++ flat_map (behind separator) (groups_of size m (drop room rest))
    ≡ out ++ flat_map (behind separator) (groups_of size n rest)
one_more separator size n m room rest out step cut =
    subst (λ k. ((out ++ separator ∷ []) ++ encode_lower (take room rest)) ++ flat_map (behind separator) (groups_of size m (drop room rest)) ≡ out ++ flat_map (behind separator) (groups_of size k rest)) (sym step)
    (subst (λ r. ((out ++ separator ∷ []) ++ encode_lower (take r rest)) ++ flat_map (behind separator) (groups_of size m (drop r rest)) ≡ out ++ flat_map (behind separator) (groups_of size (suc m) rest)) (sym cut)
    (rw (take_min size rest, drop_min size rest) (grind (arith, append_assoc))))

-- ---- how long the text is

pub length_of_groups : (separator size count : ℕ) (rest : List ℕ) → length rest ≤ count * size →
    length (flat_map (behind separator) (groups_of size count rest)) ≡ count + 2 * length rest
length_of_groups separator size zero rest short =
    let none : length rest ≡ 0 = omega (arith, short) in
    omega (arith, none)
length_of_groups separator size (suc count) rest short =
    let fewer : length (drop size rest) ≤ count * size = omega (arith, short, suc-mul count size, length-drop size rest) in
    let ih = length_of_groups separator size count (drop size rest) fewer in
    let front = length-encode_with lower_digits (take size rest) in
    let both = length-append (behind separator (take size rest)) (flat_map (behind separator) (groups_of size count (drop size rest))) in
    omega (arith, ih, front, both, length-take size rest, length-drop size rest)

pub length_of_text : (separator first size count : ℕ) (bytes : List ℕ) → length bytes ≤ first + count * size →
    length (separated separator (take first bytes ∷ groups_of size count (drop first bytes))) ≡ 2 * length bytes + count
length_of_text separator first size count bytes short =
    let fewer : length (drop first bytes) ≤ count * size = omega (arith, short, length-drop first bytes) in
    let rest = length_of_groups separator size count (drop first bytes) fewer in
    let front = length-encode_with lower_digits (take first bytes) in
    let both = length-append (encode_lower (take first bytes)) (flat_map (behind separator) (groups_of size count (drop first bytes))) in
    omega (arith, rest, front, both, length-take first bytes, length-drop first bytes)

-- ---- the bytes of the text

ascii_by_test : (text : List ℕ) → list_all (λ b. nat_lt b 128) text ≡ true → IsAscii text
ascii_by_test [] h k = omega arith
ascii_by_test (b ∷ text) h zero = grind (arith, nat_tests)
ascii_by_test (b ∷ text) h (suc k) = ascii_by_test text (grind (arith, nat_tests)) k

IsAscii-lower_digits : IsAscii lower_digits
IsAscii-lower_digits = ascii_by_test lower_digits refl

digits_ascii : (bytes : List ℕ) → IsAscii (encode_lower bytes)
digits_ascii bytes = IsAscii-encode_with lower_digits bytes IsAscii-lower_digits

pub digits_utf8 : (bytes : List ℕ) → IsUtf8 (encode_lower bytes)
digits_utf8 bytes = IsUtf8-from_ascii (encode_lower bytes) (digits_ascii bytes)

groups_ascii : (separator : ℕ) (groups : List (List ℕ)) → separator < 128 → IsAscii (flat_map (behind separator) groups)
groups_ascii separator [] small = IsAscii-nil
groups_ascii separator (group ∷ groups) small =
    IsAscii-append (behind separator group) (flat_map (behind separator) groups)
    (IsAscii-cons separator (encode_lower group) small (digits_ascii group)) (groups_ascii separator groups small)

pub text_utf8 : (separator : ℕ) (groups : List (List ℕ)) → separator < 128 → IsUtf8 (separated separator groups)
text_utf8 separator [] small = IsUtf8-from_ascii [] IsAscii-nil
text_utf8 separator (group ∷ groups) small =
    IsUtf8-from_ascii (separated separator (group ∷ groups))
    (IsAscii-append (encode_lower group) (flat_map (behind separator) groups) (digits_ascii group) (groups_ascii separator groups small))

-- ---- from which end the groups are counted

-- all groups but the last, and the last
abbrev pub split_last : ℕ → ℕ → List ℕ → Type 0
split_last size count rest = groups_of size (suc count) rest ≡ groups_of size count rest ++ take size (drop (count * size) rest) ∷ []

pub last_group : (size count : ℕ) (rest : List ℕ) → split_last size count rest
last_group size zero rest =
    let none : 0 ≡ zero * size = omega arith in
    ap (λ n. take size (drop n rest) ∷ []) none
last_group size (suc count) rest =
    let ih : split_last size count (drop size rest) = last_group size count (drop size rest) in
    let sum : size + count * size ≡ suc count * size = omega (arith, suc-mul count size) in
    let far : drop (count * size) (drop size rest) ≡ drop (suc count * size) rest = drop-drop (count * size) size rest ∙ ap (λ n. drop n rest) sum in
    ap (λ t. take size rest ∷ t) (ih ∙ ap (λ t. groups_of size count (drop size rest) ++ take size t ∷ []) far)

pub whole_groups : (size count : ℕ) (rest : List ℕ) → length rest ≤ count * size → flat_map (λ group. group) (groups_of size count rest) ≡ rest
whole_groups size zero rest short = sym (nil_from_length rest (omega (arith, short)))
whole_groups size (suc count) rest short =
    let fewer : length (drop size rest) ≤ count * size = omega (arith, short, suc-mul count size, length-drop size rest) in
    ap (λ t. take size rest ++ t) (whole_groups size count (drop size rest) fewer) ∙ take-append-drop size rest

pub full_groups : (size count : ℕ) (rest : List ℕ) → count * size ≤ length rest → All (λ group. length group ≡ size) (groups_of size count rest)
full_groups size zero rest long = All-nil (λ group. length group ≡ size)
full_groups size (suc count) rest long =
    let here : length (take size rest) ≡ size = omega (arith, long, suc-mul count size, length-take size rest) in
    let more : count * size ≤ length (drop size rest) = omega (arith, long, suc-mul count size, length-drop size rest) in
    All-cons (λ group. length group ≡ size) (take size rest) (groups_of size count (drop size rest)) here (full_groups size count (drop size rest) more)

-- The further groups have at most all bytes but one, and with one more group they cover the bytes.
pub within : (size : ℕ) (bytes : List ℕ) → further size bytes * size ≤ length bytes - 1
within size bytes = omega (arith, div-add-mod' (length bytes - 1) size)

pub covered : (size : ℕ) (bytes : List ℕ) → 0 < size → length bytes ≤ further size bytes * size + size
covered size bytes some = omega (arith, div-add-mod' (length bytes - 1) size, mod-lt (length bytes - 1) some)

pub from_right : (size : ℕ) (bytes : List ℕ) → 0 < size → 0 < length bytes → AreFromRight size bytes (groups_from_right size bytes)
from_right size bytes some many =
    let inside = within size bytes in
    let cover = covered size bytes some in
    let size_of : length (take (first_size size bytes) bytes) ≡ first_size size bytes = omega (arith, inside, length-take (first_size size bytes) bytes) in
    let rest : length (drop (first_size size bytes) bytes) ≡ further size bytes * size = omega (arith, inside, length-drop (first_size size bytes) bytes) in
    record {
      first = take (first_size size bytes) bytes;
      others = groups_of size (further size bytes) (drop (first_size size bytes) bytes);
      parts = refl;
      whole = ap (λ t. take (first_size size bytes) bytes ++ t) (whole_groups size (further size bytes) (drop (first_size size bytes) bytes) (omega (arith, rest))) ∙ take-append-drop (first_size size bytes) bytes;
      begins = (omega (arith, size_of, inside, many), omega (arith, size_of, cover));
      full = full_groups size (further size bytes) (drop (first_size size bytes) bytes) (omega (arith, rest));
    }

pub from_left : (size : ℕ) (bytes : List ℕ) → 0 < size → 0 < length bytes → AreFromLeft size bytes (groups_from_left size bytes)
from_left size bytes some many =
    let count : ℕ = further size bytes in
    let inside = within size bytes in
    let cover = covered size bytes some in
    let rest : length (drop (count * size) bytes) ≡ length bytes - count * size = length-drop (count * size) bytes in
    let size_of : length (take size (drop (count * size) bytes)) ≡ length bytes - count * size = omega (arith, inside, cover, rest, length-take size (drop (count * size) bytes)) in
    record {
      others = groups_of size count bytes;
      last = take size (drop (count * size) bytes);
      parts = last_group size count bytes;
      whole = whole_groups size (suc count) bytes (omega (arith, cover, suc-mul count size));
      full = full_groups size count bytes (omega (arith, inside));
      ends = (omega (arith, size_of, inside, many), omega (arith, size_of, cover));
    }

-- a first group that is cut at the end of the bytes
pub cut_at_end : (size first : ℕ) (bytes : List ℕ) → first ≡ min size (length bytes) →
    take first bytes ∷ groups_of size (further size bytes) (drop first bytes) ≡ groups_from_left size bytes
cut_at_end size first bytes same =
    subst (λ f. take f bytes ∷ groups_of size (further size bytes) (drop f bytes) ≡ groups_from_left size bytes) (sym same)
    (rw (take_min size bytes, drop_min size bytes) refl)

-- ---- the text in groups from the left

negative : (size : ℤ) → size ≢ pos 0 → lt_z (pos 0) size ≡ false → (m : ℕ) × (size ≡ negsuc m)
negative (pos zero) some none = absurd (some refl)
negative (pos (suc n)) some none = absurd (false≢true (sym none ∙ lt-ltb 0 (suc n) (omega arith)))
negative (negsuc m) some none = (m, refl)

by_negative : (separator : List ℕ) (byte width first m : ℕ) (size : ℤ) (bytes : List ℕ) → size ≡ negsuc m → width ≡ suc m →
    first ≡ min width (length bytes) → separator_in separator ≡ Ok byte →
    fitted (separated byte (take first bytes ∷ groups_of width (further width bytes) (drop first bytes))) ≡ text_by_groups separator size bytes
by_negative separator byte width first m size bytes less same cut one =
    ap (λ groups. fitted (separated byte groups)) (cut_at_end width first bytes cut ∙ ap (λ w. groups_from_left w bytes) same)
    ∙ sym (ap (λ z. text_by_groups separator z bytes) less ∙ ap (λ r. r >>= (λ b. fitted (separated b (groups_from_left (suc m) bytes)))) one)

pub from_left_text : (separator : List ℕ) (byte width first : ℕ) (size : ℤ) (bytes : List ℕ) → size ≢ pos 0 → lt_z (pos 0) size ≡ false → width ≡ nat_abs size →
    first ≡ min width (length bytes) → separator_in separator ≡ Ok byte →
    fitted (separated byte (take first bytes ∷ groups_of width (further width bytes) (drop first bytes))) ≡ text_by_groups separator size bytes
from_left_text separator byte width first size bytes some none same cut one =
    let found : (m : ℕ) × (size ≡ negsuc m) = negative size some none in
    by_negative separator byte width first found.0 size bytes found.1 (same ∙ ap nat_abs found.1) cut one
