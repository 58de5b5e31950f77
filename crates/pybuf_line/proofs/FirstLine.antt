-- A text that is cut at the first separator that a search finds, and the first line of an input.
use Rattle.std.proofs.Common.{◌≡◌, ℕ, ◌+◌, ◌-◌, ◌<◌, ◌≤◌, false, ◌==◌, List, [], ◌∷◌, length, take, drop, get_or, refl, sym, ◌∙◌, ap, arith, tests}
use Rattle.std.specs.List.{position_or_len, slice_split}
use Rattle.std.proofs.lemmas.List.Splits.{slice_split_first, slice_split_none}
use Rattle.std.proofs.lemmas.List.Sums.{position_or_len_is}
use Rattle.std.proofs.lemmas.List.{get_or_default, take_rest, drop_all}
use Rattle.bstr.specs.Find.{IsFirstByte, is_byte}
use Rattle.std.specs.Prelude.{Some, None}
use Rattle.pybuf_lemmas.proofs.Booleans.{false_if_untrue}
use Rattle.pybuf_line.specs.Parts.{parts_at}
use Rattle.pybuf_line.specs.Lines.{lines, without_empty_last}
use Rattle.pybuf_line.proofs.Colons.{some_part}

-- If there is a separator, the parts are cut at the first one.
pub cut_there : (separator at : ℕ) (text : List ℕ) → IsFirstByte (is_byte separator) text (Some at) →
    parts_at separator text ≡ take at text ∷ parts_at separator (drop (at + 1) text)
cut_there separator at text h =
    let high = h.0.high in
    let same : position_or_len (is_byte separator) text ≡ at =
    position_or_len_is (is_byte separator) text at 0 (omega arith)
    (λ k less. false_if_untrue (get_or text k 0 == separator) (h.0.before k (omega arith) less)) (λ less. h.1) in
    slice_split_first (is_byte separator) text 0 (omega arith) ∙ ap (λ i. take i text ∷ parts_at separator (drop (i + 1) text)) same

-- If there is no separator, the text is the only part.
pub nowhere : (separator : ℕ) (text : List ℕ) → IsFirstByte (is_byte separator) text None → parts_at separator text ≡ text ∷ []
nowhere separator text h =
    slice_split_none (is_byte separator) text
    (λ k d here. ap (is_byte separator) (get_or_default text k d 0 here) ∙ false_if_untrue (get_or text k 0 == separator) (h k (omega arith) here))

-- A part in front of others stays.
stays : (part : List ℕ) (parts : List (List ℕ)) (first : List ℕ) (more : List (List ℕ)) → parts ≡ first ∷ more →
    without_empty_last (part ∷ parts) ≡ part ∷ without_empty_last parts
stays part parts first more e = rw e refl

pub first_line : (at : ℕ) (text : List ℕ) → IsFirstByte (is_byte 10) text (Some at) → lines text ≡ take at text ∷ lines (drop (at + 1) text)
first_line at text h =
    let s = some_part (is_byte 10) (drop (at + 1) text) in
    ap without_empty_last (cut_there 10 at text h) ∙ stays (take at text) (parts_at 10 (drop (at + 1) text)) s.0 s.1 s.2

one_part : (text : List ℕ) → (length text == 0) ≡ false → without_empty_last (text ∷ []) ≡ text ∷ []
one_part text h = grind (arith, tests)

-- the bytes behind the last
rest_none : (text : List ℕ) → lines (take (length text - length text) (drop (length text) text)) ≡ []
rest_none text =
    let none : length text - length text ≡ 0 = omega arith in
    ap (λ n. lines (take n (drop (length text) text))) none

pub last_line : (text : List ℕ) → (length text == 0) ≡ false → IsFirstByte (is_byte 10) text None →
    lines text ≡ text ∷ lines (take (length text - length text) (drop (length text) text))
last_line text some h = ap without_empty_last (nowhere 10 text h) ∙ (one_part text some ∙ ap (λ rest. text ∷ rest) (sym (rest_none text)))
