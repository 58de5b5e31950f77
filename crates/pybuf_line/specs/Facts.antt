-- Facts about the definitions of this crate, with their proofs, for the proofs of the crates above.
use Rattle.std.proofs.Common.{ℕ, ◌≤◌, List, [], ◌∷◌, length, ◌==◌, arith, ◌≡◌, ◌+◌, ap, ◌++◌, refl, ◌∙◌, ◌||◌, zero, suc, slice_index, false, tests, ◌<◌, true, Some}
use Rattle.std.proofs.lemmas.List.Splits.{length-slice_split, slice_split-cons_yes, slice_split-cons_no}
use Rattle.std.proofs.lemmas.List.Sums.{count_by-le-length}
use Rattle.std.specs.List.{list_any, onto_first, list_all}
use Rattle.std.proofs.lemmas.List.Folds.{list_any-append}
use Rattle.std.specs.Str.Parse.{AllDigits, digits_value}
use Rattle.pybuf_lemmas.proofs.Lists.{at_most_one_part, digits_pass}
use Rattle.pybuf_lemmas.proofs.Booleans.{neither_of}
use Rattle.pybuf_value.specs.declared.values.Scalar.{Scalar}
use Rattle.pybuf_line.specs.Lines.{without_empty_last, lines}
use Rattle.pybuf_line.specs.Parts.{parts_at}
use Rattle.pybuf_line.specs.Laws.{IsOneLine, IsSpelled, IsSlicePart}
use Rattle.pybuf_line.specs.Scalars.{is_number, number_below, is_text_byte}
use Rattle.pybuf_value.specs.declared.values.Scalar.TheVariants as scalar

pub fewer_without_last : (parts : List (List ℕ)) → length (without_empty_last parts) ≤ length parts
fewer_without_last [] = omega arith
fewer_without_last (part ∷ []) = at_most_one_part part (length part == 0)
fewer_without_last (part ∷ next ∷ more) = omega (arith, fewer_without_last (next ∷ more))

-- there is a line left, so the count of lines read is below the count of all
pub lines_counted : (n : ℕ) (rest line after input : List ℕ) → lines rest ≡ line ∷ lines after → n + length (lines rest) ≡ length (lines input) →
    n + 1 + length (lines after) ≡ length (lines input)
lines_counted n rest line after input cut h = omega (arith, ap length cut, h)

-- there is at most one line more than there are bytes
pub few_lines : (input : List ℕ) → length (lines input) ≤ length input + 1
few_lines input =
    let whole = fewer_without_last (parts_at 10 input) in
    let parts = length-slice_split (λ b. b == 10) input in
    omega (arith, whole, parts, count_by-le-length (λ b. b == 10) input)

-- a line and its line feed at the front of a text
pub line_cut : (line rest : List ℕ) → IsOneLine line → parts_at 10 (line ++ 10 ∷ rest) ≡ line ∷ parts_at 10 rest
line_cut [] rest single = slice_split-cons_yes (λ b. b == 10) 10 rest refl
line_cut (b ∷ line) rest single =
    let both = neither_of (b == 10) (list_any (λ x. x == 10) line) single in
    slice_split-cons_no (λ x. x == 10) b (line ++ 10 ∷ rest) both.0 ∙ ap (onto_first b) (line_cut line rest both.1)

pub without_last : (ls : List (List ℕ)) → without_empty_last (ls ++ [] ∷ []) ≡ ls
without_last [] = refl
without_last (line ∷ []) = refl
without_last (line ∷ next ∷ ls) = ap (λ rest. line ∷ rest) (without_last (next ∷ ls))

pub one_line_both : (xs ys : List ℕ) → IsOneLine xs → IsOneLine ys → IsOneLine (xs ++ ys)
one_line_both xs ys h k = list_any-append (λ b. b == 10) xs ys ∙ (ap (λ b. b || list_any (λ c. c == 10) ys) h ∙ k)

-- a byte of a text of one line, or 0 past its end
pub no_line_end_in_line : (xs : List ℕ) (k : ℕ) → IsOneLine xs → (slice_index xs k == 10) ≡ false
no_line_end_in_line [] k h = refl
no_line_end_in_line (x ∷ xs) zero h = grind (arith, tests)
no_line_end_in_line (x ∷ xs) (suc k) h = no_line_end_in_line xs k (grind (arith, tests))

pub spelled_part : (s : Scalar) → IsSlicePart s → IsSpelled s
spelled_part scalar.None h = h
spelled_part (scalar.Bool truth) h = h
spelled_part (scalar.Int number) h = h
spelled_part (scalar.Text text) h = absurd h
spelled_part (scalar.Bytes bytes) h = h
spelled_part scalar.Ellipsis h = h
spelled_part (scalar.Handle handle) h = h

pub numeral_test : (ds : List ℕ) → 0 < length ds → AllDigits 10 ds → is_number ds ≡ true
numeral_test [] h all = absurd (omega arith)
numeral_test (c ∷ cs) h all = let t = digits_pass (c ∷ cs) all in grind (arith, tests, t)

pub number_read : (bound n : ℕ) (ds : List ℕ) → 0 < length ds → AllDigits 10 ds → digits_value 10 ds ≡ n → n < bound → number_below bound ds ≡ Some n
number_read bound n ds some all e h = rw (numeral_test ds some all, e) (grind (arith, tests))

pub each_text_byte : (t : List ℕ) → IsSpelled (scalar.Text t) → list_all is_text_byte t ≡ true
each_text_byte t h = grind (arith, tests)
