-- A text that is cut at its first blank.
use Rattle.std.proofs.Common.{◌≡◌, ℕ, ◌+◌, Bool, true, false, ◌==◌, List, [], ◌∷◌, take, drop, get_or, refl, sym, ◌∙◌, ap, arith, tests}
use Rattle.std.specs.Prelude.{Some, None, cond}
use Rattle.std.specs.List.{position_or_len, onto_first}
use Rattle.std.proofs.lemmas.List.Splits.{slice_split_first, slice_split_none}
use Rattle.std.proofs.lemmas.List.Sums.{position_or_len_is}
use Rattle.std.proofs.lemmas.List.{get_or_default, drop_more}
use Rattle.pybuf_lemmas.proofs.Booleans.{false_if_untrue}
use Rattle.bstr.specs.Find.{IsFirstByte, is_byte}
use Rattle.pybuf_line.specs.Words.{words}
use Rattle.pybuf_sessions.specs.Asks.{rest_text, IsFront}

pub cut_there : (at : ℕ) (text : List ℕ) → IsFirstByte (is_byte 32) text (Some at) → words text ≡ take at text ∷ words (drop (at + 1) text)
cut_there at text h =
    let high = h.0.high in
    let same : position_or_len (is_byte 32) text ≡ at =
    position_or_len_is (is_byte 32) text at 0 (omega arith)
    (λ k less. false_if_untrue (get_or text k 0 == 32) (h.0.before k (omega arith) less)) (λ less. h.1) in
    slice_split_first (is_byte 32) text 0 (omega arith) ∙ ap (λ i. take i text ∷ words (drop (i + 1) text)) same

pub nowhere : (text : List ℕ) → IsFirstByte (is_byte 32) text None → words text ≡ text ∷ []
nowhere text h =
    slice_split_none (is_byte 32) text
    (λ k d here. ap (is_byte 32) (get_or_default text k d 0 here) ∙ false_if_untrue (get_or text k 0 == 32) (h k (omega arith) here))

-- The words of a text, each with a blank before it, are a blank and then the text.
onto_text : (b : ℕ) (all : List (List ℕ)) (text : List ℕ) → rest_text all ≡ 32 ∷ text → rest_text (onto_first b all) ≡ 32 ∷ b ∷ text
onto_text b [] text e = cc
onto_text b (word ∷ more) text e = cc

words_text_if : (blank : Bool) (b : ℕ) (all : List (List ℕ)) (text : List ℕ) → (blank ≡ true → b ≡ 32) → rest_text all ≡ 32 ∷ text →
    rest_text (cond blank ([] ∷ all) (onto_first b all)) ≡ 32 ∷ b ∷ text
words_text_if true b all text is e = ap (λ t. 32 ∷ t) e ∙ ap (λ c. 32 ∷ c ∷ text) (sym (is refl))
words_text_if false b all text is e = onto_text b all text e

is_blank : (b : ℕ) → (b == 32) ≡ true → b ≡ 32
is_blank b h = grind (arith, tests)

pub words_text : (text : List ℕ) → rest_text (words text) ≡ 32 ∷ text
words_text [] = refl
words_text (b ∷ rest) = words_text_if (b == 32) b (words rest) rest (is_blank b) (words_text rest)

-- the text from the blank on
from_blank : (at : ℕ) (text : List ℕ) → IsFirstByte (is_byte 32) text (Some at) → drop at text ≡ 32 ∷ drop (at + 1) text
from_blank at text h =
    let high = h.0.high in
    drop_more text at 0 high ∙ ap (λ b. b ∷ drop (at + 1) text) (is_blank (get_or text at 0) h.1)

pub front_there : (at : ℕ) (text rest : List ℕ) → rest ≡ drop at text → IsFirstByte (is_byte 32) text (Some at) → IsFront text (take at text) rest
front_there at text rest e h = record {
  arguments = words (drop (at + 1) text);
  cut = cut_there at text h;
  behind = words_text (drop (at + 1) text) ∙ sym (e ∙ from_blank at text h);
}

pub front_alone : (text rest : List ℕ) → rest ≡ [] → IsFirstByte (is_byte 32) text None → IsFront text text rest
front_alone text rest e h = record { arguments = []; cut = nowhere text h; behind = sym e }
