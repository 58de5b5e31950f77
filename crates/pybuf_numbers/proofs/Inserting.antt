-- A number is inserted by its bytes, which are copied.
use Rattle.std.proofs.Common.{◌≡◌, ℕ, ◌*◌, ◌≤◌, List, [], ◌∷◌, length, ap, ◌∙◌, ℤ}
use Rattle.std.specs.Prelude.{true}
use Rattle.pybuf_slice.specs.Edits.{replaced_range}
use Rattle.pybuf_numbers.specs.declared.codes.ArrayCode.{ArrayCode}
use Rattle.pybuf_numbers.specs.Codes.{size_of, holds}
use Rattle.pybuf_numbers.specs.Numbers.{numbers_of, digits_of, is_whole}
use Rattle.pybuf_numbers.proofs.CodeLemmas.{insert_is, insert_whole}

pub record Inserted (c : ArrayCode) (bytes new : List ℕ) (place : ℕ) (n : ℤ) : Type 0 where
  pub numbers : numbers_of c new ≡ replaced_range (numbers_of c bytes) place place (n ∷ [])
  pub whole : is_whole c new ≡ true

pub inserted : (c : ArrayCode) (bytes new digits copies : List ℕ) (place at : ℕ) (n : ℤ) → place ≤ length (numbers_of c bytes) → is_whole c bytes ≡ true → holds c n ≡ true
    → digits ≡ digits_of c n → at ≡ size_of c * place → copies ≡ digits → new ≡ replaced_range bytes at at copies → Inserted c bytes new place n
inserted c bytes new digits copies place at n there whole fits same start twin is =
    let by : new ≡ replaced_range bytes at at digits = is ∙ ap (λ d. replaced_range bytes at at d) twin in
    record {
      numbers = ap (numbers_of c) by ∙ insert_is c bytes digits place at n there whole fits same start;
      whole = ap (is_whole c) by ∙ insert_whole c bytes digits place at n there whole same start;
    }
