-- The parts of an array after its bytes or its views changed.
use Rattle.std.proofs.Common.{◌≡◌, ℕ, ◌+◌, ◌≤◌, Bool, true, false, not, cond, List, [], ◌∷◌, ◌++◌, length, refl, sym, ap, subst, ◌∙◌, arith, ℤ, take, drop, ◌/◌, ◌%◌}
use Rattle.std.specs.Prelude.{Result, Ok, Err, OnOk, OnErr, count_by, nat_lt, ◌==◌}
use Rattle.std.proofs.lemmas.Bool.{ltb-false}
use Rattle.std.proofs.lemmas.List.Sums.{sum_by-cons}
use Rattle.pybuf_value.specs.declared.faults.Fault.{Fault}
use Rattle.pybuf_value.specs.declared.faults.Fault.TheVariants as fault
use Rattle.pybuf_value.specs.Refusing.{unless}
use Rattle.pybuf_state.specs.Exporter.{Exporter, View, exports_of, is_exported}
use Rattle.pybuf_numbers.specs.declared.codes.ArrayCode.{ArrayCode}
use Rattle.pybuf_numbers.specs.declared.runs.IndexRun.{IndexRun}
use Rattle.std.specs.Simd.{first_chunks}
use Rattle.std.proofs.Math.Nat.{div-le_self}
use Rattle.std.proofs.Math.Seq.{take-append_seam}
use Rattle.pybuf_lemmas.proofs.Lists.{length_of_chunks}
use Rattle.pybuf_state.specs.Facts.{none_live}
use Rattle.pybuf_numbers.specs.Facts.{length_mapped, length_of_numbers}
use Rattle.pybuf_exporter.specs.Lending.{overwritten_exporter}
use Rattle.pybuf_numbers.specs.Codes.{size_of}
use Rattle.pybuf_numbers.specs.Numbers.{numbers_of, number_in, count_in, is_whole}
use Rattle.pybuf_array.specs.Array as spec
use Rattle.pybuf_array.specs.Array.{Array, ArrayView, exports_in, may_resize, with_numbers}
use Rattle.pybuf_array.specs.Parts.{view_of, views_of, array_of, IsInside, IsSoundArray}

-- The array has as many unreleased views as its bytearray.
pub exports_by : (runs : List IndexRun) (views : List View) → length runs ≡ length views → count_by spec.is_unreleased (views_of runs views) ≡ count_by is_exported views
exports_by [] [] same = refl
exports_by [] (v ∷ views) same = absurd (omega arith)
exports_by (r ∷ runs) [] same = absurd (omega arith)
exports_by (r ∷ runs) (v ∷ views) same =
    sum_by-cons (λ (w : ArrayView). cond (spec.is_unreleased w) 1 0) (view_of r v) (views_of runs views)
    ∙ (ap (λ n. cond (not v.released) 1 0 + n) (exports_by runs views (omega arith))
    ∙ sym (sum_by-cons (λ (w : View). cond (is_exported w) 1 0) v views))

unless_free : (b : Bool) (f : Fault) → unless b f ≡ Ok true → b ≡ false
unless_free true f is = absurd cc
unless_free false f is = refl

-- ---- an array without numbers

pub few_numbers : (c : ArrayCode) (bytes : List ℕ) → length (numbers_of c bytes) ≤ length bytes
few_numbers c bytes =
    omega (arith, length_mapped (number_in c) (first_chunks (size_of c) (count_in c bytes) bytes), length_of_chunks (size_of c) (count_in c bytes) bytes, div-le_self (length bytes) (size_of c))

-- ---- an array that got other numbers

module _ (c : ArrayCode) (e : Exporter) (runs : List IndexRun) (a : Array) (sound : IsSoundArray c e runs) (shown : array_of c e runs ≡ a) where
  pub exports_are : exports_of e ≡ exports_in a
  exports_are = sym (exports_by runs e.views sound.count) ∙ ap exports_in shown

  pub free_of : may_resize a ≡ Ok true → exports_of e ≡ 0
  free_of may =
      let none : nat_lt 0 (exports_in a) ≡ false = unless_free (nat_lt 0 (exports_in a)) fault.Buffer may in
      omega (arith, exports_are, ltb-false _ _ none)

  pub whole_of : is_whole a.code e.bytes ≡ true
  whole_of = ap (λ (b : Array). is_whole b.code e.bytes) (sym shown) ∙ sound.whole

  pub shown_with : (new : List ℕ) (numbers : List ℤ) → numbers_of c new ≡ numbers → array_of c (record e { bytes = new }) runs ≡ with_numbers a numbers
  shown_with new numbers is = ap (λ ns. record (array_of c e runs) { numbers = ns }) is ∙ ap (λ (b : Array). with_numbers b numbers) shown

  pub sound_free : (new : List ℕ) → may_resize a ≡ Ok true → is_whole c new ≡ true → IsSoundArray c (record e { bytes = new }) runs
  sound_free new may whole = record { kind = sound.kind; whole = whole; count = sound.count; inside = λ k r there live. absurd (none_live e.views k (free_of may) live) }

  pub sound_written : (new : List ℕ) → length (numbers_of c new) ≡ length (numbers_of c e.bytes) → is_whole c new ≡ true → IsSoundArray c (record e { bytes = new }) runs
  sound_written new same whole = record { kind = sound.kind; whole = whole; count = sound.count; inside = λ k r there live. subst (λ (n : ℕ). IsInside n r) (sym same) (sound.inside k r there live) }

  -- the same after a call that may have failed because memory ran out
  pub sound_edited : {X E : Type 0} (r : Result X E) (before new : List ℕ) → before ≡ e.bytes → may_resize a ≡ Ok true → OnOk r (is_whole c new ≡ true) → OnErr r (new ≡ before) → IsSoundArray c (record e { bytes = new }) runs
  sound_edited (Ok x) before new lent may whole same = sound_free new may whole
  sound_edited (Err f) before new lent may whole same = sound_free new may (ap (λ b. is_whole c b) (same ∙ lent) ∙ sound.whole)

  -- the same after as many bytes were written over all bytes
  pub sound_over : (new : List ℕ) → length new ≡ length e.bytes → IsSoundArray c (overwritten_exporter e new) runs
  sound_over new long =
      let whole : (overwritten_exporter e new).bytes ≡ new = ap (λ m. take m (new ++ drop (length new) e.bytes)) (sym long) ∙ take-append_seam new (drop (length new) e.bytes) in
      let same : length (overwritten_exporter e new).bytes ≡ length e.bytes = ap (λ xs. length xs) whole ∙ long in
      sound_written (overwritten_exporter e new).bytes
      (length_of_numbers c (overwritten_exporter e new).bytes ∙ ap (λ n. n / size_of c) same ∙ sym (length_of_numbers c e.bytes))
      (ap (λ n. n % size_of c == 0) same ∙ sound.whole)
