-- The operations of an input are those of its lines, and the line whose number is told is the first that is no
-- operation.
use Rattle.std.proofs.Common.{◌≡◌, ◌⊎◌, inl, inr, ℕ, ◌+◌, List, [], ◌∷◌, ◌++◌, length, map, Option, Some, None, Result, Ok, Err, refl, sym, ◌∙◌, ap, arith}
use Rattle.pybuf_array.specs.declared.operations.ArrayOp.{ArrayOp}
use Rattle.pybuf_line.specs.Lines.{lines}
use Rattle.pybuf_array_lines.specs.Operations.{operation_in}
use Rattle.pybuf_array_lines.specs.Inputs.{operation_before, operations_from}
use Rattle.pybuf_array_lines.specs.Laws.{OperationsAreOfLines, BadLineIsFirst}

-- what one more line says of the lines after it
each_step : (n : ℕ) (o : Option ArrayOp) (r : Result (List ArrayOp) ℕ) (operations : List ArrayOp) → operation_before n o r ≡ Ok operations →
    (first : ArrayOp) × (others : List ArrayOp) × (o ≡ Some first) × (r ≡ Ok others) × (operations ≡ first ∷ others)
each_step n None r operations h = let no : ⊥ = cc in absurd no
each_step n (Some o) (Ok rest) operations h = (o, rest, refl, refl, cc)
each_step n (Some o) (Err m) operations h = let no : ⊥ = cc in absurd no

join_first : (o : Option ArrayOp) (first : ArrayOp) (os : List (Option ArrayOp)) (others operations : List ArrayOp) →
    o ≡ Some first → os ≡ map Some others → operations ≡ first ∷ others → o ∷ os ≡ map Some operations
join_first o first os others operations e h same = ap (λ x. x ∷ os) e ∙ (ap (λ x. Some first ∷ x) h ∙ sym (ap (map Some) same))

each_from : (n : ℕ) (all : List (List ℕ)) (operations : List ArrayOp) → operations_from n all ≡ Ok operations → map operation_in all ≡ map Some operations
each_from n [] operations h = let none : operations ≡ [] = cc in rw none refl
each_from n (line ∷ rest) operations h =
    let s = each_step n (operation_in line) (operations_from (n + 1) rest) operations h in
    join_first (operation_in line) s.0 (map operation_in rest) s.1 operations s.2 (each_from (n + 1) rest s.1 s.3) s.4

pub each_operation : OperationsAreOfLines
each_operation input operations h = each_from 1 (lines input) operations h

first_step : (n m : ℕ) (o : Option ArrayOp) (r : Result (List ArrayOp) ℕ) → operation_before n o r ≡ Err m →
    ((o ≡ None) × (m ≡ n)) ⊎ ((first : ArrayOp) × (o ≡ Some first) × (r ≡ Err m))
first_step n m None r h = inl (refl, cc)
first_step n m (Some o) (Ok rest) h = let no : ⊥ = cc in absurd no
first_step n m (Some o) (Err k) h = inr (o, refl, cc)

abbrev IsFirst : ℕ → List (List ℕ) → ℕ → Type 0
IsFirst n all m =
    (operations : List ArrayOp) × (rest : List (Option ArrayOp))
    × (map operation_in all ≡ map Some operations ++ None ∷ rest) × (m ≡ length operations + n)

first_from : (n : ℕ) (all : List (List ℕ)) (m : ℕ) → operations_from n all ≡ Err m → IsFirst n all m
first_from n [] m h = let no : ⊥ = cc in absurd no
first_from n (line ∷ rest) m h =
    elim (first_step n m (operation_in line) (operations_from (n + 1) rest) h) [
      | inl none ↦ ([], map operation_in rest, ap (λ o. o ∷ map operation_in rest) none.0, omega (arith, none.1))
      | inr some ↦
          let more = first_from (n + 1) rest m some.2 in (
            some.0 ∷ more.0,
            more.1,
            ap (λ o. o ∷ map operation_in rest) some.1 ∙ ap (λ others. Some some.0 ∷ others) more.2,
            omega (arith, more.3),
          )
    ]

pub first_bad : BadLineIsFirst
first_bad input n h = first_from 1 (lines input) n h
