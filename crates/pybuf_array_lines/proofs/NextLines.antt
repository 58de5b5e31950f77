-- The operations of lines, after one more line.
use Rattle.std.proofs.Common.{◌≡◌, ℕ, ◌+◌, List, [], ◌∷◌, ◌++◌, refl, sym, ◌∙◌, ap, Result, Ok, Err, Some}
use Rattle.std.proofs.lemmas.List.{append_assoc}
use Rattle.pybuf_array.specs.declared.operations.ArrayOp.{ArrayOp}
use Rattle.pybuf_line.specs.Lines.{lines}
use Rattle.pybuf_array_lines.specs.Operations.{operation_in}
use Rattle.pybuf_array_lines.specs.Inputs.{operation_before, operations_from}

-- the operations in front of those that the rest gives
abbrev pub onto : List ArrayOp → Result (List ArrayOp) ℕ → Result (List ArrayOp) ℕ
onto operations (Ok rest) = Ok (operations ++ rest)
onto operations (Err n) = Err n

onto_before : (operations : List ArrayOp) (n : ℕ) (o : ArrayOp) (rest : Result (List ArrayOp) ℕ) →
    onto operations (operation_before n (Some o) rest) ≡ onto (operations ++ o ∷ []) rest
onto_before operations n o (Ok rest) = ap Ok (sym (append_assoc operations (o ∷ []) rest))
onto_before operations n o (Err m) = refl

-- What all lines of an input give, by the operations before and by the rest.
pub next_operation : (all : Result (List ArrayOp) ℕ) (operations : List ArrayOp) (n : ℕ) (rest line after : List ℕ) (o : ArrayOp) →
    lines rest ≡ line ∷ lines after → operation_in line ≡ Some o → all ≡ onto operations (operations_from (n + 1) (lines rest)) →
    all ≡ onto (operations ++ o ∷ []) (operations_from (n + 1 + 1) (lines after))
next_operation all operations n rest line after o cut spells h =
    h
    ∙ (ap (λ l. onto operations (operations_from (n + 1) l)) cut
    ∙ (ap (λ x. onto operations (operation_before (n + 1) x (operations_from (n + 1 + 1) (lines after)))) spells
    ∙ onto_before operations (n + 1) o (operations_from (n + 1 + 1) (lines after))))
