-- The handles in the parts of a value are those of the value.
use Rattle.std.proofs.Common.{◌≡◌, ℕ, List, [], ◌∷◌, ◌++◌, Bool, refl, ap, ◌∙◌}
use Rattle.std.specs.Prelude.{◌&&◌, Option}
use Rattle.std.specs.List.{list_all, flat_map}
use Rattle.std.proofs.lemmas.List.Folds.{list_all-append}
use Rattle.pybuf_value.specs.declared.values.PySlice.{PySlice}
use Rattle.pybuf_value.specs.declared.values.Scalar.{Scalar}
use Rattle.pybuf_command.specs.declared.loans.Loan.{Loan}
use Rattle.pybuf_command.specs.Handles.{handles_in_scalar, handles_in_slice}
use Rattle.pybuf_state.specs.Exporter.{Exporter}
use Rattle.pybuf_state.specs.Loans.{are_named, is_named}

each_named : {X : Type 0} (p : ℕ → Bool) (f : X → List ℕ) (xs : List X) → list_all p (flat_map f xs) ≡ list_all (λ x. list_all p (f x)) xs
each_named p f [] = refl
each_named p f (x ∷ xs) = list_all-append p (f x) (flat_map f xs) ∙ ap (λ b. list_all p (f x) && b) (each_named p f xs)

three_named : (p : ℕ → Bool) (xs ys zs : List ℕ) → list_all p (xs ++ ys ++ zs) ≡ (list_all p xs && list_all p ys && list_all p zs)
three_named p xs ys zs = list_all-append p (xs ++ ys) zs ∙ ap (λ b. b && list_all p zs) (list_all-append p xs ys)

pub slice_named : (e : Exporter) (named : ℕ → Option Loan) (s : PySlice) → are_named e named (handles_in_slice s) ≡ (are_named e named (handles_in_scalar s.start) && are_named e named (handles_in_scalar s.stop) && are_named e named (handles_in_scalar s.step))
slice_named e named s = three_named (λ h. is_named e (named h)) (handles_in_scalar s.start) (handles_in_scalar s.stop) (handles_in_scalar s.step)

pub scalars_named : (e : Exporter) (named : ℕ → Option Loan) (scalars : List Scalar) → are_named e named (flat_map handles_in_scalar scalars) ≡ list_all (λ scalar. are_named e named (handles_in_scalar scalar)) scalars
scalars_named e named scalars = each_named (λ h. is_named e (named h)) handles_in_scalar scalars

pub slices_named : (e : Exporter) (named : ℕ → Option Loan) (slices : List PySlice) → are_named e named (flat_map handles_in_slice slices) ≡ list_all (λ slice. are_named e named (handles_in_slice slice)) slices
slices_named e named slices = each_named (λ h. is_named e (named h)) handles_in_slice slices
