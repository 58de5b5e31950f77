-- Items whose format is the letter of a number.
use Rattle.std.proofs.Common.{◌≡◌, ℕ, List, [], ◌∷◌, Result, Ok, Err, refl, ap, subst}
use Rattle.std.specs.Prelude.{IsErr}
use Rattle.pybuf_value.specs.declared.faults.Fault.{Fault}
use Rattle.pybuf_value.specs.declared.faults.Fault.TheVariants as fault
use Rattle.pybuf_value.specs.declared.values.Scalar.{Scalar}
use Rattle.pybuf_value.specs.declared.values.Value.{Value}
use Rattle.pybuf_value.specs.declared.snaps.Snap.{Snap}
use Rattle.pybuf_value.specs.Refusing.{◌>>=◌}
use Rattle.pybuf_struct.specs.Formats.{Format, format_of}
use Rattle.pybuf_struct.specs.Packing.{packed_bytes}
use Rattle.pybuf_struct.specs.Singles.{bytes_by}
use Rattle.pybuf_memoryview.specs.Items.{kind_fault, scalar_in, piece_by}

kind_ok : (r : Result (List ℕ) Fault) (bytes : List ℕ) → r ≡ Ok bytes → kind_fault r ≡ Ok bytes
kind_ok r bytes is = ap kind_fault is

kind_err : (r : Result (List ℕ) Fault) → IsErr r → kind_fault r ≡ Err fault.Kind
kind_err (Ok bytes) is = absurd cc
kind_err (Err f) is = refl

steps_ok : (r : Result Format Fault) (pack : Format → Result (List ℕ) Fault) (bytes : List ℕ) → (r >>= pack) ≡ Ok bytes → (kind_fault r >>= λ f. kind_fault (pack f)) ≡ Ok bytes
steps_ok (Ok f) pack bytes is = kind_ok (pack f) bytes is
steps_ok (Err f) pack bytes is = absurd cc

steps_err : (r : Result Format Fault) (pack : Format → Result (List ℕ) Fault) → IsErr (r >>= pack) → (kind_fault r >>= λ f. kind_fault (pack f)) ≡ Err fault.Kind
steps_err (Ok f) pack is = kind_err (pack f) is
steps_err (Err f) pack is = refl

pub piece_of_scalar : (text : List ℕ) (v : Value) (s : Scalar) (bytes : List ℕ) → s ≡ scalar_in v → ((pairs : List (ℕ × Snap)) → bytes_by text pairs (s ∷ []) ≡ Ok bytes)
    → (pairs : List (ℕ × Snap)) → piece_by text pairs v ≡ Ok bytes
piece_of_scalar text v s bytes same is pairs =
    steps_ok (format_of text) (λ f. packed_bytes f pairs (scalar_in v ∷ [])) bytes (subst (λ (x : Scalar). bytes_by text pairs (x ∷ []) ≡ Ok bytes) same (is pairs))

pub no_piece_of_scalar : (text : List ℕ) (v : Value) (s : Scalar) → s ≡ scalar_in v → ((pairs : List (ℕ × Snap)) → IsErr (bytes_by text pairs (s ∷ [])))
    → (pairs : List (ℕ × Snap)) → piece_by text pairs v ≡ Err fault.Kind
no_piece_of_scalar text v s same is pairs =
    steps_err (format_of text) (λ f. packed_bytes f pairs (scalar_in v ∷ [])) (subst (λ (x : Scalar). IsErr (bytes_by text pairs (x ∷ []))) same (is pairs))
