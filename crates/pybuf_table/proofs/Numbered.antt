-- The records of bytes by their numbers.
use Rattle.std.proofs.Common.{◌≡◌, ℕ, zero, suc, ◌+◌, ◌*◌, ◌<◌, ◌/◌, List, Option, Some, length, take, drop, refl, ap, ◌∙◌, arith}
use Rattle.std.specs.Prelude.{slice_get}
use Rattle.std.proofs.lemmas.List.{drop-drop}
use Rattle.pybuf_value.specs.declared.values.Scalar.{Scalar}
use Rattle.pybuf_struct.specs.Formats.{Format}
use Rattle.pybuf_struct.specs.Values.{values}
use Rattle.pybuf_desc.specs.Items.{bytes_at}
use Rattle.pybuf_table.specs.Records.{rows_of}
use Rattle.pybuf_table.specs.Laws.{record_at, RowsAreRecords}

counted : (f : Format) (n : ℕ) (bytes : List ℕ) → length (rows_of f n bytes) ≡ n
counted f zero bytes = refl
counted f (suc n) bytes = let rest : length (rows_of f n (drop f.size bytes)) ≡ n = counted f n (drop f.size bytes) in omega (arith, rest)

abbrev values_from : Format → List ℕ → ℕ → Option (List Scalar)
values_from f bytes place = Some (values f (bytes_at bytes f.size place))

numbered : (f : Format) (n number : ℕ) (bytes : List ℕ) → number < n → slice_get (rows_of f n bytes) number ≡ Some (values f (record_at f bytes number))
numbered f zero number bytes less = absurd (omega arith)
numbered f (suc n) zero bytes less = let begin : 0 ≡ 0 * f.size = omega arith in ap (values_from f bytes) begin
numbered f (suc n) (suc number) bytes less =
    let next : f.size + number * f.size ≡ suc number * f.size = omega arith in
    numbered f n number (drop f.size bytes) (omega arith)
    ∙ ap (λ (rest : List ℕ). Some (values f (take f.size rest))) (drop-drop (number * f.size) f.size bytes ∙ ap (λ (place : ℕ). drop place bytes) next)

pub rows_numbered : RowsAreRecords
rows_numbered f bytes some = record {
  count = counted f (length bytes / f.size) bytes;
  each = λ number less. numbered f (length bytes / f.size) number bytes less;
}
