-- Values are read one after another.
use Rattle.std.proofs.Common.{◌≡◌, ℕ, suc, ◌+◌, ◌-◌, ◌*◌, ◌<◌, ◌≤◌, List, [], ◌∷◌, ◌++◌, length, take, drop, map, sym, ap, ◌∙◌, append_assoc, arith}
use Rattle.pybuf_value.specs.declared.values.Scalar.{Scalar}
use Rattle.pybuf_struct.specs.declared.table.Endianness.{Endianness}
use Rattle.pybuf_struct.specs.declared.table.FormatType.{FormatType}
use Rattle.pybuf_struct.specs.Formats.{fields_in_row}
use Rattle.pybuf_struct.specs.Values.{value_of, value_in}

-- so many fields of a row are read, and their values are added to a list
pub record Reads (o : Endianness) (bytes : List ℕ) (code : FormatType) (size offset count at done : ℕ) (before out : List Scalar) : Type 0 where
  pub same : out ++ map (value_in o bytes) (fields_in_row code size at (count - done)) ≡ before ++ map (value_in o bytes) (fields_in_row code size offset count)
  pub within : at + (count - done) * size ≤ length bytes
  pub there : at ≡ offset + done * size
  pub some_left : done ≤ count

unit_within : (o : Endianness) (bytes : List ℕ) (code : FormatType) (size offset count at done : ℕ) (before out : List Scalar) → Reads o bytes code size offset count at done before out → done < count
    → at + size + (count - (done + 1)) * size ≤ length bytes
unit_within o bytes code size offset count at done before out reads lt =
    let left : count - done ≡ suc (count - (done + 1)) = omega arith in
    let e : at + suc (count - (done + 1)) * size ≤ length bytes = rw left at reads.within in
    omega (arith, e)

pub reads_more : (o : Endianness) (bytes : List ℕ) (code : FormatType) (size offset count at done : ℕ) (before out : List Scalar) (v : Scalar) → Reads o bytes code size offset count at done before out → done < count
    → v ≡ value_of o code (take size (drop at bytes)) → Reads o bytes code size offset count (at + size) (done + 1) before (out ++ v ∷ [])
reads_more o bytes code size offset count at done before out v reads lt v_is =
    let left : count - done ≡ suc (count - (done + 1)) = omega arith in
    record {
      same = rw v_is (append_assoc out (value_of o code (take size (drop at bytes)) ∷ []) (map (value_in o bytes) (fields_in_row code size (at + size) (count - (done + 1))))
          ∙ ap (λ (n : ℕ). out ++ map (value_in o bytes) (fields_in_row code size at n)) (sym left) ∙ reads.same);
      within = unit_within o bytes code size offset count at done before out reads lt;
      there = omega (arith, reads.there);
      some_left = omega arith;
    }

-- where the fields of a row end
pub reads_end : (o : Endianness) (bytes : List ℕ) (code : FormatType) (size offset count at done : ℕ) (before out : List Scalar) → Reads o bytes code size offset count at done before out → count ≤ done → at ≡ offset + count * size
reads_end o bytes code size offset count at done before out reads le =
    let all : done ≡ count = omega (arith, reads.some_left) in
    reads.there ∙ ap (λ (n : ℕ). offset + n * size) all
