-- The fields of one code are read after those of another.
use Rattle.std.proofs.Common.{◌≡◌, ℕ, ◌+◌, ◌≤◌, List, ◌++◌, length, drop, map}
use Rattle.pybuf_value.specs.declared.values.Scalar.{Scalar}
use Rattle.pybuf_struct.specs.declared.table.Endianness.{Endianness}
use Rattle.pybuf_struct.specs.Formats.{Code, extent, fields_from}
use Rattle.pybuf_struct.specs.Values.{value_in}

-- the values of the first codes are read, and are added to a list
pub record Walks (o : Endianness) (bytes : List ℕ) (codes : List Code) (at i : ℕ) (before out : List Scalar) : Type 0 where
  pub same : out ++ map (value_in o bytes) (fields_from o at (drop i codes)) ≡ before ++ map (value_in o bytes) (fields_from o 0 codes)
  pub within : at + extent o (drop i codes) ≤ length bytes
