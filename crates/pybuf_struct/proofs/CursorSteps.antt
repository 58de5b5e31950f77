-- How the first of the fields that are left is read.
use Rattle.std.proofs.Common.{◌≡◌, ◌≢◌, ℕ, zero, suc, ◌+◌, ◌-◌, ◌*◌, List, ◌∷◌, refl, arith}
use Rattle.pybuf_struct.specs.declared.table.Endianness.{Endianness}
use Rattle.pybuf_struct.specs.declared.table.FormatType.{FormatType}
use Rattle.pybuf_struct.specs.Formats.{Code}
use Rattle.pybuf_struct.specs.Cursor.{fields_left}

pub first_left : (o : Endianness) (code : FormatType) (len left offset : ℕ) (codes : List Code) → left ≢ 0
    → fields_left o code len left offset codes ≡ (record { code = code; offset = offset; length = len }) ∷ fields_left o code len (left - 1) (offset + len) codes
first_left o code len zero offset codes some = absurd (some refl)
first_left o code len (suc n) offset codes some =
    let one : suc n - 1 ≡ n = omega arith in
    let same : offset + suc n * len ≡ offset + len + n * len = omega arith in
    rw (one, same) refl
