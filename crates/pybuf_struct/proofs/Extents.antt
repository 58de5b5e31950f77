-- Codes one after another: their bytes and their fields.
use Rattle.std.proofs.Common.{◌≡◌, ℕ, ◌+◌, ◌≤◌, List, [], ◌∷◌, ◌++◌, length, ap, length-append, arith}
use Rattle.std.proofs.Math.Nat.{mul-le-mul_left}
use Rattle.pybuf_struct.specs.Facts.{length-fields_of_code}
use Rattle.pybuf_struct.specs.declared.table.Endianness.{Endianness}
use Rattle.pybuf_struct.specs.declared.table.Endianness.TheVariants as order
use Rattle.pybuf_struct.specs.declared.table.FormatType.{FormatType}
use Rattle.pybuf_struct.specs.declared.table.FormatType.TheVariants as code
use Rattle.pybuf_struct.specs.Table.{size_of}
use Rattle.pybuf_struct.specs.Formats.{Code, span, extent, offset_after, fields_of_code, fields_from, field_count, field_count_of}

-- a unit of a code takes at least one byte
pub one-le-size : (c : FormatType) (o : Endianness) → 1 ≤ size_of o c
one-le-size code.Long order.Native = omega arith
one-le-size code.Long _ = omega arith
one-le-size code.ULong order.Native = omega arith
one-le-size code.ULong _ = omega arith
one-le-size _ o = omega arith

pub le-span : (o : Endianness) (c : Code) → c.repeat ≤ span o c
le-span o c = omega (arith, mul-le-mul_left c.repeat (one-le-size c.code o))

pub extent_push : (o : Endianness) (codes : List Code) (c : Code) → extent o (codes ++ c ∷ []) ≡ extent o codes + (c.pre_padding + span o c)
extent_push o [] c = omega arith
extent_push o (d ∷ codes) c = omega (arith, extent_push o codes c)

pub length-fields_push : (o : Endianness) (offset : ℕ) (codes : List Code) (c : Code) → length (fields_from o offset (codes ++ c ∷ [])) ≡ length (fields_from o offset codes) + field_count c
length-fields_push o offset [] c = omega (arith, length-append (fields_of_code c.code (size_of o c.code) (offset + c.pre_padding) c.repeat) [], length-fields_of_code c.code (size_of o c.code) (offset + c.pre_padding) c.repeat)
length-fields_push o offset (d ∷ codes) c =
    let first = fields_of_code d.code (size_of o d.code) (offset + d.pre_padding) d.repeat in
    omega (arith, length-append first (fields_from o (offset_after o offset d) (codes ++ c ∷ [])), length-append first (fields_from o (offset_after o offset d) codes), length-fields_push o (offset_after o offset d) codes c)

field_count_most : (c : FormatType) (n : ℕ) → field_count_of c n ≤ n + 1
field_count_most code.Pad n = omega arith
field_count_most code.Str n = omega arith
field_count_most code.Pascal n = omega arith
field_count_most _ n = omega arith

field_count_one : (c : FormatType) → field_count_of c 1 ≤ 1
field_count_one code.Pad = omega arith
field_count_one code.Str = omega arith
field_count_one code.Pascal = omega arith
field_count_one _ = omega arith

-- a code has at most one field more than it has bytes, and if its count is 1, it has no more fields than bytes
pub field_count-le-span : (o : Endianness) (c : Code) → field_count c ≤ span o c + 1
field_count-le-span o c = omega (arith, field_count_most c.code c.repeat, le-span o c)

pub field_count-le-span_one : (o : Endianness) (c : Code) → c.repeat ≡ 1 → field_count c ≤ span o c
field_count-le-span_one o c e = omega (arith, field_count_one c.code, le-span o c, ap (field_count_of c.code) e)
