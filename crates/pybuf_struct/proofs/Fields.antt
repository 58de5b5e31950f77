-- Fields lie within their format, and have the lengths of their codes.
use Rattle.std.proofs.Common.{ℕ, zero, suc, ◌+◌, ◌*◌, ◌≤◌, List, [], ◌∷◌, ◌++◌, refl, arith}
use Rattle.std.specs.Prelude.{IsTrue}
use Rattle.std.specs.List.{AllByRecursion}
use Rattle.std.proofs.lemmas.Bool.{eq-eqb}
use Rattle.pybuf_struct.specs.declared.table.Endianness.{Endianness}
use Rattle.pybuf_struct.specs.declared.table.FormatType.{FormatType}
use Rattle.pybuf_struct.specs.declared.table.FormatType.TheVariants as code
use Rattle.pybuf_struct.specs.Table.{size_of}
use Rattle.pybuf_struct.specs.Formats.{Code, Field, extent, offset_after, fields_in_row, fields_of_code, fields_from}
use Rattle.pybuf_struct.specs.Values.{is_length}

pub record IsSound (o : Endianness) (size : ℕ) (f : Field) : Type 0 where
  pub length : IsTrue (is_length o f.code f.length)
  pub within : f.offset + f.length ≤ size

both : (o : Endianness) (size : ℕ) (fs gs : List Field) → AllByRecursion (IsSound o size) fs → AllByRecursion (IsSound o size) gs → AllByRecursion (IsSound o size) (fs ++ gs)
both o size [] gs s t = t
both o size (f ∷ fs) gs s t = (s.0, both o size fs gs s.1 t)

row_sound : (o : Endianness) (size : ℕ) (c : FormatType) (len offset n : ℕ) → IsTrue (is_length o c len) → offset + n * len ≤ size → AllByRecursion (IsSound o size) (fields_in_row c len offset n)
row_sound o size c len offset zero fits within = tt
row_sound o size c len offset (suc n) fits within = (record { length = fits; within = omega (arith, within) }, row_sound o size c len (offset + len) n fits (omega (arith, within)))

own_length : (c : FormatType) (o : Endianness) → IsTrue (is_length o c (size_of o c))
own_length code.Str o = refl
own_length code.Pascal o = refl
own_length c o = eq-eqb (size_of o c) (size_of o c) refl

code_sound : (o : Endianness) (size : ℕ) (c : FormatType) (offset n : ℕ) → offset + n * size_of o c ≤ size → AllByRecursion (IsSound o size) (fields_of_code c (size_of o c) offset n)
code_sound o size code.Pad offset n within = tt
code_sound o size code.Str offset n within = (record { length = refl; within = omega (arith, within) }, tt)
code_sound o size code.Pascal offset n within = (record { length = refl; within = omega (arith, within) }, tt)
code_sound o size c offset n within = row_sound o size c (size_of o c) offset n (own_length c o) within

pub fields_sound : (o : Endianness) (size offset : ℕ) (codes : List Code) → offset + extent o codes ≤ size → AllByRecursion (IsSound o size) (fields_from o offset codes)
fields_sound o size offset [] within = tt
fields_sound o size offset (c ∷ codes) within =
    both o size (fields_of_code c.code (size_of o c.code) (offset + c.pre_padding) c.repeat) (fields_from o (offset_after o offset c) codes)
    (code_sound o size c.code (offset + c.pre_padding) c.repeat (omega (arith, within)))
    (fields_sound o size (offset_after o offset c) codes (omega (arith, within)))
