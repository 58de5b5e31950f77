-- The fields that are left of a format, from some field of a code on.
use Rattle.std.specs.Prelude.{ℕ, ◌+◌, ◌*◌, List, ◌++◌}
use Rattle.pybuf_struct.specs.declared.table.Endianness.{Endianness}
use Rattle.pybuf_struct.specs.declared.table.FormatType.{FormatType}
use Rattle.pybuf_struct.specs.declared.cursor.Cursor.{Cursor}
use Rattle.pybuf_struct.specs.declared.cursor.FieldPlace.{FieldPlace}
use Rattle.pybuf_struct.specs.Formats.{Code, Field, extent, fields_in_row, fields_from}

-- this many fields of one code, and then the fields of further codes
abbrev pub fields_left : Endianness → FormatType → ℕ → ℕ → ℕ → List Code → List Field
fields_left o code length left offset codes = fields_in_row code length offset left ++ fields_from o (offset + left * length) codes

-- the offset at which the codes of these fields end
abbrev pub end_of : Endianness → ℕ → ℕ → ℕ → List Code → ℕ
end_of o length left offset codes = offset + left * length + extent o codes

abbrev pub remaining : Cursor → List Field
remaining c = fields_left c.order c.code c.length c.left c.offset c.codes.now

abbrev pub end : Cursor → ℕ
end c = end_of c.order c.length c.left c.offset c.codes.now

-- the field that a place of the code stands for
abbrev pub field_of : FieldPlace → Field
field_of f = record { code = f.code; offset = f.offset; length = f.length }
