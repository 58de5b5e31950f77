-- The formats that look at the bytes that a handle names.
use Rattle.std.specs.Prelude.{Bool, true, false}
use Rattle.std.specs.List.{list_any}
use Rattle.pybuf_struct.specs.declared.table.FormatType.{FormatType}
use Rattle.pybuf_struct.specs.declared.table.FormatType.TheVariants as code
use Rattle.pybuf_struct.specs.Formats.{Code, Format}

-- the codes whose values are bytes
abbrev pub is_bytes_code : FormatType → Bool
is_bytes_code code.Char = true
is_bytes_code code.Str = true
is_bytes_code code.Pascal = true
is_bytes_code _ = false

abbrev pub reads_bytes : Format → Bool
reads_bytes format = list_any (λ (c : Code). is_bytes_code c.code) format.codes
