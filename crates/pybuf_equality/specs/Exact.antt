-- Readers whose items tell bytes apart: two items are equal exactly if their bytes are.
use Rattle.std.specs.Prelude.{ℕ, ◌==◌, ◌&&◌, Bool, false}
use Rattle.std.specs.List.{list_all}
use Rattle.pybuf_struct.specs.Formats.{Code, Format}
use Rattle.pybuf_struct.specs.Laws.{is_exact}
use Rattle.pybuf_memoryview.specs.declared.readers.ItemReader.{ItemReader}
use Rattle.pybuf_memoryview.specs.declared.readers.ItemReader.TheVariants as reader

-- a code has no padding, and every byte of it is part of its values
abbrev pub is_exact_code : Code → Bool
is_exact_code c = c.pre_padding == 0 && is_exact c.code

abbrev pub has_exact_codes : Format → Bool
has_exact_codes format = list_all is_exact_code format.codes

abbrev pub is_exact_format : Format → ℕ → Bool
is_exact_format format size = format.size == size && has_exact_codes format

-- a reader of items of this size whose items tell bytes apart
abbrev pub is_exact_reader : ItemReader → ℕ → Bool
is_exact_reader reader.Byte size = size == 1
is_exact_reader (reader.Fields format) size = is_exact_format format size
is_exact_reader reader.Nothing size = false
