-- Laws of the text that is written of a table.
use Rattle.std.specs.Prelude.{List}
use Rattle.pybuf_value.specs.declared.values.Scalar.{Scalar}
use Rattle.pybuf_line.specs.Laws.{IsOneLine}
use Rattle.pybuf_table_lines.specs.Texts.{row_text}

-- The text of a record has no line feed, so there is one line for each record that is listed.
abbrev pub RowsAreSingle : Type 0
RowsAreSingle = (row : List Scalar) → IsOneLine (row_text row)
