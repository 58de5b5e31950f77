-- The text of a record is one line.
use Rattle.pybuf_value.specs.declared.values.Item.TheVariants as item
use Rattle.pybuf_value.specs.Spelling.{handle_text}
use Rattle.pybuf_command.specs.declared.worlds.Reply.TheVariants as reply
use Rattle.pybuf_line.specs.Laws.{RepliesAreSingle}
use Rattle.pybuf_table_lines.specs.Laws.{RowsAreSingle}

-- It is written as a reply that shows an item of several values is.
pub rows_single : RepliesAreSingle handle_text → RowsAreSingle
rows_single law row = law (reply.Item (item.Many row)) (λ text e. cc)
