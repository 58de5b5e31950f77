-- `bytes`: the subject's bytes. Those of a view are in an order that the command may give.
use Rattle.std.specs.Prelude.{ℕ, ◌==◌, Bool, true, false, ◌&&◌, not, List, [], ◌∷◌, Option, Some, None, Result, Ok, Err, if◌then◌else◌}
use Rattle.pybuf_value.specs.declared.faults.Fault.{Fault}
use Rattle.pybuf_value.specs.declared.faults.Fault.TheVariants as fault
use Rattle.pybuf_value.specs.declared.values.Scalar.TheVariants as scalar
use Rattle.pybuf_value.specs.declared.values.Value.{Value}
use Rattle.pybuf_value.specs.declared.values.Value.TheVariants as value
use Rattle.pybuf_value.specs.Refusing.{◌>>=◌}
use Rattle.pybuf_value.specs.Texts.{text_in}
use Rattle.pybuf_command.specs.declared.commands.LocalReply.{LocalReply}
use Rattle.pybuf_command.specs.declared.commands.LocalReply.TheVariants as reply
use Rattle.pybuf_desc.specs.Layouts.{Layout}
use Rattle.pybuf_desc.specs.Contiguous.{is_contiguous_layout}
use Rattle.pybuf_desc.specs.Items.{content_of_layout}
use Rattle.pybuf_desc.specs.ColumnOrder.{column_content, is_f_contiguous_layout}
use Rattle.pybuf_state.specs.Exporter.{Exporter, live_layout}

-- The bytes of an exporter, which has no order to choose.
abbrev pub bytes_of_own : Exporter → Option Value → Result (Exporter × LocalReply) Fault
bytes_of_own e None = Ok (e, reply.Bytes e.bytes)
bytes_of_own e (Some order) = Err fault.Kind

-- Whether a letter asks for column order. C doesn't, and F does. A does if the items lie one after the other in
-- column order and not in row-major order.
abbrev pub by_letter : Layout → ℕ → Result Bool Fault
by_letter layout letter =
    if letter == 67 then Ok false
    else if letter == 70 then Ok true
    else if letter == 65 then Ok (is_f_contiguous_layout layout && not (is_contiguous_layout layout))
    else Err fault.Value

abbrev pub by_text : Layout → List ℕ → Result Bool Fault
by_text layout (letter ∷ []) = by_letter layout letter
by_text layout _ = Err fault.Value

-- The same of an order that may be absent or None, which then counts as C.
abbrev pub is_column_order : Layout → Option Value → Result Bool Fault
is_column_order layout None = Ok false
is_column_order layout (Some (value.One scalar.None)) = Ok false
is_column_order layout (Some order) = do
  text ← text_in order
  by_text layout text

-- the bytes of a view's items in column order, or in row-major order
abbrev pub content_in : Bool → List ℕ → Layout → List ℕ
content_in true bytes layout = column_content bytes layout
content_in false bytes layout = content_of_layout bytes layout

-- the bytes of a view's items, in the order that the command asks for
abbrev pub bytes_of_view : Exporter → ℕ → Option Value → Result (Exporter × LocalReply) Fault
bytes_of_view e k order = do
  layout ← live_layout e k
  columns ← is_column_order layout order
  Ok (e, reply.Bytes (content_in columns e.bytes layout))
