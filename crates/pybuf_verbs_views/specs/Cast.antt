-- `cast` and `castf`: a new view of the same bytes, whose items have another format. It has one dimension or
-- those of a shape, row by row or in column order. The new format is one native code, and either it or the
-- view's format has single bytes as items.
use Rattle.std.specs.Prelude.{ℕ, ◌*◌, ◌/◌, ◌%◌, ◌==◌, ◌&&◌, ◌||◌, not, List, [], ◌∷◌, map, length, nat_lt, ℤ, pos, negsuc, Bool, true, false, Option, Some, None, Result, Ok, Err, ok_or, if◌then◌else◌}
use Rattle.pybuf_value.specs.declared.faults.Fault.{Fault}
use Rattle.pybuf_value.specs.declared.faults.Fault.TheVariants as fault
use Rattle.pybuf_value.specs.declared.values.Scalar.{Scalar}
use Rattle.pybuf_value.specs.declared.values.Scalar.TheVariants as scalar
use Rattle.pybuf_value.specs.declared.values.Value.{Value}
use Rattle.pybuf_value.specs.declared.values.Value.TheVariants as value
use Rattle.pybuf_value.specs.Refusing.{◌>>=◌, unless}
use Rattle.pybuf_value.specs.Numbers.{number_in, fitted_number}
use Rattle.pybuf_value.specs.Texts.{text_in}
use Rattle.pybuf_struct.specs.declared.table.Endianness.TheVariants as order
use Rattle.pybuf_struct.specs.declared.table.FormatType.{FormatType}
use Rattle.pybuf_struct.specs.Table.{size_of}
use Rattle.pybuf_struct.specs.Natives.{native_single_code, is_byte_code, is_byte_format}
use Rattle.pybuf_desc.specs.Layouts.{Layout, product}
use Rattle.pybuf_desc.specs.Contiguous.{is_contiguous_layout}
use Rattle.pybuf_desc.specs.Casts.{cast_of}
use Rattle.pybuf_desc.specs.ShapedCasts.{cast_to}
use Rattle.pybuf_desc.specs.ColumnCasts.{column_cast_to}
use Rattle.pybuf_command.specs.declared.commands.LocalReply.{LocalReply}
use Rattle.pybuf_memoryview.specs.Orders.{nbytes_of, has_zero_entry}
use Rattle.pybuf_state.specs.Exporter.{Exporter, live_layout, with_view}

-- The code that a view is cast to. The format is one native code, and either it or the view's format has single
-- bytes as items.
abbrev pub code_for : Layout → List ℕ → Result FormatType Fault
code_for layout text = do
  code ← ok_or (native_single_code text) fault.Value
  _ ← unless (not (is_byte_code code) && not (is_byte_format layout.format)) fault.Kind
  Ok code

-- the size of the items that a view is cast to, if the bytes of the view are whole items of that size
abbrev pub size_for : Layout → List ℕ → Result ℕ Fault
size_for layout text = do
  code ← code_for layout text
  _ ← unless (not (nbytes_of layout % size_of order.Native code == 0)) fault.Kind
  Ok (size_of order.Native code)

-- An entry of a shape. It must be above 0, and at most the greatest `isize` divided by the product so far.
abbrev pub entry_above_0 : ℕ → ℤ → Result ℕ Fault
entry_above_0 size (pos n) = if n == 0 || nat_lt (9223372036854775807 / size) n then Err fault.Value else Ok n
entry_above_0 size (negsuc n) = Err fault.Value

abbrev pub entry_of : ℕ → Scalar → Result ℕ Fault
entry_of size part = do
  number ← number_in part
  word ← fitted_number fault.Overflow number
  entry_above_0 size word

-- the entries of a shape, in order; the product so far begins with the size of an item
abbrev pub entries_of : ℕ → List Scalar → Result (List ℕ) Fault
entries_of size [] = Ok []
entries_of size (part ∷ parts) = do
  entry ← entry_of size part
  entries ← entries_of (size * entry) parts
  Ok (entry ∷ entries)

-- The items in one dimension. If the view has another number of dimensions than one, none of its entries may be
-- 0.
abbrev pub flat_layout_of : Layout → List ℕ → Result Layout Fault
flat_layout_of layout text = do
  _ ← unless (not (length layout.shape == 1) && has_zero_entry layout.shape) fault.Kind
  size ← size_for layout text
  Ok (cast_of layout text size)

-- the items in the dimensions that the entries give, in column order or row by row
abbrev pub cast_in : Bool → Layout → List ℕ → ℕ → List ℕ → Layout
cast_in true layout text size entries = column_cast_to layout text size entries
cast_in false layout text size entries = cast_to layout text size entries

-- The items in the dimensions of a shape. The view or the shape must have one dimension, no entry of the view
-- may be 0, and the items of the shape must make up the view's bytes. An empty shape has one item.
abbrev pub shaped_layout_of : Bool → Layout → List ℕ → List Scalar → Result Layout Fault
shaped_layout_of columns layout text parts = do
  _ ← unless (has_zero_entry layout.shape) fault.Kind
  _ ← unless (not (length layout.shape == 1) && not (length parts == 1)) fault.Kind
  _ ← unless (nat_lt 64 (length parts)) fault.Value
  size ← size_for layout text
  entries ← entries_of size parts
  _ ← unless (not (size * product entries == nbytes_of layout)) fault.Kind
  Ok (cast_in columns layout text size entries)

-- the same, if the shape may be left out, and is a tuple or a list otherwise
abbrev pub layout_in_shape : Layout → List ℕ → Option Value → Result Layout Fault
layout_in_shape layout text None = flat_layout_of layout text
layout_in_shape layout text (Some (value.Tuple parts)) = shaped_layout_of false layout text parts
layout_in_shape layout text (Some (value.List parts)) = shaped_layout_of false layout text parts
layout_in_shape layout text (Some _) = Err fault.Kind

-- `cast` of a view, which must be contiguous
abbrev pub cast_of_view : Exporter → ℕ → Value → Option Value → Result (Exporter × LocalReply) Fault
cast_of_view e k format shape = do
  layout ← live_layout e k
  _ ← unless (not (is_contiguous_layout layout)) fault.Kind
  text ← text_in format
  cast ← layout_in_shape layout text shape
  Ok (with_view e cast)

-- the entries of a shape as the parts of a value
abbrev pub shape_parts : List ℕ → List Scalar
shape_parts shape = map (λ n. scalar.Int (pos n)) shape

-- by a text alone, in one dimension
abbrev pub flat_cast_of_view : Exporter → ℕ → List ℕ → Result (Exporter × LocalReply) Fault
flat_cast_of_view e k format = cast_of_view e k (value.One (scalar.Text format)) None

-- by a text, in the dimensions of a shape
abbrev pub shaped_cast_of_view : Exporter → ℕ → List ℕ → List ℕ → Result (Exporter × LocalReply) Fault
shaped_cast_of_view e k format shape = cast_of_view e k (value.One (scalar.Text format)) (Some (value.Tuple (shape_parts shape)))

-- the same in column order, by a shape that is a tuple or a list
abbrev pub column_layout_in : Layout → List ℕ → Value → Result Layout Fault
column_layout_in layout text (value.Tuple parts) = shaped_layout_of true layout text parts
column_layout_in layout text (value.List parts) = shaped_layout_of true layout text parts
column_layout_in layout text _ = Err fault.Kind

abbrev pub column_cast_of_view : Exporter → ℕ → Value → Value → Result (Exporter × LocalReply) Fault
column_cast_of_view e k format shape = do
  layout ← live_layout e k
  _ ← unless (not (is_contiguous_layout layout)) fault.Kind
  text ← text_in format
  cast ← column_layout_in layout text shape
  Ok (with_view e cast)
