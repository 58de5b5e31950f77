-- `prop`: a property of an exporter or of a view.
use Rattle.std.specs.Prelude.{ℕ, Bool, true, false, ◌||◌, pos, length, map, replicate, Result, Ok, Err}
use Rattle.pybuf_value.specs.declared.faults.Fault.{Fault}
use Rattle.pybuf_value.specs.declared.faults.Fault.TheVariants as fault
use Rattle.pybuf_value.specs.Refusing.{◌>>=◌, unless}
use Rattle.pybuf_desc.specs.Layouts.{Layout}
use Rattle.pybuf_desc.specs.Contiguous.{is_contiguous_layout}
use Rattle.pybuf_desc.specs.ColumnOrder.{is_f_contiguous_layout}
use Rattle.pybuf_command.specs.declared.commands.PropertyName.{PropertyName}
use Rattle.pybuf_command.specs.declared.commands.PropertyName.TheVariants as name
use Rattle.pybuf_command.specs.declared.commands.LocalReply.{LocalReply}
use Rattle.pybuf_command.specs.declared.commands.LocalReply.TheVariants as reply
use Rattle.pybuf_memoryview.specs.Orders.{nbytes_of}
use Rattle.pybuf_state.specs.Exporter.{Exporter, exports_of, live_layout}
use Rattle.pybuf_verbs_reads.specs.Len.{count_item}

-- The one property of an exporter is the number of its unreleased views.
abbrev pub property_of_own : Exporter → PropertyName → Result (Exporter × LocalReply) Fault
property_of_own e name.Exports = Ok (e, reply.Item (count_item (exports_of e)))
property_of_own e _ = Err fault.UnknownName

-- A property of a view. The number of unreleased views is no property of a view.
abbrev pub property_of_layout : Layout → PropertyName → Result LocalReply Fault
property_of_layout layout name.Exports = Err fault.UnknownName
property_of_layout layout name.Obj = Ok reply.Own
property_of_layout layout name.Nbytes = Ok (reply.Item (count_item (nbytes_of layout)))
property_of_layout layout name.Readonly = Ok (reply.Truth layout.readonly)
property_of_layout layout name.Itemsize = Ok (reply.Item (count_item layout.itemsize))
property_of_layout layout name.Ndim = Ok (reply.Item (count_item (length layout.shape)))
property_of_layout layout name.Shape = Ok (reply.Numbers (map (λ n. pos n) layout.shape))
property_of_layout layout name.Strides = Ok (reply.Numbers layout.strides)
property_of_layout layout name.Suboffsets = Ok (reply.Numbers (replicate (length layout.shape) (pos 0)))
property_of_layout layout name.Format = Ok (reply.Text layout.format)
property_of_layout layout name.Contiguous = Ok (reply.Truth (is_contiguous_layout layout || is_f_contiguous_layout layout))
property_of_layout layout name.CContiguous = Ok (reply.Truth (is_contiguous_layout layout))
property_of_layout layout name.FContiguous = Ok (reply.Truth (is_f_contiguous_layout layout))

abbrev pub is_exports : PropertyName → Bool
is_exports name.Exports = true
is_exports _ = false

-- `prop` of a view: what the view shows
abbrev pub property_of_view : Exporter → ℕ → PropertyName → Result (Exporter × LocalReply) Fault
property_of_view e k property = do
  _ ← unless (is_exports property) fault.UnknownName
  layout ← live_layout e k
  answer ← property_of_layout layout property
  Ok (e, answer)
