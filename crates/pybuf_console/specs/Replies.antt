-- What a reply tells, by its kind.
use Rattle.std.specs.Prelude.{ℕ, ℤ, pos, Bool, true, false, List, length, slice_get, Option, Some, None}
use Rattle.pybuf_value.specs.declared.values.Scalar.{Scalar}
use Rattle.pybuf_value.specs.declared.values.Scalar.TheVariants as scalar
use Rattle.pybuf_value.specs.declared.values.Item.{Item}
use Rattle.pybuf_value.specs.declared.values.Item.TheVariants as item
use Rattle.pybuf_command.specs.declared.worlds.Reply.{Reply}
use Rattle.pybuf_command.specs.declared.worlds.Reply.TheVariants as reply

-- The objects that were made. A single object stands for both, and otherwise they are an exporter and its view.
abbrev pub objects_of : Reply → Option (ℕ × ℕ)
objects_of (reply.Handle handle) = Some (handle, handle)
objects_of (reply.Pair exporter view) = Some (exporter, view)
objects_of _ = None

abbrev pub truth_number : Bool → ℤ
truth_number false = pos 0
truth_number true = pos 1

-- a number, or a truth value as 0 or 1
abbrev pub number_of_scalar : Scalar → Option ℤ
number_of_scalar (scalar.Int number) = Some number
number_of_scalar (scalar.Bool truth) = Some (truth_number truth)
number_of_scalar _ = None

abbrev pub number_of_item : Item → Option ℤ
number_of_item (item.One one) = number_of_scalar one
number_of_item (item.Many parts) = None

abbrev pub number_of : Reply → Option ℤ
number_of (reply.Item i) = number_of_item i
number_of (reply.Truth truth) = Some (truth_number truth)
number_of _ = None

abbrev pub bytes_of_item : Item → Option (List ℕ)
bytes_of_item (item.One (scalar.Bytes bytes)) = Some bytes
bytes_of_item _ = None

-- the bytes of a reply, or those of its text
abbrev pub bytes_of : Reply → Option (List ℕ)
bytes_of (reply.Bytes bytes) = Some bytes
bytes_of (reply.Text text) = Some text
bytes_of (reply.Shown text) = Some text
bytes_of (reply.Item i) = bytes_of_item i
bytes_of _ = None

-- how many parts a reply has
abbrev pub part_count : Reply → ℕ
part_count (reply.Numbers numbers) = length numbers
part_count (reply.Items shape items) = length items
part_count _ = 0

abbrev pub number_at_item : Option Item → Option ℤ
number_at_item (Some i) = number_of_item i
number_at_item None = None

-- The number at a place. A reply of numbers has one for each dimension, and a reply of items has its items row
-- by row.
abbrev pub part_at : Reply → ℕ → Option ℤ
part_at (reply.Numbers numbers) index = slice_get numbers index
part_at (reply.Items shape items) index = number_at_item (slice_get items index)
part_at _ index = None

-- the number of a reply's kind
abbrev pub kind_of : Reply → ℕ
kind_of reply.Ok = 0
kind_of (reply.Handle handle) = 1
kind_of (reply.Pair exporter view) = 2
kind_of (reply.Item i) = 3
kind_of (reply.Items shape items) = 4
kind_of (reply.Bytes bytes) = 5
kind_of (reply.Text text) = 6
kind_of (reply.Shown text) = 7
kind_of (reply.Truth truth) = 8
kind_of reply.NotImplementedReply = 9
kind_of (reply.Numbers numbers) = 10
kind_of (reply.ByteLists lists) = 11
kind_of reply.Stop = 12
kind_of (reply.Refused fault) = 13
