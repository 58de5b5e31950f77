-- Each effect keeps a sound exporter and replies a refusal only if it is refused. A law also says what `tolist`
-- lists.
use Rattle.std.specs.Prelude.{◌≡◌, ℕ, List, length, Ok, Option, Some, slice_get}
use Rattle.pybuf_value.specs.declared.values.Item.{Item}
use Rattle.pybuf_value.specs.declared.values.Value.{Value}
use Rattle.pybuf_desc.specs.Layouts.{Layout, product}
use Rattle.pybuf_command.specs.declared.commands.PropertyName.{PropertyName}
use Rattle.pybuf_command.specs.declared.commands.LocalReply.TheVariants as reply
use Rattle.pybuf_memoryview.specs.Keys.{item_of_key}
use Rattle.pybuf_state.specs.Exporter.{Exporter, live_layout}
use Rattle.pybuf_state.specs.Sound.{IsSoundExporter}
use Rattle.pybuf_state.specs.Keeps.{IsSafe}
use Rattle.pybuf_verbs_reads.specs.Get.{get_of_own, item_of_layout, item_of_view}
use Rattle.pybuf_verbs_reads.specs.ToBytes.{bytes_of_own, bytes_of_view}
use Rattle.pybuf_verbs_reads.specs.Len.{len_of_own, len_of_view}
use Rattle.pybuf_verbs_reads.specs.Property.{property_of_own, property_of_view}
use Rattle.pybuf_verbs_reads.specs.ToList.{list_of_view}

abbrev pub GetIsSafe : Type 0
GetIsSafe =
    ((e : Exporter) (key : Value) → IsSafe e (get_of_own e key))
    × ((e : Exporter) (k : ℕ) (key : Value) → IsSafe e (item_of_view e k key))

abbrev pub BytesIsSafe : Type 0
BytesIsSafe =
    ((e : Exporter) (order : Option Value) → IsSafe e (bytes_of_own e order))
    × ((e : Exporter) (k : ℕ) (order : Option Value) → IsSafe e (bytes_of_view e k order))

abbrev pub LenIsSafe : Type 0
LenIsSafe =
    ((e : Exporter) → IsSafe e (len_of_own e))
    × ((e : Exporter) (k : ℕ) → IsSafe e (len_of_view e k))

abbrev pub PropertyIsSafe : Type 0
PropertyIsSafe =
    ((e : Exporter) (name : PropertyName) → IsSafe e (property_of_own e name))
    × ((e : Exporter) (k : ℕ) (name : PropertyName) → IsSafe e (property_of_view e k name))

abbrev pub ToListIsSafe : Type 0
ToListIsSafe = (e : Exporter) (k : ℕ) → IsSafe e (list_of_view e k)

-- What the items are of a list that is nested by a shape, put end to end. There are as many items as the shape
-- has places, and the item that `get` reads at a key stands at the number of the item that the key names.
pub record IsListOf (e : Exporter) (layout : Layout) (shape : List ℕ) (items : List Item) : Type 0 where
  pub filled : length items ≡ product shape
  pub in_order : (key : Value) (n : ℕ) (item : Item) → item_of_key layout.shape key ≡ Ok n → item_of_layout e layout key ≡ Ok (e, reply.Item item) → slice_get items n ≡ Some item

abbrev pub ListsHoldTheItems : Type 0
ListsHoldTheItems =
    (e : Exporter) (k : ℕ) (layout : Layout) (shape : List ℕ) (items : List Item) → IsSoundExporter e → live_layout e k ≡ Ok layout
    → list_of_view e k ≡ Ok (e, reply.Items shape items) → IsListOf e layout shape items
