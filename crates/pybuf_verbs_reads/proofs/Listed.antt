-- The items that `tolist` lists are those that keys name.
use Rattle.std.proofs.Common.{◌≡◌, ℕ, ◌<◌, List, [], ◌∷◌, length, ap, sym, ◌∙◌, refl, subst, arith}
use Rattle.std.specs.Prelude.{Result, Ok, Some, slice_index}
use Rattle.std.specs.Option.{option_map}
use Rattle.std.proofs.lemmas.List.{length-map}
use Rattle.std.proofs.lemmas.Option.{slice_get-map, slice_get-get_or}
use Rattle.pybuf_value.specs.declared.faults.Fault.{Fault}
use Rattle.pybuf_value.specs.declared.values.Item.{Item}
use Rattle.pybuf_value.specs.declared.values.Value.{Value}
use Rattle.pybuf_value.specs.Refusing.{◌>>=◌}
use Rattle.pybuf_desc.specs.Layouts.{Layout, product}
use Rattle.pybuf_desc.specs.Items.{bytes_at}
use Rattle.pybuf_command.specs.declared.commands.LocalReply.{LocalReply}
use Rattle.pybuf_command.specs.declared.commands.LocalReply.TheVariants as reply
use Rattle.pybuf_memoryview.specs.Items.{item_by}
use Rattle.pybuf_memoryview.specs.Keys.{item_of_key}
use Rattle.pybuf_memoryview.specs.Lists.{items_of_layout}
use Rattle.pybuf_memoryview.specs.Laws.{KeysNameItems}
use Rattle.pybuf_state.specs.Exporter.{Exporter}
use Rattle.pybuf_state.specs.Sound.{IsFormed}
use Rattle.pybuf_state.specs.Laws.{LiveLayoutsAreSound}
use Rattle.pybuf_verbs_reads.specs.Get.{item_of_layout}
use Rattle.pybuf_verbs_reads.specs.ToList.{list_shape}
use Rattle.pybuf_verbs_reads.specs.Laws.{IsListOf, ListsHoldTheItems}

-- A list of one item has as many places as a view without dimensions.
nested : (shape : List ℕ) → product (list_shape shape) ≡ product shape
nested [] = omega arith
nested (n ∷ shape) = refl

abbrev read_at : Exporter → Layout → ℕ → Item
read_at e layout start = item_by layout.format (bytes_at e.bytes layout.itemsize start)

abbrev answered : Exporter × LocalReply → Result (Exporter × LocalReply) Fault
answered after = Ok after

abbrev replied : Exporter → Item → Result (Exporter × LocalReply) Fault
replied e item = Ok (e, reply.Item item)

same_after : (a b : Exporter × LocalReply) → answered a ≡ answered b → a ≡ b
same_after a b is = cc

same_in_item : (a b : Item) → reply.Item a ≡ reply.Item b → a ≡ b
same_in_item a b is = cc

same_item : (e : Exporter) (a b : Item) → replied e a ≡ replied e b → a ≡ b
same_item e a b is = same_in_item a b (ap (λ (after : Exporter × LocalReply). after.1) (same_after (e, reply.Item a) (e, reply.Item b) is))

read_there : (e : Exporter) (layout : Layout) (key : Value) (n : ℕ) (item : Item) → item_of_key layout.shape key ≡ Ok n → item_of_layout e layout key ≡ replied e item → read_at e layout (slice_index layout.starts n) ≡ item
read_there e layout key n item named read =
    same_item e (read_at e layout (slice_index layout.starts n)) item
    (sym (ap (λ (r : Result ℕ Fault). r >>= λ i. replied e (read_at e layout (slice_index layout.starts i))) named) ∙ read)

list_of : KeysNameItems → (e : Exporter) (layout : Layout) → IsFormed layout → IsListOf e layout (list_shape layout.shape) (items_of_layout e.bytes layout)
list_of names e layout formed = record {
  filled = length-map layout.starts (read_at e layout) ∙ formed.counted ∙ sym (nested layout.shape);
  in_order = λ key n item named read.
      let below = names layout.shape key n named in
      let there : n < length layout.starts = omega (arith, below, formed.counted) in
      slice_get-map (read_at e layout) layout.starts n ∙ ap (option_map (read_at e layout)) (slice_get-get_or layout.starts n 0 there)
      ∙ ap (λ (i : Item). Some i) (read_there e layout key n item named read);
}

abbrev listed : Exporter → List ℕ → List Item → Result (Exporter × LocalReply) Fault
listed e shape items = Ok (e, reply.Items shape items)

same_in_list : (s t : List ℕ) (xs ys : List Item) → reply.Items s xs ≡ reply.Items t ys → (s ≡ t) × (xs ≡ ys)
same_in_list s t xs ys is = (cc, cc)

same_list : (e : Exporter) (s t : List ℕ) (xs ys : List Item) → listed e s xs ≡ listed e t ys → (s ≡ t) × (xs ≡ ys)
same_list e s t xs ys is = same_in_list s t xs ys (ap (λ (after : Exporter × LocalReply). after.1) (same_after (e, reply.Items s xs) (e, reply.Items t ys) is))

pub lists_hold : LiveLayoutsAreSound → KeysNameItems → ListsHoldTheItems
lists_hold live names e k layout shape items sound found is =
    let same =
    same_list e (list_shape layout.shape) shape (items_of_layout e.bytes layout) items
    (sym (ap (λ (r : Result Layout Fault). r >>= λ l. listed e (list_shape l.shape) (items_of_layout e.bytes l)) found) ∙ is) in
    subst (λ (xs : List Item). IsListOf e layout shape xs) same.1
    (subst (λ (s : List ℕ). IsListOf e layout s (items_of_layout e.bytes layout)) same.0 (list_of names e layout (live e k layout sound found).formed))
