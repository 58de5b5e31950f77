-- What iterators over views reply.
use Rattle.std.specs.Prelude.{◌≡◌, ◌≢◌, ℕ, ◌+◌, ◌-◌, ◌<◌, ◌≤◌, true, false, ◌++◌, length, map, drop, replicate, slice_get, Ok, Some}
use Rattle.pybuf_value.specs.declared.faults.Fault.TheVariants as fault
use Rattle.pybuf_desc.specs.Layouts.{Layout}
use Rattle.pybuf_desc.specs.Slices.{first_entry}
use Rattle.pybuf_command.specs.declared.kinds.Subject.TheVariants as subject
use Rattle.pybuf_command.specs.declared.commands.LocalReply.TheVariants as reply
use Rattle.pybuf_memoryview.specs.Lists.{items_of_layout}
use Rattle.pybuf_state.specs.Exporter.{Exporter, View, Iterator, live_layout}
use Rattle.pybuf_state.specs.Sound.{IsSoundExporter}
use Rattle.pybuf_exporter.specs.Laws.{nexts}

-- An iterator over a view of one dimension gives the items of the view from its position on, as the bytes are
-- now. It gives them in order, each once, and then it stops, however often it is asked again.
abbrev pub IteratorsGiveTheItems : Type 0
IteratorsGiveTheItems =
    (e : Exporter) (k n : ℕ) (it : Iterator) (layout : Layout) (more : ℕ) → IsSoundExporter e → slice_get e.iterators k ≡ Some it → it.subject ≡ subject.View n → it.exhausted ≡ false
    → live_layout e n ≡ Ok layout → length layout.shape ≡ 1
    → nexts e k (length layout.starts - it.position + more) ≡ map (λ x. reply.Item x) (drop it.position (items_of_layout e.bytes layout)) ++ replicate more reply.Stop

-- While the view is released, each `next` is refused, and none of them moves the iterator.
abbrev pub ReleasedViewsAreNotIterated : Type 0
ReleasedViewsAreNotIterated =
    (e : Exporter) (k n : ℕ) (it : Iterator) (v : View) (more : ℕ) → slice_get e.iterators k ≡ Some it → it.subject ≡ subject.View n → it.exhausted ≡ false → slice_get e.views n ≡ Some v → v.released ≡ true
    → nexts e k more ≡ replicate more (reply.Refused fault.Value)

-- If the view has no dimension or several, each `next` is refused with another fault, as long as the first
-- dimension has an entry at the position. A view without dimensions has one entry.
abbrev pub OtherShapesAreNotIterated : Type 0
OtherShapesAreNotIterated =
    (e : Exporter) (k n : ℕ) (it : Iterator) (layout : Layout) (more : ℕ) → slice_get e.iterators k ≡ Some it → it.subject ≡ subject.View n → it.exhausted ≡ false → live_layout e n ≡ Ok layout
    → length layout.shape ≢ 1 → it.position < first_entry layout.shape → nexts e k more ≡ replicate more (reply.Refused fault.NotImplemented)

-- Past the last entry of the first dimension, the iterator stops, however often it is asked.
abbrev pub IteratorsStopPastTheEntries : Type 0
IteratorsStopPastTheEntries =
    (e : Exporter) (k n : ℕ) (it : Iterator) (layout : Layout) (more : ℕ) → slice_get e.iterators k ≡ Some it → it.subject ≡ subject.View n → it.exhausted ≡ false → live_layout e n ≡ Ok layout
    → first_entry layout.shape ≤ it.position → nexts e k more ≡ replicate more reply.Stop

-- An exhausted iterator stops, whatever it goes over, even if that is a released view.
abbrev pub ExhaustedIteratorsStop : Type 0
ExhaustedIteratorsStop = (e : Exporter) (k : ℕ) (it : Iterator) (more : ℕ) → slice_get e.iterators k ≡ Some it → it.exhausted ≡ true → nexts e k more ≡ replicate more reply.Stop
