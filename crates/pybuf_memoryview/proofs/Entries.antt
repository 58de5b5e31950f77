-- Items by the indices that name them.
use Rattle.std.proofs.Common.{◌≡◌, ℕ, ◌+◌, ◌*◌, List, [], ◌∷◌, length, ap, sym, ◌∙◌, refl, subst, arith}
use Rattle.std.specs.Prelude.{ℤ, pos, ◌+ℤ◌, ◌*ℤ◌, nat_abs, Result, Ok, Err}
use Rattle.std.proofs.lemmas.Option.{get_or_from_slice_get}
use Rattle.pybuf_index.specs.Facts.{entry_below}
use Rattle.pybuf_desc.specs.Facts.{as_many}
use Rattle.pybuf_value.specs.declared.faults.Fault.{Fault}
use Rattle.pybuf_value.specs.Refusing.{◌>>=◌}
use Rattle.pybuf_index.specs.Places.{entry_in}
use Rattle.pybuf_desc.specs.Descriptor.{Descriptor, shape_of}
use Rattle.pybuf_desc.specs.Layouts.{Layout, product}
use Rattle.pybuf_desc.specs.Places.{layout_at}
use Rattle.pybuf_desc.specs.Valid.{IsPlaced}
use Rattle.pybuf_desc.specs.Laws.{IsPosition, PositionsArePlaces, PlacedDescriptorsStand}
use Rattle.pybuf_desc.specs.Positions.{number_of_item, offset_of, AreIndices, position_of}
use Rattle.pybuf_memoryview.specs.Keys.{item_at_indices}
use Rattle.pybuf_memoryview.specs.KeyPlaces.{IsStartOf}

-- the entries that indices name
pub record HasEntries (dims : List (ℕ × ℤ × ℤ)) (indices : List ℤ) (offset : ℤ) : Type 0 where
  pub entries : List ℕ
  pub in_range : AreIndices entries dims
  pub sum : offset_of entries dims ≡ offset
  pub named : item_at_indices (shape_of dims) indices ≡ Ok (number_of_item entries dims)

-- a position is found exactly if an item is named
abbrev pub MatchEntries : List (ℕ × ℤ × ℤ) → List ℤ → Result ℤ Fault → Type 0
MatchEntries dims indices (Ok offset) = HasEntries dims indices offset
MatchEntries dims indices (Err f) = item_at_indices (shape_of dims) indices ≡ Err f

-- the number of an item, from its first entry and the number that the other entries give
abbrev number_with : ℕ → Result ℕ Fault → Result ℕ Fault → Result ℕ Fault
number_with count first others = first >>= λ entry. others >>= λ item. Ok (entry * count + item)

step : (dim : ℕ × ℤ × ℤ) (dims : List (ℕ × ℤ × ℤ)) (index : ℤ) (indices : List ℤ) (first : Result ℕ Fault) → entry_in dim.0 index ≡ first → (rest : Result ℤ Fault) → MatchEntries dims indices rest
    → MatchEntries (dim ∷ dims) (index ∷ indices) (first >>= λ entry. rest >>= λ others. Ok (pos entry *ℤ dim.1 +ℤ others))
step dim dims index indices (Err f) is rest found = ap (λ (r : Result ℕ Fault). number_with (product (shape_of dims)) r (item_at_indices (shape_of dims) indices)) is
step dim dims index indices (Ok entry) is (Err f) found =
    ap (λ (r : Result ℕ Fault). number_with (product (shape_of dims)) r (item_at_indices (shape_of dims) indices)) is
    ∙ ap (λ (r : Result ℕ Fault). number_with (product (shape_of dims)) (Ok entry) r) found
step dim dims index indices (Ok entry) is (Ok offset) found = record {
  entries = entry ∷ found.entries;
  in_range = (entry_below dim.0 index entry is, found.in_range);
  sum = ap (λ (z : ℤ). pos entry *ℤ dim.1 +ℤ z) found.sum;
  named =
      ap (λ (r : Result ℕ Fault). number_with (product (shape_of dims)) r (item_at_indices (shape_of dims) indices)) is
      ∙ ap (λ (r : Result ℕ Fault). number_with (product (shape_of dims)) (Ok entry) r) found.named;
}

pub entries_of_position : (dims : List (ℕ × ℤ × ℤ)) (indices : List ℤ) → length indices ≡ length dims → MatchEntries dims indices (position_of indices dims)
entries_of_position [] [] one_each = record { entries = []; in_range = tt; sum = refl; named = refl }
entries_of_position [] (index ∷ indices) one_each = absurd (omega (arith, one_each))
entries_of_position (dim ∷ dims) [] one_each = absurd (omega (arith, one_each))
entries_of_position (dim ∷ dims) (index ∷ indices) one_each =
    step dim dims index indices (entry_in dim.0 index) refl (position_of indices dims) (entries_of_position dims indices (let same : length indices ≡ length dims = omega (arith, one_each) in same))

-- the item at indices, and how far from the start it lies
pub record IsFound (d : Descriptor) (start : ℕ) (indices : List ℤ) (offset : ℤ) : Type 0 where
  pub item : ℕ
  pub position : IsPosition (layout_at d start) start item offset
  pub named : item_at_indices (shape_of d.dims) indices ≡ Ok item

pub found_at : PositionsArePlaces → PlacedDescriptorsStand → (d : Descriptor) (start : ℕ) (indices : List ℤ) (offset : ℤ) → IsPlaced d start → length indices ≡ length d.dims
    → position_of indices d.dims ≡ Ok offset → IsFound d start indices offset
found_at positions stand d start indices offset placed one_each is =
    let has : HasEntries d.dims indices offset = subst (MatchEntries d.dims indices) is (entries_of_position d.dims indices one_each) in
    record {
      item = number_of_item has.entries d.dims;
      position = subst (λ (z : ℤ). IsPosition (layout_at d start) start (number_of_item has.entries d.dims) z) has.sum (positions d start (layout_at d start) has.entries placed (stand d start placed) has.in_range);
      named = has.named;
    }

pub none_named : (d : Descriptor) (indices : List ℤ) (f : Fault) → length indices ≡ length d.dims → position_of indices d.dims ≡ Err f → item_at_indices (shape_of d.dims) indices ≡ Err f
none_named d indices f one_each is = subst (MatchEntries d.dims indices) is (entries_of_position d.dims indices one_each)

-- the item lies where the position says
pub start_at : (d : Descriptor) (start : ℕ) (indices : List ℤ) (offset : ℤ) (place : ℕ) → (found : IsFound d start indices offset) → place ≡ nat_abs (pos start +ℤ offset)
    → IsStartOf (layout_at d start) (item_at_indices (shape_of d.dims) indices) place
start_at d start indices offset place found is = record {
  item = found.item;
  named = found.named;
  there = found.position.item_exists;
  starts = is ∙ sym (get_or_from_slice_get (layout_at d start).starts found.item (nat_abs (pos start +ℤ offset)) 0 found.position.place);
}

-- a view without dimensions has its one item at its start
pub only_start : (d : Descriptor) (start : ℕ) → length (shape_of d.dims) ≡ 0 → IsStartOf (layout_at d start) (Ok 0) start
only_start d start none = only d.dims none
  where
    only : (dims : List (ℕ × ℤ × ℤ)) → length (shape_of dims) ≡ 0 → IsStartOf (layout_at (record d { dims = dims }) start) (Ok 0) start
    only [] none = record { item = 0; named = refl; there = omega arith; starts = refl }
    only (dim ∷ dims) none = absurd (omega (arith, none))

-- there are as many indices as the view has dimensions
pub one_each : (d : Descriptor) (start : ℕ) (view : Layout) (indices : List ℤ) → layout_at d start ≡ view → length indices ≡ length view.shape → length indices ≡ length d.dims
one_each d start view indices is same = same ∙ ap (λ (v : Layout). length v.shape) (sym is) ∙ as_many d.dims
