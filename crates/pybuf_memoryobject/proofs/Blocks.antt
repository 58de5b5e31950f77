-- The blocks of a range are the slice of that range with step 1.
use Rattle.std.proofs.Common.{◌≡◌, ◌≢◌, ℕ, zero, suc, ◌-◌, ◌*◌, ◌^◌, ◌<◌, ◌≤◌, ℤ, pos, List, [], ◌∷◌, length, ap, subst, ◌∙◌, refl, arith}
use Rattle.std.specs.Prelude.{Some}
use Rattle.std.specs.declared.ops.Range.{Range}
use Rattle.std.proofs.lemmas.Int.{ints}
use Rattle.std.proofs.Math.Nat.{le-mul_of_pos_right, mul-le-mul_right}
use Rattle.std.proofs.lemmas.List.{length-map}
use Rattle.pybuf_index.specs.Facts.{picks_between}
use Rattle.pybuf_desc.specs.Facts.{positive_extent}
use Rattle.pybuf_index.specs.Parts.{picks_of}
use Rattle.pybuf_index.specs.Laws.{EachSlice, SameWhenClamped}
use Rattle.pybuf_desc.specs.Layouts.{Layout, product}
use Rattle.pybuf_desc.specs.Descriptor.{Descriptor, shape_of}
use Rattle.pybuf_desc.specs.Slices.{first_entry, slice_of, slice_at}
use Rattle.pybuf_desc.specs.Places.{Stands}
use Rattle.pybuf_desc.specs.Valid.{IsPlaced, nonzero_entries}
use Rattle.pybuf_desc.specs.Laws.{SlicesStayInside, SlicesHaveTheirShape}
use Rattle.pybuf_state.specs.Exporter.{Exporter}
use Rattle.pybuf_state.specs.Sound.{IsFormed}
use Rattle.pybuf_state.specs.Laws.{IsSoundLayout}
use Rattle.pybuf_buffer.specs.Blocks.{LiesInFirst}
use Rattle.pybuf_memoryobject.specs.Blocks.{blocks_of, range_parts}

-- ---- the entries fit

entry_below : (size n : ℕ) (shape : List ℕ) → 0 < size → n ≤ size * product (nonzero_entries (n ∷ shape))
entry_below size zero shape some = omega arith
entry_below size (suc n) shape some =
    let first = le-mul_of_pos_right (suc n) (positive_extent shape) in
    let all = mul-le-mul_right (suc n * product (nonzero_entries shape)) (let one : 1 ≤ size = omega (arith, some) in one) in
    omega (arith, first, all)

entry_fits : (d : Descriptor) (start n : ℕ) (shape : List ℕ) → IsPlaced d start → shape_of d.dims ≡ n ∷ shape → n < 2 ^ 63
entry_fits d start n shape placed same =
    let below = entry_below d.itemsize n shape placed.valid.some_size in
    let fits = subst (λ (ns : List ℕ). d.itemsize * product (nonzero_entries ns) < 2 ^ 63) same placed.valid.extent_fits in
    omega (arith, below, fits)

-- ---- the slice

one_moves : pos 1 ≢ pos 0
one_moves e = omega (arith, ints, e)

sliced : EachSlice SameWhenClamped → (view : Layout) (range : Range ℕ) (n : ℕ) (shape : List ℕ) → view.shape ≡ n ∷ shape → n < 2 ^ 63 → range.start ≤ range.end → range.end ≤ n
    → slice_of view (range_parts range) ≡ blocks_of view range
sliced clamping view range n shape same fits order inside =
    ap (λ (entries : List ℕ). slice_at view (picks_of (first_entry entries) (range_parts range)) (pos 1)) same
    ∙ ap (λ (is : List ℕ). slice_at view is (pos 1)) (clamping n (Some (pos range.start)) (Some (pos range.end)) (pos 1) one_moves fits ∙ picks_between n range.start range.end order inside)

pub some_dimension : (d : Descriptor) (range : Range ℕ) (shape : List ℕ) → shape_of d.dims ≡ shape → LiesInFirst range shape → 0 < length d.dims
some_dimension d range [] same within = absurd within
some_dimension d range (n ∷ shape) same within = let long : length (shape_of d.dims) ≡ suc (length shape) = ap length same in omega (arith, long, length-map d.dims (λ (dim : ℕ × ℤ × ℤ). dim.0))

by_shape : EachSlice SameWhenClamped → (d : Descriptor) (start : ℕ) (view : Layout) (range : Range ℕ) (shape : List ℕ) → view.shape ≡ shape → IsPlaced d start → Stands d start view → LiesInFirst range shape
    → slice_of view (range_parts range) ≡ blocks_of view range
by_shape clamping d start view range [] same placed stands within = absurd within
by_shape clamping d start view range (n ∷ shape) same placed stands within =
    sliced clamping view range n shape same (entry_fits d start n shape placed (stands.shape ∙ same)) within.0 within.1

pub blocks_are : EachSlice SameWhenClamped → (d : Descriptor) (start : ℕ) (view : Layout) (range : Range ℕ) → IsPlaced d start → Stands d start view → LiesInFirst range view.shape
    → slice_of view (range_parts range) ≡ blocks_of view range
blocks_are clamping d start view range placed stands within = by_shape clamping d start view range view.shape refl placed stands within

-- ---- the new view is sound

formed : SlicesHaveTheirShape → (view : Layout) (range : Range ℕ) (shape : List ℕ) → view.shape ≡ shape → LiesInFirst range shape → IsFormed view → IsFormed (slice_of view (range_parts range))
formed shapes view range [] same within is = absurd within
formed shapes view range (n ∷ shape) same within is = record {
  sized = is.sized;
  counted = shapes view n shape (range_parts range) same is.counted one_moves;
}

pub slice_sound : SlicesStayInside → SlicesHaveTheirShape → (e : Exporter) (view : Layout) (range : Range ℕ) → LiesInFirst range view.shape → IsSoundLayout e view → IsSoundLayout e (slice_of view (range_parts range))
slice_sound inside shapes e view range within sound = record {
  formed = formed shapes view range view.shape refl within sound.formed;
  inside = inside view (range_parts range) (length e.bytes) sound.inside;
  readonly = sound.readonly;
}
