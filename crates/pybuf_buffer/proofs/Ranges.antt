-- The ranges of the joined walk over the items of a view: how many there are, and where they lie.
use Rattle.std.proofs.Common.{◌≡◌, ℕ, zero, suc, ◌*◌, ◌-◌, ◌<◌, ℤ, pos, Bool, true, false, List, [], ◌∷◌, length, map, take, drop, ap, ap₂, sym, ◌∙◌, refl, arith}
use Rattle.std.specs.Prelude.{All, slice_index_or, ◌==◌, if◌then◌else◌}
use Rattle.std.specs.declared.ops.Range.{Range}
use Rattle.std.proofs.lemmas.List.{take-map, length-map}
use Rattle.std.proofs.lemmas.List.Elements.{All-map, All-nil}
use Rattle.pybuf_desc.specs.Layouts.{Layout, product}
use Rattle.pybuf_desc.specs.Descriptor.{Descriptor, shape_of, strides_of}
use Rattle.pybuf_desc.specs.Places.{places, Stands}
use Rattle.pybuf_desc.specs.Valid.{IsPlaced}
use Rattle.pybuf_desc.specs.Tails.{tail_of, tail_of_strides}
use Rattle.pybuf_desc.specs.Segments.{range_at, ranges_of, joined_count, joined_dims, outer_dims}
use Rattle.std.proofs.Math.Nat.{mul-pos}
use Rattle.pybuf_lemmas.proofs.Numbers.{second_factor_positive, positive_if_nonzero}
use Rattle.pybuf_desc.specs.Facts.{length-places}
use Rattle.pybuf_buffer.specs.Laws.{RangesAreCounted}
use Rattle.pybuf_buffer.specs.Appending.{range_count}

-- ---- how many

outer_is : (dims : List (ℕ × ℤ × ℤ)) (joined : ℕ) → product (shape_of (outer_dims joined dims)) ≡ product (take (length (shape_of dims) - joined) (shape_of dims))
outer_is dims joined =
    ap product (sym (take-map (λ (dim : ℕ × ℤ × ℤ). dim.0) (length dims - joined) dims) ∙ ap (λ (n : ℕ). take (n - joined) (shape_of dims)) (sym (length-map dims (λ (dim : ℕ × ℤ × ℤ). dim.0))))

counted : (empty : Bool) (f : ℤ → Range ℕ) (ps : List ℤ) (n : ℕ) → length ps ≡ n → length (if empty then [] else map f ps) ≡ (if empty then 0 else n)
counted true f ps n same = refl
counted false f ps n same = length-map ps f ∙ same

-- the number of a descriptor's ranges
ranges_counted : (d : Descriptor) (start : ℤ) (joined : ℕ) → length (ranges_of d start joined) ≡ (if product (shape_of d.dims) == 0 then 0 else product (take (length (shape_of d.dims) - joined) (shape_of d.dims)))
ranges_counted d start joined =
    counted (product (shape_of d.dims) == 0) (range_at (product (shape_of (joined_dims joined d.dims)) * d.itemsize)) (places (outer_dims joined d.dims) start)
    (product (take (length (shape_of d.dims) - joined) (shape_of d.dims))) (length-places (outer_dims joined d.dims) start ∙ outer_is d.dims joined)

-- the number of ranges of the view that a descriptor stands for
pub ranges_are_counted : (d : Descriptor) (start : ℕ) (layout : Layout) → IsPlaced d start → Stands d start layout → length (ranges_of d (pos start) (joined_count d true)) ≡ range_count layout
ranges_are_counted d start layout placed stands =
    ranges_counted d (pos start) (tail_of d)
    ∙ ap (λ (shape : List ℕ). if product shape == 0 then 0 else product (take (length shape - tail_of_strides d.itemsize shape (strides_of d.dims)) shape)) stands.shape
    ∙ ap₂ (λ (size : ℕ) (strides : List ℤ). if product layout.shape == 0 then 0 else product (take (length layout.shape - tail_of_strides size layout.shape strides) layout.shape)) stands.itemsize stands.strides

-- ---- that none is empty

some_rest : (n : ℕ) (dims : List (ℕ × ℤ × ℤ)) → 0 < product (shape_of dims) → 0 < product (shape_of (drop n dims))
some_rest zero dims some = some
some_rest (suc n) [] some = some
some_rest (suc n) (dim ∷ dims) some = some_rest n dims (second_factor_positive dim.0 (product (shape_of dims)) some)

at_nonempty : (size : ℕ) (p : ℤ) → 0 < size → (range_at size p).start < (range_at size p).end
at_nonempty size p some = omega (arith, some)

if_nonempty : (empty : Bool) (size : ℕ) (ps : List ℤ) → (empty ≡ false → 0 < size) → All (λ (range : Range ℕ). range.start < range.end) (if empty then [] else map (range_at size) ps)
if_nonempty true size ps some = All-nil (λ (range : Range ℕ). range.start < range.end)
if_nonempty false size ps some =
    All-map (λ (range : Range ℕ). range.start < range.end) (range_at size) ps (λ k d below. at_nonempty size (slice_index_or ps k d) (some refl))

ranges_nonempty : (d : Descriptor) (start : ℤ) (joined : ℕ) → 0 < d.itemsize → All (λ (range : Range ℕ). range.start < range.end) (ranges_of d start joined)
ranges_nonempty d start joined sized =
    if_nonempty (product (shape_of d.dims) == 0) (product (shape_of (joined_dims joined d.dims)) * d.itemsize) (places (outer_dims joined d.dims) start)
    (λ is. mul-pos (some_rest (length d.dims - joined) d.dims (positive_if_nonzero (product (shape_of d.dims)) is)) sized)

-- ---- both together

pub are_counted : RangesAreCounted
are_counted d start view placed stands = record {
  count = ranges_are_counted d start view placed stands;
  nonempty = ranges_nonempty d (pos start) (joined_count d true) placed.valid.some_size;
}
