-- What the calls answer, by what their steps gave.
use Rattle.std.proofs.Common.{◌≡◌, ℕ, ◌*◌, ◌^◌, ◌<◌, ◌&&◌, nat_lt, ℤ, pos, ◌+ℤ◌, ◌*ℤ◌, ◌≤ℤ◌, nat_abs, Bool, false, Result, Ok, List, [], ◌∷◌, length, drop, remove, reverse, refl, ap, ap₂, sym, ◌∙◌, subst, All}
use Rattle.std.proofs.Math.ListN.{get_or-map}
use Rattle.std.proofs.lemmas.List.{length-map}
use Rattle.std.proofs.lemmas.List.Elements.{All-from_recursion, recursion_from_All}
use Rattle.pybuf_lemmas.proofs.Integers.{size_of_nonnegative}
use Rattle.pybuf_index.specs.Facts.{entry_below}
use Rattle.pybuf_value.specs.declared.faults.Fault.{Fault}
use Rattle.pybuf_value.specs.declared.faults.Fault.TheVariants as fault
use Rattle.pybuf_value.specs.Halting.{refusal_of}
use Rattle.pybuf_value.specs.Refusing.{◌>>=◌, unless, IfDone}
use Rattle.pybuf_index.specs.Parts.{SliceParts, IsSaturated}
use Rattle.pybuf_index.specs.Places.{entry_in}
use Rattle.pybuf_index.specs.Laws.{SlicesHaveSpans}
use Rattle.pybuf_desc.specs.Layouts.{Layout, product}
use Rattle.pybuf_desc.specs.Descriptor.{Descriptor, shape_of}
use Rattle.pybuf_desc.specs.Places.{Stands, layout_at}
use Rattle.pybuf_desc.specs.Positions.{AreIndices, offset_of, number_of_item}
use Rattle.pybuf_desc.specs.Valid.{IsValid, IsPlaced, IsPlaceable, nonzero_entries}
use Rattle.pybuf_desc.specs.Laws.{PlacedDescriptorsStand, PositionsArePlaces, IsPosition}
use Rattle.pybuf_nd.specs.Selections.{picks_of_each, counts_of, has_zero, selection_of, selection_check}
use Rattle.pybuf_nd.specs.Planes.{plane_of, entry_of_place}
use Rattle.pybuf_nd.specs.Axes.{AreAxes, view_in_order, transposition_of, order_check}
use Rattle.pybuf_nd.specs.Dims.{in_dims, cut_dims, firsts_of, dims_in_order}
use Rattle.pybuf_nd.proofs.Cutting.{shape_cut, sound_cut, stands_cut, valid_cut}
use Rattle.pybuf_nd.proofs.MadeLemmas.{dim_at}
use Rattle.pybuf_nd.proofs.Planing.{entries_fit, IsEntry, entry_is, sound_plane, valid_plane, stands_plane}
use Rattle.pybuf_nd.proofs.Ordering.{CanBeOrdered, sound_order, valid_order, stands_order, dims_reversed, axes_reversed, valid_transposed, stands_transposed}

-- ---- places

pub next_is : (next start : ℕ) (way z : ℤ) → next ≡ nat_abs (pos start +ℤ way) → way ≡ z → pos 0 ≤ℤ (pos start +ℤ z) → pos next ≡ pos start +ℤ z
next_is next start way z e f low =
    ap (λ (n : ℕ). pos n) (e ∙ ap (λ w. nat_abs (pos start +ℤ w)) f) ∙ size_of_nonnegative (pos start +ℤ z) low

pub position_of_indices : PositionsArePlaces → PlacedDescriptorsStand → (d : Descriptor) (start : ℕ) (indices : List ℕ) → IsPlaced d start → AreIndices indices d.dims
    → IsPosition (layout_at d start) start (number_of_item indices d.dims) (offset_of indices d.dims)
position_of_indices positions stand d start indices placed h = positions d start (layout_at d start) indices placed (stand d start placed) h

pub entries_small : (d : Descriptor) (start : ℕ) (dims : List (ℕ × ℤ × ℤ)) → IsPlaced d start → dims ≡ d.dims → All (λ (dim : ℕ × ℤ × ℤ). dim.0 < 2 ^ 63) dims
entries_small d start dims placed e =
    subst (λ (ds : List (ℕ × ℤ × ℤ)). All (λ (dim : ℕ × ℤ × ℤ). dim.0 < 2 ^ 63) ds) (sym e)
    (All-from_recursion (λ (dim : ℕ × ℤ × ℤ). dim.0 < 2 ^ 63) d.dims (entries_fit d.itemsize d.dims placed.valid.some_size placed.valid.extent_fits))

-- ---- selections

later_shape : (dims : List (ℕ × ℤ × ℤ)) → shape_of (drop 1 dims) ≡ drop 1 (shape_of dims)
later_shape [] = refl
later_shape (dim ∷ dims) = refl

pub later_zero : (d : Descriptor) (slices : List SliceParts) (dims cut : List (ℕ × ℤ × ℤ)) (b : Bool) → dims ≡ d.dims → cut ≡ cut_dims dims slices → has_zero (shape_of (drop 1 cut)) ≡ b
    → has_zero (drop 1 (shape_of (cut_dims d.dims slices))) ≡ b
later_zero d slices dims cut b e f h =
    ap has_zero (sym (later_shape (cut_dims d.dims slices))) ∙ sym (ap (λ (ds : List (ℕ × ℤ × ℤ)). has_zero (shape_of (drop 1 ds))) (f ∙ ap (λ ds. cut_dims ds slices) e)) ∙ h

pub selection_refused : (d : Descriptor) (slices : List SliceParts) (dims cut : List (ℕ × ℤ × ℤ)) (b : Bool) → dims ≡ d.dims → cut ≡ cut_dims dims slices → has_zero (shape_of (drop 1 cut)) ≡ b
    → refusal_of (unless b fault.Value) ≡ refusal_of (selection_check (shape_of d.dims) slices)
selection_refused d slices dims cut b e f h =
    ap (λ t. refusal_of (unless t fault.Value)) (sym (later_zero d slices dims cut b e f h) ∙ ap (λ (ns : List ℕ). has_zero (drop 1 ns)) (shape_cut d.dims slices))

-- The selection starts here.
abbrev pub StartsAt : Descriptor → ℕ → List SliceParts → ℕ → Type 0
StartsAt d start slices next =
    has_zero (counts_of (picks_of_each (shape_of d.dims) slices)) ≡ false → pos next ≡ pos start +ℤ offset_of (firsts_of (picks_of_each (shape_of d.dims) slices)) d.dims

pub selection_extent : (d : Descriptor) (start : ℕ) (slices : List SliceParts) (dims cut : List (ℕ × ℤ × ℤ)) → IsPlaced d start → All IsSaturated slices → dims ≡ d.dims → cut ≡ cut_dims dims slices → has_zero (shape_of (drop 1 cut)) ≡ false
    → d.itemsize * product (nonzero_entries (shape_of cut)) < 2 ^ 63
selection_extent d start slices dims cut placed s e f h =
    subst (λ (ds : List (ℕ × ℤ × ℤ)). d.itemsize * product (nonzero_entries (shape_of ds)) < 2 ^ 63) (sym (f ∙ ap (λ ds. cut_dims ds slices) e))
    (sound_cut d start placed.room slices placed.valid (recursion_from_All IsSaturated slices s) (later_zero d slices dims cut false e f h)).extent_fits

pub selection_stands : SlicesHaveSpans → (d : Descriptor) (start : ℕ) (slices : List SliceParts) (dims cut : List (ℕ × ℤ × ℤ)) (next : ℕ) (made : Descriptor) → IsPlaced d start → length slices ≡ length d.dims → All IsSaturated slices
    → dims ≡ d.dims → cut ≡ cut_dims dims slices → StartsAt d start slices next → made ≡ in_dims d cut → (view : Layout) → Stands d start view → Stands made next (selection_of view slices)
selection_stands spans d start slices dims cut next made placed long s e f at m view stands =
    subst (λ (x : Descriptor). Stands x next (selection_of view slices)) (sym (m ∙ ap (in_dims d) (f ∙ ap (λ ds. cut_dims ds slices) e)))
    (stands_cut spans d start slices next view placed (recursion_from_All IsSaturated slices s) long at stands)

pub selection_valid : SlicesHaveSpans → (d : Descriptor) (start : ℕ) (slices : List SliceParts) (dims cut : List (ℕ × ℤ × ℤ)) (next : ℕ) (made : Descriptor) → IsPlaced d start → length slices ≡ length d.dims → All IsSaturated slices
    → dims ≡ d.dims → cut ≡ cut_dims dims slices → has_zero (shape_of (drop 1 cut)) ≡ false → StartsAt d start slices next → made ≡ in_dims d cut → (room : ℕ) → IsValid d start room → IsValid made next room
selection_valid spans d start slices dims cut next made placed long s e f h at m room valid =
    subst (λ (x : Descriptor). IsValid x next room) (sym (m ∙ ap (in_dims d) (f ∙ ap (λ ds. cut_dims ds slices) e)))
    (valid_cut spans d start slices next room placed (recursion_from_All IsSaturated slices s) long at (later_zero d slices dims cut false e f h) valid)

-- ---- orders

pub order_refused : (d : Descriptor) (dims : List (ℕ × ℤ × ℤ)) (b : Bool) → dims ≡ d.dims → b ≡ (has_zero (shape_of dims) && nat_lt 1 (length dims)) → refusal_of (unless b fault.Value) ≡ refusal_of (order_check (shape_of d.dims))
order_refused d dims b e h =
    ap (λ t. refusal_of (unless t fault.Value))
    (h ∙ ap (λ (ds : List (ℕ × ℤ × ℤ)). has_zero (shape_of ds) && nat_lt 1 (length ds)) e ∙ ap (λ n. has_zero (shape_of d.dims) && nat_lt 1 n) (sym (length-map d.dims (λ dim. dim.0))))

pub can_order : (d : Descriptor) (dims : List (ℕ × ℤ × ℤ)) (b : Bool) → dims ≡ d.dims → b ≡ (has_zero (shape_of dims) && nat_lt 1 (length dims)) → b ≡ false → CanBeOrdered d.dims
can_order d dims b e h f = sym (ap (λ (ds : List (ℕ × ℤ × ℤ)). has_zero (shape_of ds) && nat_lt 1 (length ds)) e) ∙ sym h ∙ f

pub order_extent : (d : Descriptor) (axes : List ℕ) (dims list : List (ℕ × ℤ × ℤ)) → IsPlaceable d → AreAxes (length d.dims) axes → CanBeOrdered d.dims → dims ≡ d.dims → list ≡ dims_in_order dims axes
    → d.itemsize * product (nonzero_entries (shape_of list)) < 2 ^ 63
order_extent d axes dims list placeable p can e f =
    subst (λ (ds : List (ℕ × ℤ × ℤ)). d.itemsize * product (nonzero_entries (shape_of ds)) < 2 ^ 63) (sym (f ∙ ap (λ ds. dims_in_order ds axes) e))
    (sound_order d placeable.start placeable.placed.room axes placeable.placed.valid p can).extent_fits

pub order_valid : (d : Descriptor) (axes : List ℕ) (dims list : List (ℕ × ℤ × ℤ)) (made : Descriptor) → AreAxes (length d.dims) axes → CanBeOrdered d.dims → dims ≡ d.dims → list ≡ dims_in_order dims axes → made ≡ in_dims d list
    → (start room : ℕ) → IsValid d start room → IsValid made start room
order_valid d axes dims list made p can e f m start room valid =
    subst (λ (x : Descriptor). IsValid x start room) (sym (m ∙ ap (in_dims d) (f ∙ ap (λ ds. dims_in_order ds axes) e))) (valid_order d axes start room p can valid)

pub order_stands : (d : Descriptor) (axes : List ℕ) (dims list : List (ℕ × ℤ × ℤ)) (made : Descriptor) → AreAxes (length d.dims) axes → CanBeOrdered d.dims → dims ≡ d.dims → list ≡ dims_in_order dims axes → made ≡ in_dims d list
    → (start : ℕ) (view : Layout) → Stands d start view → Stands made start (view_in_order view axes)
order_stands d axes dims list made p can e f m start view stands =
    subst (λ (x : Descriptor). Stands x start (view_in_order view axes)) (sym (m ∙ ap (in_dims d) (f ∙ ap (λ ds. dims_in_order ds axes) e))) (stands_order d axes start view p can stands)

pub transposed_extent : (d : Descriptor) (dims list : List (ℕ × ℤ × ℤ)) → IsPlaceable d → CanBeOrdered d.dims → dims ≡ d.dims → list ≡ reverse dims → d.itemsize * product (nonzero_entries (shape_of list)) < 2 ^ 63
transposed_extent d dims list placeable can e f =
    subst (λ (ds : List (ℕ × ℤ × ℤ)). d.itemsize * product (nonzero_entries (shape_of ds)) < 2 ^ 63) (dims_reversed d.dims ∙ sym (f ∙ ap reverse e))
    (sound_order d placeable.start placeable.placed.room _ placeable.placed.valid (axes_reversed (length d.dims)) can).extent_fits

pub transposed_valid : (d : Descriptor) (dims list : List (ℕ × ℤ × ℤ)) (made : Descriptor) → CanBeOrdered d.dims → dims ≡ d.dims → list ≡ reverse dims → made ≡ in_dims d list → (start room : ℕ) → IsValid d start room → IsValid made start room
transposed_valid d dims list made can e f m start room valid =
    subst (λ (x : Descriptor). IsValid x start room) (sym (m ∙ ap (in_dims d) (f ∙ ap reverse e))) (valid_transposed d start room can valid)

pub transposed_stands : (d : Descriptor) (dims list : List (ℕ × ℤ × ℤ)) (made : Descriptor) → CanBeOrdered d.dims → dims ≡ d.dims → list ≡ reverse dims → made ≡ in_dims d list → (start : ℕ) (view : Layout) → Stands d start view
    → Stands made start (transposition_of view)
transposed_stands d dims list made can e f m start view stands =
    subst (λ (x : Descriptor). Stands x start (transposition_of view)) (sym (m ∙ ap (in_dims d) (f ∙ ap reverse e))) (stands_transposed d start view can stands)

-- ---- planes

-- the entry that a place names, unless a dimension has no entry
abbrev pub unless_zero : Bool → Result ℕ Fault → Result ℕ Fault
unless_zero b named = do
  entry ← named
  _ ← unless b fault.Value
  Ok entry

pub place_named : (d : Descriptor) (dims : List (ℕ × ℤ × ℤ)) (axis : ℕ) (place : ℤ) (named : Result ℕ Fault) (b : Bool) → dims ≡ d.dims → entry_in (dim_at dims axis).0 place ≡ named → has_zero (shape_of dims) ≡ b
    → entry_of_place (shape_of d.dims) axis place ≡ unless_zero b named
place_named d dims axis place named b e f h =
    ap (λ n. unless_zero (has_zero (shape_of d.dims)) (entry_in n place)) (get_or-map (λ (dim : ℕ × ℤ × ℤ). dim.0) d.dims axis (0, pos 0, pos 0))
    ∙ ap₂ (λ t r. unless_zero t r) (sym (ap (λ (ds : List (ℕ × ℤ × ℤ)). has_zero (shape_of ds)) e) ∙ h) (ap (λ ds. entry_in (dim_at ds axis).0 place) (sym e) ∙ f)

pub entry_inside : (d : Descriptor) (dims : List (ℕ × ℤ × ℤ)) (axis entry : ℕ) (place : ℤ) → dims ≡ d.dims → entry_in (dim_at dims axis).0 place ≡ Ok entry → entry < (dim_at d.dims axis).0
entry_inside d dims axis entry place e f = entry_below (dim_at d.dims axis).0 place entry (ap (λ ds. entry_in (dim_at ds axis).0 place) (sym e) ∙ f)

pub plane_entry : (d : Descriptor) (start axis entry : ℕ) (place : ℤ) (dims : List (ℕ × ℤ × ℤ)) → IsPlaced d start → axis < length d.dims → dims ≡ d.dims → entry_in (dim_at dims axis).0 place ≡ Ok entry → has_zero (shape_of dims) ≡ false
    → IsEntry start entry (dim_at d.dims axis).1
plane_entry d start axis entry place dims placed h e f z =
    entry_is d start axis entry placed h (entry_inside d dims axis entry place e f) (sym (ap (λ (ds : List (ℕ × ℤ × ℤ)). has_zero (shape_of ds)) e) ∙ z)

pub plane_extent : (d : Descriptor) (start axis : ℕ) (dims rest : List (ℕ × ℤ × ℤ)) → IsPlaced d start → axis < length d.dims → dims ≡ d.dims → has_zero (shape_of dims) ≡ false → rest ≡ remove dims axis
    → d.itemsize * product (nonzero_entries (shape_of rest)) < 2 ^ 63
plane_extent d start axis dims rest placed h e z f =
    subst (λ (ds : List (ℕ × ℤ × ℤ)). d.itemsize * product (nonzero_entries (shape_of ds)) < 2 ^ 63) (sym (f ∙ ap (λ ds. remove ds axis) e))
    (sound_plane d start placed.room axis placed.valid h (sym (ap (λ (ds : List (ℕ × ℤ × ℤ)). has_zero (shape_of ds)) e) ∙ z)).extent_fits

pub plane_valid : (d : Descriptor) (start axis entry next : ℕ) (place : ℤ) (dims rest : List (ℕ × ℤ × ℤ)) (made : Descriptor) → axis < length d.dims → dims ≡ d.dims → entry_in (dim_at dims axis).0 place ≡ Ok entry → has_zero (shape_of dims) ≡ false
    → rest ≡ remove dims axis → made ≡ in_dims d rest → pos next ≡ pos start +ℤ pos entry *ℤ (dim_at d.dims axis).1 → (room : ℕ) → IsValid d start room → IsValid made next room
plane_valid d start axis entry next place dims rest made h e f z g m at room valid =
    subst (λ (x : Descriptor). IsValid x next room) (sym (m ∙ ap (in_dims d) (g ∙ ap (λ ds. remove ds axis) e)))
    (valid_plane d start next axis entry room h (entry_inside d dims axis entry place e f) (sym (ap (λ (ds : List (ℕ × ℤ × ℤ)). has_zero (shape_of ds)) e) ∙ z) at valid)

pub plane_stands : (d : Descriptor) (start axis entry next : ℕ) (place : ℤ) (dims rest : List (ℕ × ℤ × ℤ)) (made : Descriptor) → axis < length d.dims → dims ≡ d.dims → entry_in (dim_at dims axis).0 place ≡ Ok entry → has_zero (shape_of dims) ≡ false
    → rest ≡ remove dims axis → made ≡ in_dims d rest → pos next ≡ pos start +ℤ pos entry *ℤ (dim_at d.dims axis).1 → (view : Layout) → Stands d start view
    → IfDone (λ entry. Stands made next (plane_of view axis entry)) (entry_of_place view.shape axis place)
plane_stands d start axis entry next place dims rest made h e f z g m at view stands =
    subst (IfDone (λ n. Stands made next (plane_of view axis n))) (sym (ap (λ (ns : List ℕ). entry_of_place ns axis place) (sym stands.shape) ∙ place_named d dims axis place (Ok entry) false e f z))
    (subst (λ (x : Descriptor). Stands x next (plane_of view axis entry)) (sym (m ∙ ap (in_dims d) (g ∙ ap (λ ds. remove ds axis) e)))
    (stands_plane d start next axis entry view h (entry_inside d dims axis entry place e f) at stands))
