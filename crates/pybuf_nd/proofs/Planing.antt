-- One axis is left out.
use Rattle.std.proofs.Common.{◌≡◌, ◌≢◌, ℕ, zero, suc, ◌-◌, ◌*◌, ◌^◌, ◌<◌, ◌≤◌, ℤ, pos, ◌+ℤ◌, ◌*ℤ◌, ◌≤ℤ◌, ◌<ℤ◌, false, List, [], ◌∷◌, length, drop, insert, remove, map, refl, ap, ap₂, ◌∙◌, subst, arith, SFits, w64, le_refl, mul-le-mul_left, lt_of_le_of_lt, le-mul_of_pos_right, zero-lt-suc}
use Rattle.std.specs.List.{AllByRecursion}
use Rattle.std.proofs.lemmas.Int.{ints}
use Rattle.std.proofs.lemmas.List.Elements.{All-from_recursion, recursion_from_All}
use Rattle.pybuf_lemmas.proofs.Integers.{sum_associates, zeroth_place}
use Rattle.pybuf_lemmas.proofs.Recursion.{dims_after_first}
use Rattle.pybuf_desc.specs.Facts.{positive_extent}
use Rattle.pybuf_desc.specs.Layouts.{Layout, product}
use Rattle.pybuf_desc.specs.Descriptor.{Descriptor, shape_of, strides_of}
use Rattle.pybuf_desc.specs.Places.{places, Stands}
use Rattle.pybuf_desc.specs.Positions.{offset_of}
use Rattle.pybuf_desc.specs.Valid.{IsInside, IsValid, IsPlaced, nonzero_entries}
use Rattle.pybuf_nd.specs.IndexMaps.{IsIndexList, view_by}
use Rattle.pybuf_nd.specs.Selections.{has_zero}
use Rattle.pybuf_nd.specs.Planes.{plane_of}
use Rattle.pybuf_nd.specs.Dims.{in_dims}
use Rattle.pybuf_nd.proofs.Cutting.{entries_some}
use Rattle.pybuf_nd.proofs.MadeLemmas.{dim_at}
use Rattle.pybuf_nd.proofs.Spread.{AreNonzero, entry_of, first_of}
use Rattle.pybuf_nd.proofs.Remaps.{Remaps, AreSound, stands_remap, valid_remap}

-- ---- shape and strides

map_remove : {X : Type 0} (f : ℕ × ℤ × ℤ → X) (dims : List (ℕ × ℤ × ℤ)) (axis : ℕ) → axis < length dims → map f (remove dims axis) ≡ remove (map f dims) axis
map_remove f [] axis h = absurd (omega (arith, h))
map_remove f (dim ∷ dims) zero h = refl
map_remove f (dim ∷ dims) (suc axis) h = ap (λ xs. f dim ∷ xs) (map_remove f dims axis (omega (arith, h)))

-- ---- places

swap_terms : (a b c : ℤ) → a +ℤ (b +ℤ c) ≡ b +ℤ (a +ℤ c)
swap_terms a b c = omega (arith, ints)

within_insert : (dims : List (ℕ × ℤ × ℤ)) (axis entry : ℕ) (indices : List ℕ) → axis < length dims → entry < (dim_at dims axis).0 → IsIndexList (shape_of (remove dims axis)) indices → IsIndexList (shape_of dims) (insert indices axis entry)
within_insert [] axis entry indices h below i = absurd (omega (arith, h))
within_insert (dim ∷ dims) zero entry indices h below i = (below, i)
within_insert (dim ∷ dims) (suc axis) entry [] h below i = absurd i
within_insert (dim ∷ dims) (suc axis) entry (index ∷ indices) h below i = (i.0, within_insert dims axis entry indices (omega (arith, h)) below i.1)

offset_insert : (dims : List (ℕ × ℤ × ℤ)) (axis entry : ℕ) (indices : List ℕ) → axis < length dims → IsIndexList (shape_of (remove dims axis)) indices
    → pos entry *ℤ (dim_at dims axis).1 +ℤ offset_of indices (remove dims axis) ≡ offset_of (insert indices axis entry) dims
offset_insert [] axis entry indices h i = absurd (omega (arith, h))
offset_insert (dim ∷ dims) zero entry indices h i = refl
offset_insert (dim ∷ dims) (suc axis) entry [] h i = absurd i
offset_insert (dim ∷ dims) (suc axis) entry (index ∷ indices) h i =
    swap_terms (pos entry *ℤ (dim_at dims axis).1) (pos index *ℤ dim.1) (offset_of indices (remove dims axis))
    ∙ ap (λ z. pos index *ℤ dim.1 +ℤ z) (offset_insert dims axis entry indices (omega (arith, h)) i.1)

pub remap_plane : (dims : List (ℕ × ℤ × ℤ)) (start next axis entry : ℕ) → axis < length dims → entry < (dim_at dims axis).0 → pos next ≡ pos start +ℤ pos entry *ℤ (dim_at dims axis).1
    → Remaps dims start (remove dims axis) next (λ indices. insert indices axis entry)
remap_plane dims start next axis entry h below e =
    record {
      within = λ indices i. within_insert dims axis entry indices h below i;
      same = λ indices i.
          ap (λ z. z +ℤ offset_of indices (remove dims axis)) e
          ∙ sum_associates (pos start) (pos entry *ℤ (dim_at dims axis).1) (offset_of indices (remove dims axis))
          ∙ ap (λ z. pos start +ℤ z) (offset_insert dims axis entry indices h i);
    }

-- ---- the place of the first item

pub nonzero_all : (dims : List (ℕ × ℤ × ℤ)) → has_zero (shape_of dims) ≡ false → AreNonzero dims
nonzero_all [] e = tt
nonzero_all (dim ∷ dims) e = let some = entries_some (dim ∷ dims) e in (some.0, nonzero_from dims some.1)
  where
    nonzero_from : (ds : List (ℕ × ℤ × ℤ)) → AllByRecursion (λ (d : ℕ × ℤ × ℤ). 0 < d.0) ds → AreNonzero ds
    nonzero_from [] h = tt
    nonzero_from (d ∷ ds) h = (h.0, nonzero_from ds h.1)

entry_inside : (P : ℤ → Type 0) (dims : List (ℕ × ℤ × ℤ)) (p : ℤ) (axis entry : ℕ) → axis < length dims → entry < (dim_at dims axis).0 → AreNonzero dims → AllByRecursion P (places dims p) → P (p +ℤ pos entry *ℤ (dim_at dims axis).1)
entry_inside P [] p axis entry h below some all = absurd (omega (arith, h))
entry_inside P (dim ∷ dims) p zero entry h below some all = first_of P dims (p +ℤ pos entry *ℤ dim.1) some.1 (entry_of P dim dims p entry below all)
entry_inside P (dim ∷ dims) p (suc axis) entry h below some all =
    entry_inside P dims p axis entry (omega (arith, h)) below some.1 (subst (λ q. AllByRecursion P (places dims q)) (zeroth_place p dim.1) (entry_of P dim dims p 0 some.0 all))

way_fits : (p m : ℤ) (size room : ℕ) → room < 2 ^ 63 → IsInside size room p → IsInside size room (p +ℤ m) → SFits w64 m
way_fits p m size room fits x y = let l = x.low in let h = x.high in let k = y.low in let g = y.high in omega (arith, ints, fits, l, h, k, g)

start_below : (p : ℤ) (size room start : ℕ) → room < 2 ^ 63 → p ≡ pos start → IsInside size room p → start < 2 ^ 63
start_below p size room start fits e x = let h = x.high in omega (arith, ints, fits, h, e)

end_below : (q : ℤ) (size room : ℕ) → room < 2 ^ 63 → IsInside size room q → q <ℤ pos (2 ^ 63)
end_below q size room fits x = let h = x.high in omega (arith, ints, fits, h)

entry_fits : (e n : ℕ) (shape : List ℕ) → 0 < e → e * product (nonzero_entries (n ∷ shape)) < 2 ^ 63 → n < 2 ^ 63
entry_fits e zero shape h f = omega arith
entry_fits e (suc n) shape h f =
    let one : suc n ≤ suc n * product (nonzero_entries shape) = le-mul_of_pos_right (suc n) (positive_extent shape) in
    let two : suc n * product (nonzero_entries shape) ≤ suc n * product (nonzero_entries shape) * e = le-mul_of_pos_right (suc n * product (nonzero_entries shape)) h in
    let all : e * (suc n * product (nonzero_entries shape)) < 2 ^ 63 = f in omega (arith, one, two, all)

rest_fits : (e n : ℕ) (shape : List ℕ) → e * product (nonzero_entries (n ∷ shape)) < 2 ^ 63 → e * product (nonzero_entries shape) < 2 ^ 63
rest_fits e zero shape f = f
rest_fits e (suc n) shape f =
    let one : product (nonzero_entries shape) ≤ product (nonzero_entries shape) * suc n = le-mul_of_pos_right (product (nonzero_entries shape)) (zero-lt-suc n) in
    let two : product (nonzero_entries shape) ≤ suc n * product (nonzero_entries shape) = omega (arith, one) in
    lt_of_le_of_lt (mul-le-mul_left e two) f

pub entries_fit : (e : ℕ) (dims : List (ℕ × ℤ × ℤ)) → 0 < e → e * product (nonzero_entries (shape_of dims)) < 2 ^ 63 → AllByRecursion (λ (dim : ℕ × ℤ × ℤ). dim.0 < 2 ^ 63) dims
entries_fit e [] h f = tt
entries_fit e (dim ∷ dims) h f = (entry_fits e dim.0 (shape_of dims) h f, entries_fit e dims h (rest_fits e dim.0 (shape_of dims) f))

-- what the place of the first item needs
pub record IsEntry (start entry : ℕ) (stride : ℤ) : Type 0 where
  pub entry_fits : entry < 2 ^ 63
  pub start_fits : start < 2 ^ 63
  pub way_fits : SFits w64 (pos entry *ℤ stride)
  pub low : pos 0 ≤ℤ (pos start +ℤ pos entry *ℤ stride)
  pub high : (pos start +ℤ pos entry *ℤ stride) <ℤ pos (2 ^ 63)

pub entry_is : (d : Descriptor) (start axis entry : ℕ) → IsPlaced d start → axis < length d.dims → entry < (dim_at d.dims axis).0 → has_zero (shape_of d.dims) ≡ false → IsEntry start entry (dim_at d.dims axis).1
entry_is d start axis entry placed h below e =
    let some : AreNonzero d.dims = nonzero_all d.dims e in
    let all : AllByRecursion (IsInside d.itemsize placed.room) (places d.dims (pos start)) = recursion_from_All (IsInside d.itemsize placed.room) (places d.dims (pos start)) placed.valid.inside in
    let here : IsInside d.itemsize placed.room (pos start) = first_of (IsInside d.itemsize placed.room) d.dims (pos start) some all in
    let there : IsInside d.itemsize placed.room (pos start +ℤ pos entry *ℤ (dim_at d.dims axis).1) = entry_inside (IsInside d.itemsize placed.room) d.dims (pos start) axis entry h below some all in
    let size : (dim_at d.dims axis).0 < 2 ^ 63 = All-from_recursion (λ (dim : ℕ × ℤ × ℤ). dim.0 < 2 ^ 63) d.dims (entries_fit d.itemsize d.dims placed.valid.some_size placed.valid.extent_fits) axis (0, pos 0, pos 0) h in
    record {
      entry_fits = omega (arith, below, size);
      start_fits = start_below (pos start) d.itemsize placed.room start placed.room_fits refl here;
      way_fits = way_fits (pos start) (pos entry *ℤ (dim_at d.dims axis).1) d.itemsize placed.room placed.room_fits here there;
      low = there.low;
      high = end_below (pos start +ℤ pos entry *ℤ (dim_at d.dims axis).1) d.itemsize placed.room placed.room_fits there;
    }

-- ---- a valid descriptor

all_remove : (P : ℕ × ℤ × ℤ → Type 0) (dims : List (ℕ × ℤ × ℤ)) (axis : ℕ) → axis < length dims → AllByRecursion P dims → AllByRecursion P (remove dims axis)
all_remove P [] axis h all = absurd (omega (arith, h))
all_remove P (dim ∷ dims) zero h all = all.1
all_remove P (dim ∷ dims) (suc axis) h all = (all.0, all_remove P dims axis (omega (arith, h)) all.1)

length_remove : (dims : List (ℕ × ℤ × ℤ)) (axis : ℕ) → axis < length dims → length (remove dims axis) ≤ length dims
length_remove [] axis h = absurd (omega (arith, h))
length_remove (dim ∷ dims) zero h = omega arith
length_remove (dim ∷ dims) (suc axis) h = let less = length_remove dims axis (omega (arith, h)) in omega (arith, less)

first_less : (n : ℕ) (shape : List ℕ) → product (nonzero_entries shape) ≤ product (nonzero_entries (n ∷ shape))
first_less zero shape = le_refl (product (nonzero_entries shape))
first_less (suc n) shape =
    let one : product (nonzero_entries shape) ≤ product (nonzero_entries shape) * suc n = le-mul_of_pos_right (product (nonzero_entries shape)) (zero-lt-suc n) in omega (arith, one)

later_less : (n : ℕ) (shape other : List ℕ) → product (nonzero_entries shape) ≤ product (nonzero_entries other) → product (nonzero_entries (n ∷ shape)) ≤ product (nonzero_entries (n ∷ other))
later_less zero shape other h = h
later_less (suc n) shape other h = mul-le-mul_left (suc n) h

extent_remove : (dims : List (ℕ × ℤ × ℤ)) (axis : ℕ) → axis < length dims → product (nonzero_entries (shape_of (remove dims axis))) ≤ product (nonzero_entries (shape_of dims))
extent_remove [] axis h = absurd (omega (arith, h))
extent_remove (dim ∷ dims) zero h = first_less dim.0 (shape_of dims)
extent_remove (dim ∷ dims) (suc axis) h = later_less dim.0 (shape_of (remove dims axis)) (shape_of dims) (extent_remove dims axis (omega (arith, h)))

pub sound_plane : (d : Descriptor) (start room axis : ℕ) → IsValid d start room → axis < length d.dims → has_zero (shape_of d.dims) ≡ false → AreSound d.itemsize (remove d.dims axis)
sound_plane d start room axis valid h e =
    record {
      few = (let less = length_remove d.dims axis h in let few = valid.few_dimensions in omega (arith, less, few));
      strides = All-from_recursion (λ (dim : ℕ × ℤ × ℤ). dim.1 ≢ pos 0) (remove d.dims axis) (all_remove (λ (dim : ℕ × ℤ × ℤ). dim.1 ≢ pos 0) d.dims axis h (recursion_from_All (λ (dim : ℕ × ℤ × ℤ). dim.1 ≢ pos 0) d.dims valid.strides));
      suboffsets = All-from_recursion (λ (dim : ℕ × ℤ × ℤ). dim.2 ≡ pos 0) (remove d.dims axis) (all_remove (λ (dim : ℕ × ℤ × ℤ). dim.2 ≡ pos 0) d.dims axis h (recursion_from_All (λ (dim : ℕ × ℤ × ℤ). dim.2 ≡ pos 0) d.dims valid.suboffsets));
      later_entries = All-from_recursion (λ (dim : ℕ × ℤ × ℤ). 0 < dim.0) (drop 1 (remove d.dims axis)) (dims_after_first (λ (dim : ℕ × ℤ × ℤ). 0 < dim.0) (remove d.dims axis) (all_remove (λ (dim : ℕ × ℤ × ℤ). 0 < dim.0) d.dims axis h (entries_some d.dims e)));
      extent_fits = lt_of_le_of_lt (mul-le-mul_left d.itemsize (extent_remove d.dims axis h)) valid.extent_fits;
    }

-- ---- what a pick answers

pub valid_plane : (d : Descriptor) (start next axis entry room : ℕ) → axis < length d.dims → entry < (dim_at d.dims axis).0 → has_zero (shape_of d.dims) ≡ false → pos next ≡ pos start +ℤ pos entry *ℤ (dim_at d.dims axis).1
    → IsValid d start room → IsValid (in_dims d (remove d.dims axis)) next room
valid_plane d start next axis entry room h below e next_is valid =
    valid_remap d start (remove d.dims axis) next (λ indices. insert indices axis entry) room (remap_plane d.dims start next axis entry h below next_is) (sound_plane d start room axis valid h e) valid

plane_is : (view : Layout) (shape : List ℕ) (strides : List ℤ) (axis entry : ℕ) → shape ≡ view.shape → strides ≡ view.strides
    → view_by view (remove shape axis) (remove strides axis) (λ indices. insert indices axis entry) ≡ plane_of view axis entry
plane_is view shape strides axis entry e f =
    ap₂ (λ (ns : List ℕ) (ss : List ℤ). view_by view (remove ns axis) (remove ss axis) (λ indices. insert indices axis entry)) e f

pub stands_plane : (d : Descriptor) (start next axis entry : ℕ) (view : Layout) → axis < length d.dims → entry < (dim_at d.dims axis).0 → pos next ≡ pos start +ℤ pos entry *ℤ (dim_at d.dims axis).1
    → Stands d start view → Stands (in_dims d (remove d.dims axis)) next (plane_of view axis entry)
stands_plane d start next axis entry view h below next_is stands =
    subst (λ (w : Layout). Stands (in_dims d (remove d.dims axis)) next w) (plane_is view (shape_of d.dims) (strides_of d.dims) axis entry stands.shape stands.strides)
    (stands_remap d start (remove d.dims axis) next (λ indices. insert indices axis entry) view (remove (shape_of d.dims) axis) (remove (strides_of d.dims) axis)
    (remap_plane d.dims start next axis entry h below next_is) stands (map_remove (λ dim. dim.0) d.dims axis h) (map_remove (λ dim. dim.1) d.dims axis h))
