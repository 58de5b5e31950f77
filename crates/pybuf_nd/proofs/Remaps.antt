-- Descriptors whose items are those of another descriptor, at other indices.
use Rattle.std.proofs.Common.{◌≡◌, ◌≢◌, ℕ, ◌*◌, ◌^◌, ◌<◌, ◌≤◌, ℤ, pos, ◌+ℤ◌, List, length, get_or, map, drop, refl, ap, sym, ◌∙◌, subst, arith, All}
use Rattle.std.proofs.lemmas.List.{get_or-map, length-map}
use Rattle.std.proofs.lemmas.Simd.{map-map}
use Rattle.pybuf_desc.specs.Layouts.{Layout, product}
use Rattle.pybuf_desc.specs.Descriptor.{Descriptor, shape_of, strides_of}
use Rattle.pybuf_desc.specs.Places.{places, Stands}
use Rattle.pybuf_desc.specs.Positions.{offset_of}
use Rattle.pybuf_desc.specs.Valid.{IsInside, IsValid, nonzero_entries}
use Rattle.pybuf_desc.specs.ColumnOrder.{number_at, start_at}
use Rattle.pybuf_nd.specs.IndexMaps.{IsIndexList, index_lists, view_by}
use Rattle.pybuf_nd.specs.Dims.{in_dims}
use Rattle.pybuf_nd.proofs.IndexLemmas.{number_below, length_lists, item_at, map_over, all_over, at_of_all, places_by_indices}

-- At any indices of the new dimensions, the place is that of the old ones at the source of these indices.
pub record Remaps (dims : List (ℕ × ℤ × ℤ)) (start : ℕ) (made : List (ℕ × ℤ × ℤ)) (next : ℕ) (source : List ℕ → List ℕ) : Type 0 where
  pub within : (indices : List ℕ) → IsIndexList (shape_of made) indices → IsIndexList (shape_of dims) (source indices)
  pub same : (indices : List ℕ) → IsIndexList (shape_of made) indices → pos next +ℤ offset_of indices made ≡ pos start +ℤ offset_of (source indices) dims

-- The item of a view at some indices lies here.
start_is : (d : Descriptor) (start : ℕ) (view : Layout) (indices : List ℕ) → Stands d start view → IsIndexList (shape_of d.dims) indices → pos start +ℤ offset_of indices d.dims ≡ pos (start_at view indices)
start_is d start view indices stands h =
    let k : ℕ = number_at (shape_of d.dims) indices in
    let both : map (λ is. pos start +ℤ offset_of is d.dims) (index_lists (shape_of d.dims)) ≡ map pos view.starts = sym (places_by_indices d.dims (pos start)) ∙ stands.starts in
    let below : k < length view.starts =
    (let low = number_below (shape_of d.dims) indices h in
    let count : length view.starts ≡ product (shape_of d.dims) = sym (length-map view.starts pos) ∙ ap length (sym both) ∙ length_lists (λ is. pos start +ℤ offset_of is d.dims) (shape_of d.dims) in omega (arith, low, count)) in
    sym (item_at (λ is. pos start +ℤ offset_of is d.dims) (shape_of d.dims) indices (pos 0) h)
    ∙ ap (λ xs. get_or xs k (pos 0)) both
    ∙ get_or-map pos view.starts k 0 (pos 0) below
    ∙ ap (λ (shape : List ℕ). pos (get_or view.starts (number_at shape indices) 0)) stands.shape

pub places_remap : (d : Descriptor) (start : ℕ) (made : List (ℕ × ℤ × ℤ)) (next : ℕ) (source : List ℕ → List ℕ) (view : Layout) → Remaps d.dims start made next source → Stands d start view
    → places made (pos next) ≡ map pos (map (λ indices. start_at view (source indices)) (index_lists (shape_of made)))
places_remap d start made next source view r stands =
    places_by_indices made (pos next)
    ∙ map_over (λ indices. pos next +ℤ offset_of indices made) (λ indices. pos (start_at view (source indices))) (shape_of made) (λ indices h. r.same indices h ∙ start_is d start view (source indices) stands (r.within indices h))
    ∙ sym (map-map pos (λ indices. start_at view (source indices)) (index_lists (shape_of made)))

pub stands_remap : (d : Descriptor) (start : ℕ) (made : List (ℕ × ℤ × ℤ)) (next : ℕ) (source : List ℕ → List ℕ) (view : Layout) (shape : List ℕ) (strides : List ℤ)
    → Remaps d.dims start made next source → Stands d start view → shape_of made ≡ shape → strides_of made ≡ strides → Stands (in_dims d made) next (view_by view shape strides source)
stands_remap d start made next source view shape strides r stands same_shape same_strides =
    record {
      format = stands.format;
      itemsize = stands.itemsize;
      shape = same_shape;
      strides = same_strides;
      readonly = stands.readonly;
      starts = places_remap d start made next source view r stands ∙ ap (λ (ns : List ℕ). map pos (map (λ indices. start_at view (source indices)) (index_lists ns))) same_shape;
    }

pub inside_remap : (P : ℤ → Type 0) (dims : List (ℕ × ℤ × ℤ)) (start : ℕ) (made : List (ℕ × ℤ × ℤ)) (next : ℕ) (source : List ℕ → List ℕ) → Remaps dims start made next source
    → All P (places dims (pos start)) → All P (places made (pos next))
inside_remap P dims start made next source r all =
    subst (All P) (sym (places_by_indices made (pos next)))
    (all_over P (λ indices. pos next +ℤ offset_of indices made) (shape_of made)
    (λ indices h. subst P (sym (r.same indices h))
    (at_of_all P (λ is. pos start +ℤ offset_of is dims) (shape_of dims) (source indices) (subst (All P) (places_by_indices dims (pos start)) all) (r.within indices h))))

-- the dimensions that a valid descriptor can have
pub record AreSound (itemsize : ℕ) (dims : List (ℕ × ℤ × ℤ)) : Type 0 where
  pub few : length dims ≤ 64
  pub strides : All (λ dim. dim.1 ≢ pos 0) dims
  pub suboffsets : All (λ dim. dim.2 ≡ pos 0) dims
  pub later_entries : All (λ dim. 0 < dim.0) (drop 1 dims)
  pub extent_fits : itemsize * product (nonzero_entries (shape_of dims)) < 2 ^ 63

pub valid_remap : (d : Descriptor) (start : ℕ) (made : List (ℕ × ℤ × ℤ)) (next : ℕ) (source : List ℕ → List ℕ) (room : ℕ)
    → Remaps d.dims start made next source → AreSound d.itemsize made → IsValid d start room → IsValid (in_dims d made) next room
valid_remap d start made next source room r sound valid =
    record {
      some_size = valid.some_size;
      size_fits = valid.size_fits;
      few_dimensions = sound.few;
      strides = sound.strides;
      suboffsets = sound.suboffsets;
      later_entries = sound.later_entries;
      extent_fits = sound.extent_fits;
      len = refl;
      inside = inside_remap (IsInside d.itemsize room) d.dims start made next source r valid.inside;
    }
