-- Bytes that are gathered range by range.
use Rattle.std.proofs.Common.{◌≡◌, ℕ, ◌+◌, ◌-◌, ◌<◌, ℤ, pos, nat_abs, List, [], ◌∷◌, ◌++◌, length, map, ap, ap₂, sym, ◌∙◌, refl, subst, append_assoc}
use Rattle.std.specs.Prelude.{All}
use Rattle.std.specs.List.{flat_map, range_with_len}
use Rattle.std.specs.declared.ops.Range.{Range}
use Rattle.std.proofs.lemmas.Grind.{flat_map-append}
use Rattle.pybuf_lemmas.proofs.Lists.{sizes_of_naturals, items_inside, all_right}
use Rattle.pybuf_slice.specs.Facts.{run_of_bytes, elements_both}
use Rattle.pybuf_desc.specs.Facts.{length-content}
use Rattle.pybuf_slice.specs.Reads.{elements_at}
use Rattle.pybuf_desc.specs.Segments.{bytes_of, bytes_in, item_bytes}
use Rattle.pybuf_desc.specs.Descriptor.{Descriptor}
use Rattle.pybuf_desc.specs.Layouts.{Layout, LiesInside}
use Rattle.pybuf_desc.specs.Items.{bytes_of_items, content_of_layout}
use Rattle.pybuf_desc.specs.Places.{places, Stands}
use Rattle.pybuf_memoryview.specs.Laws.{ContentsAreWhole, ItemBytesLieInside, ItemBytesAreTheContent}

-- the bytes at the places of items
bytes_of_places : (bytes : List ℕ) (size : ℕ) (ps : List ℤ) → elements_at bytes (flat_map (λ place. range_with_len (nat_abs place) size) ps) ≡ bytes_of_items bytes size (map nat_abs ps)
bytes_of_places bytes size [] = refl
bytes_of_places bytes size (p ∷ ps) =
    elements_both bytes (range_with_len (nat_abs p) size) (flat_map (λ place. range_with_len (nat_abs place) size) ps)
    ∙ ap₂ (λ (xs ys : List ℕ). xs ++ ys) (run_of_bytes bytes (nat_abs p) size) (bytes_of_places bytes size ps)

-- the bytes at the places of the items' bytes are those of the view
pub item_bytes_read : ItemBytesAreTheContent
item_bytes_read bytes d start layout stands =
    bytes_of_places bytes d.itemsize (places d.dims (pos start))
    ∙ ap₂ (λ (size : ℕ) (starts : List ℕ). bytes_of_items bytes size starts) stands.itemsize (ap (map nat_abs) stands.starts ∙ sizes_of_naturals layout.starts)

-- the ranges of a walk over a view's items hold its content
pub content_gathered : (bytes : List ℕ) (d : Descriptor) (start : ℕ) (layout : Layout) (ranges : List (Range ℕ)) → Stands d start layout → flat_map bytes_of ranges ≡ item_bytes d (pos start)
    → elements_at bytes (flat_map bytes_of ranges) ≡ content_of_layout bytes layout
content_gathered bytes d start layout ranges stands same = ap (elements_at bytes) same ∙ item_bytes_read bytes d start layout stands

-- if the items of a view lie inside, so does each of their bytes
pub item_bytes_inside : ItemBytesLieInside
item_bytes_inside d start layout room stands held =
    subst (All (λ place. place < room)) (sym (ap₂ (λ (size : ℕ) (ps : List ℤ). flat_map (λ place. range_with_len (nat_abs place) size) ps) stands.itemsize stands.starts))
    (items_inside room layout.itemsize layout.starts held)

-- each byte of the ranges of a walk over these items lies inside too
pub places_inside : (bytes : List ℕ) (d : Descriptor) (start : ℕ) (layout : Layout) (ranges : List (Range ℕ)) → Stands d start layout → flat_map bytes_of ranges ≡ item_bytes d (pos start)
    → LiesInside (length bytes) layout → All (λ place. place < length bytes) (flat_map bytes_of ranges)
places_inside bytes d start layout ranges stands same held = subst (All (λ place. place < length bytes)) (sym same) (item_bytes_inside d start layout (length bytes) stands held)

-- the bytes at ranges, range by range
pub elements_by_range : (bytes : List ℕ) (ranges : List (Range ℕ)) → elements_at bytes (flat_map bytes_of ranges) ≡ flat_map (bytes_in bytes) ranges
elements_by_range bytes [] = refl
elements_by_range bytes (range ∷ ranges) =
    elements_both bytes (bytes_of range) (flat_map bytes_of ranges)
    ∙ ap₂ (λ (xs ys : List ℕ). xs ++ ys) (run_of_bytes bytes range.start (range.end - range.start)) (elements_by_range bytes ranges)

-- ---- the first ranges of many, and the others

abbrev pub Inside : List ℕ → List (Range ℕ) → Type 0
Inside bytes ranges = All (λ (place : ℕ). place < length bytes) (flat_map bytes_of ranges)

split_inside : (bytes : List ℕ) (first ranges others : List (Range ℕ)) → ranges ≡ first ++ others → Inside bytes ranges
    → All (λ (place : ℕ). place < length bytes) (flat_map bytes_of first ++ flat_map bytes_of others)
split_inside bytes first ranges others same all =
    subst (All (λ (place : ℕ). place < length bytes)) (ap (flat_map bytes_of) same ∙ flat_map-append bytes_of first others) all

pub others_inside : (bytes : List ℕ) (first ranges others : List (Range ℕ)) → ranges ≡ first ++ others → Inside bytes ranges → Inside bytes others
others_inside bytes first ranges others same all = all_right (λ (place : ℕ). place < length bytes) (flat_map bytes_of first) (flat_map bytes_of others) (split_inside bytes first ranges others same all)

pub gather_step : (bytes gathered more total : List ℕ) (first ranges others : List (Range ℕ)) → ranges ≡ first ++ others
    → more ≡ gathered ++ elements_at bytes (flat_map bytes_of first) → gathered ++ elements_at bytes (flat_map bytes_of ranges) ≡ total
    → more ++ elements_at bytes (flat_map bytes_of others) ≡ total
gather_step bytes gathered more total first ranges others same grown so_far =
    ap (λ (xs : List ℕ). xs ++ elements_at bytes (flat_map bytes_of others)) grown
    ∙ append_assoc gathered (elements_at bytes (flat_map bytes_of first)) (elements_at bytes (flat_map bytes_of others))
    ∙ ap (λ (xs : List ℕ). gathered ++ xs) (sym (elements_both bytes (flat_map bytes_of first) (flat_map bytes_of others)) ∙ ap (elements_at bytes) (sym (ap (flat_map bytes_of) same ∙ flat_map-append bytes_of first others)))
    ∙ so_far

pub content_is_whole : ContentsAreWhole
content_is_whole bytes layout inside = length-content bytes layout.itemsize layout.starts inside
