-- The same items, if their dimensions stand with the last one first.
use Rattle.std.proofs.Common.{◌≡◌, ◌≢◌, ℕ, ◌+◌, ◌*◌, ◌^◌, ◌<◌, ◌≤◌, ℤ, pos, List, [], ◌∷◌, ◌++◌, length, reverse, drop, refl, ap, sym, ◌∙◌, subst, arith}
use Rattle.std.specs.Prelude.{All}
use Rattle.std.specs.List.{AllByRecursion}
use Rattle.std.proofs.lemmas.List.{reverse-append, length-reverse}
use Rattle.std.proofs.lemmas.List.Elements.{All-from_recursion, recursion_from_All}
use Rattle.pybuf_lemmas.proofs.Lists.{map_of_reverse, reverse_cons}
use Rattle.pybuf_lemmas.proofs.Recursion.{dims_after_first}
use Rattle.pybuf_desc.specs.Facts.{nonzero_is, some_shape}
use Rattle.pybuf_desc.specs.Layouts.{Layout, product}
use Rattle.pybuf_desc.specs.Descriptor.{Descriptor, shape_of, strides_of}
use Rattle.pybuf_desc.specs.Places.{places, Stands}
use Rattle.pybuf_desc.specs.Valid.{IsInside, IsValid, nonzero_entries}
use Rattle.pybuf_desc.specs.ColumnOrder.{columns_of}
use Rattle.pybuf_desc.proofs.ColumnViews.{columns_of_view}
use Rattle.pybuf_desc.proofs.ColumnWalks.{all_turned, columns_within, places_turned}

product_append : (xs : List ℕ) (n : ℕ) → product (xs ++ n ∷ []) ≡ n * product xs
product_append [] n = refl
product_append (x ∷ xs) n = ap (λ (k : ℕ). x * k) (product_append xs n) ∙ swapped x n (product xs)
  where
    swapped : (a b c : ℕ) → a * (b * c) ≡ b * (a * c)
    swapped a b c = omega arith

product_turned : (xs : List ℕ) → product (reverse xs) ≡ product xs
product_turned [] = refl
product_turned (x ∷ xs) = ap product (reverse_cons x xs) ∙ product_append (reverse xs) x ∙ ap (λ (k : ℕ). x * k) (product_turned xs)

shape_turned : (dims : List (ℕ × ℤ × ℤ)) → shape_of (reverse dims) ≡ reverse (shape_of dims)
shape_turned dims = map_of_reverse (λ dim. dim.0) dims

extent_turned : (dims : List (ℕ × ℤ × ℤ)) → AllByRecursion (λ (dim : ℕ × ℤ × ℤ). 0 < dim.0) dims → product (nonzero_entries (shape_of (reverse dims))) ≡ product (nonzero_entries (shape_of dims))
extent_turned dims some =
    ap product (nonzero_is (shape_of (reverse dims)) (some_shape (reverse dims) (all_turned (λ (dim : ℕ × ℤ × ℤ). 0 < dim.0) dims some)))
    ∙ ap product (shape_turned dims) ∙ product_turned (shape_of dims) ∙ sym (ap product (nonzero_is (shape_of dims) (some_shape dims some)))

all_kept : (P : ℕ × ℤ × ℤ → Type 0) (dims : List (ℕ × ℤ × ℤ)) → All P dims → All P (reverse dims)
all_kept P dims all = All-from_recursion P (reverse dims) (all_turned P dims (recursion_from_All P dims all))

pub valid_turned : (d : Descriptor) (start room : ℕ) → All (λ (dim : ℕ × ℤ × ℤ). 0 < dim.0) d.dims → IsValid d start room → IsValid (record d { dims = reverse d.dims }) start room
valid_turned d start room some valid =
    let each : AllByRecursion (λ (dim : ℕ × ℤ × ℤ). 0 < dim.0) d.dims = recursion_from_All (λ (dim : ℕ × ℤ × ℤ). 0 < dim.0) d.dims some in
    record {
      some_size = valid.some_size;
      size_fits = valid.size_fits;
      few_dimensions = subst (λ (n : ℕ). n ≤ 64) (sym (length-reverse d.dims)) valid.few_dimensions;
      strides = all_kept (λ dim. dim.1 ≢ pos 0) d.dims valid.strides;
      suboffsets = all_kept (λ dim. dim.2 ≡ pos 0) d.dims valid.suboffsets;
      later_entries = All-from_recursion (λ (dim : ℕ × ℤ × ℤ). 0 < dim.0) (drop 1 (reverse d.dims))
          (dims_after_first (λ (dim : ℕ × ℤ × ℤ). 0 < dim.0) (reverse d.dims) (all_turned (λ (dim : ℕ × ℤ × ℤ). 0 < dim.0) d.dims each));
      extent_fits = subst (λ (n : ℕ). d.itemsize * n < 2 ^ 63) (sym (extent_turned d.dims each)) valid.extent_fits;
      len = ap (λ (n : ℕ). d.itemsize * n) (ap product (shape_turned d.dims) ∙ product_turned (shape_of d.dims)) ∙ valid.len;
      inside = subst (All (IsInside d.itemsize room)) (sym (places_turned d.dims (pos start)))
          (All-from_recursion (IsInside d.itemsize room) _ (columns_within d start room valid.inside));
    }

pub stands_turned : (d : Descriptor) (start : ℕ) (view : Layout) → Stands d start view → Stands (record d { dims = reverse d.dims }) start (columns_of view)
stands_turned d start view stands =
    record {
      format = stands.format;
      itemsize = stands.itemsize;
      shape = shape_turned d.dims ∙ ap reverse stands.shape;
      strides = map_of_reverse (λ dim. dim.1) d.dims ∙ ap reverse stands.strides;
      readonly = stands.readonly;
      starts = places_turned d.dims (pos start) ∙ columns_of_view d start view stands;
    }
