-- The items that the bytes of a view are cut into.
use Rattle.std.proofs.Common.{◌≡◌, ℕ, ◌+◌, ◌≤◌, List, [], ◌∷◌, ◌++◌, length, map, take, drop, ap, ap₂, sym, ◌∙◌, refl, arith}
use Rattle.std.specs.Prelude.{All, false}
use Rattle.std.proofs.lemmas.List.{take-append-le, drop-append-le, take_all, drop_all}
use Rattle.std.proofs.lemmas.List.Elements.{All-head, All-tail}
use Rattle.pybuf_desc.specs.Facts.{whole_bytes}
use Rattle.pybuf_value.specs.declared.values.Item.{Item}
use Rattle.pybuf_desc.specs.Layouts.{Layout, LiesInside, HasItemsOfItsShape}
use Rattle.pybuf_desc.specs.Items.{bytes_at, bytes_of_items, content_of_layout}
use Rattle.pybuf_memoryview.specs.Items.{item_by}
use Rattle.pybuf_memoryview.specs.Lists.{items_of_layout}
use Rattle.pybuf_memoryview.specs.Snaps.{snap_of_layout}
use Rattle.pybuf_equality.specs.Equality.{items_cut, items_of_snap}

front : (n : ℕ) (a b : List ℕ) → length a ≡ n → take n (a ++ b) ≡ a
front n a b long = let fits : n ≤ length a = omega (arith, long) in take-append-le n a b fits ∙ take_all n a (omega (arith, long))

back : (n : ℕ) (a b : List ℕ) → length a ≡ n → drop n (a ++ b) ≡ b
back n a b long = let fits : n ≤ length a = omega (arith, long) in drop-append-le n a b fits ∙ ap (λ (xs : List ℕ). xs ++ b) (drop_all n a (omega (arith, long)))

pub cut_items : (format bytes : List ℕ) (size : ℕ) (starts : List ℕ) → All (λ start. start + size ≤ length bytes) starts
    → items_cut format size (length starts) (bytes_of_items bytes size starts) ≡ map (λ start. item_by format (bytes_at bytes size start)) starts
cut_items format bytes size [] inside = refl
cut_items format bytes size (start ∷ starts) inside =
    let long : length (bytes_at bytes size start) ≡ size = whole_bytes bytes size start (All-head (λ s. s + size ≤ length bytes) start starts inside) in
    ap₂ (λ (xs ys : List ℕ). item_by format xs ∷ items_cut format size (length starts) ys)
    (front size (bytes_at bytes size start) (bytes_of_items bytes size starts) long) (back size (bytes_at bytes size start) (bytes_of_items bytes size starts) long)
    ∙ ap (λ (items : List Item). item_by format (bytes_at bytes size start) ∷ items)
    (cut_items format bytes size starts (All-tail (λ s. s + size ≤ length bytes) start starts inside))

pub layout_items : (bytes : List ℕ) (layout : Layout) → LiesInside (length bytes) layout → HasItemsOfItsShape layout → items_of_snap (snap_of_layout bytes layout false) ≡ items_of_layout bytes layout
layout_items bytes layout inside counted =
    ap (λ (n : ℕ). items_cut layout.format layout.itemsize n (content_of_layout bytes layout)) (sym counted) ∙ cut_items layout.format bytes layout.itemsize layout.starts inside
