-- Layouts whose items fill their bytes.
use Rattle.std.proofs.Common.{◌≡◌, ℕ, zero, suc, ◌+◌, ◌*◌, ◌<◌, ◌≤◌, ◌^◌, Bool, true, false, List, [], ◌∷◌, ◌++◌, length, take, drop, ap, ap₂, sym, ◌∙◌, refl, subst, arith, drop-cons, get_or}
use Rattle.std.specs.Prelude.{All, ◌==◌, ◌&&◌, Result, Ok, Err, IfOk}
use Rattle.std.specs.List.{range_with_len}
use Rattle.std.proofs.lemmas.List.{take_all}
use Rattle.std.proofs.lemmas.List.Elements.{All-nil, All-cons}
use Rattle.std.proofs.lemmas.List.FromFn.{length-range_with_len}
use Rattle.pybuf_lemmas.proofs.Numbers.{positive_if_nonzero}
use Rattle.pybuf_lemmas.proofs.Booleans.{first_of_neither, second_of_neither}
use Rattle.pybuf_desc.specs.Facts.{whole_is_contiguous, whole_is_inside}
use Rattle.pybuf_value.specs.declared.snaps.Snap.{Snap}
use Rattle.pybuf_desc.specs.Items.{bytes_of_items, content_of_layout}
use Rattle.pybuf_desc.specs.Layouts.{Layout, LiesInside, bytes_layout, product}
use Rattle.pybuf_desc.specs.ShapedCasts.{cast_to}
use Rattle.pybuf_desc.specs.Laws.{ShapedCastsShareTheirBytes, ShapedCastsStayInside}
use Rattle.pybuf_memoryview.specs.Orders.{has_zero_entry}
use Rattle.pybuf_memoryview.specs.Snaps.{snap_of_layout}
use Rattle.pybuf_equality.specs.Equality.{items_cut, items_of_snap, shapes_agree, same_items, same_view, snap_of_bytes}
use Rattle.pybuf_equality.specs.Packed.{IsPacked}

-- ---- all bytes as one view

one_more : (xs : List ℕ) (n : ℕ) (x : ℕ) (ys : List ℕ) → xs ≡ x ∷ ys → take 1 xs ++ take n ys ≡ take (suc n) xs
one_more xs n x ys is = ap (λ (zs : List ℕ). take 1 zs ++ take n ys) is ∙ ap (take (suc n)) (sym is)

single_bytes : (bytes : List ℕ) (from n : ℕ) → from + n ≤ length bytes → bytes_of_items bytes 1 (range_with_len from n) ≡ take n (drop from bytes)
single_bytes bytes from zero inside = refl
single_bytes bytes from (suc n) inside =
    let here : from < length bytes = omega (arith, inside) in
    let next : from + 1 ≡ suc from = omega arith in
    ap (λ (xs : List ℕ). take 1 (drop from bytes) ++ xs) (single_bytes bytes (from + 1) n (let fits : (from + 1) + n ≤ length bytes = omega (arith, inside) in fits) ∙ ap (λ (k : ℕ). take n (drop k bytes)) next)
    ∙ one_more (drop from bytes) n (get_or bytes from 0) (drop (suc from) bytes) (drop-cons bytes from 0 here)

pub whole_content : (bytes : List ℕ) (readonly : Bool) → content_of_layout bytes (bytes_layout (length bytes) readonly) ≡ bytes
whole_content bytes readonly =
    single_bytes bytes 0 (length bytes) (let fits : 0 + length bytes ≤ length bytes = omega arith in fits) ∙ take_all (length bytes) bytes (let fits : length bytes ≤ length bytes = omega arith in fits)

-- ---- cast to a shape

counted_bytes : (n size p : ℕ) → n ≡ size * p → length (range_with_len 0 n) * 1 ≡ p * size
counted_bytes n size p filled = let long = length-range_with_len 0 n in let swap : p * size ≡ size * p = grind arith in omega (arith, long, filled, swap)

pub cast_is_packed : ShapedCastsShareTheirBytes → ShapedCastsStayInside → (bytes text : List ℕ) (size : ℕ) (shape : List ℕ) → 0 < size → length bytes ≡ size * product shape
    → IsPacked bytes text size shape (cast_to (bytes_layout (length bytes) true) text size shape)
cast_is_packed shares stays bytes text size shape some filled =
    let whole = bytes_layout (length bytes) true in
    let flat = whole_is_contiguous (length bytes) true in
    let counted : length (range_with_len 0 (length bytes)) * 1 ≡ product shape * size = counted_bytes (length bytes) size (product shape) filled in record {
      format = refl;
      itemsize = refl;
      shape = refl;
      inside = stays whole text size shape (length bytes) flat some counted (whole_is_inside (length bytes) true);
      content = (shares bytes whole text size shape flat some counted).content ∙ whole_content bytes true;
    }

pub packed_so : {E : Type 0} (r : Result Layout E) (bytes text : List ℕ) (size : ℕ) (shape : List ℕ) (made : Layout) → IfOk r (λ v. v ≡ made) → IsPacked bytes text size shape made → IfOk r (λ v. IsPacked bytes text size shape v)
packed_so (Ok v) bytes text size shape made is packed = subst (IsPacked bytes text size shape) (sym is) packed
packed_so (Err e) bytes text size shape made is packed = tt

pub at_most_all : (size p : ℕ) → 0 < p → size ≤ size * p
at_most_all size zero some = absurd (omega (arith, some))
at_most_all size (suc p) some = let all : size * suc p ≡ size + size * p = grind arith in omega (arith, all)

-- ---- what is known of a snap with all its items

pub entries_some : (s : List ℕ) → has_zero_entry s ≡ false → All (λ n. 0 < n) s
entries_some [] none = All-nil (λ n. 0 < n)
entries_some (n ∷ s) none = All-cons (λ k. 0 < k) n s (positive_if_nonzero n (first_of_neither (n == 0) (has_zero_entry s) none)) (entries_some s (second_of_neither (n == 0) (has_zero_entry s) none))

-- ---- equality with what has the same parts

abbrev compared_with : Snap → List ℕ → List ℕ → ℕ → List ℕ → Bool
compared_with s shape format size content = length s.shape == length shape && (shapes_agree s.shape shape && same_items (items_of_snap s) (items_cut format size (product shape) content))

pub same_parts_compared : (s t u : Snap) → t.format ≡ u.format → t.itemsize ≡ u.itemsize → t.shape ≡ u.shape → t.content ≡ u.content → same_view s t ≡ same_view s u
same_parts_compared s t u format size shape content =
    ap₂ (λ (f : List ℕ) (n : ℕ). compared_with s t.shape f n t.content) format size ∙ ap₂ (λ (d c : List ℕ). compared_with s d u.format u.itemsize c) shape content

pub answered_so : {E : Type 0} (r : Result Bool E) (a b : Bool) → IfOk r (λ answer. answer ≡ a) → a ≡ b → IfOk r (λ answer. answer ≡ b)
answered_so (Ok answer) a b is same = is ∙ same
answered_so (Err e) a b is same = tt

pub whole_inside_of : (bytes : List ℕ) (n : ℕ) (whole : Layout) → n ≡ length bytes → whole ≡ bytes_layout n true → LiesInside (length bytes) whole
whole_inside_of bytes n whole long is = subst (LiesInside (length bytes)) (sym (is ∙ ap (λ (k : ℕ). bytes_layout k true) long)) (whole_is_inside (length bytes) true)

pub whole_compared : (s : Snap) (other : List ℕ) (n : ℕ) (whole : Layout) → n ≡ length other → whole ≡ bytes_layout n true → same_view s (snap_of_layout other whole false) ≡ same_view s (snap_of_bytes other)
whole_compared s other n whole long is =
    ap (λ (w : Layout). same_view s (snap_of_layout other w false)) (is ∙ ap (λ (k : ℕ). bytes_layout k true) long)
    ∙ same_parts_compared s (snap_of_layout other (bytes_layout (length other) true) false) (snap_of_bytes other) refl refl refl (whole_content other true)

pub packed_compared : (s t : Snap) (bytes entries : List ℕ) (layout : Layout) → bytes ≡ t.content → entries ≡ t.shape → IsPacked bytes t.format t.itemsize entries layout → same_view s (snap_of_layout bytes layout false) ≡ same_view s t
packed_compared s t bytes entries layout content shape packed = same_parts_compared s (snap_of_layout bytes layout false) t packed.format packed.itemsize (packed.shape ∙ shape) (packed.content ∙ content)

pub packed_from : ShapedCastsShareTheirBytes → ShapedCastsStayInside → (bytes text format : List ℕ) (size : ℕ) (shape : List ℕ) (whole : Layout) → 0 < size → length bytes ≡ size * product shape
    → whole ≡ bytes_layout (length bytes) true → format ≡ text → IsPacked bytes text size shape (cast_to whole format size shape)
packed_from shares stays bytes text format size shape whole some filled is same =
    subst (IsPacked bytes text size shape) (sym (ap₂ (λ (w : Layout) (t : List ℕ). cast_to w t size shape) is same)) (cast_is_packed shares stays bytes text size shape some filled)

pub size_below : (size p n : ℕ) → n ≡ size * p → 0 < p → n < 2 ^ 63 → size < 2 ^ 63
size_below size p n filled some small = omega (arith, at_most_all size p some, filled, small)
