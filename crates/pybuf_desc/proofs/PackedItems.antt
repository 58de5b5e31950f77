-- The items of a view in a copy of their bytes.
use Rattle.std.proofs.Common.{◌≡◌, ℕ, zero, suc, ◌+◌, ◌*◌, ◌≤◌, List, [], ◌∷◌, ◌++◌, length, map, take, drop, refl, ap, ap₂, sym, ◌∙◌, arith, zero-mul}
use Rattle.std.proofs.lemmas.Grind.{common_steps}
use Rattle.std.proofs.lemmas.List.FromFn.{length-map-range_with_len}
use Rattle.std.proofs.lemmas.List.Elements.{All-from_recursion, recursion_from_All}
use Rattle.std.proofs.lemmas.Slice.Eq.{bytes_eq-Decides}
use Rattle.std.specs.List.{range_with_len, AllByRecursion}
use Rattle.pybuf_desc.specs.Facts.{whole_bytes}
use Rattle.pybuf_desc.specs.Layouts.{product}
use Rattle.pybuf_desc.specs.Items.{bytes_at, bytes_of_items, content_of_layout}
use Rattle.pybuf_desc.specs.Contiguous.{starts_from}
use Rattle.pybuf_desc.specs.Strides.{AreRowMajor, row_major_strides}
use Rattle.pybuf_desc.specs.Packed.{row_major_of}
use Rattle.pybuf_desc.specs.Laws.{CopiesHaveTheirBytes}
use Rattle.pybuf_desc.proofs.ItemRuns.{bytes_from}

-- ---- the bytes

length_of_bytes : (bytes : List ℕ) (size : ℕ) (starts : List ℕ) → AllByRecursion (λ start. start + size ≤ length bytes) starts → length (bytes_of_items bytes size starts) ≡ length starts * size
length_of_bytes bytes size [] all = sym (zero-mul size)
length_of_bytes bytes size (start ∷ starts) all =
    let here = whole_bytes bytes size start all.0 in
    let later = length_of_bytes bytes size starts all.1 in
    let both : length (bytes_at bytes size start ++ bytes_of_items bytes size starts) ≡ length (bytes_at bytes size start) + length (bytes_of_items bytes size starts) = grind (arith, common_steps) in
    both ∙ ap₂ (λ (a b : ℕ). a + b) here later ∙ (let e : size + length starts * size ≡ suc (length starts) * size = omega arith in e)

-- ---- the places

from_zero : (size n i : ℕ) → map (λ k. k * size) (range_with_len i n) ≡ map (λ k. 0 * size + k * size) (range_with_len i n)
from_zero size zero i = refl
from_zero size (suc n) i = ap₂ (λ (x : ℕ) (xs : List ℕ). x ∷ xs) (let e : i * size ≡ 0 * size + i * size = omega arith in e) (from_zero size n (i + 1))

from_first : (size n i : ℕ) → map (λ k. k * size) (range_with_len i n) ≡ map (λ k. 0 + k * size) (range_with_len i n)
from_first size zero i = refl
from_first size (suc n) i = ap₂ (λ (x : ℕ) (xs : List ℕ). x ∷ xs) (let e : i * size ≡ 0 + i * size = omega arith in e) (from_first size n (i + 1))

no_gap : (size n : ℕ) → map (λ k. k * size) (range_with_len 0 n) ≡ starts_from (map (λ k. k * size) (range_with_len 0 n)) size (length (map (λ k. k * size) (range_with_len 0 n)))
no_gap size zero = refl
no_gap size (suc n) =
    from_zero size (suc n) 0 ∙ ap (λ (m : ℕ). map (λ k. 0 * size + k * size) (range_with_len 0 m)) (sym (length-map-range_with_len (λ k. k * size) 0 (suc n)))

run_within : (size room n i : ℕ) → i * size + n * size ≤ room → AllByRecursion (λ start. start + size ≤ room) (map (λ k. k * size) (range_with_len i n))
run_within size room zero i within = tt
run_within size room (suc n) i within =
    let e : suc n * size ≡ size + n * size = omega arith in
    let next : (i + 1) * size ≡ i * size + size = omega arith in
    (omega (arith, within, e), run_within size room n (i + 1) (omega (arith, within, e, next)))

row_major : (size : ℕ) (shape : List ℕ) → AreRowMajor size shape (row_major_strides size shape)
row_major size [] = tt
row_major size (n ∷ shape) = ((λ _. refl), row_major size shape)

whole_take : (n : ℕ) (xs : List ℕ) → length xs ≡ n → take n (drop 0 xs) ≡ xs
whole_take n xs is = grind (arith, common_steps, is)

-- ---- the law

pub copied_items : CopiesHaveTheirBytes
copied_items bytes view shaped inside =
    let size = view.itemsize in
    let count = product view.shape in
    let content = content_of_layout bytes view in
    let long : length content ≡ count * size = length_of_bytes bytes size view.starts (recursion_from_All (λ start. start + size ≤ length bytes) view.starts inside) ∙ ap (λ (n : ℕ). n * size) shaped in
    record {
      counted = length-map-range_with_len (λ k. k * size) 0 count;
      inside = All-from_recursion (λ start. start + size ≤ length content) (map (λ k. k * size) (range_with_len 0 count)) (run_within size (length content) count 0 (omega (arith, long)));
      content = ap (bytes_of_items content size) (from_first size count 0) ∙ bytes_from content size 0 count ∙ whole_take (count * size) content long;
      contiguous = (bytes_eq-Decides (row_major_of view).starts (starts_from (row_major_of view).starts size (length (row_major_of view).starts))).1 (no_gap size count);
      strides = row_major size view.shape;
    }
