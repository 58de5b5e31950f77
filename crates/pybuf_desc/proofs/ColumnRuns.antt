-- Items one after the other in column order, and strides that make them so.
use Rattle.std.proofs.Common.{◌≡◌, ℕ, zero, suc, ◌+◌, ◌*◌, ◌<◌, ℤ, pos, ◌+ℤ◌, ◌*ℤ◌, List, [], ◌∷◌, ◌++◌, length, length-append, map, flat_map, refl, ap, ap₂, sym, ◌∙◌, subst, arith, zero-mul, mul_comm, ◌↔◌}
use Rattle.std.specs.List.{range_with_len}
use Rattle.std.proofs.lemmas.Int.{ints}
use Rattle.pybuf_lemmas.proofs.Integers.{next_place, zeroth_place}
use Rattle.pybuf_desc.specs.Layouts.{product}
use Rattle.pybuf_desc.specs.Descriptor.{shape_of}
use Rattle.pybuf_desc.specs.RowMajor.{IsContiguous}
use Rattle.pybuf_desc.specs.ColumnMajor.{column_places, AreColumnMajorStrides}
use Rattle.pybuf_desc.specs.Segments.{line}
use Rattle.pybuf_desc.proofs.Products.{AreNonzero, product-pos}
use Rattle.pybuf_desc.proofs.Runs.{run, run-add, length-run, map-run-0, append_parts}
use Rattle.pybuf_desc.proofs.Strides.{no_place}
use Rattle.pybuf_desc.proofs.Lines.{each_the_same}

-- ---- the places of a first dimension as lines

map-line : (n i : ℕ) (q t : ℤ) → map (λ index. q +ℤ pos index *ℤ t) (range_with_len i n) ≡ line (q +ℤ pos i *ℤ t) t n
map-line zero i q t = refl
map-line (suc n) i q t =
    ap (λ (rest : List ℤ). (q +ℤ pos i *ℤ t) ∷ rest) (map-line n (i + 1) q t ∙ ap (λ p. line p t n) (next_place q i t))

map-line-0 : (n : ℕ) (q t : ℤ) → map (λ index. q +ℤ pos index *ℤ t) (range_with_len 0 n) ≡ line q t n
map-line-0 n q t = map-line n 0 q t ∙ ap (λ p. line p t n) (zeroth_place q t)

pub column_places-cons : (dim : ℕ × ℤ × ℤ) (dims : List (ℕ × ℤ × ℤ)) (p : ℤ) → column_places (dim ∷ dims) p ≡ flat_map (λ q. line q dim.1 dim.0) (column_places dims p)
column_places-cons dim dims p =
    each_the_same (λ q. map (λ index. q +ℤ pos index *ℤ dim.1) (range_with_len 0 dim.0)) (λ q. line q dim.1 dim.0) (λ q. map-line-0 dim.0 q dim.1) (column_places dims p)

length-line : (n : ℕ) (q t : ℤ) → length (line q t n) ≡ n
length-line zero q t = refl
length-line (suc n) q t = ap suc (length-line n (q +ℤ t) t)

length-lines : (n : ℕ) (t : ℤ) (ps : List ℤ) → length (flat_map (λ q. line q t n) ps) ≡ length ps * n
length-lines n t [] = sym (zero-mul n)
length-lines n t (p ∷ ps) =
    length-append (line p t n) (flat_map (λ q. line q t n) ps) ∙ (let one = length-line n p t in let rest = length-lines n t ps in omega (arith, one, rest))

-- there is a place for each item
pub length-column_places : (dims : List (ℕ × ℤ × ℤ)) (p : ℤ) → length (column_places dims p) ≡ product (shape_of dims)
length-column_places [] p = refl
length-column_places (dim ∷ dims) p =
    ap length (column_places-cons dim dims p) ∙ length-lines dim.0 dim.1 (column_places dims p)
    ∙ ap (λ (n : ℕ). n * dim.0) (length-column_places dims p) ∙ mul_comm (product (shape_of dims)) dim.0

-- ---- from the strides to the places

line-run : (size n : ℕ) (q : ℤ) → line q (pos size) n ≡ run size q n
line-run size zero q = refl
line-run size (suc n) q = ap (λ (rest : List ℤ). q ∷ rest) (line-run size n (q +ℤ pos size))

-- runs that follow one another make one run
runs_of_run : (size n m : ℕ) (p : ℤ) → flat_map (λ q. line q (pos size) n) (run (size * n) p m) ≡ run size p (m * n)
runs_of_run size n zero p = ap (λ k. run size p k) (sym (zero-mul n))
runs_of_run size n (suc m) p =
    ap₂ (λ (xs ys : List ℤ). xs ++ ys) (line-run size n p)
    (runs_of_run size n m (p +ℤ pos (size * n)) ∙ ap (λ q. run size q (m * n)) (let e : p +ℤ pos (size * n) ≡ p +ℤ pos (n * size) = ap (λ (k : ℕ). p +ℤ pos k) (mul_comm size n) in e))
    ∙ sym (run-add size n (m * n) p) ∙ ap (λ k. run size p k) (let e : n + m * n ≡ suc m * n = omega arith in e)

-- the stride of a dimension with one entry doesn't matter
line_fits : (n : ℕ) (q t s : ℤ) → (1 < n → t ≡ s) → line q t n ≡ line q s n
line_fits zero q t s fit = refl
line_fits (suc zero) q t s fit = refl
line_fits (suc (suc n)) q t s fit = ap (λ (z : ℤ). line q z (suc (suc n))) (fit (omega arith))

pub column_from_strides : (size : ℕ) (dims : List (ℕ × ℤ × ℤ)) → AreColumnMajorStrides size dims → (p : ℤ) → column_places dims p ≡ run size p (product (shape_of dims))
column_from_strides size [] fit p = refl
column_from_strides size (dim ∷ dims) fit p =
    column_places-cons dim dims p
    ∙ each_the_same (λ q. line q dim.1 dim.0) (λ q. line q (pos size) dim.0) (λ q. line_fits dim.0 q dim.1 (pos size) fit.0) (column_places dims p)
    ∙ ap (flat_map (λ q. line q (pos size) dim.0)) (column_from_strides (size * dim.0) dims fit.1 p)
    ∙ runs_of_run size dim.0 (product (shape_of dims)) p
    ∙ ap (λ k. run size p k) (mul_comm (product (shape_of dims)) dim.0)

-- ---- and back

line_head : (n : ℕ) (p q t s : ℤ) → 0 < n → line p t n ≡ line q s n → p ≡ q
line_head zero p q t s h e = absurd (omega (arith, h))
line_head (suc n) p q t s h e = let same : p ≡ q = cc in same

line_step : (n : ℕ) (p q t s : ℤ) → 1 < n → line p t n ≡ line q s n → t ≡ s
line_step zero p q t s h e = absurd (omega (arith, h))
line_step (suc zero) p q t s h e = absurd (omega (arith, h))
line_step (suc (suc n)) p q t s h e =
    let first : p ≡ q = cc in
    let next : p +ℤ t ≡ q +ℤ s = cc in
    omega (arith, ints, first, next)

first_lines : (n : ℕ) (p q t s : ℤ) (ps qs : List ℤ) → flat_map (λ r. line r t n) (p ∷ ps) ≡ flat_map (λ r. line r s n) (q ∷ qs)
    → (line p t n ≡ line q s n) × (flat_map (λ r. line r t n) ps ≡ flat_map (λ r. line r s n) qs)
first_lines n p q t s ps qs e =
    append_parts (line p t n) (line q s n) (flat_map (λ r. line r t n) ps) (flat_map (λ r. line r s n) qs) (length-line n p t ∙ sym (length-line n q s)) e

same_starts : (n : ℕ) (t s : ℤ) → 0 < n → (ps qs : List ℤ) → length ps ≡ length qs → flat_map (λ r. line r t n) ps ≡ flat_map (λ r. line r s n) qs → ps ≡ qs
same_starts n t s some [] [] h e = refl
same_starts n t s some [] (q ∷ qs) h e = absurd (omega (arith, h))
same_starts n t s some (p ∷ ps) [] h e = absurd (omega (arith, h))
same_starts n t s some (p ∷ ps) (q ∷ qs) h e =
    let parts = first_lines n p q t s ps qs e in
    ap₂ (λ (y : ℤ) (ys : List ℤ). y ∷ ys) (line_head n p q t s some parts.0) (same_starts n t s some ps qs (omega (arith, h)) parts.1)

same_step : (n : ℕ) (t s : ℤ) → 1 < n → (ps qs : List ℤ) → 0 < length ps → length ps ≡ length qs → flat_map (λ r. line r t n) ps ≡ flat_map (λ r. line r s n) qs → t ≡ s
same_step n t s more [] qs some h e = absurd (omega (arith, some))
same_step n t s more (p ∷ ps) [] some h e = absurd (omega (arith, h))
same_step n t s more (p ∷ ps) (q ∷ qs) some h e = line_step n p q t s more (first_lines n p q t s ps qs e).0

pub strides_from_column : (size : ℕ) (dims : List (ℕ × ℤ × ℤ)) → AreNonzero dims → (p : ℤ) → column_places dims p ≡ run size p (product (shape_of dims)) → AreColumnMajorStrides size dims
strides_from_column size [] some p e = tt
strides_from_column size (dim ∷ dims) some p e =
    let count : ℕ = product (shape_of dims) in
    let ps : List ℤ = column_places dims p in
    let qs : List ℤ = run (size * dim.0) p count in
    let lines : flat_map (λ r. line r dim.1 dim.0) ps ≡ flat_map (λ r. line r (pos size) dim.0) qs =
    sym (column_places-cons dim dims p) ∙ e ∙ ap (λ k. run size p k) (mul_comm dim.0 count) ∙ sym (runs_of_run size dim.0 count p) in
    let long : length ps ≡ length qs = length-column_places dims p ∙ sym (length-run (size * dim.0) count p) in
    let some_place : 0 < length ps = subst (λ (n : ℕ). 0 < n) (sym (length-column_places dims p)) (product-pos dims some.1) in (
      (λ more. same_step dim.0 dim.1 (pos size) more ps qs some_place long lines),
      strides_from_column (size * dim.0) dims some.1 p (same_starts dim.0 dim.1 (pos size) some.0 ps qs long lines),
    )

-- ---- what contracts say of it

pub column_without_a_gap : (size : ℕ) (dims : List (ℕ × ℤ × ℤ)) (p : ℤ) → column_places dims p ≡ run size p (product (shape_of dims)) → IsContiguous size p (column_places dims p)
column_without_a_gap size dims p e =
    e ∙ ap (λ k. run size p k) (sym (length-column_places dims p)) ∙ sym (map-run-0 size (length (column_places dims p)) p)

run_from_column : (size : ℕ) (dims : List (ℕ × ℤ × ℤ)) (p : ℤ) → IsContiguous size p (column_places dims p) → column_places dims p ≡ run size p (product (shape_of dims))
run_from_column size dims p e =
    e ∙ map-run-0 size (length (column_places dims p)) p ∙ ap (λ k. run size p k) (length-column_places dims p)

pub column_without_items : (size : ℕ) (dims : List (ℕ × ℤ × ℤ)) (start : ℤ) → product (shape_of dims) ≡ 0 → IsContiguous size start (column_places dims start)
column_without_items size dims start e = no_place size start (column_places dims start) (length-column_places dims start ∙ e)

-- if there are items, their places lie without a gap exactly if the strides are column-major
pub column_by_strides : (size : ℕ) (dims : List (ℕ × ℤ × ℤ)) (start : ℤ) → AreNonzero dims → AreColumnMajorStrides size dims ↔ IsContiguous size start (column_places dims start)
column_by_strides size dims start some = (
  λ fit. column_without_a_gap size dims start (column_from_strides size dims fit start),
  λ h. strides_from_column size dims some start (run_from_column size dims start h),
)
