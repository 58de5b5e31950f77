-- Items one after the other, and strides that make them so.
use Rattle.std.proofs.Common.{◌≡◌, ℕ, zero, suc, ◌+◌, ◌*◌, ◌<◌, ◌≤◌, ℤ, pos, ◌+ℤ◌, List, [], ◌∷◌, ◌++◌, length, get_or, map, refl, ap, ap₂, sym, ◌∙◌, arith, zero-mul, mul-pos, append-nil}
use Rattle.std.proofs.lemmas.Int.{ints}
use Rattle.std.specs.List.{range_with_len}
use Rattle.pybuf_desc.specs.Facts.{length-places}
use Rattle.pybuf_desc.specs.Layouts.{product}
use Rattle.pybuf_desc.specs.Descriptor.{shape_of}
use Rattle.pybuf_desc.specs.Places.{places}
use Rattle.pybuf_desc.specs.RowMajor.{IsContiguous, AreRowMajorStrides}
use Rattle.pybuf_desc.proofs.Steps.{blocks_apart, places-cons}
use Rattle.pybuf_desc.proofs.Products.{AreNonzero, product-pos}

-- `n` places from `p` on, `size` apart
abbrev pub run : ℕ → ℤ → ℕ → List ℤ
run size p zero = []
run size p (suc n) = p ∷ run size (p +ℤ pos size) n

pub map-run : (size n i : ℕ) (p : ℤ) → map (λ k. p +ℤ pos (k * size)) (range_with_len i n) ≡ run size (p +ℤ pos (i * size)) n
map-run size zero i p = refl
map-run size (suc n) i p =
    ap (λ rest. (p +ℤ pos (i * size)) ∷ rest) (map-run size n (i + 1) p ∙ ap (λ q. run size q n) (let e : p +ℤ pos ((i + 1) * size) ≡ p +ℤ pos (i * size) +ℤ pos size = omega (arith, ints) in e))

pub map-run-0 : (size n : ℕ) (p : ℤ) → map (λ k. p +ℤ pos (k * size)) (range_with_len 0 n) ≡ run size p n
map-run-0 size n p = map-run size n 0 p ∙ ap (λ q. run size q n) (let e : p +ℤ pos (0 * size) ≡ p = omega (arith, ints) in e)

pub length-run : (size n : ℕ) (p : ℤ) → length (run size p n) ≡ n
length-run size zero p = refl
length-run size (suc n) p = ap suc (length-run size n (p +ℤ pos size))

pub run-add : (size m n : ℕ) (p : ℤ) → run size p (m + n) ≡ run size p m ++ run size (p +ℤ pos (m * size)) n
run-add size zero n p = ap₂ (λ q k. run size q k) (let e : p ≡ p +ℤ pos (zero * size) = omega (arith, ints) in e) (let e : zero + n ≡ n = omega arith in e)
run-add size (suc m) n p =
    ap (λ k. run size p k) (let e : suc m + n ≡ suc (m + n) = omega arith in e)
    ∙ ap (λ rest. p ∷ rest) (run-add size m n (p +ℤ pos size) ∙ ap (λ q. run size (p +ℤ pos size) m ++ run size q n) (let e : p +ℤ pos size +ℤ pos (m * size) ≡ p +ℤ pos (suc m * size) = omega (arith, ints) in e))

-- blocks that are runs make one run, if they are as far apart as they are long
blocks_of_runs : (size len : ℕ) (block : ℤ → List ℤ) → ((q : ℤ) → block q ≡ run size q len) → (n : ℕ) (p : ℤ) → blocks_apart block n p (pos (size * len)) ≡ run size p (n * len)
blocks_of_runs size len block each zero p = ap (λ k. run size p k) (sym (zero-mul len))
blocks_of_runs size len block each (suc n) p =
    ap₂ (λ xs ys. xs ++ ys) (each p) (blocks_of_runs size len block each n (p +ℤ pos (size * len)) ∙ ap (λ q. run size q (n * len)) (let e : p +ℤ pos (size * len) ≡ p +ℤ pos (len * size) = omega (arith, ints) in e))
    ∙ sym (run-add size len (n * len) p) ∙ ap (λ k. run size p k) (let e : len + n * len ≡ suc n * len = omega arith in e)

-- if there is at most one block, its stride doesn't matter
blocks_few : (size len : ℕ) (block : ℤ → List ℤ) → ((q : ℤ) → block q ≡ run size q len) → (n : ℕ) (p t : ℤ) → n ≤ 1 → blocks_apart block n p t ≡ run size p (n * len)
blocks_few size len block each zero p t few = ap (λ k. run size p k) (sym (zero-mul len))
blocks_few size len block each (suc zero) p t few = append-nil (block p) ∙ each p ∙ ap (λ k. run size p k) (let e : len ≡ 1 * len = omega arith in e)
blocks_few size len block each (suc (suc n)) p t few = absurd (omega arith)

blocks_fit : (size len : ℕ) (block : ℤ → List ℤ) → ((q : ℤ) → block q ≡ run size q len) → (n : ℕ) (p t : ℤ) → (1 < n → t ≡ pos (size * len)) → blocks_apart block n p t ≡ run size p (n * len)
blocks_fit size len block each zero p t fit = blocks_few size len block each zero p t (omega arith)
blocks_fit size len block each (suc zero) p t fit = blocks_few size len block each (suc zero) p t (omega arith)
blocks_fit size len block each (suc (suc n)) p t fit =
    rw (fit (omega arith)) (blocks_of_runs size len block each (suc (suc n)) p)

pub places_from_strides : (size : ℕ) (dims : List (ℕ × ℤ × ℤ)) → AreRowMajorStrides size dims → (p : ℤ) → places dims p ≡ run size p (product (shape_of dims))
places_from_strides size [] fit p = refl
places_from_strides size (dim ∷ dims) fit p =
    places-cons dim dims p ∙ blocks_fit size (product (shape_of dims)) (places dims) (places_from_strides size dims fit.1) dim.0 p dim.1 fit.0

-- ---- and back: from the places to the strides

pub append_parts : (xs us ys vs : List ℤ) → length xs ≡ length us → xs ++ ys ≡ us ++ vs → (xs ≡ us) × (ys ≡ vs)
append_parts [] [] ys vs h e = (refl, e)
append_parts [] (u ∷ us) ys vs h e = absurd (let wrong : 0 ≡ suc (length us) = h in omega arith)
append_parts (x ∷ xs) [] ys vs h e = absurd (let wrong : suc (length xs) ≡ 0 = h in omega arith)
append_parts (x ∷ xs) (u ∷ us) ys vs h e =
    let tails : xs ++ ys ≡ us ++ vs = cc in
    let heads : x ≡ u = cc in
    let lengths : suc (length xs) ≡ suc (length us) = h in
    let rest : (xs ≡ us) × (ys ≡ vs) = append_parts xs us ys vs (omega arith) tails in
    (ap₂ (λ (y : ℤ) (zs : List ℤ). y ∷ zs) heads rest.0, rest.1)

first-append : (xs ys : List ℤ) (d : ℤ) → 0 < length xs → get_or (xs ++ ys) 0 d ≡ get_or xs 0 d
first-append [] ys d h = absurd (let wrong : 0 < 0 = h in omega arith)
first-append (x ∷ xs) ys d h = refl

first-blocks_apart : (block : ℤ → List ℤ) (n : ℕ) (p t d : ℤ) → 0 < n → 0 < length (block p) → get_or (blocks_apart block n p t) 0 d ≡ get_or (block p) 0 d
first-blocks_apart block zero p t d some h = absurd (omega arith)
first-blocks_apart block (suc n) p t d some h = first-append (block p) (blocks_apart block n (p +ℤ t) t) d h

some_places : (dims : List (ℕ × ℤ × ℤ)) (p : ℤ) → AreNonzero dims → 0 < length (places dims p)
some_places dims p some = rw (length-places dims p) (product-pos dims some)

-- if each dimension has an entry, the first place is the start
pub first-places : (dims : List (ℕ × ℤ × ℤ)) (p d : ℤ) → AreNonzero dims → get_or (places dims p) 0 d ≡ p
first-places [] p d some = refl
first-places (dim ∷ dims) p d some =
    ap (λ (xs : List ℤ). get_or xs 0 d) (places-cons dim dims p)
    ∙ first-blocks_apart (places dims) dim.0 p dim.1 d some.0 (some_places dims p some.1) ∙ first-places dims p d some.1

first-run : (size n : ℕ) (p d : ℤ) → 0 < n → get_or (run size p n) 0 d ≡ p
first-run size zero p d h = absurd (omega arith)
first-run size (suc n) p d h = refl

gap_from : (p t : ℤ) (size len : ℕ) → p +ℤ t ≡ p +ℤ pos (len * size) → t ≡ pos (size * len)
gap_from p t size len e = omega (arith, ints)

-- if two blocks make one run, they are as far apart as they are long
blocks_gap : (size : ℕ) (dims : List (ℕ × ℤ × ℤ)) → AreNonzero dims → (m : ℕ) (p t : ℤ) → 0 < m
    → blocks_apart (places dims) m (p +ℤ t) t ≡ run size (p +ℤ pos (product (shape_of dims) * size)) (m * product (shape_of dims)) → t ≡ pos (size * product (shape_of dims))
blocks_gap size dims some m p t h e =
    let q : ℤ = p +ℤ t in
    let r : ℤ = p +ℤ pos (product (shape_of dims) * size) in
    let firsts : q ≡ r =
    sym (first-blocks_apart (places dims) m q t (pos 0) h (some_places dims q some) ∙ first-places dims q (pos 0) some)
    ∙ ap (λ (xs : List ℤ). get_or xs 0 (pos 0)) e ∙ first-run size (m * product (shape_of dims)) r (pos 0) (mul-pos h (product-pos dims some)) in
    gap_from p t size (product (shape_of dims)) firsts

blocks_split : (size : ℕ) (dims : List (ℕ × ℤ × ℤ)) (m : ℕ) (p t : ℤ)
    → blocks_apart (places dims) (suc m) p t ≡ run size p (suc m * product (shape_of dims))
    → (places dims p ≡ run size p (product (shape_of dims))) × (blocks_apart (places dims) m (p +ℤ t) t ≡ run size (p +ℤ pos (product (shape_of dims) * size)) (m * product (shape_of dims)))
blocks_split size dims m p t e =
    let len : ℕ = product (shape_of dims) in
    append_parts (places dims p) (run size p len) (blocks_apart (places dims) m (p +ℤ t) t) (run size (p +ℤ pos (len * size)) (m * len))
    (length-places dims p ∙ sym (length-run size len p))
    (e ∙ ap (λ k. run size p k) (let f : suc m * len ≡ len + m * len = omega arith in f) ∙ run-add size len (m * len) p)

gap_of : (size : ℕ) (dims : List (ℕ × ℤ × ℤ)) → AreNonzero dims → (n : ℕ) (p t : ℤ) → 0 < n → blocks_apart (places dims) n p t ≡ run size p (n * product (shape_of dims))
    → (1 < n → t ≡ pos (size * product (shape_of dims))) × (places dims p ≡ run size p (product (shape_of dims)))
gap_of size dims some zero p t h e = absurd (omega arith)
gap_of size dims some (suc m) p t h e =
    let parts : (places dims p ≡ run size p (product (shape_of dims))) × (blocks_apart (places dims) m (p +ℤ t) t ≡ run size (p +ℤ pos (product (shape_of dims) * size)) (m * product (shape_of dims))) = blocks_split size dims m p t e in
    (λ more. blocks_gap size dims some m p t (omega arith) parts.1, parts.0)

pub strides_from_places : (size : ℕ) (dims : List (ℕ × ℤ × ℤ)) → AreNonzero dims → (p : ℤ) → places dims p ≡ run size p (product (shape_of dims)) → AreRowMajorStrides size dims
strides_from_places size [] some p e = tt
strides_from_places size (dim ∷ dims) some p e =
    let parts : (1 < dim.0 → dim.1 ≡ pos (size * product (shape_of dims))) × (places dims p ≡ run size p (product (shape_of dims))) =
    gap_of size dims some.1 dim.0 p dim.1 some.0 (sym (places-cons dim dims p) ∙ e) in
    (parts.0, strides_from_places size dims some.1 p parts.1)

-- ---- what contracts say of it

pub contiguous_from_run : (size : ℕ) (dims : List (ℕ × ℤ × ℤ)) (p : ℤ) → places dims p ≡ run size p (product (shape_of dims)) → IsContiguous size p (places dims p)
contiguous_from_run size dims p e =
    e ∙ ap (λ k. run size p k) (sym (length-places dims p)) ∙ sym (map-run-0 size (length (places dims p)) p)

pub run_from_contiguous : (size : ℕ) (dims : List (ℕ × ℤ × ℤ)) (p : ℤ) → IsContiguous size p (places dims p) → places dims p ≡ run size p (product (shape_of dims))
run_from_contiguous size dims p e =
    e ∙ map-run-0 size (length (places dims p)) p ∙ ap (λ k. run size p k) (length-places dims p)
