-- The row-major dimensions of a shape of two entries.
use Rattle.std.proofs.Common.{◌≡◌, ℕ, zero, suc, ◌*◌, ◌/◌, ◌^◌, ◌<◌, ◌≤◌, ℤ, pos, w64, to_z, List, [], ◌∷◌, length, get_or, drop, refl, ap, ap₂, sym, ◌∙◌, arith}
use Rattle.std.proofs.Math.Nat.{div-le_self}
use Rattle.std.specs.Prelude.{All}
use Rattle.std.proofs.lemmas.Int.{to_z_pos}
use Rattle.std.proofs.lemmas.List.Elements.{All-head}
use Rattle.pybuf_desc.specs.Layouts.{product}
use Rattle.pybuf_desc.specs.Descriptor.{shape_of}
use Rattle.pybuf_desc.specs.Valid.{nonzero_entries}
use Rattle.pybuf_desc.specs.RowMajor.{row_major_dims}
use Rattle.pybuf_desc.proofs.ShapedCasts.{next_size}

both_strides : (itemsize n m row : ℕ) → row ≡ itemsize * (m * 1) → row < 2 ^ 63 → itemsize < 2 ^ 63 → (n, to_z w64 row, pos 0) ∷ (m, to_z w64 itemsize, pos 0) ∷ [] ≡ row_major_dims itemsize (n ∷ m ∷ [])
both_strides itemsize n m row stride fits size =
    ap₂ (λ (a b : ℤ). (n, a, pos 0) ∷ (m, b, pos 0) ∷ []) (to_z_pos w64 row fits ∙ ap pos stride)
    (to_z_pos w64 itemsize size ∙ ap pos (let e : itemsize ≡ itemsize * 1 = omega arith in e))

pub two_of_shape : (itemsize len : ℕ) (shape : List ℕ) → 2 ≤ length shape → length shape < 3 → itemsize < 2 ^ 63 → All (λ n. 0 < n) shape → itemsize * product shape ≡ len → len < 2 ^ 63
    → (get_or shape 0 0, to_z w64 (len / get_or shape 0 0), pos 0) ∷ (get_or shape 1 0, to_z w64 itemsize, pos 0) ∷ [] ≡ row_major_dims itemsize shape
two_of_shape itemsize len [] least below size some whole fits = absurd (omega (arith, least))
two_of_shape itemsize len (n ∷ []) least below size some whole fits = absurd (omega (arith, least))
two_of_shape itemsize len (n ∷ m ∷ []) least below size some whole fits =
    let less : len / n ≤ len = div-le_self len n in
    both_strides itemsize n m (len / n) (next_size itemsize n (m * 1) len (sym whole) (All-head (λ k. 0 < k) n (m ∷ []) some)) (omega (arith, less, fits)) size
two_of_shape itemsize len (n ∷ m ∷ k ∷ shape) least below size some whole fits = absurd (omega (arith, below))

pub two_of_dims : (itemsize extent row : ℕ) (dims : List (ℕ × ℤ × ℤ)) → 2 ≤ length dims → length dims < 3 → itemsize < 2 ^ 63 → All (λ (dim : ℕ × ℤ × ℤ). 0 < dim.0) (drop 1 dims)
    → extent ≡ itemsize * product (nonzero_entries (shape_of dims)) → extent < 2 ^ 63
    → ((get_or dims 0 (0, pos 0, pos 0)).0 ≡ 0 → row ≡ extent) → (0 < (get_or dims 0 (0, pos 0, pos 0)).0 → row ≡ extent / (get_or dims 0 (0, pos 0, pos 0)).0)
    → ((get_or dims 0 (0, pos 0, pos 0)).0, to_z w64 row, pos 0) ∷ ((get_or dims 1 (0, pos 0, pos 0)).0, to_z w64 itemsize, pos 0) ∷ [] ≡ row_major_dims itemsize (shape_of dims)
two_of_dims itemsize extent row [] least below size later whole fits none some = absurd (omega (arith, least))
two_of_dims itemsize extent row (n ∷ []) least below size later whole fits none some = absurd (omega (arith, least))
two_of_dims itemsize extent row (n ∷ (zero, m, o) ∷ []) least below size later whole fits none some = absurd (let wrong : 0 < 0 = All-head (λ (dim : ℕ × ℤ × ℤ). 0 < dim.0) (zero, m, o) [] later in omega (arith, wrong))
two_of_dims itemsize extent row ((zero, n, i) ∷ (suc m, k, o) ∷ []) least below size later whole fits none some =
    let same : row ≡ extent = none refl in
    both_strides itemsize zero (suc m) row (same ∙ whole) (omega (arith, same, fits)) size
two_of_dims itemsize extent row ((suc n, j, i) ∷ (suc m, k, o) ∷ []) least below size later whole fits none some =
    let entry : 0 < suc n = omega arith in
    let same : row ≡ extent / suc n = some entry in
    let less : extent / suc n ≤ extent = div-le_self extent (suc n) in
    both_strides itemsize (suc n) (suc m) row (same ∙ next_size itemsize (suc n) (suc m * 1) extent whole entry) (omega (arith, same, less, fits)) size
two_of_dims itemsize extent row (n ∷ m ∷ k ∷ dims) least below size later whole fits none some = absurd (omega (arith, below))
