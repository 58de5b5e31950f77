-- Column-major strides, from the first dimension to the last.
use Rattle.std.proofs.Common.{◌≡◌, ℕ, zero, suc, ◌+◌, ◌*◌, ◌^◌, ◌<◌, ◌≤◌, ℤ, pos, List, [], ◌∷◌, length, drop, drop-cons, ap, sym, ◌∙◌, subst, arith, le-mul_of_pos_right, mul_assoc, ◌↔◌, All}
use Rattle.pybuf_desc.specs.Layouts.{product}
use Rattle.pybuf_desc.specs.Descriptor.{shape_of}
use Rattle.pybuf_desc.specs.ColumnMajor.{AreColumnMajorStrides}
use Rattle.pybuf_desc.proofs.Moves.{dim_at}
use Rattle.pybuf_desc.proofs.Products.{AreNonzero, AreNonzero-from_All, product-pos}
use Rattle.pybuf_desc.proofs.Strides.{one_of}

drop_next : (dims : List (ℕ × ℤ × ℤ)) (k : ℕ) → k < length dims → drop k dims ≡ dim_at dims k ∷ drop (k + 1) dims
drop_next dims k h = drop-cons dims k (0, pos 0, pos 0) h ∙ ap (λ j. dim_at dims k ∷ drop j dims) (let e : suc k ≡ k + 1 = omega arith in e)

nonzero-drop : (k : ℕ) (dims : List (ℕ × ℤ × ℤ)) → AreNonzero dims → AreNonzero (drop k dims)
nonzero-drop zero dims some = some
nonzero-drop (suc k) [] some = tt
nonzero-drop (suc k) (dim ∷ dims) some = nonzero-drop k dims some.1

-- the size from which the dimensions from k on make the whole fits `isize`
pub column_size : (size itemsize k : ℕ) (dims : List (ℕ × ℤ × ℤ)) → All (λ dim. 0 < dim.0) dims → itemsize * product (shape_of dims) < 2 ^ 63 → size * product (shape_of (drop k dims)) ≡ itemsize * product (shape_of dims) → size < 2 ^ 63
column_size size itemsize k dims some fits whole =
    let more : size ≤ size * product (shape_of (drop k dims)) = le-mul_of_pos_right size (product-pos (drop k dims) (nonzero-drop k dims (AreNonzero-from_All dims some))) in
    omega (arith, more, fits, whole)

next_column : (size k : ℕ) (dims : List (ℕ × ℤ × ℤ)) → k < length dims → size * product (shape_of (drop k dims)) ≡ size * (dim_at dims k).0 * product (shape_of (drop (k + 1) dims))
next_column size k dims h =
    ap (λ ds. size * product (shape_of ds)) (drop_next dims k h) ∙ sym (mul_assoc size (dim_at dims k).0 (product (shape_of (drop (k + 1) dims))))

pub next_column_size : (size itemsize k : ℕ) (dims : List (ℕ × ℤ × ℤ)) → k < length dims → All (λ dim. 0 < dim.0) dims → itemsize * product (shape_of dims) < 2 ^ 63 → size * product (shape_of (drop k dims)) ≡ itemsize * product (shape_of dims)
    → size * (dim_at dims k).0 < 2 ^ 63
next_column_size size itemsize k dims h some fits whole =
    column_size (size * (dim_at dims k).0) itemsize (k + 1) dims some fits (sym (next_column size k dims h) ∙ whole)

-- what is known of this size still holds one dimension further on
pub column_kept : (size next itemsize k : ℕ) (dims : List (ℕ × ℤ × ℤ)) → k < length dims → size * product (shape_of (drop k dims)) ≡ itemsize * product (shape_of dims)
    → AreColumnMajorStrides itemsize dims ↔ AreColumnMajorStrides size (drop k dims) → (1 < (dim_at dims k).0 → (dim_at dims k).1 ≡ pos size) → next ≡ size * (dim_at dims k).0
    → (next * product (shape_of (drop (k + 1) dims)) ≡ itemsize * product (shape_of dims)) × (AreColumnMajorStrides itemsize dims ↔ AreColumnMajorStrides next (drop (k + 1) dims))
column_kept size next itemsize k dims h whole alike fit e = (
  ap (λ (n : ℕ). n * product (shape_of (drop (k + 1) dims))) e ∙ sym (next_column size k dims h) ∙ whole,
  (
    λ fits. subst (λ (n : ℕ). AreColumnMajorStrides n (drop (k + 1) dims)) (sym e) (subst (AreColumnMajorStrides size) (drop_next dims k h) (alike.0 fits)).1,
    λ later. alike.1 (subst (AreColumnMajorStrides size) (sym (drop_next dims k h)) (fit, subst (λ (n : ℕ). AreColumnMajorStrides n (drop (k + 1) dims)) e later)),
  ),
)

-- a dimension with one entry leaves the size as it is
pub column_alone : (size n : ℕ) → 0 < n → (1 < n → ⊥) → size ≡ size * n
column_alone size n some few = (let once : size ≡ size * 1 = omega arith in once) ∙ ap (λ (m : ℕ). size * m) (one_of n some few)
