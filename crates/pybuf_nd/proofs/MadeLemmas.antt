-- The steps of walks over dimensions.
use Rattle.std.proofs.Common.{◌≡◌, ℕ, zero, suc, ◌+◌, ◌*◌, ◌^◌, ◌<◌, ℤ, pos, List, ◌∷◌, length, get_or, drop, drop-cons, ap, sym, ◌∙◌, subst, arith, add-one, mul_assoc, mul-zero, zero-mul, mul-le-mul_left, le-mul_of_pos_right, lt_of_le_of_lt}
use Rattle.pybuf_desc.specs.Facts.{positive_extent}
use Rattle.pybuf_desc.specs.Layouts.{product}
use Rattle.pybuf_desc.specs.Descriptor.{shape_of}
use Rattle.pybuf_desc.specs.Valid.{nonzero_entries}

abbrev pub dim_at : List (ℕ × ℤ × ℤ) → ℕ → ℕ × ℤ × ℤ
dim_at dims k = get_or dims k (0, pos 0, pos 0)

fits_entry : (bytes n : ℕ) (shape : List ℕ) → bytes * product (nonzero_entries (n ∷ shape)) < 2 ^ 63 → bytes * n < 2 ^ 63
fits_entry bytes zero shape h = rw mul-zero (omega arith)
fits_entry bytes (suc n) shape h =
    lt_of_le_of_lt (mul-le-mul_left bytes (le-mul_of_pos_right (suc n) (positive_extent shape))) h

fits_more : (bytes n : ℕ) (shape : List ℕ) → bytes * product (nonzero_entries (n ∷ shape)) < 2 ^ 63 → bytes * n * product (nonzero_entries shape) < 2 ^ 63
fits_more bytes zero shape h = rw mul-zero (rw zero-mul (omega arith))
fits_more bytes (suc n) shape h = rw mul_assoc h

pub bytes_fit : (dims : List (ℕ × ℤ × ℤ)) (i bytes : ℕ) → i < length dims → bytes * product (nonzero_entries (shape_of (drop i dims))) < 2 ^ 63 → bytes * (dim_at dims i).0 < 2 ^ 63
bytes_fit dims i bytes below h =
    fits_entry bytes (dim_at dims i).0 (shape_of (drop (suc i) dims)) (subst (λ ds. bytes * product (nonzero_entries (shape_of ds)) < 2 ^ 63) (drop-cons dims i (0, pos 0, pos 0) below) h)

pub bytes_more : (dims : List (ℕ × ℤ × ℤ)) (i bytes total : ℕ) → i < length dims → bytes * product (nonzero_entries (shape_of (drop i dims))) < 2 ^ 63 → bytes * product (shape_of (drop i dims)) ≡ total
    → (bytes * (dim_at dims i).0 * product (shape_of (drop (i + 1) dims)) ≡ total) × (bytes * (dim_at dims i).0 * product (nonzero_entries (shape_of (drop (i + 1) dims))) < 2 ^ 63)
bytes_more dims i bytes total below h e =
    rw add-one (
      mul_assoc bytes (dim_at dims i).0 (product (shape_of (drop (suc i) dims))) ∙ sym (ap (λ ds. bytes * product (shape_of ds)) (drop-cons dims i (0, pos 0, pos 0) below)) ∙ e,
      fits_more bytes (dim_at dims i).0 (shape_of (drop (suc i) dims)) (subst (λ ds. bytes * product (nonzero_entries (shape_of ds)) < 2 ^ 63) (drop-cons dims i (0, pos 0, pos 0) below) h),
    )
