-- Products of the entries of a shape.
use Rattle.std.proofs.Common.{◌≡◌, ◌≢◌, ℕ, zero, suc, ◌+◌, ◌*◌, ◌<◌, ◌≤◌, ℤ, pos, List, [], ◌∷◌, length, get_or, drop, drop-cons, refl, ap, subst, sym, ◌∙◌, arith, mul_assoc, le-mul_of_pos_right, mul-pos, zero-lt-suc, add-one, All, Any, zero-mul, mul-zero, pos_of_ne-zero}
use Rattle.std.proofs.lemmas.List.Elements.{All-head, All-tail}
use Rattle.pybuf_desc.specs.Layouts.{product}
use Rattle.pybuf_desc.specs.Descriptor.{shape_of}
use Rattle.pybuf_desc.specs.Valid.{nonzero_entries}

-- the product of the entries that are not 0
abbrev pub extent_of : List (ℕ × ℤ × ℤ) → ℕ
extent_of dims = product (nonzero_entries (shape_of dims))

times_zero : (dim : ℕ × ℤ × ℤ) (dims : List (ℕ × ℤ × ℤ)) → dim.0 ≡ 0 → extent_of (dim ∷ dims) ≡ extent_of dims
times_zero (zero, z, u) dims e = refl
times_zero (suc n, z, u) dims e = absurd (omega arith)

times_some : (dim : ℕ × ℤ × ℤ) (dims : List (ℕ × ℤ × ℤ)) → dim.0 ≢ 0 → extent_of (dim ∷ dims) ≡ dim.0 * extent_of dims
times_some (zero, z, u) dims e = absurd (e refl)
times_some (suc n, z, u) dims e = refl

pub extent_pos : (dims : List (ℕ × ℤ × ℤ)) → 0 < extent_of dims
extent_pos [] = omega arith
extent_pos ((zero, z, u) ∷ dims) = extent_pos dims
extent_pos ((suc n, z, u) ∷ dims) = mul-pos (zero-lt-suc n) (extent_pos dims)

pub extent_skips : (e i : ℕ) (dims : List (ℕ × ℤ × ℤ)) → i < length dims → (get_or dims i (0, pos 0, pos 0)).0 ≡ 0 → e * extent_of (drop (i + 1) dims) ≡ e * extent_of (drop i dims)
extent_skips e i dims h z = rw (add-one) (ap (λ (k : ℕ). e * k) (sym (ap extent_of (drop-cons dims i (0, pos 0, pos 0) h) ∙ times_zero (get_or dims i (0, pos 0, pos 0)) (drop (suc i) dims) z)))

pub extent_grows : (e i : ℕ) (dims : List (ℕ × ℤ × ℤ)) → i < length dims → (get_or dims i (0, pos 0, pos 0)).0 ≢ 0 → e * (get_or dims i (0, pos 0, pos 0)).0 * extent_of (drop (i + 1) dims) ≡ e * extent_of (drop i dims)
extent_grows e i dims h z =
    rw (add-one) (mul_assoc e (get_or dims i (0, pos 0, pos 0)).0 (extent_of (drop (suc i) dims))
    ∙ ap (λ (k : ℕ). e * k) (sym (ap extent_of (drop-cons dims i (0, pos 0, pos 0) h) ∙ times_some (get_or dims i (0, pos 0, pos 0)) (drop (suc i) dims) z)))

pub extent_above : (e i total : ℕ) (dims : List (ℕ × ℤ × ℤ)) → i < length dims → (get_or dims i (0, pos 0, pos 0)).0 ≢ 0 → e * extent_of (drop i dims) ≡ total → e * (get_or dims i (0, pos 0, pos 0)).0 ≤ total
extent_above e i total dims h z q =
    let grown : e * (get_or dims i (0, pos 0, pos 0)).0 * extent_of (drop (i + 1) dims) ≡ total = extent_grows e i dims h z ∙ q in
    subst (λ k. e * (get_or dims i (0, pos 0, pos 0)).0 ≤ k) grown (le-mul_of_pos_right (e * (get_or dims i (0, pos 0, pos 0)).0) (extent_pos (drop (i + 1) dims)))

-- ---- a shape with an entry of 0, and one without

product_at : (dims : List (ℕ × ℤ × ℤ)) (i : ℕ) (d : ℕ × ℤ × ℤ) → i < length dims → (get_or dims i d).0 ≡ 0 → product (shape_of dims) ≡ 0
product_at [] i d h e = absurd (omega arith)
product_at (dim ∷ dims) zero d h e = rw e (zero-mul (product (shape_of dims)))
product_at (dim ∷ dims) (suc i) d h e = ap (λ (n : ℕ). dim.0 * n) (product_at dims i d (omega arith) e) ∙ mul-zero dim.0

pub product-zero : (dims : List (ℕ × ℤ × ℤ)) → Any (λ dim. dim.0 ≡ 0) dims → product (shape_of dims) ≡ 0
product-zero dims h = product_at dims h.0 h.1 h.2 (ap (λ (d : ℕ × ℤ × ℤ). d.0) h.3 ∙ h.4)

-- each entry of the dimensions is above 0
abbrev pub AreNonzero : List (ℕ × ℤ × ℤ) → Type 0
AreNonzero [] = Unit {0}
AreNonzero (dim ∷ dims) = (0 < dim.0) × AreNonzero dims

pub AreNonzero-from_All : (dims : List (ℕ × ℤ × ℤ)) → All (λ dim. 0 < dim.0) dims → AreNonzero dims
AreNonzero-from_All [] h = tt
AreNonzero-from_All (dim ∷ dims) h = (All-head (λ d. 0 < d.0) dim dims h, AreNonzero-from_All dims (All-tail (λ d. 0 < d.0) dim dims h))

pub product-pos : (dims : List (ℕ × ℤ × ℤ)) → AreNonzero dims → 0 < product (shape_of dims)
product-pos [] h = omega arith
product-pos (dim ∷ dims) h = mul-pos h.0 (product-pos dims h.1)

pub product-extent : (dims : List (ℕ × ℤ × ℤ)) → AreNonzero dims → product (shape_of dims) ≡ extent_of dims
product-extent [] h = refl
product-extent ((zero, z, u) ∷ dims) h = absurd (let wrong = h.0 in omega arith)
product-extent ((suc n, z, u) ∷ dims) h = ap (λ (k : ℕ). suc n * k) (product-extent dims h.1)

get_or-any_default : (dims : List (ℕ × ℤ × ℤ)) (k : ℕ) (d e : ℕ × ℤ × ℤ) → k < length dims → get_or dims k e ≡ get_or dims k d
get_or-any_default [] k d e h = absurd (omega arith)
get_or-any_default (x ∷ xs) zero d e h = refl
get_or-any_default (x ∷ xs) (suc k) d e h = get_or-any_default xs k d e (omega arith)

pub All-from_no_zero : (dims : List (ℕ × ℤ × ℤ)) → (Any (λ dim. dim.0 ≡ 0) dims → ⊥) → All (λ dim. 0 < dim.0) dims
All-from_no_zero dims none = λ k d h.
    pos_of_ne-zero (λ (e : (get_or dims k d).0 ≡ 0). none (k, get_or dims k d, h, get_or-any_default dims k d (get_or dims k d) h, e))
