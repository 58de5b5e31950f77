-- The numbers of a slice as the code computes them in bits, and the walks of the code over slices.
use Rattle.std.proofs.Common.{◌≡◌, ℕ, zero, suc, ◌+◌, ◌<◌, ◌≤◌, ℤ, pos, ◌*ℤ◌, false, true≢false, List, [], ◌∷◌, ◌++◌, length, get_or, set, take, drop, drop-cons, refl, ap, ap₂, sym, ◌∙◌, subst, arith, add-one, append_assoc, ◌⊎◌, inl, inr, ⊎_elim, eq-or-lt_of_le, append-nil, drop_of_length-le, SFits, w64, to_z, of_z}
use Rattle.std.proofs.lemmas.Int.{to_z-of_z}
use Rattle.std.proofs.lemmas.List.{get_or_default}
use Rattle.pybuf_index.specs.Parts.{SliceParts, IsSaturated, picks_of, nearest_word}
use Rattle.pybuf_index.specs.Laws.{SlicesHaveSpans}
use Rattle.pybuf_desc.specs.Descriptor.{shape_of}
use Rattle.pybuf_desc.specs.Positions.{AreIndices}
use Rattle.pybuf_nd.specs.Selections.{picks_of_each, counts_of, has_zero}
use Rattle.pybuf_nd.specs.Dims.{cut_dim, cut_dims, firsts_of}
use Rattle.pybuf_nd.proofs.Cutting.{AreSaturated}
use Rattle.pybuf_nd.proofs.MadeLemmas.{dim_at}
use Rattle.pybuf_nd.proofs.Walks.{walks_slice, before_first, walk_below}

abbrev pub bits : ℤ → ℤ
bits z = to_z w64 (of_z w64 z)

pub cut_is : (dim : ℕ × ℤ × ℤ) (parts : SliceParts) (count : ℕ) (r step : ℤ) → SFits w64 r → SFits w64 dim.1 → SFits w64 step → SFits w64 dim.2
    → step ≡ parts.step → count ≡ length (picks_of dim.0 parts) → r ≡ nearest_word (bits dim.1 *ℤ bits step)
    → ◌≡◌ {A = ℕ × ℤ × ℤ} (count, bits r, bits dim.2) (cut_dim dim parts)
cut_is dim parts count r step fr fs ft fu e n h =
    let stride : bits r ≡ nearest_word (dim.1 *ℤ parts.step) = to_z-of_z w64 r fr ∙ h ∙ ap₂ (λ a b. nearest_word (a *ℤ b)) (to_z-of_z w64 dim.1 fs) (to_z-of_z w64 step ft ∙ e) in
    whole count (length (picks_of dim.0 parts)) (bits r) (nearest_word (dim.1 *ℤ parts.step)) (bits dim.2) dim.2 n stride (to_z-of_z w64 dim.2 fu)
  where
    whole : (k l : ℕ) (a b u v : ℤ) → k ≡ l → a ≡ b → u ≡ v → ◌≡◌ {A = ℕ × ℤ × ℤ} (k, a, u) (l, b, v)
    whole k l a b u v e f g = λ i. (e i, f i, g i)

-- ---- one slice after another

pub cut_more : (dims : List (ℕ × ℤ × ℤ)) (slices : List SliceParts) (k : ℕ) (parts : SliceParts) (made new total : List (ℕ × ℤ × ℤ)) (value : ℕ × ℤ × ℤ)
    → k < length dims → k < length slices → get_or slices k parts ≡ parts → value ≡ cut_dim (dim_at dims k) parts → new ≡ made ++ value ∷ []
    → made ++ cut_dims (drop k dims) (drop k slices) ≡ total → new ++ cut_dims (drop (k + 1) dims) (drop (k + 1) slices) ≡ total
cut_more dims slices k parts made new total value h g is value_is new_is e =
    let rest : List (ℕ × ℤ × ℤ) = cut_dims (drop (suc k) dims) (drop (suc k) slices) in
    rw add-one (
    ap (λ (ds : List (ℕ × ℤ × ℤ)). ds ++ rest) new_is
    ∙ append_assoc made (value ∷ []) rest
    ∙ ap (λ (v : ℕ × ℤ × ℤ). made ++ v ∷ rest) (value_is ∙ ap (cut_dim (dim_at dims k)) (sym is))
    ∙ ap₂ (λ (ds : List (ℕ × ℤ × ℤ)) (ss : List SliceParts). made ++ cut_dims ds ss) (sym (drop-cons dims k (0, pos 0, pos 0) h)) (sym (drop-cons slices k parts g))
    ∙ e
    )

eq_or_less : (a b : ℕ) → a ≤ b → (a < b) ⊎ (a ≡ b)
eq_or_less a b h = ⊎_elim (λ e. inr e) (λ less. inl less) (eq-or-lt_of_le h)

pub saturated_more : (slices : List SliceParts) (k : ℕ) (parts : SliceParts) → k < length slices → get_or slices k parts ≡ parts → IsSaturated parts
    → ((j : ℕ) (d : SliceParts) → j < k → IsSaturated (get_or slices j d)) → (j : ℕ) (d : SliceParts) → j < k + 1 → IsSaturated (get_or slices j d)
saturated_more slices k parts h is one before j d below = by_test (eq_or_less j k (omega (arith, below)))
  where
    by_test : (j < k) ⊎ (j ≡ k) → IsSaturated (get_or slices j d)
    by_test (inl less) = before j d less
    by_test (inr same) = subst (λ n. IsSaturated (get_or slices n d)) (sym same) (subst IsSaturated (sym (get_or_default slices k d parts h ∙ is)) one)

-- ---- the first indices

each_at : (dims : List (ℕ × ℤ × ℤ)) (slices : List SliceParts) (k : ℕ) (parts : SliceParts) → k < length dims → k < length slices → get_or slices k parts ≡ parts
    → drop k (picks_of_each (shape_of dims) slices) ≡ picks_of (dim_at dims k).0 parts ∷ drop (suc k) (picks_of_each (shape_of dims) slices)
each_at [] slices k parts h g is = absurd (omega (arith, h))
each_at (dim ∷ dims) [] k parts h g is = absurd (omega (arith, g))
each_at (dim ∷ dims) (s ∷ slices) zero parts h g is = ap (λ p. picks_of dim.0 p ∷ picks_of_each (shape_of dims) slices) is
each_at (dim ∷ dims) (s ∷ slices) (suc k) parts h g is = each_at dims slices k parts (omega (arith, h)) (omega (arith, g)) is

take_more : (xs : List ℕ) (k y : ℕ) → k < length xs → take (suc k) (set xs k y) ≡ take k xs ++ y ∷ []
take_more [] k y h = absurd (omega (arith, h))
take_more (x ∷ xs) zero y h = refl
take_more (x ∷ xs) (suc k) y h = ap (λ (ys : List ℕ). x ∷ ys) (take_more xs k y (omega (arith, h)))

-- An index was found.
pub first_more : (dims : List (ℕ × ℤ × ℤ)) (slices : List SliceParts) (k first : ℕ) (parts : SliceParts) (rest firsts : List ℕ) → k < length dims → k < length slices → k < length firsts → get_or slices k parts ≡ parts
    → picks_of (dim_at dims k).0 parts ≡ first ∷ rest
    → take k firsts ++ firsts_of (drop k (picks_of_each (shape_of dims) slices)) ≡ firsts_of (picks_of_each (shape_of dims) slices)
    → has_zero (counts_of (drop k (picks_of_each (shape_of dims) slices))) ≡ has_zero (counts_of (picks_of_each (shape_of dims) slices))
    → (take (k + 1) (set firsts k first) ++ firsts_of (drop (k + 1) (picks_of_each (shape_of dims) slices)) ≡ firsts_of (picks_of_each (shape_of dims) slices))
    × (has_zero (counts_of (drop (k + 1) (picks_of_each (shape_of dims) slices))) ≡ has_zero (counts_of (picks_of_each (shape_of dims) slices)))
first_more dims slices k first parts rest firsts h g f is found e z =
    let each : List (List ℕ) = picks_of_each (shape_of dims) slices in
    let cons : drop k each ≡ (first ∷ rest) ∷ drop (suc k) each = each_at dims slices k parts h g is ∙ ap (λ p. p ∷ drop (suc k) each) found in
    rw add-one (
      ap (λ (xs : List ℕ). xs ++ firsts_of (drop (suc k) each)) (take_more firsts k first f)
          ∙ append_assoc (take k firsts) (first ∷ []) (firsts_of (drop (suc k) each))
          ∙ ap (λ (ps : List (List ℕ)). take k firsts ++ firsts_of ps) (sym cons) ∙ e,
      ap (λ (ps : List (List ℕ)). has_zero (counts_of ps)) (sym cons) ∙ z,
    )

-- No index was found.
pub none_found : (dims : List (ℕ × ℤ × ℤ)) (slices : List SliceParts) (k : ℕ) (parts : SliceParts) → k < length dims → k < length slices → get_or slices k parts ≡ parts
    → picks_of (dim_at dims k).0 parts ≡ []
    → has_zero (counts_of (drop k (picks_of_each (shape_of dims) slices))) ≡ has_zero (counts_of (picks_of_each (shape_of dims) slices))
    → has_zero (counts_of (picks_of_each (shape_of dims) slices)) ≡ false → ⊥
none_found dims slices k parts h g is found z some =
    let each : List (List ℕ) = picks_of_each (shape_of dims) slices in
    let cons : drop k each ≡ [] ∷ drop (suc k) each = each_at dims slices k parts h g is ∙ ap (λ p. p ∷ drop (suc k) each) found in
    true≢false (sym (ap (λ (ps : List (List ℕ)). has_zero (counts_of ps)) cons) ∙ z ∙ some)

first_below : SlicesHaveSpans → (n : ℕ) (parts : SliceParts) → IsSaturated parts → 0 < length (picks_of n parts) → get_or (picks_of n parts) 0 0 < n
first_below spans n parts s some = walk_below n parts.step (before_first n parts) (picks_of n parts) 0 (walks_slice spans n parts s.moves) some

count_some : (n : ℕ) (shape : List ℕ) → has_zero (n ∷ shape) ≡ false → (0 < n) × (has_zero shape ≡ false)
count_some zero shape e = absurd (true≢false e)
count_some (suc n) shape e = (let some : 0 < suc n = omega arith in some, e)

pub firsts_are_indices : SlicesHaveSpans → (dims : List (ℕ × ℤ × ℤ)) (slices : List SliceParts) → AreSaturated slices → length slices ≡ length dims
    → has_zero (counts_of (picks_of_each (shape_of dims) slices)) ≡ false → AreIndices (firsts_of (picks_of_each (shape_of dims) slices)) dims
firsts_are_indices spans [] slices s e some = tt
firsts_are_indices spans (dim ∷ dims) [] s e some = absurd (omega (arith, e))
firsts_are_indices spans (dim ∷ dims) (parts ∷ slices) s e some =
    let both = count_some (length (picks_of dim.0 parts)) (counts_of (picks_of_each (shape_of dims) slices)) some in
    (first_below spans dim.0 parts s.0 both.0, firsts_are_indices spans dims slices s.1 (omega (arith, e)) both.1)

-- ---- the end of the walks

pub cut_done : (dims : List (ℕ × ℤ × ℤ)) (slices : List SliceParts) (k : ℕ) (made total : List (ℕ × ℤ × ℤ)) → length dims ≤ k → made ++ cut_dims (drop k dims) (drop k slices) ≡ total → made ≡ total
cut_done dims slices k made total h e =
    sym (append-nil made) ∙ ap (λ (ds : List (ℕ × ℤ × ℤ)). made ++ cut_dims ds (drop k slices)) (sym (drop_of_length-le dims h)) ∙ e

length_each : (dims : List (ℕ × ℤ × ℤ)) (slices : List SliceParts) → length (picks_of_each (shape_of dims) slices) ≤ length dims
length_each [] slices = omega arith
length_each (dim ∷ dims) [] = omega arith
length_each (dim ∷ dims) (parts ∷ slices) = let less = length_each dims slices in omega (arith, less)

pub firsts_done : (dims : List (ℕ × ℤ × ℤ)) (slices : List SliceParts) (k : ℕ) (firsts : List ℕ) → k ≡ length dims
    → take k firsts ++ firsts_of (drop k (picks_of_each (shape_of dims) slices)) ≡ firsts_of (picks_of_each (shape_of dims) slices)
    → has_zero (counts_of (drop k (picks_of_each (shape_of dims) slices))) ≡ has_zero (counts_of (picks_of_each (shape_of dims) slices))
    → (take (length dims) firsts ≡ firsts_of (picks_of_each (shape_of dims) slices)) × (has_zero (counts_of (picks_of_each (shape_of dims) slices)) ≡ false)
firsts_done dims slices k firsts end e z =
    let each : List (List ℕ) = picks_of_each (shape_of dims) slices in
    let none : drop k each ≡ [] = drop_of_length-le each (let less = length_each dims slices in omega (arith, less, end)) in (
      ap (λ n. take n firsts) (sym end) ∙ sym (append-nil (take k firsts)) ∙ ap (λ (ps : List (List ℕ)). take k firsts ++ firsts_of ps) (sym none) ∙ e,
      sym z ∙ ap (λ (ps : List (List ℕ)). has_zero (counts_of ps)) none,
    )
