-- Neighbouring dimensions that lie together become one.
use Rattle.std.proofs.Common.{◌≡◌, ◌≢◌, ℕ, zero, suc, ◌+◌, ◌*◌, ◌^◌, ◌<◌, ◌≤◌, ℤ, pos, ◌+ℤ◌, ◌*ℤ◌, Bool, true, false, true≢false, cond, get_or, drop-cons, ◌||◌, eqb, List, [], ◌∷◌, ◌++◌, ◌⊎◌, inl, inr, length, drop, refl, ap, ap₂, sym, ◌∙◌, subst, arith, All, append_assoc, append-nil, zero-mul, mul-zero, mul-one, one-mul, mul_assoc, mul-pos, mul-le-mul_left, le_refl, le_trans, le-mul_of_pos_right, lt_of_le_of_lt, zero-lt-suc}
use Rattle.std.specs.List.{flat_map, range_with_len, AllByRecursion}
use Rattle.std.specs.Ordering.{int_eq}
use Rattle.std.proofs.lemmas.Int.{ints}
use Rattle.std.proofs.lemmas.Bool.{eqb-true, eqb-false, ne_eqb, or_cases, or_parts, or_from}
use Rattle.std.proofs.lemmas.Bool.Decides.{Decides-int_eq}
use Rattle.std.proofs.lemmas.List.Elements.{All-from_recursion, recursion_from_All}
use Rattle.std.proofs.Math.IntN.{zero-*ℤ}
use Rattle.pybuf_lemmas.proofs.Integers.{last_terms_swap, zeroth_place, next_place, sum_times, successor_times}
use Rattle.pybuf_desc.specs.Facts.{positive_extent}
use Rattle.pybuf_desc.specs.Layouts.{Layout, product}
use Rattle.pybuf_desc.specs.Descriptor.{Descriptor, shape_of}
use Rattle.pybuf_desc.specs.Places.{places, Stands}
use Rattle.pybuf_desc.specs.Valid.{IsInside, IsValid, IsPlaceable, nonzero_entries}
use Rattle.pybuf_nd.specs.Dims.{in_dims}
use Rattle.pybuf_nd.specs.Merged.{lie_together, joined, merged_from, merged_dims, with_dims, HasNoneTogether}
use Rattle.pybuf_nd.proofs.Remaps.{AreSound}

-- ---- places that are found by adding the stride once for each index

-- `n` blocks, the first of which is at `p`, and each lies `t` after the one before
abbrev pub apart : (ℤ → List ℤ) → ℕ → ℤ → ℤ → List ℤ
apart block zero p t = []
apart block (suc n) p t = block p ++ apart block n (p +ℤ t) t

shift : (p : ℤ) (m : ℕ) (t : ℤ) → p +ℤ t +ℤ pos m *ℤ t ≡ p +ℤ pos (suc m) *ℤ t
shift p m t = last_terms_swap p t (pos m *ℤ t) ∙ ap (λ z. p +ℤ z) (sym (successor_times m t))

flat_apart : (block : ℤ → List ℤ) (n i : ℕ) (p t : ℤ) → flat_map (λ index. block (p +ℤ pos index *ℤ t)) (range_with_len i n) ≡ apart block n (p +ℤ pos i *ℤ t) t
flat_apart block zero i p t = refl
flat_apart block (suc n) i p t =
    ap (λ rest. block (p +ℤ pos i *ℤ t) ++ rest) (flat_apart block n (i + 1) p t ∙ ap (λ q. apart block n q t) (next_place p i t))

places_apart : (dim : ℕ × ℤ × ℤ) (dims : List (ℕ × ℤ × ℤ)) (p : ℤ) → places (dim ∷ dims) p ≡ apart (places dims) dim.0 p dim.1
places_apart dim dims p = flat_apart (places dims) dim.0 0 p dim.1 ∙ ap (λ q. apart (places dims) dim.0 q dim.1) (zeroth_place p dim.1)

apart_ext : (f g : ℤ → List ℤ) → ((q : ℤ) → f q ≡ g q) → (n : ℕ) (p t : ℤ) → apart f n p t ≡ apart g n p t
apart_ext f g each zero p t = refl
apart_ext f g each (suc n) p t = ap₂ (λ xs ys. xs ++ ys) (each p) (apart_ext f g each n (p +ℤ t) t)

apart_add : (f : ℤ → List ℤ) (m n : ℕ) (p t : ℤ) → apart f (m + n) p t ≡ apart f m p t ++ apart f n (p +ℤ pos m *ℤ t) t
apart_add f zero n p t = ap₂ (λ k q. apart f k q t) (let e : zero + n ≡ n = omega arith in e) (sym (zeroth_place p t))
apart_add f (suc m) n p t =
    ap (λ k. apart f k p t) (let e : suc m + n ≡ suc (m + n) = omega arith in e)
    ∙ ap (λ rest. f p ++ rest) (apart_add f m n (p +ℤ t) t ∙ ap (λ q. apart f m (p +ℤ t) t ++ apart f n q t) (shift p m t))
    ∙ sym (append_assoc (f p) (apart f m (p +ℤ t) t) (apart f n (p +ℤ pos (suc m) *ℤ t) t))

apart_apart : (f : ℤ → List ℤ) (m : ℕ) (t : ℤ) (n : ℕ) (p : ℤ) → apart (λ q. apart f m q t) n p (pos m *ℤ t) ≡ apart f (n * m) p t
apart_apart f m t zero p = ap (λ k. apart f k p t) (sym (zero-mul m))
apart_apart f m t (suc n) p =
    ap (λ rest. apart f m p t ++ rest) (apart_apart f m t n (p +ℤ pos m *ℤ t))
    ∙ sym (apart_add f m (n * m) p t) ∙ ap (λ k. apart f k p t) (let e : m + n * m ≡ suc n * m = omega arith in e)

-- ---- one dimension for two

joined_more : (f : ℤ → List ℤ) (n : ℕ) (s : ℤ) (m : ℕ) (t p : ℤ) → (eqb n 1 ≡ true) ⊎ (int_eq s (pos m *ℤ t) ≡ true) → apart (λ q. apart f m q t) n p s ≡ apart f (n * m) p t
joined_more f n s m t p (inl e) =
    ap (λ k. apart (λ q. apart f m q t) k p s) (eqb-true n 1 e) ∙ append-nil (apart f m p t)
    ∙ ap (λ k. apart f k p t) (sym (ap (λ k. k * m) (eqb-true n 1 e) ∙ one-mul m))
joined_more f n s m t p (inr e) = ap (λ z. apart (λ q. apart f m q t) n p z) ((Decides-int_eq s (pos m *ℤ t)).0 e) ∙ apart_apart f m t n p

joined_apart : (f : ℤ → List ℤ) (n : ℕ) (s : ℤ) (m : ℕ) (t p : ℤ) (b : Bool) → eqb m 1 ≡ b → eqb n 1 || (b || int_eq s (pos m *ℤ t)) ≡ true
    → apart (λ q. apart f m q t) n p s ≡ apart f (n * m) p (cond b s t)
joined_apart f n s m t p true e h =
    apart_ext (λ q. apart f m q t) f (λ q. ap (λ k. apart f k q t) (eqb-true m 1 e) ∙ append-nil (f q)) n p s
    ∙ ap (λ k. apart f k p s) (sym (ap (λ k. n * k) (eqb-true m 1 e) ∙ mul-one n))
joined_apart f n s m t p false e h = joined_more f n s m t p (or_cases (eqb n 1) (int_eq s (pos m *ℤ t)) h)

join_places : (a b : ℕ × ℤ × ℤ) (dims : List (ℕ × ℤ × ℤ)) (p : ℤ) → lie_together a b ≡ true → places (a ∷ b ∷ dims) p ≡ places (joined a b ∷ dims) p
join_places a b dims p h =
    places_apart a (b ∷ dims) p
    ∙ apart_ext (places (b ∷ dims)) (λ q. apart (places dims) b.0 q b.1) (places_apart b dims) a.0 p a.1
    ∙ joined_apart (places dims) a.0 a.1 b.0 b.1 p (eqb b.0 1) refl h
    ∙ sym (places_apart (joined a b) dims p)

-- ---- the same places

merged_step : (last dim : ℕ × ℤ × ℤ) (dims : List (ℕ × ℤ × ℤ)) (p : ℤ) (b : Bool) → lie_together last dim ≡ b
    → ((q : ℤ) → places (merged_from (joined last dim) dims) q ≡ places (joined last dim ∷ dims) q)
    → ((q : ℤ) → places (merged_from dim dims) q ≡ places (dim ∷ dims) q)
    → places (cond b (merged_from (joined last dim) dims) (last ∷ merged_from dim dims)) p ≡ places (last ∷ dim ∷ dims) p
merged_step last dim dims p true e joint rest = joint p ∙ sym (join_places last dim dims p e)
merged_step last dim dims p false e joint rest =
    places_apart last (merged_from dim dims) p
    ∙ apart_ext (places (merged_from dim dims)) (places (dim ∷ dims)) rest last.0 p last.1 ∙ sym (places_apart last (dim ∷ dims) p)

merged_places_from : (last : ℕ × ℤ × ℤ) (dims : List (ℕ × ℤ × ℤ)) (p : ℤ) → places (merged_from last dims) p ≡ places (last ∷ dims) p
merged_places_from last [] p = refl
merged_places_from last (dim ∷ dims) p = merged_step last dim dims p (lie_together last dim) refl (merged_places_from (joined last dim) dims) (merged_places_from dim dims)

pub merged_places : (dims : List (ℕ × ℤ × ℤ)) (p : ℤ) → places (merged_dims dims) p ≡ places dims p
merged_places [] p = refl
merged_places (dim ∷ dims) p = merged_places_from dim dims p

-- ---- no two neighbours lie together

times_of_product : (n m : ℕ) (t : ℤ) → pos (n * m) *ℤ t ≡ pos n *ℤ (pos m *ℤ t)
times_of_product zero m t = ap (λ k. pos k *ℤ t) (zero-mul m) ∙ zero-*ℤ t ∙ sym (zero-*ℤ (pos m *ℤ t))
times_of_product (suc n) m t =
    ap (λ z. z *ℤ t) (let e : pos (suc n * m) ≡ pos (n * m) +ℤ pos m = omega (arith, ints) in e)
    ∙ sum_times (pos (n * m)) (pos m) t
    ∙ ap (λ z. z +ℤ pos m *ℤ t) (times_of_product n m t)
    ∙ sym (successor_times n (pos m *ℤ t))

one_of_product : (n m : ℕ) → n * m ≡ 1 → n ≡ 1
one_of_product zero m e = absurd (let none : zero * m ≡ 0 = zero-mul m in omega (arith, e, none))
one_of_product (suc zero) m e = refl
one_of_product (suc (suc n)) zero e = absurd (let none : suc (suc n) * zero ≡ 0 = mul-zero (suc (suc n)) in omega (arith, e, none))
one_of_product (suc (suc n)) (suc m) e =
    absurd (let more : suc (suc n) ≤ suc (suc n) * suc m = le-mul_of_pos_right (suc (suc n)) (zero-lt-suc m) in omega (arith, e, more))

several_of_product : (n m : ℕ) → eqb n 1 ≡ false → eqb (n * m) 1 ≡ false
several_of_product n m h = ne_eqb (n * m) 1 (λ e. eqb-false n 1 h (one_of_product n m e))

joined_reach_more : (n : ℕ) (s : ℤ) (m : ℕ) (t : ℤ) → eqb n 1 ≡ false → (eqb n 1 ≡ true) ⊎ (int_eq s (pos m *ℤ t) ≡ true) → pos (n * m) *ℤ t ≡ pos n *ℤ s
joined_reach_more n s m t several (inl e) = absurd (true≢false (sym e ∙ several))
joined_reach_more n s m t several (inr e) = times_of_product n m t ∙ ap (λ z. pos n *ℤ z) (sym ((Decides-int_eq s (pos m *ℤ t)).0 e))

joined_reach : (n : ℕ) (s : ℤ) (m : ℕ) (t : ℤ) (b : Bool) → eqb m 1 ≡ b → eqb n 1 ≡ false → eqb n 1 || (b || int_eq s (pos m *ℤ t)) ≡ true → pos (n * m) *ℤ cond b s t ≡ pos n *ℤ s
joined_reach n s m t true e several h = ap (λ k. pos k *ℤ s) (ap (λ k. n * k) (eqb-true m 1 e) ∙ mul-one n)
joined_reach n s m t false e several h = joined_reach_more n s m t several (or_cases (eqb n 1) (int_eq s (pos m *ℤ t)) h)

still_apart : (prev last dim : ℕ × ℤ × ℤ) → lie_together prev last ≡ false → lie_together last dim ≡ true → lie_together prev (joined last dim) ≡ false
still_apart prev last dim h e =
    let parts = or_parts (eqb prev.0 1) (eqb last.0 1 || int_eq prev.1 (pos last.0 *ℤ last.1)) h in
    let others = or_parts (eqb last.0 1) (int_eq prev.1 (pos last.0 *ℤ last.1)) parts.1 in
    or_from (eqb prev.0 1) (eqb (joined last dim).0 1 || int_eq prev.1 (pos (joined last dim).0 *ℤ (joined last dim).1)) parts.0
    (or_from (eqb (joined last dim).0 1) (int_eq prev.1 (pos (joined last dim).0 *ℤ (joined last dim).1)) (several_of_product last.0 dim.0 others.0)
    (ap (λ z. int_eq prev.1 z) (joined_reach last.0 last.1 dim.0 dim.1 (eqb dim.0 1) refl others.0 e) ∙ others.1))

behind_step : (prev last dim : ℕ × ℤ × ℤ) (dims : List (ℕ × ℤ × ℤ)) (b : Bool) → lie_together last dim ≡ b → lie_together prev last ≡ false
    → (lie_together prev (joined last dim) ≡ false → HasNoneTogether (prev ∷ merged_from (joined last dim) dims))
    → (lie_together last dim ≡ false → HasNoneTogether (last ∷ merged_from dim dims))
    → HasNoneTogether (prev ∷ cond b (merged_from (joined last dim) dims) (last ∷ merged_from dim dims))
behind_step prev last dim dims true e h joint rest = joint (still_apart prev last dim h e)
behind_step prev last dim dims false e h joint rest = (h, rest e)

none_behind : (prev last : ℕ × ℤ × ℤ) (dims : List (ℕ × ℤ × ℤ)) → lie_together prev last ≡ false → HasNoneTogether (prev ∷ merged_from last dims)
none_behind prev last [] h = (h, tt)
none_behind prev last (dim ∷ dims) h =
    behind_step prev last dim dims (lie_together last dim) refl h (none_behind prev (joined last dim) dims) (none_behind last dim dims)

first_step : (last dim : ℕ × ℤ × ℤ) (dims : List (ℕ × ℤ × ℤ)) (b : Bool) → lie_together last dim ≡ b
    → HasNoneTogether (merged_from (joined last dim) dims) → HasNoneTogether (cond b (merged_from (joined last dim) dims) (last ∷ merged_from dim dims))
first_step last dim dims true e joint = joint
first_step last dim dims false e joint = none_behind last dim dims e

none_from : (last : ℕ × ℤ × ℤ) (dims : List (ℕ × ℤ × ℤ)) → HasNoneTogether (merged_from last dims)
none_from last [] = tt
none_from last (dim ∷ dims) = first_step last dim dims (lie_together last dim) refl (none_from (joined last dim) dims)

none_together : (dims : List (ℕ × ℤ × ℤ)) → HasNoneTogether (merged_dims dims)
none_together [] = tt
none_together (dim ∷ dims) = none_from dim dims

-- ---- the dimensions that a valid descriptor can have

all_step : (P : ℕ × ℤ × ℤ → Type 0) (last dim : ℕ × ℤ × ℤ) (dims : List (ℕ × ℤ × ℤ)) (b : Bool) → P last
    → AllByRecursion P (merged_from (joined last dim) dims) → AllByRecursion P (merged_from dim dims)
    → AllByRecursion P (cond b (merged_from (joined last dim) dims) (last ∷ merged_from dim dims))
all_step P last dim dims true h joint rest = joint
all_step P last dim dims false h joint rest = (h, rest)

all_from : (P : ℕ × ℤ × ℤ → Type 0) → ((a b : ℕ × ℤ × ℤ) → P a → P b → P (joined a b)) → (last : ℕ × ℤ × ℤ) (dims : List (ℕ × ℤ × ℤ)) → P last → AllByRecursion P dims → AllByRecursion P (merged_from last dims)
all_from P join last [] h hs = (h, tt)
all_from P join last (dim ∷ dims) h hs =
    all_step P last dim dims (lie_together last dim) h (all_from P join (joined last dim) dims (join last dim h hs.0) hs.1) (all_from P join dim dims hs.0 hs.1)

all_merged : (P : ℕ × ℤ × ℤ → Type 0) → ((a b : ℕ × ℤ × ℤ) → P a → P b → P (joined a b)) → (dims : List (ℕ × ℤ × ℤ)) → AllByRecursion P dims → AllByRecursion P (merged_dims dims)
all_merged P join [] hs = tt
all_merged P join (dim ∷ dims) hs = all_from P join dim dims hs.0 hs.1

moves_either : (b : Bool) (s t : ℤ) → s ≢ pos 0 → t ≢ pos 0 → cond b s t ≢ pos 0
moves_either true s t h g = h
moves_either false s t h g = g

some_joined : (a b : ℕ × ℤ × ℤ) → 0 < a.0 → 0 < b.0 → 0 < (joined a b).0
some_joined a b h g = mul-pos h g

later_step : (last dim : ℕ × ℤ × ℤ) (dims : List (ℕ × ℤ × ℤ)) (b : Bool)
    → AllByRecursion (λ (d : ℕ × ℤ × ℤ). 0 < d.0) (drop 1 (merged_from (joined last dim) dims)) → AllByRecursion (λ (d : ℕ × ℤ × ℤ). 0 < d.0) (merged_from dim dims)
    → AllByRecursion (λ (d : ℕ × ℤ × ℤ). 0 < d.0) (drop 1 (cond b (merged_from (joined last dim) dims) (last ∷ merged_from dim dims)))
later_step last dim dims true joint rest = joint
later_step last dim dims false joint rest = rest

later_from : (last : ℕ × ℤ × ℤ) (dims : List (ℕ × ℤ × ℤ)) → AllByRecursion (λ (d : ℕ × ℤ × ℤ). 0 < d.0) dims → AllByRecursion (λ (d : ℕ × ℤ × ℤ). 0 < d.0) (drop 1 (merged_from last dims))
later_from last [] hs = tt
later_from last (dim ∷ dims) hs =
    later_step last dim dims (lie_together last dim) (later_from (joined last dim) dims hs.1) (all_from (λ (d : ℕ × ℤ × ℤ). 0 < d.0) some_joined dim dims hs.0 hs.1)

later_merged : (dims : List (ℕ × ℤ × ℤ)) → AllByRecursion (λ (d : ℕ × ℤ × ℤ). 0 < d.0) (drop 1 dims) → AllByRecursion (λ (d : ℕ × ℤ × ℤ). 0 < d.0) (drop 1 (merged_dims dims))
later_merged [] hs = tt
later_merged (dim ∷ dims) hs = later_from dim dims hs

few_step : (last dim : ℕ × ℤ × ℤ) (dims : List (ℕ × ℤ × ℤ)) (b : Bool) (n : ℕ) → length (merged_from (joined last dim) dims) ≤ suc n → length (merged_from dim dims) ≤ suc n
    → length (cond b (merged_from (joined last dim) dims) (last ∷ merged_from dim dims)) ≤ suc (suc n)
few_step last dim dims true n joint rest = omega (arith, joint)
few_step last dim dims false n joint rest = omega (arith, rest)

few_from : (last : ℕ × ℤ × ℤ) (dims : List (ℕ × ℤ × ℤ)) → length (merged_from last dims) ≤ suc (length dims)
few_from last [] = omega arith
few_from last (dim ∷ dims) = few_step last dim dims (lie_together last dim) (length dims) (few_from (joined last dim) dims) (few_from dim dims)

few_merged : (dims : List (ℕ × ℤ × ℤ)) → length (merged_dims dims) ≤ length dims
few_merged [] = omega arith
few_merged (dim ∷ dims) = few_from dim dims

-- ---- the product of the entries that aren't 0

abbrev pub extent_of : List (ℕ × ℤ × ℤ) → ℕ
extent_of dims = product (nonzero_entries (shape_of dims))

pub extent_rest : (n : ℕ) (shape : List ℕ) → product (nonzero_entries shape) ≤ product (nonzero_entries (n ∷ shape))
extent_rest zero shape = le_refl (product (nonzero_entries shape))
extent_rest (suc n) shape =
    let more : product (nonzero_entries shape) ≤ product (nonzero_entries shape) * suc n = le-mul_of_pos_right (product (nonzero_entries shape)) (zero-lt-suc n) in omega (arith, more)

extent_under : (n : ℕ) (shape other : List ℕ) → product (nonzero_entries shape) ≤ product (nonzero_entries other) → product (nonzero_entries (n ∷ shape)) ≤ product (nonzero_entries (n ∷ other))
extent_under zero shape other h = h
extent_under (suc n) shape other h = mul-le-mul_left (suc n) h

pub extent_joined : (n m : ℕ) (shape : List ℕ) → product (nonzero_entries (n * m ∷ shape)) ≤ product (nonzero_entries (n ∷ m ∷ shape))
extent_joined zero m shape = subst (λ k. product (nonzero_entries (k ∷ shape)) ≤ product (nonzero_entries (m ∷ shape))) (sym (zero-mul m)) (extent_rest m shape)
extent_joined (suc n) zero shape =
    subst (λ k. product (nonzero_entries (k ∷ shape)) ≤ product (nonzero_entries (suc n ∷ shape))) (sym (mul-zero (suc n))) (extent_rest (suc n) shape)
extent_joined (suc n) (suc m) shape =
    let e : suc (m + n * suc m) ≡ suc n * suc m = omega arith in
    subst (λ k. product (nonzero_entries (k ∷ shape)) ≤ suc n * (suc m * product (nonzero_entries shape))) e
    (let f : suc (m + n * suc m) * product (nonzero_entries shape) ≡ suc n * (suc m * product (nonzero_entries shape)) = ap (λ k. k * product (nonzero_entries shape)) e ∙ mul_assoc (suc n) (suc m) (product (nonzero_entries shape)) in
    subst (λ k. suc (m + n * suc m) * product (nonzero_entries shape) ≤ k) f (le_refl (suc (m + n * suc m) * product (nonzero_entries shape))))

extent_step : (last dim : ℕ × ℤ × ℤ) (dims : List (ℕ × ℤ × ℤ)) (b : Bool) → extent_of (merged_from (joined last dim) dims) ≤ extent_of (joined last dim ∷ dims) → extent_of (merged_from dim dims) ≤ extent_of (dim ∷ dims)
    → extent_of (cond b (merged_from (joined last dim) dims) (last ∷ merged_from dim dims)) ≤ extent_of (last ∷ dim ∷ dims)
extent_step last dim dims true joint rest = le_trans joint (extent_joined last.0 dim.0 (shape_of dims))
extent_step last dim dims false joint rest = extent_under last.0 (shape_of (merged_from dim dims)) (shape_of (dim ∷ dims)) rest

extent_from : (last : ℕ × ℤ × ℤ) (dims : List (ℕ × ℤ × ℤ)) → extent_of (merged_from last dims) ≤ extent_of (last ∷ dims)
extent_from last [] = le_refl (extent_of (last ∷ []))
extent_from last (dim ∷ dims) = extent_step last dim dims (lie_together last dim) (extent_from (joined last dim) dims) (extent_from dim dims)

extent_merged : (dims : List (ℕ × ℤ × ℤ)) → extent_of (merged_dims dims) ≤ extent_of dims
extent_merged [] = le_refl 1
extent_merged (dim ∷ dims) = extent_from dim dims

-- ---- what the calls answer

pub sound_merged : (d : Descriptor) (start room : ℕ) → IsValid d start room → AreSound d.itemsize (merged_dims d.dims)
sound_merged d start room valid =
    record {
      few = (let less = few_merged d.dims in let few = valid.few_dimensions in omega (arith, less, few));
      strides = All-from_recursion (λ (dim : ℕ × ℤ × ℤ). dim.1 ≢ pos 0) (merged_dims d.dims)
          (all_merged (λ (dim : ℕ × ℤ × ℤ). dim.1 ≢ pos 0) (λ a b h g. moves_either (eqb b.0 1) a.1 b.1 h g) d.dims (recursion_from_All (λ (dim : ℕ × ℤ × ℤ). dim.1 ≢ pos 0) d.dims valid.strides));
      suboffsets = All-from_recursion (λ (dim : ℕ × ℤ × ℤ). dim.2 ≡ pos 0) (merged_dims d.dims)
          (all_merged (λ (dim : ℕ × ℤ × ℤ). dim.2 ≡ pos 0) (λ a b h g. refl) d.dims (recursion_from_All (λ (dim : ℕ × ℤ × ℤ). dim.2 ≡ pos 0) d.dims valid.suboffsets));
      later_entries = All-from_recursion (λ (dim : ℕ × ℤ × ℤ). 0 < dim.0) (drop 1 (merged_dims d.dims))
          (later_merged d.dims (recursion_from_All (λ (dim : ℕ × ℤ × ℤ). 0 < dim.0) (drop 1 d.dims) valid.later_entries));
      extent_fits = lt_of_le_of_lt (mul-le-mul_left d.itemsize (extent_merged d.dims)) valid.extent_fits;
    }

pub merged_extent : (d : Descriptor) (dims list : List (ℕ × ℤ × ℤ)) → IsPlaceable d → dims ≡ d.dims → list ≡ merged_dims dims → d.itemsize * product (nonzero_entries (shape_of list)) < 2 ^ 63
merged_extent d dims list placeable e f =
    subst (λ (ds : List (ℕ × ℤ × ℤ)). d.itemsize * product (nonzero_entries (shape_of ds)) < 2 ^ 63) (sym (f ∙ ap merged_dims e))
    (sound_merged d placeable.start placeable.placed.room placeable.placed.valid).extent_fits

pub entries_fit : (d : Descriptor) (dims : List (ℕ × ℤ × ℤ)) → IsPlaceable d → dims ≡ d.dims → product (nonzero_entries (shape_of dims)) < 2 ^ 63
entries_fit d dims placeable e =
    subst (λ (ds : List (ℕ × ℤ × ℤ)). extent_of ds < 2 ^ 63) (sym e)
    (let more : extent_of d.dims ≤ extent_of d.dims * d.itemsize = le-mul_of_pos_right (extent_of d.dims) placeable.placed.valid.some_size in
    let fits = placeable.placed.valid.extent_fits in omega (arith, more, fits))

pub product_fits : (n m : ℕ) (shape : List ℕ) → product (nonzero_entries (n ∷ m ∷ shape)) < 2 ^ 63 → n * m < 2 ^ 63
product_fits n m shape h = product_below (n * m) shape (lt_of_le_of_lt (extent_joined n m shape) h)
  where
    product_below : (k : ℕ) (others : List ℕ) → product (nonzero_entries (k ∷ others)) < 2 ^ 63 → k < 2 ^ 63
    product_below zero others g = omega arith
    product_below (suc k) others g = lt_of_le_of_lt (le-mul_of_pos_right (suc k) (positive_extent others)) g

-- ---- one more dimension in the walk over them

abbrev pub dim_after : List (ℕ × ℤ × ℤ) → ℕ → ℕ × ℤ × ℤ
dim_after dims k = get_or dims k (0, pos 0, pos 0)

-- the dimensions behind a place
pub behind : (dims : List (ℕ × ℤ × ℤ)) (k : ℕ) → k < length dims → drop k dims ≡ dim_after dims k ∷ drop (k + 1) dims
behind dims k below = drop-cons dims k (0, pos 0, pos 0) below ∙ ap (λ j. dim_after dims k ∷ drop j dims) (let e : suc k ≡ k + 1 = omega arith in e)

pub fits_here : (last dim : ℕ × ℤ × ℤ) (dims : List (ℕ × ℤ × ℤ)) (k : ℕ) → k < length dims → dim ≡ dim_after dims k → extent_of (last ∷ drop k dims) < 2 ^ 63 → last.0 * dim.0 < 2 ^ 63
fits_here last dim dims k below is h =
    subst (λ (d : ℕ × ℤ × ℤ). last.0 * d.0 < 2 ^ 63) (sym is)
    (product_fits last.0 (dim_after dims k).0 (shape_of (drop (k + 1) dims)) (subst (λ (ds : List (ℕ × ℤ × ℤ)). extent_of (last ∷ ds) < 2 ^ 63) (behind dims k below) h))

if_true : (b : Bool) (xs ys : List (ℕ × ℤ × ℤ)) → b ≡ true → cond b xs ys ≡ xs
if_true true xs ys e = refl
if_true false xs ys e = absurd (true≢false (sym e))

if_false : (b : Bool) (xs ys : List (ℕ × ℤ × ℤ)) → b ≡ false → cond b xs ys ≡ ys
if_false true xs ys e = absurd (true≢false e)
if_false false xs ys e = refl

pub taken_in : (list whole : List (ℕ × ℤ × ℤ)) (last dim next : ℕ × ℤ × ℤ) (dims : List (ℕ × ℤ × ℤ)) (k : ℕ) → k < length dims → dim ≡ dim_after dims k → lie_together last dim ≡ true → next ≡ joined last dim
    → list ++ merged_from last (drop k dims) ≡ whole → list ++ merged_from next (drop (k + 1) dims) ≡ whole
taken_in list whole last dim next dims k below is e made h =
    ap (λ xs. list ++ xs)
    (ap (λ n. merged_from n (drop (k + 1) dims)) (made ∙ ap (joined last) is)
    ∙ sym (if_true (lie_together last (dim_after dims k)) (merged_from (joined last (dim_after dims k)) (drop (k + 1) dims)) (last ∷ merged_from (dim_after dims k) (drop (k + 1) dims)) (ap (lie_together last) (sym is) ∙ e))
    ∙ ap (merged_from last) (sym (behind dims k below))) ∙ h

pub left_alone : (list more whole : List (ℕ × ℤ × ℤ)) (last dim : ℕ × ℤ × ℤ) (dims : List (ℕ × ℤ × ℤ)) (k : ℕ) → k < length dims → dim ≡ dim_after dims k → lie_together last dim ≡ false → more ≡ list ++ last ∷ []
    → list ++ merged_from last (drop k dims) ≡ whole → more ++ merged_from dim (drop (k + 1) dims) ≡ whole
left_alone list more whole last dim dims k below is e made h =
    ap (λ xs. xs ++ merged_from dim (drop (k + 1) dims)) made
    ∙ append_assoc list (last ∷ []) (merged_from dim (drop (k + 1) dims))
    ∙ ap (λ xs. list ++ xs)
    (ap (λ d. last ∷ merged_from d (drop (k + 1) dims)) is
    ∙ sym (if_false (lie_together last (dim_after dims k)) (merged_from (joined last (dim_after dims k)) (drop (k + 1) dims)) (last ∷ merged_from (dim_after dims k) (drop (k + 1) dims)) (ap (lie_together last) (sym is) ∙ e))
    ∙ ap (merged_from last) (sym (behind dims k below))) ∙ h

pub fits_taken_in : (last dim next : ℕ × ℤ × ℤ) (dims : List (ℕ × ℤ × ℤ)) (k : ℕ) → k < length dims → dim ≡ dim_after dims k → next ≡ joined last dim → extent_of (last ∷ drop k dims) < 2 ^ 63 → extent_of (next ∷ drop (k + 1) dims) < 2 ^ 63
fits_taken_in last dim next dims k below is made h =
    subst (λ (d : ℕ × ℤ × ℤ). extent_of (d ∷ drop (k + 1) dims) < 2 ^ 63) (sym (made ∙ ap (joined last) is))
    (lt_of_le_of_lt (extent_joined last.0 (dim_after dims k).0 (shape_of (drop (k + 1) dims))) (subst (λ (ds : List (ℕ × ℤ × ℤ)). extent_of (last ∷ ds) < 2 ^ 63) (behind dims k below) h))

pub fits_left_alone : (last dim : ℕ × ℤ × ℤ) (dims : List (ℕ × ℤ × ℤ)) (k : ℕ) → k < length dims → dim ≡ dim_after dims k → extent_of (last ∷ drop k dims) < 2 ^ 63 → extent_of (dim ∷ drop (k + 1) dims) < 2 ^ 63
fits_left_alone last dim dims k below is h =
    subst (λ (d : ℕ × ℤ × ℤ). extent_of (d ∷ drop (k + 1) dims) < 2 ^ 63) (sym is)
    (lt_of_le_of_lt (extent_rest last.0 (shape_of (dim_after dims k ∷ drop (k + 1) dims))) (subst (λ (ds : List (ℕ × ℤ × ℤ)). extent_of (last ∷ ds) < 2 ^ 63) (behind dims k below) h))

made_is : (d made : Descriptor) (dims list : List (ℕ × ℤ × ℤ)) → dims ≡ d.dims → list ≡ merged_dims dims → made ≡ in_dims d list → in_dims d (merged_dims d.dims) ≡ made
made_is d made dims list e f m = sym (m ∙ ap (in_dims d) (f ∙ ap merged_dims e))

pub merged_fewest : (d made : Descriptor) (dims list : List (ℕ × ℤ × ℤ)) → dims ≡ d.dims → list ≡ merged_dims dims → made ≡ in_dims d list → HasNoneTogether made.dims
merged_fewest d made dims list e f m = subst (λ (x : Descriptor). HasNoneTogether x.dims) (made_is d made dims list e f m) (none_together d.dims)

pub merged_valid : (d made : Descriptor) (dims list : List (ℕ × ℤ × ℤ)) → dims ≡ d.dims → list ≡ merged_dims dims → made ≡ in_dims d list → (start room : ℕ) → IsValid d start room → IsValid made start room
merged_valid d made dims list e f m start room valid =
    subst (λ (x : Descriptor). IsValid x start room) (made_is d made dims list e f m)
    (let sound = sound_merged d start room valid in
    record {
      some_size = valid.some_size;
      size_fits = valid.size_fits;
      few_dimensions = sound.few;
      strides = sound.strides;
      suboffsets = sound.suboffsets;
      later_entries = sound.later_entries;
      extent_fits = sound.extent_fits;
      len = refl;
      inside = subst (All (IsInside d.itemsize room)) (sym (merged_places d.dims (pos start))) valid.inside;
    })

pub merged_stands : (d made : Descriptor) (dims list : List (ℕ × ℤ × ℤ)) → dims ≡ d.dims → list ≡ merged_dims dims → made ≡ in_dims d list → (start : ℕ) (view : Layout) → Stands d start view → Stands made start (with_dims view made.dims)
merged_stands d made dims list e f m start view stands =
    subst (λ (x : Descriptor). Stands x start (with_dims view x.dims)) (made_is d made dims list e f m)
    (record {
      format = stands.format;
      itemsize = stands.itemsize;
      shape = refl;
      strides = refl;
      readonly = stands.readonly;
      starts = merged_places d.dims (pos start) ∙ stands.starts;
    })
