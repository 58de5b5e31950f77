-- Vectors that are made lane by lane of one vector v: each is map f v, and two such f are compared at every byte.
use Rattle.std.proofs.Common.{◌≡◌, ℕ, ◌%◌, ◌^◌, ◌<◌, ◌≤◌, eqb, ltb, get_or, Bool, true, cond, List, [], ◌∷◌, map, length, replicate, Fits, w8, refl, sym, ap, ap₂, ◌∙◌, arith}
use Rattle.std.proofs.lemmas.Bool.{agree_below, agree_below_at, eqb-true, ltb-true}
use Rattle.std.proofs.lemmas.Simd.{map-map, mask_l-mod, swz_l, length-swz_l, get_or-swz_l_below, Each1-get_or}
use Rattle.std.proofs.lemmas.List.{ext_get_or, length-map, get_or-map}
use lib.Lanes.{Each1, zip2, sel_l, top, mask_l}

-- two functions that are the same at each byte
pub at_each_byte : (f g : ℕ → ℕ) → agree_below (λ b. eqb (f b) (g b)) (λ _. true) 256 ≡ true → (v : List ℕ) → Each1 (Fits w8) v → map f v ≡ map g v
at_each_byte f g same [] fits = refl
at_each_byte f g same (b ∷ v) fits =
    let here : f b ≡ g b = eqb-true _ _ (agree_below_at (λ x. eqb (f x) (g x)) (λ _. true) 256 b same fits.0.fits) in
    ap₂ (λ x xs. x ∷ xs) here (at_each_byte f g same v fits.1)

-- a function that stays below a number at each byte
pub below_at_each_byte : (f : ℕ → ℕ) (limit : ℕ) → agree_below (λ b. ltb (f b) limit) (λ _. true) 256 ≡ true → (v : List ℕ) → Each1 (Fits w8) v → Each1 (λ n. n < limit) (map f v)
below_at_each_byte f limit small [] fits = tt
below_at_each_byte f limit small (b ∷ v) fits =
    (ltb-true _ _ (agree_below_at (λ x. ltb (f x) limit) (λ _. true) 256 b small fits.0.fits), below_at_each_byte f limit small v fits.1)

-- a table of sixteen that is looked up at each lane
pub looked_up : (table v : List ℕ) → length v ≡ 16 → Each1 (λ n. n < 16) v → swz_l w8 16 table 0 v ≡ map (λ n. get_or table n 0) v
looked_up table v long small =
    let as_long : length (swz_l w8 16 table 0 v) ≡ length v = length-swz_l w8 16 table 0 v in
    ext_get_or 0 _ _ (as_long ∙ sym (length-map v (λ n. get_or table n 0))) (λ i inside.
    let lane : i < length v = omega (arith, as_long) in
    let number = Each1-get_or (λ n. n < 16) v i 0 lane small in
    get_or-swz_l_below w8 16 table 0 v i lane number
    ∙ ap (λ n. get_or table n 0) (omega arith)
    ∙ sym (get_or-map (λ n. get_or table n 0) v i 0 0 lane))

-- ---- v itself, one value in each lane, and what operators make of vectors that were made of v

pub each_lane : {A : Type 0} (v : List A) → v ≡ map (λ x. x) v
each_lane [] = refl
each_lane (x ∷ v) = ap (λ xs. x ∷ xs) (each_lane v)

pub one_value : {A : Type 0} (v : List A) (lanes value : ℕ) → length v ≡ lanes → replicate lanes value ≡ map (λ _. value) v
one_value [] lanes value long = ap (λ n. replicate n value) (sym long)
one_value (x ∷ v) lanes value long = ap (λ n. replicate n value) (sym long) ∙ ap (λ xs. value ∷ xs) (one_value v (length v) value refl)

-- an operator on each lane
pub by_one : {A B : Type 0} (op : ℕ → B) (f : A → ℕ) (v : List A) {xs : List ℕ} → xs ≡ map f v → map op xs ≡ map (λ x. op (f x)) v
by_one op f v is = ap (map op) is ∙ map-map op f v

-- an operator on the lanes of two vectors
zip2_of_maps : {A : Type 0} (op : ℕ → ℕ → ℕ) (f g : A → ℕ) (v : List A) → zip2 op (map f v) (map g v) ≡ map (λ x. op (f x) (g x)) v
zip2_of_maps op f g [] = refl
zip2_of_maps op f g (x ∷ v) = ap (λ xs. op (f x) (g x) ∷ xs) (zip2_of_maps op f g v)

pub by_two : {A : Type 0} (op : ℕ → ℕ → ℕ) (f g : A → ℕ) (v : List A) {xs ys : List ℕ} → xs ≡ map f v → ys ≡ map g v → zip2 op xs ys ≡ map (λ x. op (f x) (g x)) v
by_two op f g v is other = ap₂ (zip2 op) is other ∙ zip2_of_maps op f g v

-- a choice by a test of each lane
choice_of_maps : {A : Type 0} (test : A → Bool) (f g : A → ℕ) (v : List A) → sel_l (map test v) (map f v) (map g v) ≡ map (λ x. cond (test x) (f x) (g x)) v
choice_of_maps test f g [] = refl
choice_of_maps test f g (x ∷ v) = ap (λ xs. cond (test x) (f x) (g x) ∷ xs) (choice_of_maps test f g v)

by_test : {A : Type 0} (test : A → Bool) (f g : A → ℕ) (v : List A) {ts : List Bool} {xs ys : List ℕ} → ts ≡ map test v → xs ≡ map f v → ys ≡ map g v
    → sel_l ts xs ys ≡ map (λ x. cond (test x) (f x) (g x)) v
by_test test f g v {xs = xs} {ys = ys} tested is other =
    ap (λ ts. sel_l ts xs ys) tested ∙ ap₂ (λ a b. sel_l (map test v) a b) is other ∙ choice_of_maps test f g v

-- a choice by a comparison of two vectors, as the least, the greatest and the sums without a wrap are made
pub by_choice : {A : Type 0} (compare : ℕ → ℕ → ℕ) (f g p q : A → ℕ) (v : List A) {one other xs ys : List ℕ} → one ≡ map f v → other ≡ map g v → xs ≡ map p v → ys ≡ map q v
    → sel_l (map (top 7) (zip2 compare one other)) xs ys ≡ map (λ x. cond (top 7 (compare (f x) (g x))) (p x) (q x)) v
by_choice compare f g p q v first second is otherwise = by_test (λ x. top 7 (compare (f x) (g x))) p q v (by_one (top 7) _ v (by_two compare f g v first second)) is otherwise

-- ---- masks

tests_at_each_byte : (one other : ℕ → Bool) → agree_below one other 256 ≡ true → (v : List ℕ) → Each1 (Fits w8) v → map one v ≡ map other v
tests_at_each_byte one other same [] fits = refl
tests_at_each_byte one other same (b ∷ v) fits = ap₂ (λ t ts. t ∷ ts) (agree_below_at one other 256 b same fits.0.fits) (tests_at_each_byte one other same v fits.1)

-- the mask of the top bits of a vector that was made of v
pub mask_of : (f : ℕ → ℕ) (test : ℕ → Bool) → agree_below (λ b. top 7 (f b)) test 256 ≡ true → (v : List ℕ) → Each1 (Fits w8) v → length v ≤ 64
    → {xs : List ℕ} → xs ≡ map f v → mask_l (map (top 7) xs) % 2 ^ 64 ≡ mask_l (map test v)
mask_of f test same v fits few is =
    ap (λ ts. mask_l ts % 2 ^ 64) (by_one (top 7) f v is ∙ tests_at_each_byte (λ b. top 7 (f b)) test same v fits)
    ∙ mask_l-mod (map test v) 64 (omega (arith, length-map v test))
