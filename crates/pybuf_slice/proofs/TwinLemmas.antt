-- Copies, list by list.
use Rattle.std.proofs.Common.{◌≡◌, ℕ, zero, suc, ◌+◌, ◌*◌, ◌<◌, ◌≤◌, length, arith, append_assoc, append-nil, length-append, List, [], ◌∷◌, ◌++◌, reverse, subst, sym, ap, ◌∙◌}
use Rattle.std.specs.List.{AllZip, AppendsClones}
use Rattle.std.proofs.lemmas.List.{nil_from_length, reverse-append}
use Rattle.std.proofs.lemmas.List.Elements.{length_all_zip}
use Rattle.std.proofs.lemmas.Nat.{mul-le}
use Rattle.std.proofs.Math.Nat.{suc-mul, mul_comm}
use Rattle.pybuf_slice.specs.Edits.{repeated_list}

pub zip_append : {X : Type 0} (R : X → X → Type 0) (xs ys us vs : List X) → AllZip R xs ys → AllZip R us vs → AllZip R (xs ++ us) (ys ++ vs)
zip_append R [] [] us vs front back = back
zip_append R [] (y ∷ ys) us vs front back = absurd front
zip_append R (x ∷ xs) [] us vs front back = absurd front
zip_append R (x ∷ xs) (y ∷ ys) us vs front back = (front.0, zip_append R xs ys us vs front.1 back)

pub zip_reverse : {X : Type 0} (R : X → X → Type 0) (xs ys : List X) → AllZip R xs ys → AllZip R (reverse xs) (reverse ys)
zip_reverse R [] [] all = tt
zip_reverse R [] (y ∷ ys) all = absurd all
zip_reverse R (x ∷ xs) [] all = absurd all
zip_reverse {X} R (x ∷ xs) (y ∷ ys) all =
    subst (λ (us : List X). AllZip R us (reverse (y ∷ ys))) (sym (reverse-append (x ∷ []) xs))
    (subst (λ (vs : List X). AllZip R (reverse xs ++ x ∷ []) vs) (sym (reverse-append (y ∷ []) ys))
    (zip_append R (reverse xs) (reverse ys) (x ∷ []) (y ∷ []) (zip_reverse R xs ys all.1) (all.0, tt)))

-- ---- a list that is repeated

pub length-repeated_list : {X : Type 0} (n : ℕ) (items : List X) → length (repeated_list n items) ≡ n * length items
length-repeated_list zero items = grind arith
length-repeated_list (suc n) items =
    length-append items (repeated_list n items) ∙ ap (λ m. length items + m) (length-repeated_list n items) ∙ grind (arith, suc-mul n (length items))

repeated_push : {X : Type 0} (n : ℕ) (items : List X) → repeated_list n items ++ items ≡ items ++ repeated_list n items
repeated_push zero items = sym (append-nil items)
repeated_push {X} (suc n) items =
    append_assoc items (repeated_list n items) items ∙ ap (λ (xs : List X). items ++ xs) (repeated_push n items)

none_of_none : {X : Type 0} (R : X → X → Type 0) (n : ℕ) → AllZip R (repeated_list n []) []
none_of_none R zero = tt
none_of_none R (suc n) = none_of_none R n

pub none_repeated : {X : Type 0} (R : X → X → Type 0) (n : ℕ) (items list : List X) → length items ≡ 0 → list ≡ [] → AllZip R (repeated_list n items) list
none_repeated {X} R n items list none empty =
    subst (λ (xs : List X). AllZip R (repeated_list n xs) list) (sym (nil_from_length items none))
    (subst (λ (ys : List X). AllZip R (repeated_list n []) ys) (sym empty) (none_of_none R n))

pub once_more : {X : Type 0} (R : X → X → Type 0) (n : ℕ) (items old new : List X) → AllZip R (repeated_list n items) old → AppendsClones R old new items → AllZip R (repeated_list (n + 1) items) new
once_more {X} R n items old new before added =
    let next : n + 1 ≡ suc n = omega arith in
    rw (next, added.1)
    (subst (λ (xs : List X). AllZip R xs (old ++ added.0)) (repeated_push n items) (zip_append R (repeated_list n items) old items added.0 before added.2))

pub room_for_more : {X : Type 0} (R : X → X → Type 0) (n times : ℕ) (items now : List X) (room : ℕ) → n < times → AllZip R (repeated_list n items) now → length items * times ≤ room → length now + length items ≤ room
room_for_more R n times items now room more zip fits =
    let many = length_all_zip R (repeated_list n items) now zip in
    let long = length-repeated_list n items in
    let most : suc n * length items ≤ times * length items = mul-le (suc n) (length items) times (length items) more (omega arith) in
    omega (arith, many, long, most, suc-mul n (length items), mul_comm (length items) times, fits)
