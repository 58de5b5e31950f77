-- What is left without the places of an index list, place by place.
use Rattle.std.proofs.Common.{◌≡◌, ◌≢◌, ℕ, zero, suc, ◌+◌, ◌-◌, ◌*◌, ◌<◌, ◌≤◌, true, false, List, [], ◌∷◌, ◌++◌, length, refl, ap, sym, ◌∙◌, arith, inl, inr, ◌⊎◌, ℤ, pos, negsuc, take, drop, set, get_or, append-nil, length-take, length-drop, length-set, take-append-drop}
use Rattle.std.specs.Prelude.{Bool, All, reverse, if◌then◌else◌}
use Rattle.std.specs.List.Sorted.{IsStrictlyIncreasing}
use Rattle.std.specs.List.{swap}
use Rattle.std.proofs.lemmas.Bool.{cases_lt}
use Rattle.std.proofs.lemmas.List.{take_more, take_more_set, take-set, take-set-le, drop-set-lt, get_or_default, reverse-append}
use Rattle.std.proofs.lemmas.List.Elements.{All-head, All-tail, All-same, All-append, All-cons, All-nil}
use Rattle.pybuf_slice.specs.Facts.{has_head, has_other, has_reverse}
use Rattle.pybuf_index.specs.Facts.{how_many_one}
use Rattle.pybuf_index.specs.Runs.{rising, how_many, picks_in_span}
use Rattle.pybuf_index.specs.Laws.{EachSpan, SpanPicksAre}
use Rattle.pybuf_slice.specs.Edits.{has, off_from, elements_off, IsRisingFrom, replaced_range}
use Rattle.pybuf_slice.proofs.ReadLemmas.{down_moves, run_by_one}

-- ---- index lists

pub has_below : (indices : List ℕ) (low q : ℕ) → IsRisingFrom low indices → q < low → has indices q ≡ false
has_below [] low q rises h = refl
has_below (i ∷ r) low q rises h =
    let other : i ≢ q = omega (arith, rises.0) in
    has_other i r q other ∙ has_below r (suc i) q rises.1 (omega (arith, rises.0))

pub rising_lower : (indices : List ℕ) (low less : ℕ) → less ≤ low → IsRisingFrom low indices → IsRisingFrom less indices
rising_lower [] low less h rises = tt
rising_lower (i ∷ r) low less h rises = (omega (arith, rises.0), rises.1)

rising_tail : (i : ℕ) (r : List ℕ) → IsStrictlyIncreasing (i ∷ r) → IsStrictlyIncreasing r
rising_tail i r rises = λ k h.
    let next : suc k + 1 ≡ suc (k + 1) = omega arith in
    let up = rises (suc k) (omega (arith, h)) in
    rw next at up

pub rising_from : (indices : List ℕ) (low end : ℕ) → IsStrictlyIncreasing indices → All (λ i. (low ≤ i) × (i < end)) indices → IsRisingFrom low indices
rising_from [] low end rises within = tt
rising_from (i ∷ []) low end rises within = ((All-head (λ i. (low ≤ i) × (i < end)) i [] within).0, tt)
rising_from (i ∷ j ∷ r) low end rises within =
    let up : i < j = rises 0 (omega arith) in
    let rest = rising_from (j ∷ r) low end (rising_tail i (j ∷ r) rises) (All-tail (λ i. (low ≤ i) × (i < end)) i (j ∷ r) within) in
    ((All-head (λ i. (low ≤ i) × (i < end)) i (j ∷ r) within).0, (up, rest.1))

pub has_past : (indices : List ℕ) (low end q : ℕ) → All (λ i. (low ≤ i) × (i < end)) indices → end ≤ q → has indices q ≡ false
has_past [] low end q within h = refl
has_past (i ∷ r) low end q within h =
    let head = All-head (λ i. (low ≤ i) × (i < end)) i r within in
    let other : i ≢ q = omega (arith, head.1) in
    has_other i r q other ∙ has_past r low end q (All-tail (λ i. (low ≤ i) × (i < end)) i r within) h

pub has_before : (indices : List ℕ) (low end q : ℕ) → All (λ i. (low ≤ i) × (i < end)) indices → q < low → has indices q ≡ false
has_before [] low end q within h = refl
has_before (i ∷ r) low end q within h =
    let head = All-head (λ i. (low ≤ i) × (i < end)) i r within in
    let other : i ≢ q = omega (arith, head.0) in
    has_other i r q other ∙ has_before r low end q (All-tail (λ i. (low ≤ i) × (i < end)) i r within) h

-- ---- what is left without the indices of a list

pub off_none : {X : Type 0} (items : List X) (place : ℕ) (indices : List ℕ) → ((q : ℕ) → place ≤ q → q < place + length items → has indices q ≡ false) → off_from place items indices ≡ items
off_none [] place indices none = refl
off_none {X} (x ∷ items) place indices none =
    rw (none place (omega arith) (omega arith))
    (ap (λ (rest : List X). x ∷ rest) (off_none items (suc place) indices (λ q low high. none q (omega arith) (omega arith))))

pub off_all : {X : Type 0} (items : List X) (place : ℕ) (indices : List ℕ) → ((q : ℕ) → place ≤ q → q < place + length items → has indices q ≡ true) → off_from place items indices ≡ []
off_all [] place indices every = refl
off_all {X} (x ∷ items) place indices every =
    rw (every place (omega arith) (omega arith))
    (off_all items (suc place) indices (λ q low high. every q (omega arith) (omega arith)))

choice_append : {X : Type 0} (b : Bool) (x : X) (us vs : List X) → (if b then us else x ∷ us) ++ vs ≡ (if b then us ++ vs else x ∷ (us ++ vs))
choice_append true x us vs = refl
choice_append false x us vs = refl

pub off_append : {X : Type 0} (xs ys : List X) (place : ℕ) (indices : List ℕ) → off_from place (xs ++ ys) indices ≡ off_from place xs indices ++ off_from (place + length xs) ys indices
off_append [] ys place indices =
    let same : place + 0 ≡ place = omega arith in rw same refl
off_append {X} (x ∷ xs) ys place indices =
    let same : place + suc (length xs) ≡ suc place + length xs = omega arith in
    rw (same, off_append xs ys (suc place) indices)
    (sym (choice_append (has indices place) x (off_from (suc place) xs indices) (off_from (suc place + length xs) ys indices)))

pub off_same : {X : Type 0} (items : List X) (place : ℕ) (one other : List ℕ) → ((q : ℕ) → has one q ≡ has other q) → off_from place items one ≡ off_from place items other
off_same [] place one other same = refl
off_same (x ∷ items) place one other same = rw (same place, off_same items (suc place) one other same) refl

pub off_remove : {X : Type 0} (items : List X) (place i at : ℕ) → at ≡ place + i → i < length items → off_from place items (at ∷ []) ≡ take i items ++ drop (suc i) items
off_remove [] place i at e h = absurd (omega arith)
off_remove (x ∷ items) place zero at e h =
    let here : at ≡ place = omega arith in
    rw (has_head at [] place here)
    (off_none items (suc place) (at ∷ []) (λ q low high. let other : at ≢ q = omega arith in has_other at [] q other))
off_remove {X} (x ∷ items) place (suc i) at e h =
    let other : at ≢ place = omega arith in
    rw (has_other at [] place other)
    (ap (λ (rest : List X). x ∷ rest) (off_remove items (suc place) i at (omega arith) (omega arith)))

-- ---- a loop that closes up a range

-- One more place is deleted.
deleted_by : {X : Type 0} (kept items : List X) (p : ℕ) (indices : List ℕ) (d : X) → p < length items → has indices p ≡ true → kept ≡ elements_off (take p items) indices → kept ≡ elements_off (take (p + 1) items) indices
deleted_by {X} kept items p indices d h on e =
    let long : 0 + length (take p items) ≡ p = omega (arith, length-take p items) in
    let one : off_from p (get_or items p d ∷ []) indices ≡ [] = rw on refl in
    e
    ∙ sym (append-nil (elements_off (take p items) indices))
    ∙ ap (λ (rest : List X). elements_off (take p items) indices ++ rest) (sym one ∙ ap (λ n. off_from n (get_or items p d ∷ []) indices) (sym long))
    ∙ sym (off_append (take p items) (get_or items p d ∷ []) 0 indices)
    ∙ ap (λ (xs : List X). elements_off xs indices) (sym (take_more items p d h))

pub off_deleted : {X : Type 0} (kept items : List X) (p : ℕ) (indices : List ℕ) → p < length items → has indices p ≡ true → kept ≡ elements_off (take p items) indices → kept ≡ elements_off (take (p + 1) items) indices
off_deleted kept [] p indices h on e = absurd (omega arith)
off_deleted kept (x ∷ items) p indices h on e = deleted_by kept (x ∷ items) p indices x h on e

-- One more place stays.
off_stays : {X : Type 0} (kept new items : List X) (p : ℕ) (indices : List ℕ) (x : X) → p < length items → has indices p ≡ false → kept ≡ elements_off (take p items) indices → new ≡ kept ++ x ∷ [] → x ≡ get_or items p x → new ≡ elements_off (take (p + 1) items) indices
off_stays {X} kept new items p indices x h off e pushed is =
    let long : 0 + length (take p items) ≡ p = omega (arith, length-take p items) in
    let one : off_from p (get_or items p x ∷ []) indices ≡ get_or items p x ∷ [] = rw off refl in
    pushed
    ∙ ap (λ (xs : List X). xs ++ x ∷ []) e
    ∙ ap (λ y. elements_off (take p items) indices ++ y ∷ []) is
    ∙ ap (λ (rest : List X). elements_off (take p items) indices ++ rest) (sym one ∙ ap (λ n. off_from n (get_or items p x ∷ []) indices) (sym long))
    ∙ sym (off_append (take p items) (get_or items p x ∷ []) 0 indices)
    ∙ ap (λ (xs : List X). elements_off xs indices) (sym (take_more items p x h))

-- All places of the range are done.
pub off_ended : {X : Type 0} (now items : List X) (k low end : ℕ) (indices : List ℕ) → end ≤ length items → All (λ i. (low ≤ i) × (i < end)) indices → take k now ≡ elements_off (take end items) indices → drop end now ≡ drop end items → replaced_range now k end [] ≡ elements_off items indices
off_ended {X} now items k low end indices h within kept rest =
    let long : 0 + length (take end items) ≡ end = omega (arith, length-take end items) in
    let tail : off_from end (drop end items) indices ≡ drop end items = off_none (drop end items) end indices (λ q over under. has_past indices low end q within over) in
    ap (λ (xs : List X). xs ++ drop end now) kept
    ∙ ap (λ (ys : List X). elements_off (take end items) indices ++ ys) (rest ∙ sym tail ∙ ap (λ n. off_from n (drop end items) indices) (sym long))
    ∙ sym (off_append (take end items) (drop end items) 0 indices)
    ∙ ap (λ (xs : List X). elements_off xs indices) (take-append-drop end items)

-- Before the range, no element is deleted.
pub off_starts : {X : Type 0} (items : List X) (low end : ℕ) (indices : List ℕ) → low ≤ length items → All (λ i. (low ≤ i) × (i < end)) indices → take low items ≡ elements_off (take low items) indices
off_starts items low end indices h within =
    sym (off_none (take low items) 0 indices (λ q over under. has_before indices low end q within (omega (arith, length-take low items))))

-- An element changes places with one further on.
swap_take : {X : Type 0} (items : List X) (k p : ℕ) (d : X) → k ≤ p → p < length items → take (k + 1) (swap items k p) ≡ take k items ++ get_or items p d ∷ []
swap_take [] k p d h inside = absurd (omega arith)
swap_take {X} (x ∷ ys) k p d h inside =
    let xs : List X = x ∷ ys in
    let far : X = get_or xs p x in
    let same : far ≡ get_or xs p d = get_or_default xs p x d inside in
    elim (cases_lt k p) [
      | inl before ↦
          take-set-le (k + 1) (set xs k far) p (get_or xs k x) (omega arith)
          ∙ take_more_set xs k far (omega arith)
          ∙ ap (λ y. take k xs ++ y ∷ []) same
      | inr past ↦
          let e : k ≡ p = omega arith in
          let long : length (set xs k far) ≡ length xs = length-set xs k far in
          rw (← e)
          (take_more_set (set xs k (get_or xs k x)) k (get_or xs k x) (omega (arith, length-set xs k (get_or xs k x), inside, e))
          ∙ ap (λ (us : List X). us ++ get_or xs k x ∷ []) (take-set xs k (get_or xs k x))
          ∙ ap (λ y. take k xs ++ y ∷ []) (get_or_default xs k x d (omega (arith, inside, e))))
    ]

pub swap_drop : {X : Type 0} (items : List X) (k p : ℕ) → k ≤ p → p < length items → drop (p + 1) (swap items k p) ≡ drop (p + 1) items
swap_drop [] k p h inside = absurd (omega arith)
swap_drop {X} (x ∷ ys) k p h inside =
    let xs : List X = x ∷ ys in
    drop-set-lt (p + 1) (set xs k (get_or xs p x)) p (get_or xs k x) (omega arith)
    ∙ drop-set-lt (p + 1) xs k (get_or xs p x) (omega arith)

drop_next : {X : Type 0} (p : ℕ) (xs : List X) → drop (suc p) xs ≡ drop 1 (drop p xs)
drop_next zero xs = refl
drop_next (suc p) [] = refl
drop_next (suc p) (x ∷ xs) = drop_next p xs

pub drop_more : {X : Type 0} (xs ys : List X) (p : ℕ) → drop p xs ≡ drop p ys → drop (p + 1) xs ≡ drop (p + 1) ys
drop_more {X} xs ys p e =
    let next : p + 1 ≡ suc p = omega arith in
    rw next (drop_next p xs ∙ ap (λ (us : List X). drop 1 us) e ∙ sym (drop_next p ys))

get_first : {X : Type 0} (xs : List X) (p : ℕ) (d : X) → get_or xs p d ≡ get_or (drop p xs) 0 d
get_first xs zero d = refl
get_first [] (suc p) d = refl
get_first (x ∷ xs) (suc p) d = get_first xs p d

get_same : {X : Type 0} (xs ys : List X) (p : ℕ) (d : X) → drop p xs ≡ drop p ys → get_or xs p d ≡ get_or ys p d
get_same {X} xs ys p d e = get_first xs p d ∙ ap (λ (us : List X). get_or us 0 d) e ∙ sym (get_first ys p d)

pub stays_by_swap : {X : Type 0} (now items : List X) (k p : ℕ) (indices : List ℕ) → k ≤ p → p < length items → length now ≡ length items → has indices p ≡ false → take k now ≡ elements_off (take p items) indices → drop p now ≡ drop p items → take (k + 1) (swap now k p) ≡ elements_off (take (p + 1) items) indices
stays_by_swap now [] k p indices h inside long off kept rest = absurd (omega arith)
stays_by_swap {X} now (d ∷ ys) k p indices h inside long off kept rest =
    let items : List X = d ∷ ys in
    let x : X = get_or items p d in
    let same : get_or now p d ≡ x = get_same now items p d rest in
    off_stays (take k now) (take (k + 1) (swap now k p)) items p indices x inside off kept
    (swap_take now k p d h (omega (arith, long, inside)) ∙ ap (λ y. take k now ++ y ∷ []) same)
    (get_or_default items p d x inside)

pub length_swap : {X : Type 0} (xs : List X) (i j : ℕ) → length (swap xs i j) ≡ length xs
length_swap [] i j = refl
length_swap {X} (x ∷ ys) i j =
    let xs : List X = x ∷ ys in
    length-set (set xs i (get_or xs j x)) j (get_or xs i x) ∙ length-set xs i (get_or xs j x)

-- ---- the order of an index list

pub all_reverse : (P : ℕ → Type 0) (xs : List ℕ) → All P xs → All P (reverse xs)
all_reverse P [] all = all
all_reverse P (x ∷ xs) all =
    All-same P (reverse (x ∷ xs)) (reverse xs ++ x ∷ []) (reverse-append (x ∷ []) xs)
    (All-append P (reverse xs) (x ∷ []) (all_reverse P xs (All-tail P x xs all)) (All-cons P x [] (All-head P x xs all) (All-nil P)))

-- ---- a range

drop_none : {X : Type 0} (n : ℕ) → drop n (let none : List X = [] in none) ≡ []
drop_none zero = refl
drop_none (suc n) = refl

pub drop_on : {X : Type 0} (items : List X) (low high : ℕ) → low ≤ high → drop (high - low) (drop low items) ≡ drop high items
drop_on {X} items zero high ordered =
    let same : high - 0 ≡ high = omega arith in
    ap (λ n. drop n items) same
drop_on [] (suc low) high ordered = drop_none (high - suc low) ∙ sym (drop_none high)
drop_on (x ∷ items) (suc low) zero ordered = absurd (omega arith)
drop_on {X} (x ∷ items) (suc low) (suc high) ordered =
    let same : suc high - suc low ≡ high - low = omega arith in
    ap (λ n. drop n (drop low items)) same ∙ drop_on items low high (omega arith)

off_span : {X : Type 0} (items : List X) (low high : ℕ) (indices : List ℕ) → low ≤ high → high ≤ length items → ((q : ℕ) → low ≤ q → q < high → has indices q ≡ true) → ((q : ℕ) → q < low → has indices q ≡ false) → ((q : ℕ) → high ≤ q → has indices q ≡ false) → replaced_range items low high [] ≡ elements_off items indices
off_span {X} items low high indices ordered inside on before past =
    let front : List X = take low items in
    let middle : List X = take (high - low) (drop low items) in
    let back : List X = drop high items in
    let long : 0 + length front ≡ low = omega (arith, length-take low items) in
    let wide : low + length middle ≡ high = omega (arith, length-take (high - low) (drop low items), length-drop low items) in
    let split : drop low items ≡ middle ++ back =
    sym (take-append-drop (high - low) (drop low items)) ∙ ap (λ (xs : List X). middle ++ xs) (drop_on items low high ordered) in
    let first : off_from 0 front indices ≡ front = off_none front 0 indices (λ q over under. before q (omega (arith, long, under))) in
    let second : off_from low middle indices ≡ [] = off_all middle low indices (λ q over under. on q over (omega (arith, wide, under))) in
    let third : off_from high back indices ≡ back = off_none back high indices (λ q over under. past q over) in
    sym (
    ap (λ (xs : List X). elements_off xs indices) (sym (take-append-drop low items))
    ∙ off_append front (drop low items) 0 indices
    ∙ ap (λ n. off_from 0 front indices ++ off_from n (drop low items) indices) long
    ∙ ap (λ (xs : List X). xs ++ off_from low (drop low items) indices) first
    ∙ ap (λ (xs : List X). front ++ off_from low xs indices) split
    ∙ ap (λ (xs : List X). front ++ xs) (off_append middle back low indices)
    ∙ ap (λ (xs : List X). front ++ (xs ++ off_from (low + length middle) back indices)) second
    ∙ ap (λ n. front ++ off_from n back indices) wide
    ∙ ap (λ (xs : List X). front ++ xs) third)

has_run : (count low q : ℕ) → low ≤ q → q < low + count → has (rising low 1 count) q ≡ true
has_run zero low q over under = absurd (omega arith)
has_run (suc count) low q over under =
    elim (cases_lt low q) [
      | inl above ↦
          let other : low ≢ q = omega arith in
          has_other low (rising (low + 1) 1 count) q other ∙ has_run count (low + 1) q (omega arith) (omega arith)
      | inr upto ↦ has_head low (rising (low + 1) 1 count) q (omega arith)
    ]

has_run_not : (count low q : ℕ) → (q < low) ⊎ (low + count ≤ q) → has (rising low 1 count) q ≡ false
has_run_not zero low q out = refl
has_run_not (suc count) low q (inl under) =
    let other : low ≢ q = omega arith in
    has_other low (rising (low + 1) 1 count) q other ∙ has_run_not count (low + 1) q (inl (omega arith))
has_run_not (suc count) low q (inr over) =
    let other : low ≢ q = omega arith in
    has_other low (rising (low + 1) 1 count) q other ∙ has_run_not count (low + 1) q (inr (omega arith))

-- all places of a range, in order
off_places : {X : Type 0} (items : List X) (low high : ℕ) → low ≤ high → high ≤ length items → replaced_range items low high [] ≡ elements_off items (rising low 1 (high - low))
off_places items low high ordered inside =
    off_span items low high (rising low 1 (high - low)) ordered inside
    (λ q over under. has_run (high - low) low q over (omega arith))
    (λ q under. has_run_not (high - low) low q (inl under))
    (λ q over. has_run_not (high - low) low q (inr (omega arith)))

-- As many places, the last of which is the range's last, begin at the range's first.
from_the_last : (low high : ℕ) → low ≤ high → rising (high - 1 - (high - low - 1) * 1) 1 (high - low) ≡ rising low 1 (high - low)
from_the_last low high ordered =
    elim (cases_lt low high) [
      | inl some ↦
          let least : high - 1 - (high - low - 1) * 1 ≡ low = omega arith in
          ap (λ n. rising n 1 (high - low)) least
      | inr none ↦
          let empty : high - low ≡ 0 = omega arith in
          ap (λ count. rising (high - 1 - (high - low - 1) * 1) 1 count) empty ∙ sym (ap (λ count. rising low 1 count) empty)
    ]

-- A step of -1 picks the places of a range, from the last to the first.
run_by_less_one : (spans : EachSpan SpanPicksAre) (low high : ℕ) (step : ℤ) → step ≡ negsuc 0 → low ≤ high → picks_in_span low high step ≡ reverse (rising low 1 (high - low))
run_by_less_one spans low high step less_one ordered =
    let run : picks_in_span low high (negsuc 0) ≡ reverse (rising (high - 1 - (how_many low high 1 - 1) * 1) 1 (how_many low high 1)) = (spans low high (negsuc 0) (down_moves 0)).run in
    ap (picks_in_span low high) less_one
    ∙ run
    ∙ ap (λ count. reverse (rising (high - 1 - (count - 1) * 1) 1 count)) (how_many_one low high)
    ∙ ap reverse (from_the_last low high ordered)

-- A step of 1, up or down, picks the whole range.
pub off_range : {X : Type 0} (spans : EachSpan SpanPicksAre) (items : List X) (low high : ℕ) (step : ℤ) → (step ≡ pos 1) ⊎ (step ≡ negsuc 0) → low ≤ high → high ≤ length items → replaced_range items low high [] ≡ elements_off items (picks_in_span low high step)
off_range spans items low high step (inl up) ordered inside =
    off_places items low high ordered inside ∙ ap (elements_off items) (sym (run_by_one spans low high step up))
off_range spans items low high step (inr down) ordered inside =
    off_places items low high ordered inside
    ∙ off_same items 0 (rising low 1 (high - low)) (reverse (rising low 1 (high - low))) (λ q. sym (has_reverse (rising low 1 (high - low)) q))
    ∙ ap (elements_off items) (sym (run_by_less_one spans low high step down ordered))
