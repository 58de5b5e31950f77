-- Which slices pick the first places of a sequence, and what is left without these places.
use Rattle.std.proofs.Common.{◌≡◌, ◌⊎◌, ℕ, zero, suc, ◌+◌, ◌-◌, ◌<◌, ◌≤◌, List, [], ◌∷◌, length, drop, true, false, Bool, sym, subst, ap, ◌∙◌, refl, inl, inr, arith, eq-eqb}
use Rattle.std.specs.Prelude.{◌==◌, All, if◌then◌else◌}
use Rattle.std.proofs.lemmas.Bool.{cases_lt, eqb-true}
use Rattle.std.proofs.lemmas.List.{length-reverse}
use Rattle.std.proofs.lemmas.List.Elements.{All-head, All-tail}
use Rattle.pybuf_lemmas.proofs.Booleans.{false_if_never_true}
use Rattle.pybuf_index.specs.Facts.{length_rising, run_length}
use Rattle.pybuf_slice.specs.Facts.{has_reverse}
use Rattle.pybuf_index.specs.Runs.{rising, run_of}
use Rattle.pybuf_slice.specs.Edits.{has, off_from, elements_off}
use Rattle.pybuf_verbs_edits.specs.Counting.{AreFirst}

-- ---- the numbers of a run

same_or : (b : Bool) (x q : ℕ) (xs : List ℕ) → (x == q) ≡ b → has (x ∷ xs) q ≡ true → (x ≡ q) ⊎ (has xs q ≡ true)
same_or true x q xs is on = inl (eqb-true x q is)
same_or false x q xs is on = inr (ap (λ (b : Bool). if b then true else has xs q) (sym is) ∙ on)

on_head : (x : ℕ) (xs : List ℕ) → has (x ∷ xs) x ≡ true
on_head x xs = ap (λ (b : Bool). if b then true else has xs x) (eq-eqb x x refl)

on_tail_if : (b : Bool) (x q : ℕ) (xs : List ℕ) → (x == q) ≡ b → has xs q ≡ true → has (x ∷ xs) q ≡ true
on_tail_if true x q xs is on = ap (λ (b : Bool). if b then true else has xs q) is
on_tail_if false x q xs is on = ap (λ (b : Bool). if b then true else has xs q) is ∙ on

on_tail : (x q : ℕ) (xs : List ℕ) → has xs q ≡ true → has (x ∷ xs) q ≡ true
on_tail x q xs on = on_tail_if (x == q) x q xs refl on

none_below : (x s k q : ℕ) → has (rising x s k) q ≡ true → x ≤ q
none_below x s zero q on = absurd (cc)
none_below x s (suc k) q on =
    elim (same_or (x == q) x q (rising (x + s) s k) refl on) [
      | inl same ↦ omega (arith, same)
      | inr later ↦ omega (arith, none_below (x + s) s k q later)
    ]

none_past : (x k q : ℕ) → has (rising x 1 k) q ≡ true → q < x + k
none_past x zero q on = absurd (cc)
none_past x (suc k) q on =
    elim (same_or (x == q) x q (rising (x + 1) 1 k) refl on) [
      | inl same ↦ omega (arith, same)
      | inr later ↦ omega (arith, none_past (x + 1) k q later)
    ]

same_or_above : (x q : ℕ) → x ≤ q → (x ≡ q) ⊎ (x < q)
same_or_above x q low =
    elim (cases_lt x q) [
      | inl more ↦ inr more
      | inr least ↦ inl (omega (arith, low, least))
    ]

all_between : (x k q : ℕ) → x ≤ q → q < x + k → has (rising x 1 k) q ≡ true
all_between x zero q low high = absurd (omega (arith, low, high))
all_between x (suc k) q low high =
    elim (same_or_above x q low) [
      | inl same ↦ subst (λ (p : ℕ). has (x ∷ rising (x + 1) 1 k) p ≡ true) same (on_head x (rising (x + 1) 1 k))
      | inr more ↦ on_tail x q (rising (x + 1) 1 k) (all_between (x + 1) k q (omega (arith, more)) (omega (arith, high)))
    ]

-- A number of a run is the first, or at least one stride further.
first_or_further : (x s k q : ℕ) → has (rising x s k) q ≡ true → (q ≡ x) ⊎ (x + s ≤ q)
first_or_further x s zero q on = absurd (cc)
first_or_further x s (suc k) q on =
    elim (same_or (x == q) x q (rising (x + s) s k) refl on) [
      | inl same ↦ inl (sym same)
      | inr later ↦ inr (none_below (x + s) s k q later)
    ]

-- ---- lists that have the same numbers

-- A list of the first n places has these places and no others.
first_have : (n : ℕ) (xs : List ℕ) (q : ℕ) → AreFirst n xs → has xs q ≡ has (rising 0 1 n) q
first_have n xs q (inl up) = ap (λ (us : List ℕ). has us q) up
first_have n xs q (inr down) = ap (λ (us : List ℕ). has us q) down ∙ has_reverse (rising 0 1 n) q

pub first_count : (n : ℕ) (xs : List ℕ) → AreFirst n xs → length xs ≡ n
first_count n xs (inl up) = ap length up ∙ length_rising 0 1 n
first_count n xs (inr down) = ap length down ∙ length-reverse (rising 0 1 n) ∙ length_rising 0 1 n

run_have : (falls : Bool) (x s k q : ℕ) → has (run_of falls x s k) q ≡ has (rising x s k) q
run_have true x s k q = has_reverse (rising x s k) q
run_have false x s k q = refl

-- ---- which runs are the first places

pub run_is_first : (falls : Bool) (k : ℕ) → AreFirst k (run_of falls 0 1 k)
run_is_first true k = inr refl
run_is_first false k = inl refl

-- A run that is the first places has these places and no others.
run_has : (n : ℕ) (falls : Bool) (x s k q : ℕ) → AreFirst n (run_of falls x s k) → has (rising x s k) q ≡ has (rising 0 1 n) q
run_has n falls x s k q first = sym (run_have falls x s k q) ∙ first_have n (run_of falls x s k) q first

run_count : (n : ℕ) (falls : Bool) (x s k : ℕ) → AreFirst n (run_of falls x s k) → k ≡ n
run_count n falls x s k first = sym (run_length falls x s k) ∙ first_count n (run_of falls x s k) first

pub first_low : (n : ℕ) (falls : Bool) (x s k : ℕ) → 0 < k → AreFirst n (run_of falls x s k) → x ≡ 0
first_low n falls x s k some first =
    let count = run_count n falls x s k first in
    let low = none_below x s k 0 (run_has n falls x s k 0 first ∙ all_between 0 n 0 (omega arith) (omega (arith, some, count))) in
    omega (arith, low)

pub first_stride : (n : ℕ) (falls : Bool) (x s k : ℕ) → 1 < k → 0 < s → AreFirst n (run_of falls x s k) → s ≡ 1
first_stride n falls x s k some moves first =
    let count = run_count n falls x s k first in
    let low : x ≡ 0 = first_low n falls x s k (omega (arith, some)) first in
    elim (first_or_further x s k 1 (run_has n falls x s k 1 first ∙ all_between 0 n 1 (omega arith) (omega (arith, some, count)))) [
      | inl same ↦ absurd (omega (arith, same, low))
      | inr further ↦ omega (arith, further, low, moves)
    ]

-- ---- one place

pub first_alone : (n p : ℕ) → AreFirst n (p ∷ []) → (p ≡ 0) × (n ≡ 1)
first_alone n p first = (first_low n false p 1 1 (omega arith) first, sym (first_count n (p ∷ []) first))

-- ---- what is left without the first places

kept_if : {X : Type 0} (b : Bool) (place : ℕ) (x : X) (items : List X) (xs : List ℕ) → has xs place ≡ b → off_from place (x ∷ items) xs ≡ (if b then off_from (suc place) items xs else x ∷ off_from (suc place) items xs)
kept_if b place x items xs is = ap (λ (b : Bool). if b then off_from (suc place) items xs else x ∷ off_from (suc place) items xs) is

drop_next : {X : Type 0} (n place : ℕ) (x : X) (items : List X) → place < n → drop (n - place) (x ∷ items) ≡ drop (n - suc place) items
drop_next n place x items under =
    let next : n - place ≡ suc (n - suc place) = omega (arith, under) in
    ap (λ (k : ℕ). drop k (x ∷ items)) next

off_below : {X : Type 0} (place n : ℕ) (items : List X) (xs : List ℕ)
    → ((q : ℕ) → q < n → has xs q ≡ true) → ((q : ℕ) → n ≤ q → has xs q ≡ false) → off_from place items xs ≡ drop (n - place) items
off_below place n [] xs on off = sym (drop_none (n - place))
  where
    drop_none : {X : Type 0} (k : ℕ) → drop k (let none : List X = [] in none) ≡ []
    drop_none zero = refl
    drop_none (suc k) = refl
off_below place n (x ∷ items) xs on off =
    elim (cases_lt place n) [
      | inr past ↦
          kept_if false place x items xs (off place past)
          ∙ ap (λ (us : List _). x ∷ us) (off_below (suc place) n items xs on off ∙ ap (λ (k : ℕ). drop k items) (nothing n (suc place) (omega (arith, past))))
          ∙ ap (λ (k : ℕ). drop k (x ∷ items)) (sym (nothing n place past))
      | inl under ↦ kept_if true place x items xs (on place under) ∙ off_below (suc place) n items xs on off ∙ sym (drop_next n place x items under)
    ]
  where
    nothing : (n k : ℕ) → n ≤ k → n - k ≡ 0
    nothing n k past = omega (arith, past)

pub without_first : {X : Type 0} (n : ℕ) (items : List X) (xs : List ℕ) → AreFirst n xs → elements_off items xs ≡ drop n items
without_first n items xs first =
    off_below 0 n items xs
    (λ q under. first_have n xs q first ∙ all_between 0 n q (omega arith) (omega (arith, under)))
    (λ q past. first_have n xs q first ∙ false_if_never_true (has (rising 0 1 n) q) (λ on. omega (arith, past, none_past 0 n q on)))
    ∙ ap (λ (k : ℕ). drop k items) (let whole : n - 0 ≡ n = omega arith in whole)

-- If all places lie inside, there are at most as many as the length.
pub first_inside : (n len : ℕ) (xs : List ℕ) → ((q : ℕ) → has xs q ≡ true → q < len) → AreFirst n xs → n ≤ len
first_inside zero len xs inside first = omega arith
first_inside (suc n) len xs inside first = omega (arith, inside n (first_have (suc n) xs n first ∙ all_between 0 (suc n) n (omega arith) (omega arith)))

pub all_has : (P : ℕ → Type 0) (xs : List ℕ) (q : ℕ) → All P xs → has xs q ≡ true → P q
all_has P [] q all on = absurd (cc)
all_has P (x ∷ xs) q all on =
    elim (same_or (x == q) x q xs refl on) [
      | inl same ↦ subst P same (All-head P x xs all)
      | inr later ↦ all_has P xs q (All-tail P x xs all) later
    ]
