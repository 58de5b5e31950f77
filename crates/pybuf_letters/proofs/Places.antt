-- The first and the last byte that pass a test, as `memchr` and as std name them.
use Rattle.std.proofs.Common.{◌≡◌, ℕ, ◌+◌, ◌-◌, ◌<◌, ◌≤◌, Bool, true, false, not, List, [], length, get_or, take, drop, Option, Some, None, refl, sym, ◌∙◌, ap, arith, subst}
use Rattle.std.proofs.lemmas.List.{take_rest}
use Rattle.std.specs.List.{prefix_len, suffix_len}
use Rattle.std.proofs.lemmas.List.Sums.{prefix_len_is, suffix_len_is}
use Rattle.pybuf_lemmas.proofs.Booleans.{false_if_not_true}
use Rattle.bstr.specs.Bytes.{is_in, not_in}
use Rattle.bstr.specs.Find.{IsFirstByte, IsLastByte}
use Rattle.pybuf_letters.specs.Strips.{stripped_left, stripped_right}

-- A test fails exactly if another passes.
pub record Denies (test p : ℕ → Bool) : Type 0 where
  pub denies : (b : ℕ) → test b ≡ not (p b)

true-from_not : (b : Bool) → ¬ (not b ≡ true) → b ≡ true
true-from_not true h = refl
true-from_not false h = absurd (h refl)

passes : {test p : ℕ → Bool} → Denies test p → (b : ℕ) → ¬ (test b ≡ true) → p b ≡ true
passes {test} {p} d b h = true-from_not (p b) (λ e. h (d.denies b ∙ e))

stops : {test p : ℕ → Bool} → Denies test p → (b : ℕ) → test b ≡ true → p b ≡ false
stops {test} {p} d b h = false_if_not_true (p b) (sym (d.denies b) ∙ h)

pub prefix_len-from_none : (test p : ℕ → Bool) (bytes : List ℕ) → Denies test p → IsFirstByte test bytes None → prefix_len p bytes ≡ length bytes
prefix_len-from_none test p bytes d h =
    prefix_len_is p bytes (length bytes) 0 (omega arith) (λ k below. passes d _ (h k (omega arith) below)) (λ below. absurd (omega arith))

pub prefix_len-from_some : (test p : ℕ → Bool) (bytes : List ℕ) (i : ℕ) → Denies test p → IsFirstByte test bytes (Some i) → prefix_len p bytes ≡ i
prefix_len-from_some test p bytes i d h =
    let high : i < length bytes = h.0.high in
    prefix_len_is p bytes i 0 (omega arith) (λ k below. passes d _ (h.0.before k (omega arith) below)) (λ below. stops d _ h.1)

pub suffix_len-from_none : (test p : ℕ → Bool) (bytes : List ℕ) → Denies test p → IsLastByte test bytes None → suffix_len p bytes ≡ length bytes - 0
suffix_len-from_none test p bytes d h =
    suffix_len_is p bytes 0 0 (omega arith) (λ k low below. passes d _ (h k low below)) (λ below. absurd (omega arith))

pub suffix_len-from_some : (test p : ℕ → Bool) (bytes : List ℕ) (i : ℕ) → Denies test p → IsLastByte test bytes (Some i) → suffix_len p bytes ≡ length bytes - (i + 1)
suffix_len-from_some test p bytes i d h =
    let high : i < length bytes = h.0.high in
    let before : i + 1 - 1 ≡ i = omega arith in
    suffix_len_is p bytes (i + 1) 0 (omega arith) (λ k low below. passes d _ (h.0.after k low below)) (λ below. rw before (stops d _ h.1))

-- ---- a test that a set of bytes decides

-- `bstr` tells by this whether a byte is in a set.
pub record Holds (chars : List ℕ) (p : ℕ → Bool) : Type 0 where
  pub holds : (b : ℕ) → is_in chars b ≡ p b

pub outside : {chars : List ℕ} {p : ℕ → Bool} → Holds chars p → Denies (not_in chars) p
outside h = record { denies = λ b. ap not (h.holds b) }

pub inside : {chars : List ℕ} {p : ℕ → Bool} → Holds chars p → Denies (is_in chars) (λ b. not (p b))
inside {chars} {p} h = record { denies = λ b. h.holds b ∙ twice_denied (p b) }
  where
    twice_denied : (t : Bool) → t ≡ not (not t)
    twice_denied true = refl
    twice_denied false = refl

-- ---- bytes without those at their ends that a set has

pub stripped_left-from_none : (chars : List ℕ) (p : ℕ → Bool) (bytes : List ℕ) → Holds chars p → IsFirstByte (not_in chars) bytes None → take (length bytes - length bytes) (drop (length bytes) bytes) ≡ stripped_left p bytes
stripped_left-from_none chars p bytes h found =
    take_rest bytes (length bytes) ∙ ap (λ n. drop n bytes) (sym (prefix_len-from_none (not_in chars) p bytes (outside h) found))

pub stripped_left-from_some : (chars : List ℕ) (p : ℕ → Bool) (bytes : List ℕ) (i : ℕ) → Holds chars p → IsFirstByte (not_in chars) bytes (Some i) → take (length bytes - i) (drop i bytes) ≡ stripped_left p bytes
stripped_left-from_some chars p bytes i h found =
    take_rest bytes i ∙ ap (λ n. drop n bytes) (sym (prefix_len-from_some (not_in chars) p bytes i (outside h) found))

pub stripped_right-from_none : (chars : List ℕ) (p : ℕ → Bool) (bytes : List ℕ) → Holds chars p → IsLastByte (not_in chars) bytes None → [] ≡ stripped_right p bytes
stripped_right-from_none chars p bytes h found =
    let none : length bytes - suffix_len p bytes ≡ 0 = omega (arith, suffix_len-from_none (not_in chars) p bytes (outside h) found) in
    ap (λ n. take n bytes) (sym none)

pub stripped_right-from_some : (chars : List ℕ) (p : ℕ → Bool) (bytes : List ℕ) (i : ℕ) → Holds chars p → IsLastByte (not_in chars) bytes (Some i) → take (i + 1) bytes ≡ stripped_right p bytes
stripped_right-from_some chars p bytes i h found =
    let high : i < length bytes = found.0.high in
    let kept : length bytes - suffix_len p bytes ≡ i + 1 = omega (arith, suffix_len-from_some (not_in chars) p bytes i (outside h) found) in
    ap (λ n. take n bytes) (sym kept)
