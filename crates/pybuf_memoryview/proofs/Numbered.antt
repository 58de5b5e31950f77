-- Items are named by their entries.
use Rattle.std.proofs.Common.{◌≡◌, ℕ, zero, suc, ◌+◌, ◌*◌, ◌<◌, List, [], ◌∷◌, map, ap, ap₂, sym, ◌∙◌, refl, subst, arith, mul_comm}
use Rattle.std.specs.Prelude.{◌/◌, ◌%◌, pos, Result, Ok}
use Rattle.std.proofs.lemmas.Grind.{common_steps}
use Rattle.std.proofs.lemmas.Nat.{mul-add-lt, div-mul-add, div-add-mod'}
use Rattle.std.proofs.Math.Nat.{div-lt_iff_lt-mul, mod-lt}
use Rattle.pybuf_value.specs.declared.faults.Fault.{Fault}
use Rattle.pybuf_value.specs.Refusing.{◌>>=◌}
use Rattle.pybuf_index.specs.Places.{entry_in}
use Rattle.pybuf_desc.specs.Layouts.{product}
use Rattle.pybuf_memoryview.specs.Keys.{item_at_indices}
use Rattle.pybuf_memoryview.specs.Laws.{AreEntries, ItemsHaveTheirEntries}

-- the number of the item at entries
abbrev number : List ℕ → List ℕ → ℕ
number (n ∷ shape) (entry ∷ entries) = entry * product shape + number shape entries
number _ _ = 0

entry_is : (n entry : ℕ) → entry < n → entry_in n (pos entry) ≡ Ok entry
entry_is n entry below = grind (arith, common_steps, below)

is_numbered : (shape entries : List ℕ) → AreEntries shape entries → item_at_indices shape (map pos entries) ≡ Ok (number shape entries)
is_numbered [] [] are = refl
is_numbered [] (entry ∷ entries) are = absurd are
is_numbered (n ∷ shape) [] are = absurd are
is_numbered (n ∷ shape) (entry ∷ entries) are =
    ap₂ (λ (first others : Result ℕ Fault). first >>= λ e. others >>= λ i. Ok (e * product shape + i)) (entry_is n entry are.0) (is_numbered shape entries are.1)

number_below : (shape entries : List ℕ) → AreEntries shape entries → number shape entries < product shape
number_below [] [] are = omega arith
number_below [] (entry ∷ entries) are = absurd are
number_below (n ∷ shape) [] are = absurd are
number_below (n ∷ shape) (entry ∷ entries) are =
    subst (λ (most : ℕ). entry * product shape + number shape entries < most) (mul_comm (product shape) n)
    (mul-add-lt entry (product shape) (number shape entries) n are.0 (number_below shape entries are.1))

cancelled : (a b c d : ℕ) → a ≡ c → a + b ≡ c + d → b ≡ d
cancelled a b c d same sums = omega (arith, same, sums)

same_entries : (shape entries others : List ℕ) → AreEntries shape entries → AreEntries shape others → number shape entries ≡ number shape others → entries ≡ others
same_entries [] [] [] are also same = refl
same_entries [] (entry ∷ entries) others are also same = absurd are
same_entries [] [] (other ∷ others) are also same = absurd also
same_entries (n ∷ shape) [] others are also same = absurd are
same_entries (n ∷ shape) (entry ∷ entries) [] are also same = absurd also
same_entries (n ∷ shape) (entry ∷ entries) (other ∷ others) are also same =
    let first : entry ≡ other =
    sym (div-mul-add entry (product shape) (number shape entries) (number_below shape entries are.1))
    ∙ ap (λ (k : ℕ). k / product shape) same
    ∙ div-mul-add other (product shape) (number shape others) (number_below shape others also.1) in
    let rest : number shape entries ≡ number shape others =
    cancelled (entry * product shape) (number shape entries) (other * product shape) (number shape others) (ap (λ (k : ℕ). k * product shape) first) same in
    ap₂ (λ (e : ℕ) (es : List ℕ). e ∷ es) first (same_entries shape entries others are.1 also.1 rest)

-- the entries of an item
record IsNumbered (shape : List ℕ) (item : ℕ) : Type 0 where
  entries : List ℕ
  there : AreEntries shape entries
  is : number shape entries ≡ item

some_more : (item n p : ℕ) → item < n * p → 0 < p
some_more item n zero below = absurd (let none : n * 0 ≡ 0 = omega arith in omega (arith, below, none))
some_more item n (suc p) below = omega arith

with_entries : (shape : List ℕ) (item : ℕ) → item < product shape → IsNumbered shape item
with_entries [] item below = record { entries = []; there = tt; is = omega (arith, below) }
with_entries (n ∷ shape) item below =
    let some : 0 < product shape = some_more item n (product shape) below in
    let rest = with_entries shape (item % product shape) (mod-lt item some) in
    record {
      entries = item / product shape ∷ rest.entries;
      there = ((div-lt_iff_lt-mul some).1 below, rest.there);
      is = ap (λ (k : ℕ). item / product shape * product shape + k) rest.is ∙ div-add-mod' item (product shape);
    }

abbrev okay : ℕ → Result ℕ Fault
okay n = Ok n

same_number : (a b : ℕ) → okay a ≡ okay b → a ≡ b
same_number a b is = cc

pub own_entries : ItemsHaveTheirEntries
own_entries shape item below =
    let own = with_entries shape item below in
    record {
      entries = own.entries;
      there = own.there;
      named = is_numbered shape own.entries own.there ∙ ap (λ (n : ℕ). okay n) own.is;
      alone = λ others are named.
          same_entries shape others own.entries are own.there (same_number (number shape others) item (sym (is_numbered shape others are) ∙ named) ∙ sym own.is);
    }
