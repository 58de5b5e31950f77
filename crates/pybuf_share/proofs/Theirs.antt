-- Receipts stand at rising numbers, and there are as many as entries. Then they are exactly the entries of
-- their sessions.
use Rattle.std.proofs.Common.{◌≡◌, ◌⊎◌, ℕ, zero, suc, ◌+◌, ◌-◌, ◌<◌, ◌≤◌, ◌==◌, Bool, true, false, List, [], ◌∷◌, ◌++◌, length, map, Option, Some, None, slice_get, nat_lt, if◌then◌else◌, refl, ap, sym, ◌∙◌, arith, inl, inr}
use Rattle.std.specs.List.{All}
use Rattle.std.proofs.lemmas.Bool.{cases_order}
use Rattle.std.proofs.lemmas.List.{nil_from_length, length-append}
use Rattle.std.proofs.lemmas.List.Elements.{All-nil, All-cons, All-head, All-tail}
use Rattle.std.proofs.lemmas.List.Sums.{sum_by-cons}
use Rattle.std.proofs.lemmas.Option.{none-some, same_Some}
use Rattle.pybuf_share.specs.declared.entries.Entry.{Entry}
use Rattle.pybuf_share.specs.declared.entries.Receipt.{Receipt}
use Rattle.pybuf_share.specs.declared.joined.FinishFault.{FinishFault}
use Rattle.pybuf_share.specs.declared.joined.FinishFault.TheVariants as fault
use Rattle.pybuf_share.specs.Sessions.{Asker}
use Rattle.pybuf_share.specs.Joining.{entries_of}
use Rattle.pybuf_share.specs.Finishing.{numbers_from, receipts_of, first_fall, order_fault, order_fault_or, NumbersRise, Stands, AreTheirs, calls_of}

-- The numbers of the receipts rise from `low` on.
abbrev RiseFrom : ℕ → List Receipt → Type 0
RiseFrom o [] = Unit {0}
RiseFrom o (r ∷ rs) = (o ≤ r.at) × RiseFrom (suc r.at) rs

-- The receipts of a session stand in what is left of a history, from a number on.
abbrev StandFrom : ℕ → ℕ → List Entry → List Receipt → Type 0
StandFrom s o h [] = Unit {0}
StandFrom s o h (r ∷ rs) = (slice_get h (r.at - o) ≡ Some r.entry) × (r.entry.session ≡ s) × StandFrom s o h rs

-- What holds of two lists, one behind the other, holds of each.
All-front : (P : Receipt → Type 0) (xs ys : List Receipt) → All P (xs ++ ys) → All P xs
All-front P [] ys all = All-nil P
All-front P (x ∷ xs) ys all = All-cons P x xs (All-head P x (xs ++ ys) all) (All-front P xs ys (All-tail P x (xs ++ ys) all))

pub All-behind : (P : Receipt → Type 0) (xs ys : List Receipt) → All P (xs ++ ys) → All P ys
All-behind P [] ys all = all
All-behind P (x ∷ xs) ys all = All-behind P xs ys (All-tail P x (xs ++ ys) all)

falls_by : (r t : Receipt) (rs : List Receipt) (b : Bool) → nat_lt r.at t.at ≡ b → first_fall (r ∷ t ∷ rs) ≡ None → (r.at < t.at) × (first_fall (t ∷ rs) ≡ None)
falls_by r t rs true is none = (grind (arith, is), sym (ap (λ (b : Bool). if b then first_fall (t ∷ rs) else Some (r.at, t.at)) is) ∙ none)
falls_by r t rs false is none =
    let some : Some (r.at, t.at) ≡ None = sym (ap (λ (b : Bool). if b then first_fall (t ∷ rs) else Some (r.at, t.at)) is) ∙ none in
    absurd (none-some {A = ℕ × ℕ} (r.at, t.at) (sym some))

rise_from : (o : ℕ) (r : Receipt) (rs : List Receipt) → o ≤ r.at → first_fall (r ∷ rs) ≡ None → RiseFrom o (r ∷ rs)
rise_from o r [] low none = (low, tt)
rise_from o r (t ∷ rs) low none = let both = falls_by r t rs (nat_lt r.at t.at) refl none in (low, rise_from (suc r.at) t rs both.0 both.1)

rise_all : (rs : List Receipt) → first_fall rs ≡ None → RiseFrom 0 rs
rise_all [] none = tt
rise_all (r ∷ rs) none = rise_from 0 r rs (omega arith) none

stand_all : (s : ℕ) (h : List Entry) (rs : List Receipt) → All (Stands h) rs → All (λ r. r.entry.session ≡ s) rs → StandFrom s 0 h rs
stand_all s h [] stand own = tt
stand_all s h (r ∷ rs) stand own =
    let same : r.at - 0 ≡ r.at = omega arith in (
      ap (λ n. slice_get h n) same ∙ All-head (Stands h) r rs stand,
      All-head (λ x. x.entry.session ≡ s) r rs own,
      stand_all s h rs (All-tail (Stands h) r rs stand) (All-tail (λ x. x.entry.session ≡ s) r rs own),
    )

-- What stands behind the first entry stands in the rest.
stand_on : (s o low : ℕ) (x : Entry) (h : List Entry) (rs : List Receipt) → suc o ≤ low → RiseFrom low rs → StandFrom s o (x ∷ h) rs → StandFrom s (suc o) h rs
stand_on s o low x h [] over rise stand = tt
stand_on s o low x h (r ∷ rs) over rise stand =
    let first = rise.0 in
    let next : r.at - o ≡ suc (r.at - suc o) = omega (arith, over, first) in (
      sym (ap (λ n. slice_get (x ∷ h) n) next) ∙ stand.0,
      stand.1,
      stand_on s o (suc r.at) x h rs (omega (arith, over, first)) rise.1 stand.2,
    )

rise_on : (o low : ℕ) (rs : List Receipt) → o ≤ low → RiseFrom low rs → RiseFrom o rs
rise_on o low [] le rise = tt
rise_on o low (r ∷ rs) le rise = let first = rise.0 in (omega (arith, le, first), rise.1)

-- A session has at most as many receipts as entries. If it has as many, its entries are those of its receipts.
abbrev Exact : List Entry → List Receipt → Type 0
Exact xs rs = (length rs ≤ length xs) × (length rs ≡ length xs → xs ≡ map (λ r. r.entry) rs)

exact_here : (s : ℕ) (x : Entry) (h : List Entry) (r : Receipt) (rs : List Receipt) → x ≡ r.entry → (x.session == s) ≡ true → Exact (entries_of s h) rs → Exact (entries_of s (x ∷ h)) (r ∷ rs)
exact_here s x h r rs same is rest =
    let at_most = rest.0 in
    rw is (omega (arith, at_most), λ e. ap (λ (y : Entry). y ∷ entries_of s h) same ∙ ap (λ ys. r.entry ∷ ys) (rest.1 (omega (arith, e))))

exact_past : (s : ℕ) (x : Entry) (h : List Entry) (rs : List Receipt) (b : Bool) → (x.session == s) ≡ b → Exact (entries_of s h) rs → Exact (entries_of s (x ∷ h)) rs
exact_past s x h rs true is rest = let at_most = rest.0 in rw is (omega (arith, at_most), λ e. absurd (omega (arith, e, at_most)))
exact_past s x h rs false is rest = rw is rest

exact_at : (s o : ℕ) (x : Entry) (h : List Entry) (r : Receipt) (rs : List Receipt) → ((qs : List Receipt) → RiseFrom (suc o) qs → StandFrom s (suc o) h qs → Exact (entries_of s h) qs)
    → RiseFrom o (r ∷ rs) → StandFrom s o (x ∷ h) (r ∷ rs) → (r.at ≡ o) ⊎ ((r.at < o) ⊎ (o < r.at)) → Exact (entries_of s (x ∷ h)) (r ∷ rs)
exact_at s o x h r rs rest rise stand (inl same) =
    let none : r.at - o ≡ 0 = omega (arith, same) in
    let entry : x ≡ r.entry = same_Some x r.entry (sym (ap (λ n. slice_get (x ∷ h) n) none) ∙ stand.0) in
    let own : x.session ≡ s = ap (λ (y : Entry). y.session) entry ∙ stand.1 in
    let next = rise_on (suc o) (suc r.at) rs (omega (arith, same)) rise.1 in
    exact_here s x h r rs entry (grind (arith, own)) (rest rs next (stand_on s o (suc o) x h rs (omega arith) next stand.2))
exact_at s o x h r rs rest rise stand (inr (inl less)) = let low = rise.0 in absurd (omega (arith, low, less))
exact_at s o x h r rs rest rise stand (inr (inr more)) =
    let next : RiseFrom (suc o) (r ∷ rs) = (omega (arith, more), rise.1) in
    exact_past s x h (r ∷ rs) (x.session == s) refl (rest (r ∷ rs) next (stand_on s o (suc o) x h (r ∷ rs) (omega arith) next stand))

exact : (s o : ℕ) (h : List Entry) (rs : List Receipt) → RiseFrom o rs → StandFrom s o h rs → Exact (entries_of s h) rs
exact s o h [] rise stand = (omega arith, λ e. nil_from_length (entries_of s h) (sym e))
exact s o [] (r ∷ rs) rise stand = absurd (none-some {A = Entry} r.entry stand.0)
exact s o (x ∷ h) (r ∷ rs) rise stand = exact_at s o x h r rs (exact s (suc o) h) rise stand (cases_order r.at o)

-- how many entries these sessions have together
abbrev pub many_of : List Entry → List ℕ → ℕ
many_of h [] = 0
many_of h (k ∷ ks) = length (entries_of k h) + many_of h ks

-- A number is one more than another if something holds, and otherwise the same.
abbrev pub MoreIf : Type 0 → ℕ → ℕ → Type 0
MoreIf P new old = (P × (new ≡ old + 1)) ⊎ ((P → ⊥) × (new ≡ old))

-- A session is one of n sessions from a number on.
abbrev pub Among : ℕ → ℕ → ℕ → Type 0
Among a n s = (a ≤ s) × (s < a + n)

more_by : (x : Entry) (h : List Entry) (k : ℕ) (b : Bool) → (x.session == k) ≡ b → MoreIf (x.session ≡ k) (length (entries_of k (x ∷ h))) (length (entries_of k h))
more_by x h k true is = inl (grind (arith, is), rw is (omega arith))
more_by x h k false is = inr (λ e. grind (arith, is, e), rw is refl)

not_first : (a n s : ℕ) → (s ≡ a → ⊥) → (Among (suc a) n s → ⊥) → Among a (suc n) s → (s ≡ a) ⊎ ((s < a) ⊎ (a < s)) → ⊥
not_first a n s here there in' (inl same) = here same
not_first a n s here there in' (inr (inl less)) = let low = in'.0 in omega (arith, low, less)
not_first a n s here there in' (inr (inr more)) = let high = in'.1 in there (omega (arith, more), omega (arith, high))

either_more : (a n s here_new here_old there_new there_old : ℕ) → MoreIf (s ≡ a) here_new here_old → MoreIf (Among (suc a) n s) there_new there_old → MoreIf (Among a (suc n) s) (here_new + there_new) (here_old + there_old)
either_more a n s hn ho tn to (inl here) (inl there) = let e = here.0 in let l = there.0.0 in absurd (omega (arith, e, l))
either_more a n s hn ho tn to (inl here) (inr there) = let e = here.0 in let m = here.1 in let k = there.1 in inl ((omega (arith, e), omega (arith, e)), omega (arith, m, k))
either_more a n s hn ho tn to (inr here) (inl there) = let m = here.1 in let l = there.0.0 in let u = there.0.1 in let k = there.1 in inl ((omega (arith, l), omega (arith, u)), omega (arith, m, k))
either_more a n s hn ho tn to (inr here) (inr there) = let m = here.1 in let k = there.1 in inr (λ in'. not_first a n s here.0 there.0 in' (cases_order s a), omega (arith, m, k))

-- One more entry is one more of one of these sessions, or of none.
pub many_more : (x : Entry) (h : List Entry) (a n : ℕ) → MoreIf (Among a n x.session) (many_of (x ∷ h) (numbers_from a n)) (many_of h (numbers_from a n))
many_more x h a zero = inr (λ in'. let low = in'.0 in let high = in'.1 in omega (arith, low, high), refl)
many_more x h a (suc n) =
    either_more a n x.session (length (entries_of a (x ∷ h))) (length (entries_of a h)) (many_of (x ∷ h) (numbers_from (suc a) n)) (many_of h (numbers_from (suc a) n))
    (more_by x h a (x.session == a) refl)
    (many_more x h (suc a) n)

pub many_none : (ks : List ℕ) → many_of [] ks ≡ 0
many_none [] = refl
many_none (k ∷ ks) = let rest = many_none ks in omega (arith, rest)

many_by : (x : Entry) (h : List Entry) (n : ℕ) → many_of h (numbers_from 0 n) ≤ length h → MoreIf (Among 0 n x.session) (many_of (x ∷ h) (numbers_from 0 n)) (many_of h (numbers_from 0 n)) → many_of (x ∷ h) (numbers_from 0 n) ≤ length (x ∷ h)
many_by x h n le (inl more) = let e = more.1 in omega (arith, le, e)
many_by x h n le (inr same) = let e = same.1 in omega (arith, le, e)

many_at_most : (h : List Entry) (n : ℕ) → many_of h (numbers_from 0 n) ≤ length h
many_at_most [] n = let none = many_none (numbers_from 0 n) in omega (arith, none)
many_at_most (x ∷ h) n = many_by x h n (many_at_most h n) (many_more x h 0 n)

-- If all entries are counted, each entry's session is one of these.
known_by : (x : Entry) (h : List Entry) (n : ℕ) → (many_of h (numbers_from 0 n) ≡ length h → All (λ y. y.session < n) h) → many_of (x ∷ h) (numbers_from 0 n) ≡ length (x ∷ h)
    → MoreIf (Among 0 n x.session) (many_of (x ∷ h) (numbers_from 0 n)) (many_of h (numbers_from 0 n)) → All (λ y. y.session < n) (x ∷ h)
known_by x h n rest e (inl more) = let high = more.0.1 in let m = more.1 in All-cons (λ y. y.session < n) x h (omega (arith, high)) (rest (omega (arith, e, m)))
known_by x h n rest e (inr same) = let m = same.1 in let le = many_at_most h n in absurd (omega (arith, e, m, le))

all_known : (h : List Entry) (n : ℕ) → many_of h (numbers_from 0 n) ≡ length h → All (λ x. x.session < n) h
all_known [] n e = All-nil (λ (x : Entry). x.session < n)
all_known (x ∷ h) n e = known_by x h n (all_known h n) e (many_more x h 0 n)

-- The same holds of each of these sessions.
abbrev AllExact : List Entry → List Asker → Type 0
AllExact h [] = Unit {0}
AllExact h (s ∷ ss) = Exact (entries_of s.number h) s.receipts × AllExact h ss

rises_by : (session : ℕ) (fall : Option (ℕ × ℕ)) (ss : List Asker) → order_fault_or session fall (order_fault ss) ≡ None → (fall ≡ None) × NumbersRise ss
rises_by session None ss none = (refl, none)
rises_by session (Some pair) ss none = absurd (none-some {A = FinishFault} (fault.Order session pair.0 pair.1) (sym none))

all_exact : (h : List Entry) (ss : List Asker) → NumbersRise ss → All (Stands h) (receipts_of ss) → All (λ s. All (λ r. r.entry.session ≡ s.number) s.receipts) ss → AllExact h ss
all_exact h [] rise stand own = tt
all_exact h (s ∷ ss) rise stand own =
    let both = rises_by s.number (first_fall s.receipts) ss rise in
    let mine = All-head (λ t. All (λ r. r.entry.session ≡ t.number) t.receipts) s ss own in
    let stands = All-front (Stands h) s.receipts (receipts_of ss) stand in
    let behind = All-behind (Stands h) s.receipts (receipts_of ss) stand in (
      exact s.number 0 h s.receipts (rise_all s.receipts both.0) (stand_all s.number h s.receipts stands mine),
      all_exact h ss both.1 behind (All-tail (λ t. All (λ r. r.entry.session ≡ t.number) t.receipts) s ss own),
    )

exact_at_most : (h : List Entry) (ss : List Asker) → AllExact h ss → length (receipts_of ss) ≤ many_of h (map (λ s. s.number) ss)
exact_at_most h [] all = omega arith
exact_at_most h (s ∷ ss) all =
    let here = all.0.0 in
    let there = exact_at_most h ss all.1 in
    let sum = length-append s.receipts (receipts_of ss) in
    omega (arith, here, there, sum)

-- If there are as many receipts as entries, no entry is left out.
exact_all : (h : List Entry) (ss : List Asker) → AllExact h ss → length (receipts_of ss) ≡ many_of h (map (λ s. s.number) ss) → All (λ s. entries_of s.number h ≡ map (λ r. r.entry) s.receipts) ss
exact_all h [] all e = All-nil (λ s. entries_of s.number h ≡ map (λ r. r.entry) s.receipts)
exact_all h (s ∷ ss) all e =
    let here = all.0.0 in
    let there = exact_at_most h ss all.1 in
    let sum = length-append s.receipts (receipts_of ss) in
    All-cons (λ t. entries_of t.number h ≡ map (λ r. r.entry) t.receipts) s ss (all.0.1 (omega (arith, e, here, there, sum))) (exact_all h ss all.1 (omega (arith, e, here, there, sum)))

calls_are : (ss : List Asker) → All (λ s. s.calls ≡ length s.receipts) ss → calls_of ss ≡ length (receipts_of ss)
calls_are [] all = refl
calls_are (s ∷ ss) all =
    let here = All-head (λ t. t.calls ≡ length t.receipts) s ss all in
    let there = calls_are ss (All-tail (λ t. t.calls ≡ length t.receipts) s ss all) in
    let sum = length-append s.receipts (receipts_of ss) in
    let calls = sum_by-cons (λ t. t.calls) s ss in
    omega (arith, here, there, sum, calls)

-- A history is that of its sessions if their receipts stand in it at rising numbers, each is of an entry of its
-- session, and there are as many as entries.
pub theirs : (h : List Entry) (ss : List Asker) → map (λ s. s.number) ss ≡ numbers_from 0 (length ss) → NumbersRise ss → All (Stands h) (receipts_of ss)
    → All (λ s. s.calls ≡ length s.receipts) ss → All (λ s. All (λ r. r.entry.session ≡ s.number) s.receipts) ss → length h ≡ calls_of ss → AreTheirs ss h
theirs h ss numbers rise stand counted own total =
    let all = all_exact h ss rise stand own in
    let calls = calls_are ss counted in
    let few = exact_at_most h ss all in
    let these : many_of h (map (λ s. s.number) ss) ≡ many_of h (numbers_from 0 (length ss)) = ap (many_of h) numbers in
    let most = many_at_most h (length ss) in
    record {
      as_many = total ∙ calls;
      known = all_known h (length ss) (omega (arith, total, calls, few, these, most));
      each = exact_all h ss all (omega (arith, total, calls, few, these, most));
    }
