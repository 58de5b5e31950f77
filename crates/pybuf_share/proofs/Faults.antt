-- Receipts and sessions that are checked one after the other.
use Rattle.std.proofs.Common.{◌≡◌, ℕ, zero, suc, ◌+◌, ◌<◌, ◌≤◌, Bool, true, false, List, [], ◌∷◌, ◌++◌, length, map, take, drop, get_or, Option, Some, None, refl, ap, sym, ◌∙◌, subst, arith, append_assoc, true≢false}
use Rattle.std.specs.List.{All}
use Rattle.std.proofs.lemmas.List.{take-append-drop, drop_more}
use Rattle.std.proofs.lemmas.List.Elements.{All-append, All-more}
use Rattle.std.proofs.lemmas.List.Sums.{sum_by-cons}
use Rattle.std.proofs.lemmas.Option.{none-some, same_Some}
use Rattle.pybuf_command.specs.declared.kinds.ExporterKind.{ExporterKind}
use Rattle.pybuf_share.specs.declared.entries.Entry.{Entry}
use Rattle.pybuf_share.specs.declared.entries.Receipt.{Receipt}
use Rattle.pybuf_share.specs.declared.joined.FinishFault.{FinishFault}
use Rattle.pybuf_share.specs.declared.joined.FinishFault.TheVariants as fault
use Rattle.pybuf_share.specs.History.{Log}
use Rattle.pybuf_share.specs.Sessions.{Asker, new_session, sessions_from}
use Rattle.pybuf_share.specs.Finishing.{AreAll, Begins, NumbersRise, Refuses, numbers_from, parts_of, receipts_of, first_fall, order_fault, order_fault_or, Stands, IsRefused, Disagrees}

-- The numbers of fewer than two receipts rise.
pub fall_short : (rs : List Receipt) → length rs ≤ 1 → first_fall rs ≡ None
fall_short [] few = refl
fall_short (r ∷ []) few = refl
fall_short (r ∷ t ∷ rs) few = absurd (omega (arith, few))

-- One more receipt stands.
pub all_next : (entries : List Entry) (rs : List Receipt) (i : ℕ) (r : Receipt) → i < length rs → r ≡ get_or rs i r → All (Stands entries) (take i rs) → Stands entries r → All (Stands entries) (take (i + 1) rs)
all_next entries rs i r within read all here = All-more (Stands entries) rs i r within all (subst (λ (x : Receipt). Stands entries x) read here)

split_at : {X : Type 0} (xs : List X) (i : ℕ) (x : X) → i < length xs → x ≡ get_or xs i x → xs ≡ take i xs ++ x ∷ drop (i + 1) xs
split_at xs i x within read = sym (take-append-drop i xs) ∙ ap (λ ys. take i xs ++ ys) (drop_more xs i x within ∙ ap (λ y. y ∷ drop (i + 1) xs) (sym read))

-- This is the first receipt that doesn't stand.
pub disagrees_at : (entries : List Entry) (rs : List Receipt) (i : ℕ) (r : Receipt) (f : FinishFault) → i < length rs → r ≡ get_or rs i r → All (Stands entries) (take i rs) → IsRefused entries r f → Disagrees entries rs f
disagrees_at entries rs i r fault.NoMemory within read all why = tt
disagrees_at entries rs i r (fault.Disagree at kept got) within read all why = record { earlier = take i rs; receipt = r; later = drop (i + 1) rs; are = split_at rs i r within read; stand = all; away = why }
disagrees_at entries rs i r (fault.Order session before after) within read all why = absurd why
disagrees_at entries rs i r (fault.Opening given_kind given kept_kind kept) within read all why = absurd why

receipts_append : (xs ys : List Asker) → receipts_of (xs ++ ys) ≡ receipts_of xs ++ receipts_of ys
receipts_append [] ys = refl
receipts_append (x ∷ xs) ys = ap (λ (l : List Receipt). x.receipts ++ l) (receipts_append xs ys) ∙ sym (append_assoc x.receipts (receipts_of xs) (receipts_of ys))

-- This is the first of the receipts of all sessions that doesn't stand.
pub disagrees_in : (entries : List Entry) (ss : List Asker) (i : ℕ) (s : Asker) (f : FinishFault) → i < length ss → s ≡ get_or ss i s → All (Stands entries) (receipts_of (take i ss)) → Disagrees entries s.receipts f
    → Disagrees entries (receipts_of ss) f
disagrees_in entries ss i s fault.NoMemory within read all why = tt
disagrees_in entries ss i s (fault.Disagree at kept got) within read all why =
    let front = receipts_of (take i ss) in
    let behind = receipts_of (drop (i + 1) ss) in
    let whole : receipts_of ss ≡ front ++ (s.receipts ++ behind) = ap receipts_of (split_at ss i s within read) ∙ receipts_append (take i ss) (s ∷ drop (i + 1) ss) in
    let mine : s.receipts ++ behind ≡ why.earlier ++ why.receipt ∷ (why.later ++ behind) = ap (λ (l : List Receipt). l ++ behind) why.are ∙ append_assoc why.earlier (why.receipt ∷ why.later) behind in
    record {
      earlier = front ++ why.earlier;
      receipt = why.receipt;
      later = why.later ++ behind;
      are = whole ∙ ap (λ (l : List Receipt). front ++ l) mine ∙ sym (append_assoc front why.earlier (why.receipt ∷ (why.later ++ behind)));
      stand = All-append (Stands entries) front why.earlier all why.stand;
      away = why.away;
    }
disagrees_in entries ss i s (fault.Order session before after) within read all why = absurd why
disagrees_in entries ss i s (fault.Opening given_kind given kept_kind kept) within read all why = absurd why

abbrev pub is_order : FinishFault → Bool
is_order (fault.Order session before after) = true
is_order _ = false

order_or : (session : ℕ) (fall : Option (ℕ × ℕ)) (others : Option FinishFault) (f : FinishFault) → (others ≡ Some f → is_order f ≡ true) → order_fault_or session fall others ≡ Some f → is_order f ≡ true
order_or session None others f rest e = rest e
order_or session (Some pair) others f rest e = sym (ap is_order (same_Some {A = FinishFault} (fault.Order session pair.0 pair.1) f e))

pub order_only : (ss : List Asker) (f : FinishFault) → order_fault ss ≡ Some f → is_order f ≡ true
order_only [] f e = absurd (none-some {A = FinishFault} f e)
order_only (s ∷ ss) f e = order_or s.number (first_fall s.receipts) (order_fault ss) f (order_only ss f) e

-- Receipt numbers that don't rise are why the sessions are refused.
pub order_refuses : (log : Log) (k : ExporterKind) (bytes : List ℕ) (ss : List Asker) (f : FinishFault) → Begins log k bytes → order_fault ss ≡ Some f → Refuses log k bytes ss f
order_refuses log k bytes ss fault.NoMemory begins e = tt
order_refuses log k bytes ss (fault.Order session before after) begins e = record { begins = begins; first = e }
order_refuses log k bytes ss (fault.Disagree at kept got) begins e = absurd (true≢false (sym (order_only ss (fault.Disagree at kept got) e)))
order_refuses log k bytes ss (fault.Opening given_kind given kept_kind kept) begins e = absurd (true≢false (sym (order_only ss (fault.Opening given_kind given kept_kind kept) e)))

numbers_are : (k n : ℕ) → map (λ (s : Asker). s.number) (sessions_from k n) ≡ numbers_from k (length (sessions_from k n))
numbers_are k zero = refl
numbers_are k (suc n) = ap (λ (l : List ℕ). k ∷ l) (numbers_are (suc k) n)

parts_are : (k n : ℕ) → parts_of (sessions_from k n) ≡ n
parts_are k zero = refl
parts_are k (suc n) =
    let rest = parts_are (suc k) n in
    let sum = sum_by-cons (λ (s : Asker). s.parts) (new_session k) (sessions_from (suc k) n) in
    omega (arith, rest, sum)

-- The sessions at the beginning are all sessions.
pub all_made : (ss : List Asker) (n parts : ℕ) → ss ≡ sessions_from 0 n → n ≡ parts → AreAll parts ss
all_made ss n parts are many = subst (λ (l : List Asker). AreAll parts l) (sym are) (record { numbers = numbers_are 0 n; whole = parts_are 0 n ∙ many })

-- A receipt that doesn't stand is why the sessions are refused.
pub disagreement_refuses : (log : Log) (k : ExporterKind) (bytes : List ℕ) (ss : List Asker) (f : FinishFault) → Begins log k bytes → NumbersRise ss → Disagrees log.entries (receipts_of ss) f → Refuses log k bytes ss f
disagreement_refuses log k bytes ss fault.NoMemory begins rise why = tt
disagreement_refuses log k bytes ss (fault.Disagree at kept got) begins rise why = record { begins = begins; rise = rise; first = why }
disagreement_refuses log k bytes ss (fault.Order session before after) begins rise why = absurd why
disagreement_refuses log k bytes ss (fault.Opening given_kind given kept_kind kept) begins rise why = absurd why
