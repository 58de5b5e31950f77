-- The receipts of a session follow its script, one command at a time.
use Rattle.std.proofs.Common.{◌≡◌, ℕ, suc, ◌+◌, ◌<◌, true, List, [], ◌∷◌, ◌++◌, length, map, take, drop, get_or, subst, Option, Some, None, slice_get, refl, ap, ap₂, sym, ◌∙◌, arith, append_assoc}
use Rattle.std.specs.List.{All, flat_map, Contains}
use Rattle.std.proofs.lemmas.Bool.{and_parts, and_from}
use Rattle.std.proofs.lemmas.List.{append-nil, length-map, map_push, take_more}
use Rattle.std.proofs.lemmas.List.Elements.{All-nil, All-cons, All-weaker}
use Rattle.pybuf_command.specs.declared.commands.LocalCommand.{LocalCommand}
use Rattle.pybuf_command.specs.declared.commands.LocalReply.{LocalReply}
use Rattle.pybuf_command.specs.declared.loans.Loan.{Loan}
use Rattle.pybuf_command.specs.declared.loans.Loan.TheVariants as loan
use Rattle.pybuf_state.specs.Fits.{fits, all_fit}
use Rattle.pybuf_share.specs.declared.entries.Entry.{Entry}
use Rattle.pybuf_share.specs.declared.entries.Receipt.{Receipt}
use Rattle.pybuf_share.specs.Sessions.{view_given, iterator_given, replies_given}
use Rattle.pybuf_share.specs.Joining.{view_lent, iterator_lent, resolved_loan, resolved_loans, resolve, resolved_from, Follows}

-- What is lent fits, after the number that it counts is looked up.
view_fits : (given : Option ℕ) → fits (view_lent given) ≡ true
view_fits (Some k) = refl
view_fits None = refl

iterator_fits : (given : Option ℕ) → fits (iterator_lent given) ≡ true
iterator_fits (Some k) = refl
iterator_fits None = refl

loan_fits : (replies : List LocalReply) (l : Loan) → fits l ≡ true → fits (resolved_loan replies l) ≡ true
loan_fits replies loan.Own fit = refl
loan_fits replies (loan.View k) fit = view_fits (slice_get (flat_map view_given replies) k)
loan_fits replies (loan.Iter k) fit = iterator_fits (slice_get (flat_map iterator_given replies) k)
loan_fits replies (loan.Other snap) fit = fit
loan_fits replies loan.Missing fit = refl

pub loans_fit : (replies : List LocalReply) (loans : List (ℕ × Loan)) → all_fit loans ≡ true → all_fit (resolved_loans replies loans) ≡ true
loans_fit replies [] fit = refl
loans_fit replies (pair ∷ pairs) fit =
    let parts = and_parts (fits pair.1) (all_fit pairs) fit in
    and_from (fits (resolved_loan replies pair.1)) (all_fit (resolved_loans replies pairs)) (loan_fits replies pair.1 parts.0) (loans_fit replies pairs parts.1)

resolved_length : (before replies : List LocalReply) (script : List LocalCommand) → length (resolved_from before replies script) ≡ length script
resolved_length before replies [] = refl
resolved_length before [] (c ∷ cs) = let rest = resolved_length before [] cs in omega (arith, rest)
resolved_length before (r ∷ rs) (c ∷ cs) = let rest = resolved_length (before ++ r ∷ []) rs cs in omega (arith, rest)

-- one more command, and the reply to it
resolved_more : (before rs : List LocalReply) (cs : List LocalCommand) (r : LocalReply) (c : LocalCommand) → length rs ≡ length cs
    → resolved_from before (rs ++ r ∷ []) (cs ++ c ∷ []) ≡ resolved_from before rs cs ++ resolve c (before ++ rs) ∷ []
resolved_more before [] [] r c len = ap (λ (b : List LocalReply). resolve c b ∷ []) (sym (append-nil before))
resolved_more before [] (x ∷ cs) r c len = absurd (omega (arith, len))
resolved_more before (q ∷ rs) [] r c len = absurd (omega (arith, len))
resolved_more before (q ∷ rs) (x ∷ cs) r c len =
    ap (λ (l : List LocalCommand). resolve x before ∷ l)
    (
    resolved_more (before ++ q ∷ []) rs cs r c (omega (arith, len))
    ∙ ap (λ (b : List LocalReply). resolved_from (before ++ q ∷ []) rs cs ++ resolve c b ∷ []) (append_assoc before (q ∷ []) rs)
    )

pub follows_length : (xs : List Entry) (script : List LocalCommand) → Follows xs script → length xs ≡ length script
follows_length xs script follows =
    sym (length-map xs (λ (x : Entry). x.command)) ∙ ap length follows ∙ resolved_length [] (map (λ (x : Entry). x.reply) xs) script

follows_more : (xs : List Entry) (x : Entry) (script : List LocalCommand) (c : LocalCommand) → Follows xs script → x.command ≡ resolve c (map (λ (y : Entry). y.reply) xs) → Follows (xs ++ x ∷ []) (script ++ c ∷ [])
follows_more xs x script c follows is =
    let command_of : Entry → LocalCommand = λ y. y.command in
    let reply_of : Entry → LocalReply = λ y. y.reply in
    let as_many : length (map reply_of xs) ≡ length script = length-map xs reply_of ∙ follows_length xs script follows in
    map_push command_of xs x
    ∙ ap₂ (λ (l : List LocalCommand) (k : LocalCommand). l ++ k ∷ []) follows is
    ∙ sym (resolved_more [] (map reply_of xs) script x.reply c as_many)
    ∙ ap (λ (rs : List LocalReply). resolved_from [] rs (script ++ c ∷ [])) (sym (map_push reply_of xs x))

pub replies_are : (rs : List Receipt) → map (λ (x : Entry). x.reply) (map (λ (r : Receipt). r.entry) rs) ≡ replies_given rs
replies_are [] = refl
replies_are (r ∷ rs) = ap (λ (l : List LocalReply). r.entry.reply ∷ l) (replies_are rs)

-- A session with one more receipt follows one more command of its script.
pub follows_next : (rs new_rs : List Receipt) (r : Receipt) (script : List LocalCommand) (n : ℕ) (c : LocalCommand) → new_rs ≡ rs ++ r ∷ [] → n < length script → c ≡ get_or script n c
    → r.entry.command ≡ resolve c (replies_given rs) → Follows (map (λ r. r.entry) rs) (take n script) → Follows (map (λ r. r.entry) new_rs) (take (n + 1) script)
follows_next rs new_rs r script n c more within read is follows =
    let entry_of : Receipt → Entry = λ x. x.entry in
    let named : r.entry.command ≡ resolve c (map (λ (x : Entry). x.reply) (map entry_of rs)) = is ∙ ap (λ (l : List LocalReply). resolve c l) (sym (replies_are rs)) in
    let all : map entry_of new_rs ≡ map entry_of rs ++ r.entry ∷ [] = ap (map entry_of) more ∙ map_push entry_of rs r in
    let script_more : take (n + 1) script ≡ take n script ++ c ∷ [] = take_more script n c within ∙ ap (λ (x : LocalCommand). take n script ++ x ∷ []) (sym read) in
    subst (λ (xs : List Entry). Follows xs (take (n + 1) script)) (sym all)
    (subst (λ (cs : List LocalCommand). Follows (map entry_of rs ++ r.entry ∷ []) cs) (sym script_more) (follows_more (map entry_of rs) r.entry (take n script) c follows named))

-- A receipt's command is one of the script, and its views and iterators are named as some replies name them.
abbrev pub Named : List LocalCommand → Receipt → Type 0
Named script r = (c : LocalCommand) × (replies : List LocalReply) × Contains script c × (r.entry.command ≡ resolve c replies)

contains_more : (c x : LocalCommand) (cs : List LocalCommand) → Contains cs x → Contains (c ∷ cs) x
contains_more c x cs (k, within, is) = (suc k, omega (arith, within), is)

named_more : (c : LocalCommand) (cs : List LocalCommand) (r : Receipt) → Named cs r → Named (c ∷ cs) r
named_more c cs r (x, replies, has, is) = (x, replies, contains_more c x cs has, is)

pub same_first : (x y : LocalCommand) (xs ys : List LocalCommand) → x ∷ xs ≡ y ∷ ys → x ≡ y
same_first x y xs ys e = ap (λ (l : List LocalCommand). get_or l 0 x) e

pub same_rest : (x y : LocalCommand) (xs ys : List LocalCommand) → x ∷ xs ≡ y ∷ ys → xs ≡ ys
same_rest x y xs ys e = ap (λ (l : List LocalCommand). drop 1 l) e

named_from : (before : List LocalReply) (rs : List Receipt) (script : List LocalCommand)
    → map (λ (x : Entry). x.command) (map (λ (r : Receipt). r.entry) rs) ≡ resolved_from before (map (λ (x : Entry). x.reply) (map (λ (r : Receipt). r.entry) rs)) script → All (Named script) rs
named_from before [] script e = All-nil (Named script)
named_from before (r ∷ rs) [] e = let len = ap length e in absurd (omega (arith, len))
named_from before (r ∷ rs) (c ∷ cs) e =
    let entries = map (λ (x : Receipt). x.entry) rs in
    let xs = map (λ (x : Entry). x.command) entries in
    let ys = resolved_from (before ++ r.entry.reply ∷ []) (map (λ (x : Entry). x.reply) entries) cs in
    All-cons (Named (c ∷ cs)) r rs (c, before, (0, omega arith, refl), same_first r.entry.command (resolve c before) xs ys e)
    (All-weaker (Named cs) (Named (c ∷ cs)) (named_more c cs) rs (named_from (before ++ r.entry.reply ∷ []) rs cs (same_rest r.entry.command (resolve c before) xs ys e)))

-- If a session follows a script, each of its receipts is of one of the script's commands.
pub all_named : (rs : List Receipt) (script : List LocalCommand) → Follows (map (λ r. r.entry) rs) script → All (Named script) rs
all_named rs script follows = named_from [] rs script follows
