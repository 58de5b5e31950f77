-- Parts of histories: one more entry, two parts after each other, and why a part isn't handed over.
use Rattle.std.proofs.Common.{◌≡◌, ℕ, ◌+◌, List, [], ◌∷◌, ◌++◌, length, map, Some, refl, ap, sym, ◌∙◌, arith, length-append, true≢false}
use Rattle.std.specs.List.{All}
use Rattle.pybuf_command.specs.declared.commands.LocalCommand.{LocalCommand}
use Rattle.pybuf_command.specs.declared.commands.LocalReply.{LocalReply}
use Rattle.pybuf_command.specs.declared.kinds.ExporterKind.TheVariants as exporter_kind
use Rattle.pybuf_state.specs.Exporter.{Exporter}
use Rattle.pybuf_share.specs.declared.entries.Entry.{Entry}
use Rattle.pybuf_share.specs.declared.joined.FinishFault.{FinishFault}
use Rattle.pybuf_share.specs.declared.joined.FinishFault.TheVariants as fault
use Rattle.pybuf_share.specs.History.{step_by, after_entries, replies_along}
use Rattle.pybuf_share.specs.Sessions.{Asker}
use Rattle.pybuf_share.specs.Finishing.{calls_of, receipts_of, order_fault, NumbersRise, Disagrees, AreAll, IsOwn, ArePlain, AreTheirs}
use Rattle.pybuf_share.specs.Laws.{stepped_through, replied_to, AreOnePart, IsOfOneThreadFrom}
use Rattle.pybuf_share.specs.Parts.{IsLegalFrom, IsKeptFrom, AgreeWith, RefusesEntries, RefusesPart, entry_from}
use Rattle.pybuf_share.proofs.Faults.{order_only}
use Rattle.pybuf_share.proofs.Joins.{refused_at_last}
use Rattle.pybuf_share.proofs.Replays.{after_more, legal_more}
use Rattle.pybuf_share.proofs.Theirs.{theirs}

-- what is kept of a part after one more command
pub kept_more : (e : Exporter) (xs : List Entry) (session : ℕ) (command : LocalCommand) (old new : Exporter) (total : ℕ) → IsKeptFrom e xs old total → new ≡ (step_by (after_entries e xs) command).0
    → IsKeptFrom e (xs ++ entry_from e xs session command ∷ []) new (total + 1)
kept_more e xs session command old new total kept moved = record {
  replays = moved ∙ sym (after_more e xs (entry_from e xs session command));
  legal = legal_more e xs (entry_from e xs session command) kept.legal refl;
  counted = omega (arith, kept.counted, length-append xs (entry_from e xs session command ∷ []));
}

after_both : (e : Exporter) (xs ys : List Entry) → after_entries e (xs ++ ys) ≡ after_entries (after_entries e xs) ys
after_both e [] ys = refl
after_both e (x ∷ xs) ys = after_both (step_by e x.command).0 xs ys

replies_both : (e : Exporter) (xs ys : List Entry) → replies_along e (xs ++ ys) ≡ replies_along e xs ++ replies_along (after_entries e xs) ys
replies_both e [] ys = refl
replies_both e (x ∷ xs) ys = ap (λ (l : List LocalReply). (step_by e x.command).1 ∷ l) (replies_both (step_by e x.command).0 xs ys)

told_both : (xs ys : List Entry) → map (λ x. x.reply) (xs ++ ys) ≡ map (λ x. x.reply) xs ++ map (λ x. x.reply) ys
told_both [] ys = refl
told_both (x ∷ xs) ys = ap (λ (l : List LocalReply). x.reply ∷ l) (told_both xs ys)

-- Two legal parts, one after the other, are one.
pub one_part : (e : Exporter) (xs ys : List Entry) → IsLegalFrom e xs → IsLegalFrom (after_entries e xs) ys → AreOnePart e xs ys
one_part e xs ys first second = record {
  legal =
      told_both xs ys
      ∙ ap (λ (l : List LocalReply). l ++ map (λ (y : Entry). y.reply) ys) first
      ∙ ap (λ (l : List LocalReply). replies_along e xs ++ l) second
      ∙ sym (replies_both e xs ys);
  leads = after_both e xs ys;
}

replay_is : (e : Exporter) (xs : List Entry) → after_entries e xs ≡ stepped_through e (map (λ x. x.command) xs)
replay_is e [] = refl
replay_is e (x ∷ xs) = replay_is (step_by e x.command).0 xs

replies_are : (e : Exporter) (xs : List Entry) → replies_along e xs ≡ replied_to e (map (λ x. x.command) xs)
replies_are e [] = refl
replies_are e (x ∷ xs) = ap (λ (l : List LocalReply). (step_by e x.command).1 ∷ l) (replies_are (step_by e x.command).0 xs)

-- A legal part is what one thread gets.
pub of_one_thread : (e : Exporter) (xs : List Entry) → IsLegalFrom e xs → IsOfOneThreadFrom e xs
of_one_thread e xs legal = record { exporter = replay_is e xs; replies = legal ∙ replies_are e xs }

-- Receipt numbers that don't rise are why the sessions are refused.
pub order_refuses_entries : (entries : List Entry) (ss : List Asker) (f : FinishFault) → order_fault ss ≡ Some f → RefusesEntries entries ss f
order_refuses_entries entries ss fault.NoMemory e = tt
order_refuses_entries entries ss (fault.Order session before after) e = e
order_refuses_entries entries ss (fault.Disagree at kept got) e = absurd (true≢false (sym (order_only ss (fault.Disagree at kept got) e)))
order_refuses_entries entries ss (fault.Opening given_kind given kept_kind kept) e = absurd (true≢false (sym (order_only ss (fault.Opening given_kind given kept_kind kept) e)))

-- A receipt that doesn't stand is why the sessions are refused.
pub disagreement_refuses_entries : (entries : List Entry) (ss : List Asker) (f : FinishFault) → NumbersRise ss → Disagrees entries (receipts_of ss) f → RefusesEntries entries ss f
disagreement_refuses_entries entries ss fault.NoMemory rise why = tt
disagreement_refuses_entries entries ss (fault.Disagree at kept got) rise why = (rise, why)
disagreement_refuses_entries entries ss (fault.Order session before after) rise why = absurd why
disagreement_refuses_entries entries ss (fault.Opening given_kind given kept_kind kept) rise why = absurd why

-- why the part isn't handed over, as far as the receipts tell
pub refused_part : (entries : List Entry) (ss : List Asker) (f : FinishFault) → length entries ≡ calls_of ss → RefusesEntries entries ss f → RefusesPart ss f
refused_part entries ss fault.NoMemory counted why = tt
refused_part entries ss (fault.Order session before after) counted why = why
refused_part entries ss (fault.Opening given_kind given kept_kind kept) counted why = absurd why
refused_part entries ss (fault.Disagree at kept got) counted why =
    refused_at_last (record { kind = exporter_kind.Bytes; opening = []; entries = entries }) (record { kind = exporter_kind.Bytes; bytes = [] }) ss (fault.Disagree at kept got) counted
    (record { begins = record { same_kind = refl; same_bytes = refl }; rise = why.0; first = why.1 })

-- The part is that of the sessions.
pub theirs_of_part : (entries : List Entry) (ss : List Asker) (parts : ℕ) → AgreeWith entries ss → AreAll parts ss → All IsOwn ss → length entries ≡ calls_of ss → ArePlain ss → AreTheirs ss entries
theirs_of_part entries ss parts agree all own counted plain =
    theirs entries ss all.numbers agree.rise agree.stand (λ i d within. (own i d within).counted (plain i d within)) (λ i d within. (own i d within).own (plain i d within)) counted
