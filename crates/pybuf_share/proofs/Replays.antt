-- A history gets one more entry.
use Rattle.std.proofs.Common.{◌≡◌, ℕ, ◌+◌, List, [], ◌∷◌, ◌++◌, map, refl, ap, sym, ◌∙◌, arith, length-append}
use Rattle.pybuf_command.specs.declared.commands.LocalCommand.{LocalCommand}
use Rattle.pybuf_state.specs.Exporter.{Exporter, new_exporter}
use Rattle.pybuf_share.specs.declared.entries.Entry.{Entry}
use Rattle.pybuf_share.specs.History.{Log, IsKept, entry_now, noted, step_by, after_entries, replies_along, state_of}

-- the exporter after one more entry
pub after_more : (e : Exporter) (xs : List Entry) (x : Entry) → after_entries e (xs ++ x ∷ []) ≡ (step_by (after_entries e xs) x.command).0
after_more e [] x = refl
after_more e (y ∷ xs) x = after_more (step_by e y.command).0 xs x

-- If an entry has the reply that the exporter gives there, the history stays legal.
pub legal_more : (e : Exporter) (xs : List Entry) (x : Entry) → map (λ y. y.reply) xs ≡ replies_along e xs → x.reply ≡ (step_by (after_entries e xs) x.command).1
    → map (λ y. y.reply) (xs ++ x ∷ []) ≡ replies_along e (xs ++ x ∷ [])
legal_more e [] x legal is = ap (λ r. r ∷ []) is
legal_more e (y ∷ xs) x legal is = let both = legal_more (step_by e y.command).0 xs x (cc (legal)) is in cc (legal, both)

-- what is kept after one more command is noted
pub noted_kept : (log : Log) (session : ℕ) (command : LocalCommand) (old new : Exporter) (total : ℕ) → IsKept log old total → new ≡ (step_by (state_of log) command).0 → IsKept (noted log session command) new (total + 1)
noted_kept log session command old new total kept moved = record {
  replays = moved ∙ sym (after_more (new_exporter log.kind log.opening) log.entries (entry_now log session command));
  legal = legal_more (new_exporter log.kind log.opening) log.entries (entry_now log session command) kept.legal refl;
  counted = omega (arith, kept.counted, length-append log.entries (entry_now log session command ∷ []));
}
