use Rattle.std.proofs.Common.{rules, ◌≡◌, ◌<◌, ◌≤◌, ◌+◌, ◌++◌, ◌∷◌, [], length, List, get_or, map, ap, sym, ◌∙◌, subst, arith, refl}
use Rattle.std.specs.List.{All}
use Rattle.std.proofs.lemmas.List.Elements.{All-push, All-same}
use Rattle.pybuf_command.specs.declared.commands.LocalCommand.{LocalCommand}
use Rattle.pybuf_state.specs.Fits.{LoansFit, all_fit}
use Rattle.pybuf_share.specs.declared.entries.Receipt.{Receipt}
use Rattle.pybuf_share.specs.History.{receipt_now}
use Rattle.pybuf_share.specs.Sessions.{Asker, replies_given, received}
use Rattle.pybuf_share.specs.Joining.{resolve}
use Rattle.pybuf_share.specs.Working.{IsWorking}
use Rattle.pybuf_share.proofs.Follows.{loans_fit, follows_next}
use Rattle.pybuf_share.proofs.worker.Worker.carry_out_one.Goals as goal

pub note_call-requires : goal.note_call-requires
note_call-requires g c =
    let script = c.self.inside.script in
    let n = c.self.inside.done in
    let command = c.in-Some.command.now in
    let replies = replies_given c.self.inside.session.receipts in
    let within : n < length script = search rules in
    let read : command ≡ get_or script n command = search rules in
    let fit : LoansFit command.loans = subst (λ (x : LocalCommand). LoansFit x.loans) (sym read) (c.self.invariant.fit n command within) in
    ap (λ (x : LocalCommand). all_fit x.loans) c.in-Ok.ensures ∙ loans_fit replies command.loans fit

pub invariant_of-self : goal.invariant_of-self
invariant_of-self g c =
    let s = c.self.inside.session in
    let new : Asker = c.note_call.new.session in
    let script = c.self.inside.script in
    let n = c.self.inside.done in
    let command = c.in-Some.command.now in
    let same : new ≡ received s (receipt_now c.args.logged.now s.number c.in-Ok.command) = c.in-Ok-note_call.ensures.received in
    let r : Receipt = receipt_now c.args.logged.now s.number c.in-Ok.command in
    let within : n < length script = search rules in
    let read : command ≡ get_or script n command = search rules in
    let more : new.receipts ≡ s.receipts ++ r ∷ [] = ap (λ (x : Asker). x.receipts) same in
    let number : new.number ≡ s.number = ap (λ (x : Asker). x.number) same in
    record {
      fit = c.self.invariant.fit;
      within = omega (arith, within);
      plain = ap (λ (x : Asker). x.is_plain) same ∙ c.self.invariant.plain;
      own =
          subst (λ k. All (λ (x : Receipt). x.entry.session ≡ k) new.receipts) (sym number)
          (All-same (λ (x : Receipt). x.entry.session ≡ s.number) new.receipts (s.receipts ++ r ∷ []) more (All-push (λ (x : Receipt). x.entry.session ≡ s.number) s.receipts r c.self.invariant.own refl));
      follows = follows_next s.receipts new.receipts r script n command more within read c.in-Ok.ensures c.self.invariant.follows;
    }
