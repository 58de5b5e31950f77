use Rattle.std.proofs.Common.{◌≡◌, ℕ, ◌+◌, [], ◌∷◌, ◌++◌, List, sym, ap, ap₂, ◌∙◌, subst}
use Rattle.pybuf_command.specs.declared.commands.LocalCommand.{LocalCommand}
use Rattle.pybuf_command.specs.declared.commands.LocalReply.{LocalReply}
use Rattle.pybuf_state.specs.Exporter.{Exporter}
use Rattle.pybuf_share.specs.declared.entries.Entry.{Entry}
use Rattle.pybuf_share.specs.History.{step_by, after_entries}
use Rattle.pybuf_share.specs.Parts.{IsKeptFrom, entry_from}
use Rattle.pybuf_share.proofs.OneAfterOther.{kept_more}
use Rattle.pybuf_share.proofs.part_log.PartLog.note_kept.Goals as goal

pub invariant_of-self-2 : goal.invariant_of-self-2
invariant_of-self-2 g c =
    let inside = c.self.inside in
    let begun = g.L.Begun.opening in
    let xs = inside.history.items in
    let session = c.args.session in
    let command = c.args.own in
    let new = c.step_copied.new.self.exporter in
    let asked : c.as_command.result.now ≡ command = c.as_command.ensures in
    let old = inside.state.exporter in
    let stepped = c.in_ok-reply.ensures.ok in
    let replays = c.self.invariant.0.replays in
    let moved : new ≡ (step_by (after_entries begun xs) command).0 =
    sym (ap (λ (x : Exporter × LocalReply). x.0) stepped) ∙ ap (λ (x : LocalCommand). (step_by old x).0) asked ∙ ap (λ (e : Exporter). (step_by e command).0) replays in
    let replied : c.in_ok-reply.reply ≡ (step_by (after_entries begun xs) command).1 =
    sym (ap (λ (x : Exporter × LocalReply). x.1) stepped) ∙ ap (λ (x : LocalCommand). (step_by old x).1) asked ∙ ap (λ (e : Exporter). (step_by e command).1) replays in
    let entry = ap₂ (λ (told : LocalCommand) (reply : LocalReply). let x : Entry = record { session = session; command = told; reply = reply } in x) c.requires.same replied in
    let all : c.push_reserved.new.items.items ≡ xs ++ entry_from begun xs session command ∷ [] =
    c.push_reserved.ensures ∙ ap₂ (λ (ys : List Entry) (x : Entry). ys ++ x ∷ []) c.in_ok-reserve.ensures.items entry in
    let kept : IsKeptFrom begun (xs ++ entry_from begun xs session command ∷ []) new (inside.calls.total + 1) = kept_more begun xs session command old new inside.calls.total c.self.invariant.0 moved in (
      subst (λ (ys : List Entry). IsKeptFrom begun ys new c.add.new.self.total) (sym all)
          (subst (λ (n : ℕ). IsKeptFrom begun (xs ++ entry_from begun xs session command ∷ []) new n) (sym c.add.ensures.total) kept),
      c.self.invariant.1,
    )
