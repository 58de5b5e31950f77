use Rattle.std.proofs.Common.{◌≡◌, ℕ, ◌+◌, [], ◌∷◌, ◌++◌, List, sym, ap, ap₂, ◌∙◌, subst}
use Rattle.pybuf_command.specs.declared.commands.LocalCommand.{LocalCommand}
use Rattle.pybuf_command.specs.declared.commands.LocalReply.{LocalReply}
use Rattle.pybuf_state.specs.Exporter.{Exporter}
use Rattle.pybuf_share.specs.declared.entries.Entry.{Entry}
use Rattle.pybuf_share.specs.History.{Log, IsKept, state_of, step_by, entry_now, noted}
use Rattle.pybuf_share.proofs.Replays.{noted_kept}
use Rattle.pybuf_share.proofs.logged.Logged.note_kept.Goals as goal

pub invariant_of-self-2 : goal.invariant_of-self-2
invariant_of-self-2 g c =
    let inside = c.self.inside in
    let log : Log = record { kind = inside.kind; opening = inside.opening; entries = inside.history.items } in
    let session = c.args.session in
    let command = c.args.own in
    let new = c.step_copied.new.self.exporter in
    let asked : c.as_command.result.now ≡ command = c.as_command.ensures in
    let old = inside.state.exporter in
    let stepped = c.in_ok-reply.ensures.ok in
    let replays = c.self.invariant.0.replays in
    let moved : new ≡ (step_by (state_of log) command).0 =
    sym (ap (λ (x : Exporter × LocalReply). x.0) stepped) ∙ ap (λ (x : LocalCommand). (step_by old x).0) asked ∙ ap (λ (e : Exporter). (step_by e command).0) replays in
    let replied : c.in_ok-reply.reply ≡ (step_by (state_of log) command).1 =
    sym (ap (λ (x : Exporter × LocalReply). x.1) stepped) ∙ ap (λ (x : LocalCommand). (step_by old x).1) asked ∙ ap (λ (e : Exporter). (step_by e command).1) replays in
    let entry = ap₂ (λ (asked : LocalCommand) (reply : LocalReply). let x : Entry = record { session = session; command = asked; reply = reply } in x) c.requires.same replied in
    let all : c.push_reserved.new.items.items ≡ log.entries ++ entry_now log session command ∷ [] =
    c.push_reserved.ensures ∙ ap₂ (λ (xs : List Entry) (x : Entry). xs ++ x ∷ []) c.in_ok-reserve.ensures.items entry in
    let kept : IsKept (noted log session command) new (inside.calls.total + 1) = noted_kept log session command inside.state.exporter new inside.calls.total c.self.invariant.0 moved in (
      subst (λ (xs : List Entry). IsKept (record { kind = inside.kind; opening = inside.opening; entries = xs }) new c.add.new.self.total) (sym all)
          (subst (λ (n : ℕ). IsKept (noted log session command) new n) (sym c.add.ensures.total) kept),
      c.self.invariant.1,
    )
