use Rattle.std.proofs.Common.{◌≡◌, ℕ, List, sym, ◌∙◌, refl, subst}
use Rattle.std.specs.Prelude.{IfOk, slice_get}
use Rattle.pybuf_command.specs.declared.loans.Loan.{Loan}
use Rattle.pybuf_command.specs.declared.worlds.Reply.{Reply}
use Rattle.pybuf_world.specs.World.{World, loans_of}
use Rattle.pybuf_world.specs.Stepping.{local_step}
use Rattle.pybuf_world.specs.Tables.{world_of, IsFresh}
use Rattle.pybuf_world.proofs.Steps.{answer_of_local, left_alone, copy_asked, with_room, both_on_err}
use Rattle.pybuf_world.proofs.tables.Tables.step_of_target.Goals as goal

pub answer-requires-clause-copy : goal.answer-requires-clause-copy
answer-requires-clause-copy c =
    let w : World = world_of c.args.self.now in
    let loans : List (ℕ × Loan) = loans_of w c.args.target.exporter c.args.verb.now in
    let after : World = world_of c.local_step.new.self in
    let stepped : local_step w c.args.target c.args.verb.now loans (slice_get w.exporters c.args.target.exporter) ≡ (after, c.in_ok-reply.reply) =
    with_room c.args.self.now.exporters c.reserve.new.self.items c.args.self.now.handles.items c.args.target c.args.verb.now after c.in_ok-reply.reply c.in_ok-reserve.ensures.items c.in_ok-reply.ensures.ok in
    copy_asked c.fresh_replies_are_copies.ensures w c.args.target c.args.verb.now loans (slice_get w.exporters c.args.target.exporter) after c.in_ok-reply.reply refl stepped

pub returns-clause-ok : goal.returns-clause-ok
returns-clause-ok c =
    let w : World = world_of c.args.self.now in
    let loans : List (ℕ × Loan) = loans_of w c.args.target.exporter c.args.verb.now in
    let after : World = world_of c.local_step.new.self in
    let stepped : local_step w c.args.target c.args.verb.now loans (slice_get w.exporters c.args.target.exporter) ≡ (after, c.in_ok-reply.reply) =
    with_room c.args.self.now.exporters c.reserve.new.self.items c.args.self.now.handles.items c.args.target c.args.verb.now after c.in_ok-reply.reply c.in_ok-reserve.ensures.items c.in_ok-reply.ensures.ok in
    subst (λ (p : World × Reply). IfOk c.answer.result (λ r. p ≡ (world_of c.answer.new.self, r)))
    (sym (answer_of_local w c.args.target c.args.verb.now loans (slice_get w.exporters c.args.target.exporter) after c.in_ok-reply.reply refl stepped)) c.answer.ensures.ok

pub returns-clause-err : goal.returns-clause-err
returns-clause-err c =
    let w : World = world_of c.args.self.now in
    let loans : List (ℕ × Loan) = loans_of w c.args.target.exporter c.args.verb.now in
    let after : World = world_of c.local_step.new.self in
    let stepped : local_step w c.args.target c.args.verb.now loans (slice_get w.exporters c.args.target.exporter) ≡ (after, c.in_ok-reply.reply) =
    with_room c.args.self.now.exporters c.reserve.new.self.items c.args.self.now.handles.items c.args.target c.args.verb.now after c.in_ok-reply.reply c.in_ok-reserve.ensures.items c.in_ok-reply.ensures.ok in
    both_on_err (world_of c.answer.new.self ≡ after) (IsFresh c.in_ok-reply.reply) (world_of c.answer.new.self ≡ w) c.answer.result
    (λ same fresh. same ∙ left_alone c.fresh_replies_are_copies.ensures w c.args.target c.args.verb.now loans (slice_get w.exporters c.args.target.exporter) after c.in_ok-reply.reply refl stepped fresh)
    c.answer.ensures.err c.answer.ensures.only_fresh
