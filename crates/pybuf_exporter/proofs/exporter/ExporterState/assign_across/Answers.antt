use Rattle.std.proofs.Common.{rules}
use Rattle.std.specs.Result.{result_map_both}
use Rattle.pybuf_command.specs.declared.kinds.Subject.TheVariants as subject
use Rattle.pybuf_state.specs.Snaps.{snap_of_subject}
use Rattle.pybuf_verbs_writes.specs.Assign.{assign_of_lent}
use Rattle.pybuf_command.specs.declared.commands.LocalReply.TheVariants as reply
use Rattle.pybuf_state.specs.Answers.{exporter_of}
use Rattle.pybuf_exporter.proofs.Sounding.{stays_sound, lent_is_safe}
use Rattle.pybuf_exporter.proofs.exporter.ExporterState.assign_across.Goals as goal

pub invariant_of-self : goal.invariant_of-self
invariant_of-self c =
    let old = exporter_of c.self.inside.parts in
    let lent = snap_of_subject c.args.lender.now.exporter (subject.View c.args.source) in
    record {
      counted = c.put_from.ensures.counted;
      sound = stays_sound old (exporter_of c.put_from.new.parts) (assign_of_lent old c.args.view c.args.slice.now lent) (result_map_both (λ _. reply.Ok) (λ halt. halt) c.put_from.result) (lent_is_safe c.assign_is_safe.ensures old c.args.view c.args.slice.now lent) c.self.invariant.sound (search rules);
    }
