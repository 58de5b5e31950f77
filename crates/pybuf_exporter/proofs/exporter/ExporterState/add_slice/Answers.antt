use Rattle.std.specs.Result.{result_map_both}
use Rattle.pybuf_verbs_views.specs.Slice.{slice_of_view}
use Rattle.pybuf_command.specs.declared.commands.LocalReply.TheVariants as reply
use Rattle.pybuf_state.specs.Answers.{exporter_of}
use Rattle.pybuf_exporter.proofs.Sounding.{stays_sound}
use Rattle.pybuf_exporter.proofs.exporter.ExporterState.add_slice.Goals as goal

pub invariant_of-self : goal.invariant_of-self
invariant_of-self c =
    let old = exporter_of c.self.inside.parts in
    record {
      counted = c.add.ensures.counted;
      sound = stays_sound old (exporter_of c.add.new.parts) (slice_of_view old c.args.view c.args.slice.now) (result_map_both reply.View (λ halt. halt) c.add.result) (c.slice_is_safe.ensures old c.args.view c.args.slice.now) c.self.invariant.sound c.add.ensures.answer;
    }
