use Rattle.std.specs.Result.{result_map_both}
use Rattle.pybuf_verbs_views.specs.View.{view_of_own}
use Rattle.pybuf_command.specs.declared.commands.LocalReply.TheVariants as reply
use Rattle.pybuf_state.specs.Answers.{exporter_of}
use Rattle.pybuf_exporter.proofs.Sounding.{stays_sound}
use Rattle.pybuf_exporter.proofs.exporter.ExporterState.add_whole.Goals as goal

pub invariant_of-self : goal.invariant_of-self
invariant_of-self c =
    let old = exporter_of c.self.inside.parts in
    record {
      counted = c.add_whole.ensures.counted;
      sound = stays_sound old (exporter_of c.add_whole.new.parts) (view_of_own old) (result_map_both reply.View (λ halt. halt) c.add_whole.result) (c.view_is_safe.ensures.0 old) c.self.invariant.sound c.add_whole.ensures.answer;
    }
