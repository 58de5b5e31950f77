use Rattle.std.specs.Result.{result_map_both}
use Rattle.pybuf_value.specs.declared.values.Value.TheVariants as value
use Rattle.pybuf_value.specs.declared.values.Scalar.TheVariants as scalar
use Rattle.std.specs.Prelude.{None}
use Rattle.pybuf_verbs_views.specs.Cast.{cast_of_view}
use Rattle.pybuf_command.specs.declared.commands.LocalReply.TheVariants as reply
use Rattle.pybuf_state.specs.Answers.{exporter_of}
use Rattle.pybuf_exporter.proofs.Sounding.{stays_sound}
use Rattle.pybuf_exporter.proofs.exporter.ExporterState.add_cast.Goals as goal

pub invariant_of-self : goal.invariant_of-self
invariant_of-self c =
    let old = exporter_of c.self.inside.parts in
    record {
      counted = c.add_flat.ensures.counted;
      sound = stays_sound old (exporter_of c.add_flat.new.parts) (cast_of_view old c.args.view (value.One (scalar.Text c.args.format.now)) None) (result_map_both reply.View (λ halt. halt) c.add_flat.result) (c.cast_is_safe.ensures old c.args.view (value.One (scalar.Text c.args.format.now)) None) c.self.invariant.sound c.add_flat.ensures.answer;
    }
