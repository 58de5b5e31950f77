use Rattle.std.specs.Result.{result_map_both}
use Rattle.pybuf_value.specs.declared.values.Value.TheVariants as value
use Rattle.pybuf_value.specs.declared.values.Scalar.TheVariants as scalar
use Rattle.std.specs.Prelude.{Some, map, pos, Option}
use Rattle.pybuf_value.specs.declared.values.Value.{Value}
use Rattle.pybuf_verbs_views.specs.Cast.{cast_of_view}
use Rattle.pybuf_command.specs.declared.commands.LocalReply.TheVariants as reply
use Rattle.pybuf_state.specs.Answers.{exporter_of}
use Rattle.pybuf_exporter.proofs.Sounding.{stays_sound}
use Rattle.pybuf_exporter.proofs.exporter.ExporterState.add_shaped_cast.Goals as goal

pub invariant_of-self : goal.invariant_of-self
invariant_of-self c =
    let old = exporter_of c.self.inside.parts in
    let shape : Option Value = Some (value.Tuple (map (λ n. scalar.Int (pos n)) c.args.shape.now)) in
    record {
      counted = c.add_shaped.ensures.counted;
      sound = stays_sound old (exporter_of c.add_shaped.new.parts) (cast_of_view old c.args.view (value.One (scalar.Text c.args.format.now)) shape) (result_map_both reply.View (λ halt. halt) c.add_shaped.result) (c.cast_is_safe.ensures old c.args.view (value.One (scalar.Text c.args.format.now)) shape) c.self.invariant.sound c.add_shaped.ensures.answer;
    }
