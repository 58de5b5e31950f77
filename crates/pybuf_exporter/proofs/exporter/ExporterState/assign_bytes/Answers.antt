use Rattle.std.specs.Result.{result_map_both}
use Rattle.pybuf_value.specs.declared.values.Value.TheVariants as value
use Rattle.pybuf_value.specs.declared.values.Scalar.TheVariants as scalar
use Rattle.std.specs.Prelude.{[]}
use Rattle.pybuf_verbs_writes.specs.Assign.{assign_of_view}
use Rattle.pybuf_command.specs.declared.commands.LocalReply.TheVariants as reply
use Rattle.pybuf_state.specs.Answers.{exporter_of}
use Rattle.pybuf_exporter.proofs.Sounding.{stays_sound}
use Rattle.pybuf_exporter.proofs.exporter.ExporterState.assign_bytes.Goals as goal

pub invariant_of-self : goal.invariant_of-self
invariant_of-self c =
    let old = exporter_of c.self.inside.parts in
    record {
      counted = c.put_bytes.ensures.counted;
      sound = stays_sound old (exporter_of c.put_bytes.new.parts) (assign_of_view old c.args.view c.args.slice.now (value.One (scalar.Bytes c.args.bytes.now)) []) (result_map_both (λ _. reply.Ok) (λ halt. halt) c.put_bytes.result) (c.assign_is_safe.ensures old c.args.view c.args.slice.now (value.One (scalar.Bytes c.args.bytes.now)) []) c.self.invariant.sound c.put_bytes.ensures.answer;
    }
