use Rattle.pybuf_array.specs.Array.{new_array}
use Rattle.pybuf_cli.proofs.ArrayRunning.{puts_program}
use Rattle.pybuf_cli.proofs.arrays.answer.Goals as goal

pub returns-in-Ok-clause-done : goal.returns-in-Ok-clause-done
returns-in-Ok-clause-done g c =
    λ done. (
      c.in-Ok.ensures.0,
      c.in-Ok.ensures.1,
      c.lengths_stay_while_viewed.ensures (new_array c.args.code) c.in-Ok.ensures.0,
      puts_program c.args.code _ _ _ _ c.in-Ok.ensures.1 (c.run_operations.ensures.put done),
    )
