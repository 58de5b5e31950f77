use Rattle.pybuf_cli.proofs.Running.{puts_program}
use Rattle.pybuf_cli.proofs.serving.answer.Goals as goal

pub returns-in-Ok-clause-done : goal.returns-in-Ok-clause-done
returns-in-Ok-clause-done g c =
    λ done. (
      c.in-Ok.ensures.0,
      c.in-Ok.ensures.1,
      c.runs_stay_sound.ensures c.in-Ok.ensures.0,
      puts_program _ _ _ _ c.in-Ok.ensures.1 (c.run_commands.ensures.put done),
    )
