use Rattle.pybuf_cli.proofs.OneForm.{serves_as}
use Rattle.pybuf_cli.proofs.serving.serve.Goals as goal

pub returns : goal.returns
returns g c = serves_as _ _ _ c.serve_alone.result _ _ _ _ _ _ _ _ (c.is_shared.ensures.other c.if-is_shared.false) c.serve_alone.ensures
