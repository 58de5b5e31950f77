use Rattle.std.proofs.Common.{subst}
use Rattle.pybuf_share.specs.History.{Opening}
use Rattle.pybuf_share.specs.Finishing.{RefusesAtLast}
use Rattle.pybuf_share.proofs.Joins.{refused_at_last}
use Rattle.pybuf_share.proofs.shared.SharedExporter.finish.Goals as goal

pub returns-in-Err-clause-err : goal.returns-in-Err-clause-err
returns-in-Err-clause-err g c =
    subst (λ (o : Opening). RefusesAtLast o c.args.sessions.items c.in-Err.fault) c.self.view_is
    (refused_at_last c.into_inner.result (record { kind = c.self.inside.kind; bytes = c.self.inside.opening }) c.args.sessions.items c.in-Err.fault c.join.ensures.counted c.in-Err.ensures.err)
