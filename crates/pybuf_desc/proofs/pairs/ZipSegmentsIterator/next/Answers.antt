use Rattle.std.proofs.Common.{sym, ◌∙◌}
use Rattle.pybuf_desc.proofs.PairFacts.{zip_none, none_left}
use Rattle.pybuf_desc.proofs.pairs.ZipSegmentsIterator.next.Goals as goal

pub returns-in_err-other-clause-steps : goal.returns-in_err-other-clause-steps
returns-in_err-other-clause-steps c =
    let step = c.in_err-other.ensures in
    none_left _ _ _ c.from_residual-in_err-other.ensures
    (sym c.self.view_is ∙ zip_none c.self.inside.one c.self.inside.other step.steps.0) (zip_none c.next.new.self c.next-2.new.self step.steps.1)
