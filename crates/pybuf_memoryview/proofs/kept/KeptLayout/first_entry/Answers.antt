use Rattle.pybuf_memoryview.proofs.Dimensions.{first_fits}
use Rattle.std.proofs.Common.{ap, ◌∙◌}
use Rattle.std.specs.Prelude.{slice_get}
use Rattle.pybuf_memoryview.proofs.kept.KeptLayout.first_entry.Goals as goal

pub returns-in-Some-clause-small : goal.returns-in-Some-clause-small
returns-in-Some-clause-small c =
    first_fits c.self.inside.descriptor c.self.inside.start c.in-Some.dim.now c.self.invariant (c.in-Some.ensures.value ∙ ap (λ dims. slice_get dims 0) c.dim_desc.ensures)
