use Rattle.pybuf_exporter.proofs.Resizing.{whole_kept}
use Rattle.pybuf_exporter.proofs.exporter.ExporterState.shrink_to_fit.Goals as goal

pub invariant_of-self : goal.invariant_of-self
invariant_of-self c = whole_kept c.self.inside.parts c.shrink_by.new.parts c.self.invariant c.shrink_by.ensures.exports c.shrink_by.ensures.same
