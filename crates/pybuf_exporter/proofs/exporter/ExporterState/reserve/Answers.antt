use Rattle.pybuf_exporter.proofs.Resizing.{whole_kept}
use Rattle.pybuf_exporter.proofs.exporter.ExporterState.reserve.Goals as goal

pub invariant_of-self : goal.invariant_of-self
invariant_of-self c = whole_kept c.self.inside.parts c.reserve_in.new.parts c.self.invariant c.reserve_in.ensures.exports c.reserve_in.ensures.same
