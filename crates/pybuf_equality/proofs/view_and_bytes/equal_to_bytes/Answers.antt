use Rattle.std.proofs.Common.{length, false, refl}
use Rattle.pybuf_memoryview.specs.Snaps.{snap_of_layout}
use Rattle.pybuf_equality.proofs.Filled.{whole_inside_of, whole_compared, answered_so}
use Rattle.pybuf_equality.proofs.view_and_bytes.equal_to_bytes.Goals as goal

pub equal_views-requires-clause-other_inside : goal.equal_views-requires-clause-other_inside
equal_views-requires-clause-other_inside c = whole_inside_of c.args.other.now (length c.args.other.now) c.in_ok-whole.whole refl c.in_ok-whole.ensures

pub returns : goal.returns
returns c =
    answered_so c.equal_views.result _ _ c.equal_views.ensures
    (whole_compared (snap_of_layout c.args.bytes.now c.args.layout.now false) c.args.other.now (length c.args.other.now) c.in_ok-whole.whole refl c.in_ok-whole.ensures)
