use Rattle.std.proofs.Common.{◌∙◌}
use Rattle.pybuf_equality.proofs.Walked.{AreWalked, rows_paired, rows_as_long, rows_compared}
use Rattle.pybuf_equality.proofs.raw.equal_rows.Goals as goal

pub equal_pairs-requires-clause-paired : goal.equal_pairs-requires-clause-paired
equal_pairs-requires-clause-paired c =
    let are : AreWalked c.placed-start.result.0.now c.placed-other_start.result.0.now c.placed-start.result.1 c.placed-other_start.result.1 c.args.layout.now c.args.other_layout.now c.args.bytes.now c.args.other.now =
    record {
      placed = c.placed-start.ensures.placed;
      other_placed = c.placed-other_start.ensures.placed;
      stands = c.placed-start.ensures.stands;
      other_stands = c.placed-other_start.ensures.stands;
      inside = c.requires.inside;
      other_inside = c.requires.other_inside;
    } in
    rows_paired c.ranges_stay_inside.ensures c.placed-start.result.0.now c.placed-other_start.result.0.now c.placed-start.result.1 c.placed-other_start.result.1 c.args.layout.now c.args.other_layout.now c.args.bytes.now c.args.other.now c.zip_segments.result are c.zip_segments.ensures.first c.zip_segments.ensures.second

pub equal_pairs-requires-clause-as_long : goal.equal_pairs-requires-clause-as_long
equal_pairs-requires-clause-as_long c =
    rows_as_long c.placed-start.result.0.now c.placed-other_start.result.0.now c.placed-start.result.1 c.placed-other_start.result.1 c.args.layout.now c.args.other_layout.now c.zip_segments.result c.placed-start.ensures.stands c.placed-other_start.ensures.stands c.requires.same_shape c.requires.same_size
    c.zip_segments.ensures.first c.zip_segments.ensures.second

pub returns : goal.returns
returns c =
    let are : AreWalked c.placed-start.result.0.now c.placed-other_start.result.0.now c.placed-start.result.1 c.placed-other_start.result.1 c.args.layout.now c.args.other_layout.now c.args.bytes.now c.args.other.now =
    record {
      placed = c.placed-start.ensures.placed;
      other_placed = c.placed-other_start.ensures.placed;
      stands = c.placed-start.ensures.stands;
      other_stands = c.placed-other_start.ensures.stands;
      inside = c.requires.inside;
      other_inside = c.requires.other_inside;
    } in
    c.equal_pairs.ensures
    ∙ rows_compared c.ranges_stay_inside.ensures c.ranges_have_the_content.ensures c.placed-start.result.0.now c.placed-other_start.result.0.now c.placed-start.result.1 c.placed-other_start.result.1 c.args.layout.now c.args.other_layout.now c.args.bytes.now c.args.other.now c.zip_segments.result are c.requires.same_shape c.requires.same_size c.zip_segments.ensures.first c.zip_segments.ensures.second
