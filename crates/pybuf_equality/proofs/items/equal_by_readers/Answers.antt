use Rattle.pybuf_equality.proofs.Filled.{answered_so}
use Rattle.pybuf_equality.proofs.Walked.{AreWalked, items_paired, items_walked}
use Rattle.pybuf_equality.proofs.items.equal_by_readers.Goals as goal

pub equal_pairs-requires : goal.equal_pairs-requires
equal_pairs-requires c =
    let are : AreWalked c.placed-start.result.0.now c.placed-other_start.result.0.now c.placed-start.result.1 c.placed-other_start.result.1 c.args.layout.now c.args.other_layout.now c.args.bytes.now c.args.other.now =
    record {
      placed = c.placed-start.ensures.placed;
      other_placed = c.placed-other_start.ensures.placed;
      stands = c.placed-start.ensures.stands;
      other_stands = c.placed-other_start.ensures.stands;
      inside = c.requires.inside;
      other_inside = c.requires.other_inside;
    } in
    items_paired c.ranges_stay_inside.ensures c.placed-start.result.0.now c.placed-other_start.result.0.now c.placed-start.result.1 c.placed-other_start.result.1 c.args.layout.now c.args.other_layout.now c.args.bytes.now c.args.other.now c.zip_segments-pairs.result are c.zip_segments-pairs.ensures.first c.zip_segments-pairs.ensures.second

pub returns : goal.returns
returns c =
    answered_so c.equal_pairs.result _ _ c.equal_pairs.ensures
    (items_walked c.placed-start.result.0.now c.placed-other_start.result.0.now c.placed-start.result.1 c.placed-other_start.result.1 c.args.layout.now c.args.other_layout.now c.args.reader.now c.args.other_reader.now c.args.bytes.now c.args.other.now c.zip_segments-pairs.result
    c.placed-start.ensures.stands c.placed-other_start.ensures.stands c.placed-start.ensures.counted c.placed-other_start.ensures.counted c.requires.reads c.requires.other_reads c.requires.inside c.requires.other_inside
    c.zip_segments-pairs.ensures.first c.zip_segments-pairs.ensures.second)
