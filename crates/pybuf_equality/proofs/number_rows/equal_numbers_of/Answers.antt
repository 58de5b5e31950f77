use Rattle.std.proofs.Common.{sym, ◌∙◌, subst}
use Rattle.pybuf_equality.specs.Walks.{HaveSizes}
use Rattle.pybuf_equality.proofs.Walked.{AreWalked, items_paired, numbers_walked, numbers_sized}
use Rattle.pybuf_equality.proofs.number_rows.equal_numbers_of.Goals as goal

pub equal_pairs-requires-clause-paired : goal.equal_pairs-requires-clause-paired
equal_pairs-requires-clause-paired c =
    let are : AreWalked c.placed-start.result.0.now c.placed-other_start.result.0.now c.placed-start.result.1 c.placed-other_start.result.1 c.args.layout.now c.args.other_layout.now c.args.bytes.now c.args.other.now =
    record {
      placed = c.placed-start.ensures.placed;
      other_placed = c.placed-other_start.ensures.placed;
      stands = c.placed-start.ensures.stands;
      other_stands = c.placed-other_start.ensures.stands;
      inside = c.requires.inside;
      other_inside = c.requires.other_inside;
    } in
    items_paired c.ranges_stay_inside.ensures c.placed-start.result.0.now c.placed-other_start.result.0.now c.placed-start.result.1 c.placed-other_start.result.1 c.args.layout.now c.args.other_layout.now c.args.bytes.now c.args.other.now c.zip_segments-pairs.result are c.zip_segments-pairs.ensures.first c.zip_segments-pairs.ensures.second

pub equal_pairs-requires-clause-sizes : goal.equal_pairs-requires-clause-sizes
equal_pairs-requires-clause-sizes c =
    subst (λ n. HaveSizes n c.itemsize-other_size.result c.zip_segments-pairs.result) (sym c.itemsize-size.ensures)
    (subst (λ n. HaveSizes c.args.layout.now.itemsize n c.zip_segments-pairs.result) (sym c.itemsize-other_size.ensures)
    (numbers_sized c.placed-start.result.0.now c.placed-other_start.result.0.now c.placed-start.result.1 c.placed-other_start.result.1 c.args.layout.now c.args.other_layout.now c.zip_segments-pairs.result
    c.placed-start.ensures.stands c.placed-other_start.ensures.stands c.placed-start.ensures.counted c.placed-other_start.ensures.counted c.zip_segments-pairs.ensures.first c.zip_segments-pairs.ensures.second))

pub returns : goal.returns
returns c =
    c.equal_pairs.ensures
    ∙ numbers_walked c.placed-start.result.0.now c.placed-other_start.result.0.now c.placed-start.result.1 c.placed-other_start.result.1 c.args.layout.now c.args.other_layout.now c.args.signed c.args.other_signed c.args.bytes.now c.args.other.now c.zip_segments-pairs.result
    c.placed-start.ensures.stands c.placed-other_start.ensures.stands c.placed-start.ensures.counted c.placed-other_start.ensures.counted c.requires.reads c.requires.other_reads c.requires.inside c.requires.other_inside
    c.zip_segments-pairs.ensures.first c.zip_segments-pairs.ensures.second
