use Rattle.std.proofs.Common.{rules, ◌≡◌, SFits, w64, to_z, of_z, ◌∙◌}
use Rattle.std.proofs.lemmas.Int.{to_z-of_z}
use Rattle.pybuf_desc.proofs.SegmentFacts.{walk_by_rows, ranges_by_rows}
use Rattle.pybuf_desc.proofs.segments.walk_blocks.Goals as goal

pub walk-requires-in-Some : goal.walk-requires-in-Some
walk-requires-in-Some c =
    let f : SFits w64 c.in-Some.last.now.1 = search rules in
    let same : to_z w64 (of_z w64 c.in-Some.last.now.1) ≡ c.in-Some.last.now.1 = to_z-of_z w64 c.in-Some.last.now.1 f in
    walk_by_rows c.in-Some.rows.now c.in-Some.last.now c.args.outer.now c.args.start c.args.size (to_z w64 (of_z w64 c.in-Some.last.now.1)) c.in-Some.ensures.cases.0 same c.requires.few c.requires.placed c.requires.inside

pub returns-in-Some : goal.returns-in-Some
returns-in-Some c =
    let f : SFits w64 c.in-Some.last.now.1 = search rules in
    let same : to_z w64 (of_z w64 c.in-Some.last.now.1) ≡ c.in-Some.last.now.1 = to_z-of_z w64 c.in-Some.last.now.1 f in
    c.walk-in-Some.ensures
    ∙ ranges_by_rows c.in-Some.rows.now c.in-Some.last.now c.args.outer.now c.args.start c.args.size (to_z w64 (of_z w64 c.in-Some.last.now.1)) c.in-Some.ensures.cases.0 same
