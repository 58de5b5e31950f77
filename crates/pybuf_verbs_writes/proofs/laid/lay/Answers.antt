use Rattle.std.proofs.Common.{sym, ◌∙◌}
use Rattle.pybuf_verbs_writes.proofs.Laying.{as_many_places, laid_by_ranges, places_inside}
use Rattle.pybuf_verbs_writes.proofs.laid.lay.Goals as goal

pub lay_ranges-requires-clause-inside : goal.lay_ranges-requires-clause-inside
lay_ranges-requires-clause-inside c = places_inside c.item_bytes_lie_inside.ensures c.args.bytes.now c.placed-start.result.0.now c.placed-start.result.1 c.args.layout.now c.segments.result c.placed-start.ensures.stands c.segments.ensures.bytes c.requires.inside

pub lay_ranges-requires-clause-as_many : goal.lay_ranges-requires-clause-as_many
lay_ranges-requires-clause-as_many c =
    as_many_places c.placed-start.result.0.now c.placed-start.result.1 c.args.layout.now c.segments.result c.placed-start.ensures.stands c.placed-start.ensures.counted c.segments.ensures.bytes ∙ sym c.requires.as_many

pub returns : goal.returns
returns c =
    c.lay_ranges.ensures
    ∙ laid_by_ranges c.args.bytes.now c.args.content.now c.placed-start.result.0.now c.placed-start.result.1 c.args.layout.now c.segments.result c.placed-start.ensures.stands c.placed-start.ensures.counted c.segments.ensures.bytes c.requires.inside c.requires.as_many
