use Rattle.std.proofs.Common.{rules, ◌≡◌, ◌<◌, ◌∙◌, false, length, take, ℕ, subst}
use Rattle.pybuf_desc.specs.Places.{Stands}
use Rattle.pybuf_state.specs.Live.{layout_of}
use Rattle.pybuf_nd.proofs.Assigned.{entered_of, inside_of, assigned_all}
use Rattle.pybuf_nd.proofs.assigning.assign.Goals as goal

pub lay_over-requires-clause-entries : goal.lay_over-requires-clause-entries
lay_over-requires-clause-entries c =
    let long : length c.args.bytes.now ≡ c.live_descriptor-start.result.0.now.len = search rules in
    let some : 0 < length c.args.bytes.now = search rules in
    entered_of c.live_descriptor-start.result.0.now (take c.keep_dims-count.result c.keep_dims-count.new.kept) c.live_descriptor-start.result.1 (length c.args.state.now.exporter.bytes) c.args.bytes.now
    c.live_descriptor-start.ensures.valid (c.keep_dims-count.ensures.kept ∙ c.dim_desc.ensures) long some

pub lay_over-requires-clause-inside : goal.lay_over-requires-clause-inside
lay_over-requires-clause-inside c =
    inside_of c.live_descriptor-start.result.0.now (take c.keep_dims-count.result c.keep_dims-count.new.kept) c.live_descriptor-start.result.1 c.itemsize-size.result (length c.args.state.now.exporter.bytes)
    c.live_descriptor-start.ensures.valid (c.keep_dims-count.ensures.kept ∙ c.dim_desc.ensures) c.itemsize-size.ensures

pub returns-clause-answer : goal.returns-clause-answer
returns-clause-answer c =
    let long : length c.args.bytes.now ≡ c.live_descriptor-start.result.0.now.len = search rules in
    let writable : c.live_descriptor-start.result.0.now.readonly ≡ false = search rules in
    let stands : Stands c.live_descriptor-start.result.0.now c.live_descriptor-start.result.1 (layout_of c.args.state.now.exporter c.args.target.now) =
    subst (λ (k : ℕ). Stands c.live_descriptor-start.result.0.now c.live_descriptor-start.result.1 (layout_of c.args.state.now.exporter k)) c.number.ensures c.live_descriptor-start.ensures.stands in
    assigned_all c.args.state.now.exporter c.lay_over.new.state.exporter c.live_descriptor-start.result.0.now c.live_descriptor-start.result.1 c.itemsize-size.result
    (layout_of c.args.state.now.exporter c.args.target.now) c.args.bytes.now (take c.keep_dims-count.result c.keep_dims-count.new.kept)
    stands c.live_descriptor-start.ensures.valid writable long (c.keep_dims-count.ensures.kept ∙ c.dim_desc.ensures) c.itemsize-size.ensures c.lay_over.ensures.exporter
