use Rattle.std.proofs.Common.{◌≡◌, ℕ, ◌+◌, List, ◌++◌, length, true, le_refl, sym, subst, ap, ◌∙◌, arith}
use Rattle.std.specs.Prelude.{pos}
use Rattle.std.specs.List.{flat_map}
use Rattle.std.specs.declared.ops.Range.{Range}
use Rattle.pybuf_desc.specs.Facts.{forward_ranges}
use Rattle.pybuf_desc.specs.Items.{content_of_layout}
use Rattle.pybuf_desc.specs.Segments.{bytes_in, ranges_of, joined_count}
use Rattle.pybuf_state.specs.Live.{is_live, layout_of}
use Rattle.pybuf_buffer.specs.Appending.{range_count}
use Rattle.pybuf_buffer.proofs.Live.{is_live_layout}
use Rattle.pybuf_buffer.proofs.Ranges.{ranges_are_counted}
use Rattle.pybuf_buffer.proofs.Appended.{AreInOrder, EndInside, walk_long}
use Rattle.pybuf_buffer.proofs.buffer.PyBuffer.append_to.Goals as goal

pub append_ranges-requires-clause-order : goal.append_ranges-requires-clause-order
append_ranges-requires-clause-order g c =
    subst AreInOrder (sym c.segments.ensures.ranges) (forward_ranges c.described-start.result.0.now (pos c.described-start.result.1) (joined_count c.described-start.result.0.now true))

pub append_ranges-requires-clause-inside : goal.append_ranges-requires-clause-inside
append_ranges-requires-clause-inside g c =
    let e = c.args.state.now.exporter in
    let k = c.self.inside.view in
    let live = subst (λ (n : ℕ). is_live e n ≡ true) (sym c.self.view_is) c.requires in
    let sound = c.live_layouts_are_sound.ensures e k (layout_of e k) c.exports-exports.ensures.sound (is_live_layout e k live) in
    let d = c.described-start.ensures in
    subst (EndInside (length c.bytes.result.now)) (sym c.segments.ensures.ranges)
    (subst (λ (bytes : List ℕ). EndInside (length bytes) (ranges_of c.described-start.result.0.now (pos c.described-start.result.1) (joined_count c.described-start.result.0.now true))) (sym c.bytes.ensures)
    (c.ranges_stay_inside.ensures c.described-start.result.0.now c.described-start.result.1 (joined_count c.described-start.result.0.now true) (layout_of e k) (length e.bytes) d.placed (le_refl (joined_count c.described-start.result.0.now true)) d.stands sound.inside))

pub append_ranges-requires-clause-room : goal.append_ranges-requires-clause-room
append_ranges-requires-clause-room g c =
    let e = c.args.state.now.exporter in
    let k = c.self.inside.view in
    let live = subst (λ (n : ℕ). is_live e n ≡ true) (sym c.self.view_is) c.requires in
    let sound = c.live_layouts_are_sound.ensures e k (layout_of e k) c.exports-exports.ensures.sound (is_live_layout e k live) in
    let d = c.described-start.ensures in
    let long = ap (λ (bytes : List ℕ). length (flat_map (bytes_in bytes) c.segments.result)) c.bytes.ensures
    ∙ ap (λ (rs : List (Range ℕ)). length (flat_map (bytes_in e.bytes) rs)) c.segments.ensures.ranges
    ∙ walk_long c.ranges_have_the_content.ensures c.contents_are_whole.ensures c.described-start.result.0.now c.described-start.result.1 (layout_of e k) e.bytes d.placed d.valid d.stands sound.formed.counted sound.inside in
    omega (arith, long, c.len.ensures, c.in_ok-reserve.ensures.ok)

pub returns-clause-bytes : goal.returns-clause-bytes
returns-clause-bytes g c =
    let e = c.args.state.now.exporter in
    let old = c.args.buf.now.items in
    let d = c.described-start.ensures in
    c.append_ranges.ensures.bytes ∙ ap (λ (xs : List ℕ). xs ++ flat_map (bytes_in c.bytes.result.now) c.segments.result) c.reserve.ensures.items
    ∙ ap (λ (rs : List (Range ℕ)). old ++ flat_map (bytes_in c.bytes.result.now) rs) c.segments.ensures.ranges
    ∙ ap (λ (xs : List ℕ). old ++ xs) (c.ranges_have_the_content.ensures c.described-start.result.0.now c.described-start.result.1 (joined_count c.described-start.result.0.now true) (layout_of e c.self.inside.view) c.bytes.result.now d.placed (le_refl (joined_count c.described-start.result.0.now true)) d.stands)
    ∙ ap (λ (bytes : List ℕ). old ++ content_of_layout bytes (layout_of e c.self.inside.view)) c.bytes.ensures
    ∙ ap (λ (n : ℕ). old ++ content_of_layout e.bytes (layout_of e n)) c.self.view_is

pub returns-clause-steps : goal.returns-clause-steps
returns-clause-steps g c =
    let e = c.args.state.now.exporter in
    let d = c.described-start.ensures in
    c.append_ranges.ensures.steps
    ∙ ap (λ (rs : List (Range ℕ)). c.args.steps.now + length rs) c.segments.ensures.ranges
    ∙ ap (λ (n : ℕ). c.args.steps.now + n) (ranges_are_counted c.described-start.result.0.now c.described-start.result.1 (layout_of e c.self.inside.view) d.placed d.stands)
    ∙ ap (λ (n : ℕ). c.args.steps.now + range_count (layout_of e n)) c.self.view_is
