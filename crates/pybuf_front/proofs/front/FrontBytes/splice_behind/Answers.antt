-- A range behind the room is replaced.
use Rattle.std.proofs.Common.{◌≡◌, ℕ, ◌+◌, List, length, ap, ◌∙◌, arith, drop, length-drop}
use Rattle.std.specs.List.{each_same}
use Rattle.pybuf_slice.specs.Edits.{replaced_range}
use Rattle.pybuf_front.specs.FrontContent.{FrontContent}
use Rattle.pybuf_front.proofs.FrontLemmas.{replaced_behind}
use Rattle.pybuf_front.proofs.front.FrontBytes.splice_behind.Goals as goal

pub returns-clause-items : goal.returns-clause-items
returns-clause-items g c =
    let front = c.self.inside in
    let start = c.args.range.start in
    let end = c.args.range.end in
    let items = c.args.items.now in
    let seen = c.self.view_is in
    let made = c.in_ok-do_set_range.ensures.ok in
    let same : made.0 ≡ items = each_same items made.0 made.1 in
    let count = length-drop front.room front.bytes.items in
    let inside = ap (λ (now : FrontContent). length now.items) seen in
    ap (drop front.room) (made.2 ∙ ap (λ (copies : List ℕ). replaced_range front.bytes.items (front.room + start) (front.room + end) copies) same)
    ∙ replaced_behind front.room start end front.bytes.items items (omega (arith, c.self.invariant, front.bytes.ok.0, c.requires.ordered, c.requires.inside, count, inside))
    ∙ ap (λ (now : FrontContent). replaced_range now.items start end items) seen
