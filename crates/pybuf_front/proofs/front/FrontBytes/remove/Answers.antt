-- A range behind the room is taken out.
use Rattle.std.proofs.Common.{[], length, ap, ◌∙◌, arith, drop, length-drop}
use Rattle.pybuf_slice.specs.Edits.{replaced_range}
use Rattle.pybuf_front.specs.FrontContent.{FrontContent}
use Rattle.pybuf_front.proofs.FrontLemmas.{replaced_behind}
use Rattle.pybuf_front.proofs.front.FrontBytes.remove.Goals as goal

pub returns-clause-items : goal.returns-clause-items
returns-clause-items g c =
    let front = c.self.inside in
    let start = c.args.range.start in
    let end = c.args.range.end in
    let seen = c.self.view_is in
    let count = length-drop front.room front.bytes.items in
    let inside = ap (λ (now : FrontContent). length now.items) seen in
    ap (drop front.room) c.do_delete_range.ensures
    ∙ replaced_behind front.room start end front.bytes.items [] (omega (arith, c.self.invariant, front.bytes.ok.0, c.requires.ordered, c.requires.inside, count, inside))
    ∙ ap (λ (now : FrontContent). replaced_range now.items start end []) seen
