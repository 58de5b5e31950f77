-- What is written through the loan lies behind the room, from a place on.
use Rattle.std.proofs.Common.{ℕ, List, length, refl, ap, sym, ◌∙◌, arith, length-drop}
use Rattle.std.specs.Prelude.{slice_range}
use Rattle.pybuf_front.specs.Front.{overwritten_from}
use Rattle.pybuf_front.specs.FrontContent.{FrontContent}
use Rattle.pybuf_front.proofs.FrontLemmas.{write_within, between_behind}
use Rattle.pybuf_front.proofs.front.FrontBytes.run_mut.Goals as goal

pub returns : goal.returns
returns c =
    let front = c.self.inside in
    let seen = c.self.view_is in
    let start = c.args.start in
    let end = c.args.end in
    let long = sym front.bytes.ok.0 in
    let count = length-drop front.room front.bytes.items in
    let inside = ap (λ (now : FrontContent). length now.items) seen in (
      (
        refl,
        λ w. ap (λ (items : List ℕ). record { items = items; room = front.room; memory = front.bytes.cap })
            (write_within front.room start front.bytes.len front.bytes.items w long (omega (arith, c.self.invariant, long, c.requires.ordered, c.requires.inside, count, inside)))
            ∙ ap (λ (now : FrontContent). overwritten_from now start w) seen,
      ),
      record { writes_back = tt; value = c.slice_mut.ensures.value ∙ between_behind front.room start end front.bytes.items ∙ ap (λ (now : FrontContent). slice_range now.items start end) seen },
    )
