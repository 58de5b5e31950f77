-- What is written through the loan lies behind the room.
use Rattle.std.proofs.Common.{ℕ, List, refl, ap, sym, ◌∙◌, arith}
use Rattle.std.proofs.lemmas.Slice.{between_to_end}
use Rattle.pybuf_front.specs.Front.{overwritten}
use Rattle.pybuf_front.specs.FrontContent.{FrontContent}
use Rattle.pybuf_front.proofs.FrontLemmas.{write_behind}
use Rattle.pybuf_front.proofs.front.FrontBytes.as_mut_slice.Goals as goal

pub returns : goal.returns
returns c =
    let front = c.self.inside in
    let seen = c.self.view_is in
    let long = sym front.bytes.ok.0 in (
      (
        refl,
        λ w. ap (λ (items : List ℕ). record { items = items; room = front.room; memory = front.bytes.cap }) (write_behind front.room front.bytes.len front.bytes.items w long c.self.invariant) ∙ ap (λ (now : FrontContent). overwritten now w) seen,
      ),
      record { writes_back = tt; value = c.slice_mut.ensures.value ∙ between_to_end front.bytes.items front.room _ (omega (arith, long)) ∙ ap (λ (now : FrontContent). now.items) seen },
    )
