use Rattle.std.proofs.Common.{ap, ◌∙◌, ℕ, List, length}
use Rattle.pybuf_array.proofs.Sound.{sound_over}
use Rattle.pybuf_array.proofs.array.PyArray.put.Goals as goal

pub invariant_of-self : goal.invariant_of-self
invariant_of-self c =
    let s = c.self.inside in
    sound_over s.code s.bytes s.runs.items c.args.self.now c.self.invariant c.self.view_is _ (c.put_number.ensures.length ∙ ap (λ (xs : List ℕ). length xs) c.borrow_buf_mut.ensures.value)
