use Rattle.std.proofs.Common.{◌≡◌, ◌++◌, ◌-◌, ◌*◌, ◌≤◌, length}
use Rattle.pybuf_line.proofs.Nested.{left_text}
use Rattle.pybuf_line.proofs.texts.+push_nested.Given as goal

-- What is written and what is left to write are the text of the blocks. There is room for each block.
pub record Blocks (Text Room : Type 0) : Type 0 where
  pub text : Text
  pub room : Room

abbrev pub decreases-push_nested : goal.decreases-push_nested
decreases-push_nested l = length l.shape.now

abbrev pub invariant-loop : goal.invariant-loop
invariant-loop l =
    Blocks
    (l.out.items ++ left_text l.inner (l.end - l.counter) l.size l.rest ≡ l.initial.out.items ++ left_text l.inner (l.end - 1) l.size l.initial.rest)
    ((l.end - l.counter) * l.size ≤ length l.rest)
