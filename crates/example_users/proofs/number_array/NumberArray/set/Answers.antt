use Rattle.std.proofs.Common.{◌∙◌, arith}
use Rattle.example_users.proofs.NumberLemmas.{put_sound, put_shown}
use Rattle.example_users.proofs.number_array.NumberArray.set.Goals as goal

pub invariant_of-self : goal.invariant_of-self
invariant_of-self c =
    put_sound _ c.self.inside.0 _ _ c.args.index c.args.number _ c.self.invariant c.self.view_is c.borrow_buf_mut.ensures.value (c.copy_from_slice.ensures.after ∙ c.to_le_bytes.ensures) (omega arith) c.ranges.number.fits (omega (arith, c.len.ensures, c.if-index-len.false))

pub returns-clause-ok : goal.returns-clause-ok
returns-clause-ok c =
    put_shown _ c.self.inside.0 _ _ c.args.index c.args.number _ c.self.invariant c.self.view_is c.borrow_buf_mut.ensures.value (c.copy_from_slice.ensures.after ∙ c.to_le_bytes.ensures) (omega arith) c.ranges.number.fits (omega (arith, c.len.ensures, c.if-index-len.false))
