-- The places have the same items.
use Rattle.pybuf_copy.proofs.Same.{each_equal}
use Rattle.pybuf_copy.proofs.plain.write_block.Goals as goal

pub returns : goal.returns
returns g c = each_equal _ _ c.copy_from_slice.ensures.after
