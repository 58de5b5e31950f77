-- The items that are added are the same items.
use Rattle.pybuf_copy.proofs.Same.{each_itself}
use Rattle.pybuf_copy.proofs.plain.append_block.Goals as goal

pub returns-clause-ok : goal.returns-clause-ok
returns-clause-ok g c = (c.args.items.now, c.in_ok-extend_from_slice.ensures.items, each_itself c.args.items.now)
