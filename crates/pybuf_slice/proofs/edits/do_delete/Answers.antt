-- The list without one element.
use Rattle.std.proofs.Common.{◌∙◌, sym, arith}
use Rattle.pybuf_slice.proofs.EditLemmas.{off_remove}
use Rattle.pybuf_slice.proofs.edits.do_delete.Goals as goal

pub returns : goal.returns
returns g c = c.remove.ensures.items ∙ sym (off_remove c.args.list.now.items 0 c.args.index c.args.index (omega arith) c.requires)
