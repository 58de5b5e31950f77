use Rattle.std.proofs.Common.{refl}
use Rattle.pybuf_borrow.proofs.memory.ArgMemoryBuffer.with_ref.Goals as goal

pub returns : goal.returns
returns g c = (c.f.new.arg2, record { shown = c.borrow_buf_mut.result; shows = c.borrow_buf_mut.ensures.value; left = _; met = c.f.ensures; leaves = refl }, refl)
