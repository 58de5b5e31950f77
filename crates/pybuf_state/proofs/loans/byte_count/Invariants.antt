use Rattle.std.proofs.Common.{◌≡◌, ◌-◌, ◌^◌, take, min}
use Rattle.pybuf_memoryview.specs.Sized.{byte_count}
use Rattle.pybuf_state.proofs.loans.byte_count.Given as goal

abbrev pub invariant-loop-entries : goal.invariant-loop-entries
invariant-loop-entries l = l.count ≡ min (byte_count l.itemsize (take l.entries-index l.shape)) (2 ^ 64 - 1)
