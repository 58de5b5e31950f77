use Rattle.std.proofs.Common.{take}
use Rattle.std.specs.List.{All}
use Rattle.pybuf_share.specs.Finishing.{Stands}
use Rattle.pybuf_share.proofs.checks.check_receipts.Given as goal

abbrev pub invariant-loop-receipt : goal.invariant-loop-receipt
invariant-loop-receipt l = All (Stands l.entries) (take l.receipt-index l.receipts)
