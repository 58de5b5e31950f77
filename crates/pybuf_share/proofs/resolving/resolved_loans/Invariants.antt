use Rattle.std.proofs.Common.{◌≡◌, take}
use Rattle.pybuf_share.specs.Joining.{resolved_loans}
use Rattle.pybuf_share.specs.Sessions.{replies_given}
use Rattle.pybuf_share.proofs.resolving.resolved_loans.Given as goal

abbrev pub invariant-loop-pair : goal.invariant-loop-pair
invariant-loop-pair g l = l.resolved.items ≡ resolved_loans (replies_given l.session.receipts) (take l.pair-index l.loans)
