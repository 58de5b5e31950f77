use Rattle.std.proofs.Common.{◌≡◌, ◌-◌, drop}
use Rattle.pybuf_share.specs.Finishing.{first_fall}
use Rattle.pybuf_share.proofs.checks.first_fall.Given as goal

-- The receipts before this place rise, and the last of them is compared with the next.
abbrev pub invariant-loop-place : goal.invariant-loop-place
invariant-loop-place l = first_fall (drop (l.place - 1) l.receipts) ≡ first_fall l.receipts
