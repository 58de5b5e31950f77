use Rattle.std.proofs.Common.{rules, ◌-◌, ◌≤◌, drop, length, sym, ◌∙◌, arith}
use Rattle.std.proofs.lemmas.List.{length-drop}
use Rattle.pybuf_share.proofs.Faults.{fall_short}
use Rattle.pybuf_share.proofs.checks.first_fall.Goals as goal

pub returns : goal.returns
returns c =
    let rs = c.args.receipts.now in
    let n = c.loop-place.place in
    let past : length rs ≤ n = search rules in
    let len = length-drop (n - 1) rs in
    sym (fall_short (drop (n - 1) rs) (omega (arith, len, past))) ∙ c.loop-place.invariant
