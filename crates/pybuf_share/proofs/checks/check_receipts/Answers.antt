use Rattle.std.proofs.Common.{rules, ◌<◌, ◌≤◌, ◌≡◌, List, get_or, length, subst}
use Rattle.std.specs.List.{All}
use Rattle.std.proofs.lemmas.List.{take_all}
use Rattle.pybuf_share.specs.declared.entries.Receipt.{Receipt}
use Rattle.pybuf_share.specs.Finishing.{Stands}
use Rattle.pybuf_share.proofs.Faults.{all_next, disagrees_at}
use Rattle.pybuf_share.proofs.checks.check_receipts.Goals as goal

pub returns-in-Err-clause-err : goal.returns-in-Err-clause-err
returns-in-Err-clause-err c =
    let i = c.loop-receipt.receipt-index in
    let rs = c.args.receipts.now in
    let within : i < length rs = search rules in
    let read : c.receipt-item.result ≡ get_or rs i c.receipt-item.result = search rules in
    disagrees_at c.args.entries.now rs i c.receipt-item.result c.in-Err.fault within read c.loop-receipt.invariant c.in-Err.ensures.err

pub loop-receipt-preserved : goal.loop-receipt-preserved
loop-receipt-preserved c =
    let i = c.loop-receipt.receipt-index in
    let rs = c.args.receipts.now in
    let within : i < length rs = search rules in
    let read : c.receipt-item.result ≡ get_or rs i c.receipt-item.result = search rules in
    let stands : Stands c.args.entries.now c.receipt-item.result = search rules in
    all_next c.args.entries.now rs i c.receipt-item.result within read c.loop-receipt.invariant stands

pub returns-clause-ok : goal.returns-clause-ok
returns-clause-ok c =
    let past : length c.args.receipts.now ≤ c.loop-receipt.receipt-index = search rules in
    subst (λ (l : List Receipt). All (Stands c.args.entries.now) l) (take_all c.loop-receipt.receipt-index c.args.receipts.now past) c.loop-receipt.invariant
