use Rattle.std.proofs.Common.{rules}
use Rattle.pybuf_share.specs.Finishing.{NumbersRise, Disagrees, receipts_of}
use Rattle.pybuf_share.proofs.OneAfterOther.{order_refuses_entries, disagreement_refuses_entries}
use Rattle.pybuf_share.proofs.part_log.PartLog.check.Goals as goal

pub returns-in-Some-clause-err : goal.returns-in-Some-clause-err
returns-in-Some-clause-err g c = order_refuses_entries c.args.self.now c.args.sessions.now c.in-Some.fault (search rules)

pub returns-in-Err-clause-err : goal.returns-in-Err-clause-err
returns-in-Err-clause-err g c =
    let rise : NumbersRise c.args.sessions.now = search rules in
    let why : Disagrees c.args.self.now (receipts_of c.args.sessions.now) c.in-Err.fault = search rules in
    disagreement_refuses_entries c.args.self.now c.args.sessions.now c.in-Err.fault rise why
