use Rattle.std.proofs.Common.{rules}
use Rattle.pybuf_share.specs.Finishing.{Begins, NumbersRise, Disagrees, receipts_of}
use Rattle.pybuf_share.proofs.Faults.{order_refuses, disagreement_refuses}
use Rattle.pybuf_share.proofs.logged.Logged.check.Goals as goal

pub returns-in-Some-clause-err : goal.returns-in-Some-clause-err
returns-in-Some-clause-err g c =
    let begins : Begins c.args.self.now c.args.kind c.args.bytes.now = record { same_kind = search rules; same_bytes = search rules } in
    order_refuses c.args.self.now c.args.kind c.args.bytes.now c.args.sessions.now c.in-Some.fault begins (search rules)

pub returns-in-Ok-clause-ok : goal.returns-in-Ok-clause-ok
returns-in-Ok-clause-ok g c =
    let begins : Begins c.args.self.now c.args.kind c.args.bytes.now = record { same_kind = search rules; same_bytes = search rules } in
    record { begins = begins; rise = search rules; stand = search rules }

pub returns-in-Err-clause-err : goal.returns-in-Err-clause-err
returns-in-Err-clause-err g c =
    let begins : Begins c.args.self.now c.args.kind c.args.bytes.now = record { same_kind = search rules; same_bytes = search rules } in
    let rise : NumbersRise c.args.sessions.now = search rules in
    let why : Disagrees c.args.self.now.entries (receipts_of c.args.sessions.now) c.in-Err.fault = search rules in
    disagreement_refuses c.args.self.now c.args.kind c.args.bytes.now c.args.sessions.now c.in-Err.fault begins rise why
