use Rattle.std.proofs.Common.{rules, ◌<◌, ◌≤◌, ◌≡◌, List, get_or, length, subst}
use Rattle.std.specs.List.{All}
use Rattle.std.proofs.lemmas.List.{take_all}
use Rattle.pybuf_share.specs.Sessions.{Asker}
use Rattle.pybuf_share.specs.Finishing.{Stands, receipts_of, Disagrees}
use Rattle.pybuf_share.proofs.Faults.{disagrees_in}
use Rattle.pybuf_share.proofs.checks.check_sessions.Goals as goal

pub returns-in-Err-clause-err : goal.returns-in-Err-clause-err
returns-in-Err-clause-err g c =
    let i = c.loop-session.session-index in
    let ss = c.args.sessions.now in
    let within : i < length ss = search rules in
    let read : c.session-item.result ≡ get_or ss i c.session-item.result = search rules in
    let why : Disagrees c.args.entries.now c.session-item.result.receipts c.in-Err.fault = search rules in
    disagrees_in c.args.entries.now ss i c.session-item.result c.in-Err.fault within read c.loop-session.invariant why

pub returns-clause-ok : goal.returns-clause-ok
returns-clause-ok g c =
    let past : length c.args.sessions.now ≤ c.loop-session.session-index = search rules in
    subst (λ (l : List Asker). All (Stands c.args.entries.now) (receipts_of l)) (take_all c.loop-session.session-index c.args.sessions.now past) c.loop-session.invariant
