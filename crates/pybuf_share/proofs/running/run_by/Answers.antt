use Rattle.std.proofs.Common.{◌≡◌, ◌<◌, length, map, ap, ◌∙◌, arith}
use Rattle.pybuf_share.specs.Sessions.{sessions_from}
use Rattle.pybuf_share.specs.Working.{post_of}
use Rattle.pybuf_share.proofs.Works.{many_works}
use Rattle.pybuf_share.proofs.Runs.{AreReady, ready, ok_run, err_run}
use Rattle.pybuf_share.proofs.running.run_by.Goals as goal

pub run_workers-workers-requires-after_bounds : goal.run_workers-workers-requires-after_bounds
run_workers-workers-requires-after_bounds g c κs within =
    let many = ap length c.in_ok-workers.ensures ∙ many_works 0 c.args.scripts in
    let some = c.requires.some in
    omega (arith, many, some)

pub finish-requires : goal.finish-requires
finish-requires g c =
    let are =
    ready g.L.Ledger.parts c.args.scripts c.run_workers-workers.result.items c.in_ok-shared.sessions.items c.in_ok-sessions.sessions.items
    (c.in_ok-shared.ensures.sessions ∙ ap (sessions_from 0) c.len.ensures.value)
    c.in_ok-shared.ensures.all
    (c.run_workers-workers.ensures ∙ ap (map post_of) c.in_ok-workers.ensures)
    c.in_ok-sessions.ensures.sessions
    c.in_ok-sessions.ensures.done in
    record { all = are.all }

pub returns-clause-run : goal.returns-clause-run
returns-clause-run g c =
    let are =
    ready g.L.Ledger.parts c.args.scripts c.run_workers-workers.result.items c.in_ok-shared.sessions.items c.in_ok-sessions.sessions.items
    (c.in_ok-shared.ensures.sessions ∙ ap (sessions_from 0) c.len.ensures.value)
    c.in_ok-shared.ensures.all
    (c.run_workers-workers.ensures ∙ ap (map post_of) c.in_ok-workers.ensures)
    c.in_ok-sessions.ensures.sessions
    c.in_ok-sessions.ensures.done in
    ok_run c.in_ok-shared.shared c.args.kind c.args.bytes c.args.scripts c.in_ok-sessions.sessions.items g.L.Ledger.parts c.finish.result c.in_ok-shared.ensures.opening are c.finish.ensures.joined c.finish.ensures.theirs

pub returns-clause-err : goal.returns-clause-err
returns-clause-err g c =
    let are =
    ready g.L.Ledger.parts c.args.scripts c.run_workers-workers.result.items c.in_ok-shared.sessions.items c.in_ok-sessions.sessions.items
    (c.in_ok-shared.ensures.sessions ∙ ap (sessions_from 0) c.len.ensures.value)
    c.in_ok-shared.ensures.all
    (c.run_workers-workers.ensures ∙ ap (map post_of) c.in_ok-workers.ensures)
    c.in_ok-sessions.ensures.sessions
    c.in_ok-sessions.ensures.done in
    err_run c.in_ok-shared.shared c.args.kind c.args.bytes c.args.scripts c.in_ok-sessions.sessions.items g.L.Ledger.parts c.finish.result c.in_ok-shared.ensures.opening are c.finish.ensures.err
