use Rattle.std.proofs.Common.{rules, List, sym, subst}
use Rattle.pybuf_share.specs.declared.entries.Entry.{Entry}
use Rattle.pybuf_share.specs.History.{Log}
use Rattle.pybuf_share.specs.Finishing.{Agree, AreTheirs}
use Rattle.pybuf_share.proofs.Joins.{theirs_are}
use Rattle.pybuf_share.proofs.logged.Logged.join.Goals as goal

pub returns-in-Ok-clause-theirs : goal.returns-in-Ok-clause-theirs
returns-in-Ok-clause-theirs g c =
    let inside = c.self.inside in
    let log : Log = record { kind = inside.kind; opening = inside.opening; entries = inside.history.items } in
    let agree : Agree log c.args.kind c.args.bytes c.args.sessions.items = search rules in
    λ plain.
    subst (λ (xs : List Entry). AreTheirs c.args.sessions.items xs) (sym c.from_vec.ensures)
    (theirs_are log c.args.kind c.args.bytes c.args.sessions.items inside.state.exporter inside.calls.total g.L.Ledger.parts agree c.self.invariant.0 c.requires.all c.count_calls.ensures.own c.count_calls.ensures.counted plain)
