use Rattle.std.proofs.Common.{rules, ◌≡◌, List, length, sym, ◌∙◌, subst}
use Rattle.pybuf_share.specs.declared.entries.Entry.{Entry}
use Rattle.pybuf_share.specs.Finishing.{AreTheirs, calls_of}
use Rattle.pybuf_share.specs.Parts.{AgreeWith, RefusesEntries}
use Rattle.pybuf_share.proofs.OneAfterOther.{refused_part, theirs_of_part}
use Rattle.pybuf_share.proofs.part_log.PartLog.finish_part.Goals as goal

pub returns-in-Ok-clause-theirs : goal.returns-in-Ok-clause-theirs
returns-in-Ok-clause-theirs g c =
    let xs = c.self.inside.history.items in
    let ss = c.args.sessions.items in
    let counted : length xs ≡ calls_of ss = sym c.self.invariant.0.counted ∙ c.count_calls.ensures.counted in
    let agree : AgreeWith xs ss = search rules in
    λ plain.
    subst (λ (ys : List Entry). AreTheirs ss ys) (sym c.from_vec.ensures)
    (theirs_of_part xs ss g.L.Ledger.parts agree c.requires.all c.count_calls.ensures.own counted plain)

pub returns-in-Err-clause-err : goal.returns-in-Err-clause-err
returns-in-Err-clause-err g c =
    let xs = c.self.inside.history.items in
    let ss = c.args.sessions.items in
    let counted : length xs ≡ calls_of ss = sym c.self.invariant.0.counted ∙ c.count_calls.ensures.counted in
    let why : RefusesEntries xs ss c.in-Err.fault = search rules in
    refused_part xs ss c.in-Err.fault counted why
