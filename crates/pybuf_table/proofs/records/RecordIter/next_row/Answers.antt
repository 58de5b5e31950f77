use Rattle.std.proofs.Common.{◌<◌, length, sym, ◌∙◌, arith}
use Rattle.std.proofs.lemmas.Grind.{common_steps}
use Rattle.pybuf_table.proofs.RowLemmas.{has_record, row_comes}
use Rattle.pybuf_table.proofs.records.RecordIter.next_row.Goals as goal

pub split_at-requires : goal.split_at-requires
split_at-requires c =
    let some : 0 < length c.self.inside.rest.now = grind (arith, common_steps) in
    rw c.size.ensures.total (has_record c.self.inside.format.now c.self.inside.rest.now c.self.invariant some)

pub returns-clause-some : goal.returns-clause-some
returns-clause-some c =
    let some : 0 < length c.self.inside.rest.now = grind (arith, common_steps) in
    sym c.self.view_is ∙ row_comes c.self.inside.format.now c.self.inside.rest.now c.split_at.result.0.now c.split_at.result.1.now c.size.result c.in_ok-row.row c.self.invariant some c.size.ensures.total c.split_at.ensures.front c.split_at.ensures.back c.in_ok-row.ensures
