use Rattle.std.proofs.Common.{◌<◌, length, arith, ◌∙◌}
use Rattle.std.proofs.lemmas.Grind.{common_steps}
use Rattle.pybuf_table.proofs.RowLemmas.{has_record, left_past}
use Rattle.pybuf_table.proofs.ChosenLemmas.{chosen_more}
use Rattle.pybuf_table.proofs.select.chosen.Goals as goal

pub split_at-requires : goal.split_at-requires
split_at-requires c =
    let some : 0 < length c.loop-rest.rest.now = grind (arith, common_steps) in
    rw c.size-size.ensures.total (has_record c.args.format.now c.loop-rest.rest.now c.loop-rest.invariant.left some)

pub loop-rest-preserved : goal.loop-rest-preserved
loop-rest-preserved c =
    let some : 0 < length c.loop-rest.rest.now = grind (arith, common_steps) in
    record {
      same = chosen_more c.args.format.now c.args.field c.args.op c.args.value.now c.loop-rest.number c.size-size.result c.loop-rest.rest.now c.split_at.result.0.now c.split_at.result.1.now c.loop-rest.out.items c.push_if_chosen.new.out.items
          c.loop-rest.invariant.left some c.size-size.ensures.total c.split_at.ensures.front c.split_at.ensures.back c.in_ok-push_if_chosen.ensures
          ∙ c.loop-rest.invariant.same;
      left = left_past c.args.format.now c.loop-rest.rest.now c.split_at.result.1.now c.size-size.result c.loop-rest.invariant.left some c.size-size.ensures.total c.split_at.ensures.back;
      count = omega arith;
    }
