use Rattle.std.proofs.Common.{◌≡◌, ◌+◌, ◌≤◌, ◌++◌, length}
use Rattle.std.specs.List.{filter, enumerate_from}
use Rattle.pybuf_table.specs.Records.{rows, IsLeft}
use Rattle.pybuf_table.specs.Chosen.{is_chosen, chosen}
use Rattle.pybuf_table.proofs.select.chosen.Given as goal

abbrev pub invariant-loop-rest : goal.invariant-loop-rest
invariant-loop-rest l = record {
  same : l.out.items ++ filter (is_chosen l.field l.op l.value) (enumerate_from l.number (rows l.format l.rest)) ≡ chosen l.format l.field l.op l.value l.bytes;
  left : IsLeft l.format l.rest;
  count : l.number + length l.rest ≤ length l.bytes;
}

abbrev pub decreases-loop-rest : goal.decreases-loop-rest
decreases-loop-rest l = length l.rest
