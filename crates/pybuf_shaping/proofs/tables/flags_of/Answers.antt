use Rattle.std.proofs.Common.{arith, ◌==◌, false}
use Rattle.std.proofs.lemmas.Bool.Decides.{nat_tests}
use Rattle.std.proofs.lemmas.List.{get_or-replicate, length-replicate, length-set, get_or-set_same, get_or-set_other}
use Rattle.std.proofs.lemmas.List.Folds.{list_any_more}
use Rattle.pybuf_shaping.proofs.tables.flags_of.Goals as goal

pub loop-byte-init : goal.loop-byte-init
loop-byte-init c = record {
  full = length-replicate 256 false;
  each = λ b small. get_or-replicate 256 b false false small;
}

pub loop-byte-preserved : goal.loop-byte-preserved
loop-byte-preserved c = record {
  full = grind (arith, length-set, c.loop-byte.invariant.full);
  each = λ b small.
      let more = list_any_more (λ other. other == b) c.args.bytes.now c.loop-byte.byte-index 0 c.loop-byte-test.true in
      grind (arith, nat_tests, get_or-set_same, get_or-set_other, more, c.loop-byte.invariant.each b small, c.loop-byte.invariant.full);
}
