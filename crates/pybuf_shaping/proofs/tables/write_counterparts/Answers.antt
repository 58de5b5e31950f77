use Rattle.std.proofs.Common.{◌≡◌, ap, sym, ◌∙◌, arith, length, drop, get_or}
use Rattle.pybuf_shaping.specs.Tables.{counterpart}
use Rattle.pybuf_shaping.proofs.TableLemmas.{length-all_bytes, all_bytes-at, own_counterpart, mapped_from}
use Rattle.pybuf_shaping.proofs.tables.write_counterparts.Goals as goal

pub loop-place-init : goal.loop-place-init
loop-place-init c = record {
  inside = omega arith;
  full = ap length c.requires.identity ∙ length-all_bytes;
  each = λ b small. ap (λ t. get_or t b 0) c.requires.identity
      ∙ (all_bytes-at b small ∙ sym (own_counterpart c.args.from.now (drop (length c.args.from.now) c.args.to.now) b));
}

pub returns : goal.returns
returns c =
    let none : c.loop-place.place ≡ 0 = omega (arith, c.loop-place-test.false) in
    mapped_from (counterpart c.args.from.now c.args.to.now) c.loop-place.table c.loop-place.invariant.full
    (λ b small. c.loop-place.invariant.each b small ∙ ap (λ n. counterpart (drop n c.args.from.now) (drop n c.args.to.now) b) none)
