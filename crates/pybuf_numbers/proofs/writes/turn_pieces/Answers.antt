use Rattle.std.proofs.Common.{suc, ◌*◌, ◌∙◌, take, drop, arith, refl}
use Rattle.std.specs.Prelude.{reverse}
use Rattle.std.proofs.Math.Nat.{mul-suc, mul-le-mul_left}
use Rattle.pybuf_numbers.proofs.Turning.{turned_more}
use Rattle.pybuf_numbers.proofs.writes.turn_pieces.Goals as goal

pub loop-k-preserved : goal.loop-k-preserved
loop-k-preserved g c =
    c.turn_piece.ensures
    ∙ turned_more g.row.SIZE c.loop-k.k (g.row.SIZE * c.loop-k.k) g.row.SIZE c.args.bytes.now c.loop-k.bytes (reverse (take g.row.SIZE (drop (g.row.SIZE * c.loop-k.k) c.loop-k.bytes))) c.loop-k.invariant
    (omega (arith, mul-suc g.row.SIZE c.loop-k.k, mul-le-mul_left {m = suc c.loop-k.k} {n = c.args.count} g.row.SIZE (omega arith)))
    refl refl refl
