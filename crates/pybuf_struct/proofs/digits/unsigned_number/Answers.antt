use Rattle.std.proofs.Common.{◌≡◌, sym, ap, ◌∙◌, length, arith}
use Rattle.pybuf_lemmas.proofs.Lists.{eight_items}
use Rattle.pybuf_struct.specs.Facts.{high_first_eight, low_first_eight}
use Rattle.pybuf_struct.specs.Digits.{little_endian, big_endian}
use Rattle.pybuf_struct.proofs.digits.unsigned_number.Goals as goal

pub returns-then-big-3 : goal.returns-then-big-3
returns-then-big-3 c =
    let len : length c.args.bytes.now ≡ 8 = omega arith in
    rw c.if-big-3.true (c.from_be_bytes-then-big-3.ensures ∙ high_first_eight _ _ _ _ _ _ _ _ ∙ ap big_endian (sym (eight_items c.args.bytes.now len)))

pub returns-else-big-3 : goal.returns-else-big-3
returns-else-big-3 c =
    let len : length c.args.bytes.now ≡ 8 = omega arith in
    rw c.if-big-3.false (c.from_le_bytes-else-big-3.ensures ∙ low_first_eight _ _ _ _ _ _ _ _ ∙ ap (little_endian 0) (sym (eight_items c.args.bytes.now len)))
