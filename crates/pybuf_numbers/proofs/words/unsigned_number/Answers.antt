use Rattle.std.proofs.Common.{◌≡◌, sym, ap, ◌∙◌, length, arith}
use Rattle.pybuf_lemmas.proofs.Lists.{eight_items}
use Rattle.pybuf_struct.specs.Facts.{low_first_eight}
use Rattle.pybuf_struct.specs.Digits.{little_endian}
use Rattle.pybuf_numbers.proofs.words.unsigned_number.Goals as goal

pub returns-in-len8 : goal.returns-in-len8
returns-in-len8 c =
    let len : length c.args.bytes.now ≡ 8 = omega arith in
    c.from_le_bytes-in-len8.ensures ∙ low_first_eight _ _ _ _ _ _ _ _ ∙ ap (little_endian 0) (sym (eight_items c.args.bytes.now len))
