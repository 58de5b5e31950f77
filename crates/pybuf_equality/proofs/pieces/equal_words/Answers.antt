use Rattle.std.proofs.Common.{take, drop, sym, ◌∙◌}
use Rattle.pybuf_desc.specs.Facts.{whole_bytes}
use Rattle.pybuf_equality.proofs.Spelled.{words_as_bytes, piece_small}
use Rattle.pybuf_equality.proofs.Apart.{are_bytes}
use Rattle.pybuf_equality.proofs.pieces.equal_words.Goals as goal

pub returns : goal.returns
returns g c =
    words_as_bytes c.word.result c.word-2.result (take g.row.SIZE (drop c.args.at c.args.bytes.now)) (take g.row.SIZE (drop c.args.there c.args.other.now)) c.word.ensures c.word-2.ensures
    (piece_small c.args.bytes.now c.args.at g.row.SIZE (are_bytes c.args.bytes.now c.type_inv.bytes)) (piece_small c.args.other.now c.args.there g.row.SIZE (are_bytes c.args.other.now c.type_inv.other))
    (whole_bytes c.args.bytes.now g.row.SIZE c.args.at c.requires.inside ∙ sym (whole_bytes c.args.other.now g.row.SIZE c.args.there c.requires.other_inside))
