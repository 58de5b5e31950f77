use Rattle.std.proofs.Common.{ap, sym, ◌∙◌}
use Rattle.pybuf_equality.specs.Exact.{is_exact_reader}
use Rattle.pybuf_equality.proofs.Apart.{exact_views, numbers_alike, are_bytes}
use Rattle.pybuf_equality.proofs.items.equal_as_read.Goals as goal

pub returns-then-is_exact_reader : goal.returns-then-is_exact_reader
returns-then-is_exact_reader c =
    let reader = c.args.reader.now in
    let layout = c.args.layout.now in
    let other_layout = c.args.other_layout.now in
    let numbers = c.in-Some-Some in
    let same = c.has_same_numbers.ensures.size c.if-has_same_numbers.true in
    c.equal_bytes.ensures
    ∙ exact_views c.item_equality_is_equivalence.ensures c.writes_what_was_read.ensures reader c.args.bytes.now c.args.other.now layout other_layout c.requires.spelled c.requires.reads
    (ap (is_exact_reader reader) (sym c.itemsize-size.ensures) ∙ sym c.is_exact_reader.ensures ∙ c.if-is_exact_reader.true) (are_bytes c.args.bytes.now c.type_inv.bytes) (are_bytes c.args.other.now c.type_inv.other)
    c.requires.counted c.requires.other_counted c.requires.same_shape
    (numbers_alike reader c.args.other_reader.now layout.format other_layout.format layout.itemsize other_layout.itemsize c.itemsize-size.result c.itemsize-other_size.result numbers.signed numbers.other_signed c.requires.reads c.requires.other_reads
    numbers.ensures.reads numbers.ensures'.reads c.itemsize-size.ensures c.itemsize-other_size.ensures (c.has_same_numbers.ensures.sign c.if-has_same_numbers.true) same)
    (sym c.itemsize-size.ensures ∙ same ∙ c.itemsize-other_size.ensures) c.requires.inside c.requires.other_inside
