use Rattle.std.proofs.Common.{◌≡◌, ℕ, List, true, ap, sym, ◌∙◌, subst}
use Rattle.pybuf_memoryview.specs.Readers.{IsSpelledBy}
use Rattle.pybuf_equality.specs.Exact.{is_exact_reader}
use Rattle.pybuf_equality.specs.Reading.{ReadsAs}
use Rattle.pybuf_equality.proofs.Apart.{exact_views, one_text, are_bytes}
use Rattle.pybuf_equality.proofs.items.equal_items.Goals as goal

pub returns-then-is_exact_reader : goal.returns-then-is_exact_reader
returns-then-is_exact_reader c =
    let reader = c.in_ok-reader.reader in
    let spelled : IsSpelledBy c.args.layout.now.format reader = subst (λ (text : List ℕ). IsSpelledBy text reader) c.format_text.ensures c.in_ok-reader.ensures.spelled in
    let reads : ReadsAs reader c.args.layout.now.format c.args.layout.now.itemsize =
    subst (λ (text : List ℕ). ReadsAs reader text c.args.layout.now.itemsize) c.format_text.ensures (subst (ReadsAs reader c.format_text.result.now) c.itemsize.ensures c.in_ok-reader.ensures.reads) in
    let exact : is_exact_reader reader c.args.layout.now.itemsize ≡ true =
    ap (is_exact_reader reader) (sym c.itemsize-then-has_same_format.ensures) ∙ sym c.is_exact_reader.ensures ∙ c.if-is_exact_reader.true in
    c.equal_bytes.ensures
    ∙ exact_views c.item_equality_is_equivalence.ensures c.writes_what_was_read.ensures reader c.args.bytes.now c.args.other.now c.args.layout.now c.args.other_layout.now spelled reads exact
    (are_bytes c.args.bytes.now c.type_inv.bytes) (are_bytes c.args.other.now c.type_inv.other) c.requires.counted c.requires.other_counted c.requires.same_shape
    (one_text c.args.layout.now.format c.args.other_layout.now.format c.args.layout.now.itemsize (c.has_same_format.ensures.text c.if-has_same_format.true)) (c.has_same_format.ensures.size c.if-has_same_format.true) c.requires.inside c.requires.other_inside
