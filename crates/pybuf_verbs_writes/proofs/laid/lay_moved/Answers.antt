use Rattle.std.proofs.Common.{ℕ, take, drop, length, ◌∙◌, ap}
use Rattle.pybuf_lemmas.proofs.Lists.{length_of_part}
use Rattle.pybuf_memoryview.specs.Orders.{nbytes_of}
use Rattle.pybuf_verbs_writes.specs.Laid.{bytes_with}
use Rattle.pybuf_verbs_writes.proofs.Laying.{laid_from}
use Rattle.pybuf_verbs_writes.proofs.laid.lay_moved.Goals as goal

pub returns : goal.returns
returns c =
    c.move_bytes.ensures
    ∙ ap (λ (n : ℕ). bytes_with c.args.bytes.now c.first_place-place.result (take n (drop c.args.from c.args.bytes.now))) c.nbytes.ensures
    ∙ laid_from c.contiguous_items_are_one_run.ensures c.args.bytes.now (take (nbytes_of c.args.layout.now) (drop c.args.from c.args.bytes.now)) c.args.layout.now c.first_place-place.result c.first_place-place.ensures.counted c.requires.contiguous c.first_place-place.ensures.value c.requires.inside
    (c.first_place-place.ensures.inside (length c.args.bytes.now) c.requires.inside) (length_of_part c.args.bytes.now c.args.from (nbytes_of c.args.layout.now) c.requires.enough)
