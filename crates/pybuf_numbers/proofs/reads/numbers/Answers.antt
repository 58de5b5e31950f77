use Rattle.std.proofs.Common.{ap, ◌∙◌, sym, ◌++◌, ◌∷◌, []}
use Rattle.std.specs.Int.{w128}
use Rattle.std.proofs.lemmas.Int.{to_z-of_z}
use Rattle.pybuf_numbers.specs.Numbers.{numbers_of}
use Rattle.pybuf_numbers.proofs.Again.{took}
use Rattle.pybuf_numbers.proofs.reads.numbers.Goals as goal

pub loop-place-preserved : goal.loop-place-preserved
loop-place-preserved c =
    c.in_ok-push.ensures.items
    ∙ (ap (λ x. c.loop-place.list.items ++ x ∷ []) (to_z-of_z w128 c.number_at.result (record { sfits = c.number_at.type_inv }))
    ∙ (ap (λ xs. xs ++ c.number_at.result ∷ []) c.loop-place.invariant
    ∙ sym (took (numbers_of c.args.code c.args.bytes.now) c.loop-place.place c.number_at.result c.number_at.ensures)))
