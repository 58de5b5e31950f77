use Rattle.std.proofs.Common.{◌/◌, ◌≡◌, length, ap, ◌∙◌, arith, sym, refl}
use Rattle.pybuf_numbers.specs.Codes.{size_of}
use Rattle.pybuf_numbers.proofs.Sizes.{sizes}
use Rattle.pybuf_numbers.proofs.Again.{swap_is, ones_are}
use Rattle.pybuf_numbers.proofs.writes.swap_numbers.Goals as goal

pub returns-in-1-clause-numbers : goal.returns-in-1-clause-numbers
returns-in-1-clause-numbers c =
    swap_is c.args.code c.args.bytes.now c.args.bytes.now 1 (length c.args.bytes.now / size_of c.args.code) (sym c.in-1.is ∙ c.size-2.ensures) refl refl (λ i. (c.type_inv.bytes i).fits)
    (ones_are 1 (length c.args.bytes.now / size_of c.args.code) c.args.bytes.now refl)

pub returns-in-2-clause-numbers : goal.returns-in-2-clause-numbers
returns-in-2-clause-numbers c =
    swap_is c.args.code c.args.bytes.now _ 2 _ (sym c.in-2.is ∙ c.size-2.ensures) (ap (λ s. length c.args.bytes.now / s) c.size.ensures) (omega arith) (λ i. (c.type_inv.bytes i).fits) c.turn_pieces.ensures

pub returns-in-4-clause-numbers : goal.returns-in-4-clause-numbers
returns-in-4-clause-numbers c =
    swap_is c.args.code c.args.bytes.now _ 4 _ (sym c.in-4.is ∙ c.size-2.ensures) (ap (λ s. length c.args.bytes.now / s) c.size.ensures) (omega arith) (λ i. (c.type_inv.bytes i).fits) c.turn_pieces-in-4.ensures

pub returns-in_default-clause-numbers : goal.returns-in_default-clause-numbers
returns-in_default-clause-numbers c =
    let last : 8 ≡ size_of c.args.code = omega (arith, sizes c.args.code, c.in_default, c.size-2.ensures) in
    swap_is c.args.code c.args.bytes.now _ 8 _ last (ap (λ s. length c.args.bytes.now / s) c.size.ensures) (omega arith) (λ i. (c.type_inv.bytes i).fits) c.turn_pieces-in_default.ensures
