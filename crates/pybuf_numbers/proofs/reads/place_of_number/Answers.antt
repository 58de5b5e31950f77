use Rattle.std.proofs.Common.{◌≡◌, length, ap, ◌∙◌, sym, subst, arith, ℤ, to_z}
use Rattle.std.specs.Ordering.{int_eq}
use Rattle.std.specs.Int.{w128}
use Rattle.std.proofs.lemmas.Int.{to_z-of_z}
use Rattle.std.proofs.lemmas.Cmp.{int_eq_equiv}
use Rattle.pybuf_numbers.specs.Numbers.{numbers_of}
use Rattle.pybuf_numbers.proofs.Searching.{Passed, position_found, position_none}
use Rattle.pybuf_numbers.proofs.reads.place_of_number.Goals as goal

pub returns-then-number_at-number : goal.returns-then-number_at-number
returns-then-number_at-number c =
    let same = to_z-of_z w128 c.args.number c.ranges.number in
    let found = sym (to_z-of_z w128 c.number_at.result (record { sfits = c.number_at.type_inv })) ∙ (ap (to_z w128) c.if-number_at-number.true ∙ same) in
    let passed = subst (λ (n : ℤ). Passed (int_eq n) (numbers_of c.args.code c.args.bytes.now) c.loop-place.place) same c.loop-place.invariant in
    sym (position_found (int_eq c.args.number) (numbers_of c.args.code c.args.bytes.now) c.loop-place.place c.number_at.result passed c.number_at.ensures
    (ap (int_eq c.args.number) found ∙ int_eq_equiv.refl c.args.number))

pub returns : goal.returns
returns c =
    let same = to_z-of_z w128 c.args.number c.ranges.number in
    let passed = subst (λ (n : ℤ). Passed (int_eq n) (numbers_of c.args.code c.args.bytes.now) c.loop-place.place) same c.loop-place.invariant in
    let end : c.loop-place.place ≡ length (numbers_of c.args.code c.args.bytes.now) = omega (arith, c.count_of_numbers-place-end.ensures) in
    sym (position_none (int_eq c.args.number) (numbers_of c.args.code c.args.bytes.now)
    (subst (Passed (int_eq c.args.number) (numbers_of c.args.code c.args.bytes.now)) end passed))
