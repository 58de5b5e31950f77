use Rattle.std.proofs.Common.{ap, ◌∙◌, ℤ, ℕ, List}
use Rattle.std.specs.List.{position}
use Rattle.std.specs.Ordering.{int_eq}
use Rattle.std.specs.Int.{w128}
use Rattle.std.proofs.lemmas.Int.{to_z-of_z}
use Rattle.pybuf_numbers.specs.Numbers.{numbers_of}
use Rattle.pybuf_array.specs.Array.{Array, first_place}
use Rattle.pybuf_array.proofs.array.PyArray.place_of.Goals as goal

pub returns-clause-place : goal.returns-clause-place
unfolding first_place
returns-clause-place c =
    let s = c.self.inside in
    c.place_of_number.ensures
    ∙ (ap (λ (n : ℤ). position (int_eq n) (numbers_of s.code c.as_slice.result.now)) (to_z-of_z w128 c.args.value c.ranges.value)
    ∙ (ap (λ (b : List ℕ). position (int_eq c.args.value) (numbers_of s.code b)) c.as_slice.ensures
    ∙ ap (λ (a : Array). position (int_eq c.args.value) a.numbers) c.self.view_is))
