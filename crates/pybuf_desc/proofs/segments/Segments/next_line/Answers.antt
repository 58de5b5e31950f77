use Rattle.std.proofs.Common.{rules, w64, pos, sym, subst}
use Rattle.std.proofs.lemmas.Int.{to_z-of_z}
use Rattle.pybuf_desc.specs.Segments.{line}
use Rattle.pybuf_desc.proofs.LineLemmas.{begun_inside, others_inside}
use Rattle.pybuf_desc.proofs.WalkLemmas.{AllInside}
use Rattle.pybuf_desc.proofs.segments.Segments.next_line.Goals as goal

pub line_of-line-requires-clause-inside : goal.line_of-line-requires-clause-inside
line_of-line-requires-clause-inside c =
    subst (λ z. AllInside c.self.inside.size (line (pos c.self.inside.place) z c.self.inside.left)) (sym (to_z-of_z w64 c.self.inside.stride (search rules)))
    (begun_inside c.self.inside.place c.self.inside.stride c.self.inside.left c.self.inside.row_len c.self.inside.size _ c.self.invariant.inside)

pub invariant_of-self-2 : goal.invariant_of-self-2
invariant_of-self-2 c = record {
  row = c.self.invariant.row;
  row_some = c.self.invariant.row_some;
  inside = others_inside c.self.inside.place c.self.inside.stride c.self.inside.left c.self.inside.row_len c.self.inside.size _ c.self.invariant.inside;
}
