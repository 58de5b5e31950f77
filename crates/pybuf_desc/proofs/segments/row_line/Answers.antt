use Rattle.std.proofs.Common.{◌≡◌, w64, to_z, of_z, pos, sym, subst, refl}
use Rattle.std.proofs.lemmas.Int.{to_z-of_z}
use Rattle.pybuf_desc.specs.Segments.{line}
use Rattle.pybuf_desc.proofs.WalkLemmas.{AllInside}
use Rattle.pybuf_desc.proofs.LineLemmas.{row_inside, rest_inside}
use Rattle.pybuf_desc.proofs.segments.row_line.Goals as goal

pub line_of-line-requires-clause-inside : goal.line_of-line-requires-clause-inside
line_of-line-requires-clause-inside c =
    let same : to_z w64 (of_z w64 c.args.stride) ≡ c.args.stride = to_z-of_z w64 c.args.stride c.ranges.stride in
    subst (λ z. AllInside c.args.size (line (pos c.args.place) z c.args.row_len)) (sym same)
    (row_inside c.args.place c.args.row_len c.args.size c.args.stride _ _ c.next_row-next.ensures.left c.requires.inside)

pub returns-clause-walk : goal.returns-clause-walk
returns-clause-walk c = record {
  row = λ _. c.next_row-next.ensures.row;
  row_some = λ _. c.requires.row_some refl;
  inside = rest_inside c.args.place c.args.row_len c.args.size c.args.stride _ _ c.next_row-next.ensures.left c.requires.inside;
}
