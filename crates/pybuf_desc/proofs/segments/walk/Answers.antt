use Rattle.std.proofs.Common.{refl, replicate, w64, to_z, of_z, sym, ap, ◌∙◌, subst, map, true}
use Rattle.std.proofs.lemmas.Int.{to_z-of_z}
use Rattle.pybuf_desc.specs.Segments.{IsWalk, range_at, row_places}
use Rattle.pybuf_desc.proofs.WalkLemmas.{walk_begins, walk_places}
use Rattle.pybuf_desc.proofs.segments.walk.Goals as goal

pub invariant_of-result : goal.invariant_of-result
invariant_of-result c =
    subst (λ z. IsWalk c.args.rows.now (replicate 64 0) c.args.start true 0 z 0 c.args.row_len c.args.size) (sym (to_z-of_z w64 c.args.stride c.ranges.stride))
    (walk_begins c.args.rows.now (replicate 64 0) c.args.start c.args.stride c.args.row_len c.args.size refl c.requires)

pub returns : goal.returns
returns c =
    walk_places c.args.rows.now (replicate 64 0) c.args.start (to_z w64 (of_z w64 c.args.stride)) c.args.row_len c.args.size refl
    ∙ ap (λ z. map (range_at c.args.size) (row_places c.args.rows.now c.args.start z c.args.row_len)) (to_z-of_z w64 c.args.stride c.ranges.stride)
