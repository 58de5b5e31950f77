use Rattle.std.proofs.Common.{◌≡◌, ℕ, List, subst}
use Rattle.std.specs.Prelude.{IfOk}
use Rattle.pybuf_memoryview.proofs.Gathered.{places_inside, content_gathered}
use Rattle.pybuf_memoryview.proofs.content.content_of.Goals as goal

pub gather-requires : goal.gather-requires
gather-requires c = places_inside c.args.bytes.now c.placed-start.result.0.now c.placed-start.result.1 c.args.layout.now c.segments.result c.placed-start.ensures.stands c.segments.ensures.bytes c.requires

pub returns : goal.returns
returns c =
    subst (λ (xs : List ℕ). IfOk c.gather.result (λ list. list.items ≡ xs))
    (content_gathered c.args.bytes.now c.placed-start.result.0.now c.placed-start.result.1 c.args.layout.now c.segments.result c.placed-start.ensures.stands c.segments.ensures.bytes) c.gather.ensures
