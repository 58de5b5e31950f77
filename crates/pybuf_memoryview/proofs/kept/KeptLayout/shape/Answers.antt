use Rattle.std.proofs.Common.{◌≡◌, ℕ, pos, List, map, ap, ◌∙◌, subst}
use Rattle.std.specs.Prelude.{ℤ, IfOk}
use Rattle.pybuf_desc.specs.Layouts.{Layout}
use Rattle.pybuf_memoryview.proofs.Dimensions.{entries_of_shape}
use Rattle.pybuf_memoryview.proofs.kept.KeptLayout.shape.Goals as goal

pub returns : goal.returns
returns c =
    subst (λ (xs : List ℤ). IfOk c.entries_of.result (λ list. list ≡ xs))
    (ap (map (λ (dim : ℕ × ℤ × ℤ). pos dim.0)) c.dim_desc.ensures ∙ entries_of_shape c.self.inside.descriptor.dims ∙ ap (λ (v : Layout). map (λ n. pos n) v.shape) c.self.view_is)
    c.entries_of.ensures
