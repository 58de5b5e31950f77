use Rattle.std.proofs.Common.{ap, ◌∙◌}
use Rattle.std.specs.Prelude.{ℕ, ℤ, ◌==◌}
use Rattle.std.specs.List.{list_any}
use Rattle.pybuf_desc.specs.Layouts.{Layout}
use Rattle.pybuf_memoryview.specs.Orders.{has_zero_entry}
use Rattle.pybuf_memoryview.proofs.Dimensions.{any_entry}
use Rattle.pybuf_memoryview.proofs.kept.KeptLayout.has_zero.Goals as goal

pub returns : goal.returns
returns c =
    c.is_zero_among.ensures
    ∙ ap (list_any (λ (dim : ℕ × ℤ × ℤ). dim.0 == 0)) c.dim_desc.ensures ∙ any_entry c.self.inside.descriptor.dims ∙ ap (λ (v : Layout). has_zero_entry v.shape) c.self.view_is
