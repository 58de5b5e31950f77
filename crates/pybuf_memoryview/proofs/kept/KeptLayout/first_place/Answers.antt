use Rattle.std.proofs.Common.{◌≡◌, sym, subst, length}
use Rattle.std.specs.Prelude.{Ok}
use Rattle.pybuf_desc.specs.Layouts.{Layout}
use Rattle.pybuf_memoryview.specs.KeyPlaces.{IsStartOf}
use Rattle.pybuf_memoryview.proofs.Entries.{only_start}
use Rattle.pybuf_memoryview.proofs.kept.KeptLayout.first_place.Goals as goal

pub returns : goal.returns
returns c =
    let d = c.self.inside.descriptor in
    let start = c.self.inside.start in
    subst (λ (v : Layout). IsStartOf v (Ok 0) start) c.self.view_is (only_start d start (subst (λ (v : Layout). length v.shape ≡ 0) (sym c.self.view_is) c.requires))
