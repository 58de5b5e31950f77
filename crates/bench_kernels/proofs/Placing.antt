-- Views whose items lie among `count` bytes, and an order of three axes.
use Rattle.std.proofs.Common.{◌≡◌, ℕ, [], ◌∷◌, sym, subst}
use Rattle.std.proofs.lemmas.List.Sorted.{IsPermutation-append_comm}
use Rattle.pybuf_desc.specs.Layouts.{Layout, LiesInside}
use Rattle.pybuf_desc.specs.Descriptor.{Descriptor}
use Rattle.pybuf_desc.specs.Places.{layout_at}
use Rattle.pybuf_desc.specs.Valid.{IsValid, IsPlaced}
use Rattle.pybuf_desc.specs.Laws.{PlacedDescriptorsStand, ValidWhereItemsLieInside}
use Rattle.pybuf_nd.specs.Axes.{AreAxes}

pub lies_inside : PlacedDescriptorsStand → ValidWhereItemsLieInside → (d : Descriptor) (start room : ℕ) (view : Layout) → view ≡ layout_at d start → IsPlaced d start → IsValid d start room → LiesInside room view
lies_inside stand inside d start room view e placed valid =
    subst (LiesInside room) (sym e) ((inside d start room (layout_at d start) placed (stand d start placed)).1 valid)

pub last_first : (count : ℕ) → count ≡ 3 → AreAxes count (2 ∷ 0 ∷ 1 ∷ [])
last_first count e = subst (λ n. AreAxes n (2 ∷ 0 ∷ 1 ∷ [])) (sym e) (IsPermutation-append_comm (0 ∷ 1 ∷ []) (2 ∷ []))
