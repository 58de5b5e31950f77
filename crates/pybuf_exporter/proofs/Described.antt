-- The descriptor of a view stands for the view. While the view is unreleased, its descriptor is valid for the
-- exporter's length.
use Rattle.std.proofs.Common.{◌≡◌, ℕ, zero, suc, ◌<◌, List, [], ◌∷◌, length, true, false, sym, subst, arith}
use Rattle.std.specs.Prelude.{Option, None, Ok, Err, IsSomeAnd, slice_get}
use Rattle.pybuf_lemmas.proofs.Lists.{element_holds}
use Rattle.pybuf_state.specs.Facts.{view_given, no_view_given}
use Rattle.pybuf_value.specs.declared.faults.Fault.{Fault}
use Rattle.pybuf_desc.specs.Descriptor.{Descriptor}
use Rattle.pybuf_desc.specs.Places.{Stands}
use Rattle.pybuf_desc.specs.Valid.{IsValid, IsPlaced}
use Rattle.pybuf_desc.specs.Laws.{ValidWhereItemsLieInside}
use Rattle.pybuf_state.specs.Exporter.{Exporter, View, view_at}
use Rattle.pybuf_state.specs.Sound.{IsSoundView, IsSoundExporter}

pub described_valid : ValidWhereItemsLieInside → (e : Exporter) (k : ℕ) (v : View) (d : Descriptor) (start : ℕ) → IsSoundExporter e → view_at e k ≡ Ok v → IsPlaced d start → Stands d start v.layout
    → IsSomeAnd (slice_get e.views k) (λ w. w.released ≡ false → IsValid d start (length e.bytes))
described_valid valid e k v d start sound found placed stands =
    let given = view_given (slice_get e.views k) v found in
    let view = element_holds (IsSoundView e.kind e.bytes) e.views k v sound.views given in
    subst (λ (o : Option View). IsSomeAnd o (λ w. w.released ≡ false → IsValid d start (length e.bytes))) (sym given)
    (λ unreleased. (valid d start (length e.bytes) v.layout placed stands).0 (view.held unreleased).inside)

pub described_stands : (e : Exporter) (k : ℕ) (v : View) (d : Descriptor) (start : ℕ) → view_at e k ≡ Ok v → Stands d start v.layout → IsSomeAnd (slice_get e.views k) (λ w. Stands d start w.layout)
described_stands e k v d start found stands = subst (λ (o : Option View). IsSomeAnd o (λ w. Stands d start w.layout)) (sym (view_given (slice_get e.views k) v found)) stands

none_past : {X : Type 0} (xs : List X) (k : ℕ) → slice_get xs k ≡ None → k < length xs → false ≡ true
none_past [] k none below = absurd (omega arith)
none_past (x ∷ xs) zero none below = absurd (cc)
none_past (x ∷ xs) (suc k) none below = let less : k < length xs = omega arith in none_past xs k none less

pub not_given : (e : Exporter) (k : ℕ) (f : Fault) → view_at e k ≡ Err f → k < length e.views → false ≡ true
not_given e k f refused below = none_past e.views k (no_view_given (slice_get e.views k) f refused) below
