-- Views that are found by their number.
use Rattle.std.proofs.Common.{◌≡◌, ℕ, zero, suc, List, [], ◌∷◌, ◌++◌, Bool, true, false, sym, ◌∙◌, refl, subst}
use Rattle.std.specs.Prelude.{set, Some, Result, Ok, Err, slice_get}
use Rattle.pybuf_state.specs.Facts.{view_given}
use Rattle.pybuf_value.specs.declared.faults.Fault.{Fault}
use Rattle.pybuf_value.specs.declared.faults.Fault.TheVariants as fault
use Rattle.pybuf_value.specs.Refusing.{◌>>=◌, unless}
use Rattle.pybuf_desc.specs.Layouts.{Layout}
use Rattle.pybuf_state.specs.Exporter.{Exporter, View, view_at, live_layout}

pub view_at_given : (e : Exporter) (k : ℕ) (v : View) → view_at e k ≡ Ok v → slice_get e.views k ≡ Some v
view_at_given e k v found = view_given (slice_get e.views k) v found

-- the view whose layout is a live layout
pub record IsLiveView (e : Exporter) (k : ℕ) (layout : Layout) (v : View) : Type 0 where
  pub given : slice_get e.views k ≡ Some v
  pub unreleased : v.released ≡ false
  pub shows : v.layout ≡ layout

live_case : (b : Bool) (w : View) (layout : Layout) → w.released ≡ b → (unless b fault.Value >>= (λ _. Ok w.layout)) ≡ Ok layout → (w.released ≡ false) × (w.layout ≡ layout)
live_case true w layout is found = absurd (cc)
live_case false w layout is found = (is, (cc))

live_of : (r : Result View Fault) (layout : Layout) → (r >>= (λ w. unless w.released fault.Value >>= (λ _. Ok w.layout))) ≡ Ok layout
    → (v : View) × (r ≡ Ok v) × (v.released ≡ false) × (v.layout ≡ layout)
live_of (Err f) layout found = absurd (cc)
live_of (Ok w) layout found =
    let both = live_case w.released w layout refl found in
    (w, refl, both.0, both.1)

pub live_view : (e : Exporter) (k : ℕ) (layout : Layout) → live_layout e k ≡ Ok layout → (v : View) × IsLiveView e k layout v
live_view e k layout found =
    let live = live_of (view_at e k) layout found in
    (live.0, record { given = view_at_given e k live.0 live.1; unreleased = live.2; shows = live.3 })

-- ---- after a push, and after a write

pub slice_get-push : {X : Type 0} (xs : List X) (y x : X) (k : ℕ) → slice_get xs k ≡ Some x → slice_get (xs ++ y ∷ []) k ≡ Some x
slice_get-push [] y x k found = absurd (cc)
slice_get-push (z ∷ xs) y x zero found = found
slice_get-push (z ∷ xs) y x (suc k) found = slice_get-push xs y x k found

-- what stands at a number after a write: the new one at that number, and the old one at any other
pub slice_get-set : {X : Type 0} (P : X → X → Type 0) (xs : List X) (k j : ℕ) (x y z : X) → ((w : X) → P w w) → P x y → slice_get xs k ≡ Some x → slice_get xs j ≡ Some z
    → (w : X) × (slice_get (set xs k y) j ≡ Some w) × P z w
slice_get-set P [] k j x y z same changed at found = absurd (cc)
slice_get-set P (u ∷ xs) zero zero x y z same changed at found =
    let is_x : u ≡ x = cc in
    let is_z : u ≡ z = cc in
    (y, refl, subst (λ (v : _). P v y) (sym is_x ∙ is_z) changed)
slice_get-set P (u ∷ xs) zero (suc j) x y z same changed at found = (z, found, same z)
slice_get-set P (u ∷ xs) (suc k) zero x y z same changed at found = (z, found, same z)
slice_get-set P (u ∷ xs) (suc k) (suc j) x y z same changed at found = slice_get-set P xs k j x y z same changed at found
