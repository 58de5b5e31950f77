-- What holds of views that were given and are unreleased.
use Rattle.std.proofs.Common.{◌≡◌, ℕ, ◌<◌, List, length, true, refl}
use Rattle.std.specs.Prelude.{Option, Some, None, Ok, slice_get}
use Rattle.std.proofs.lemmas.Option.{slice_get_within}
use Rattle.pybuf_state.specs.Facts.{live_of}
use Rattle.pybuf_state.specs.Exporter.{Exporter, View, live_layout}
use Rattle.pybuf_state.specs.Live.{is_unreleased, is_live, layout_of}

given_of : (xs : List View) (k : ℕ) (o : Option View) → slice_get xs k ≡ o → is_unreleased o ≡ true → k < length xs
given_of xs k None at live = absurd (cc)
given_of xs k (Some v) at live = slice_get_within xs k v at

pub given : (e : Exporter) (k : ℕ) → is_live e k ≡ true → k < length e.views
given e k live = given_of e.views k (slice_get e.views k) refl live

pub is_live_layout : (e : Exporter) (k : ℕ) → is_live e k ≡ true → live_layout e k ≡ Ok (layout_of e k)
is_live_layout e k live = live_of (slice_get e.views k) live
