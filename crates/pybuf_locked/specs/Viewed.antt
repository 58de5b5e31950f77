-- What a view that was made of an exporter says of the exporter's length.
use Rattle.std.specs.Prelude.{◌≡◌, ℕ, Some, slice_get}
use Rattle.pybuf_state.specs.Exporter.{Exporter, View}

-- The view of a number was given, and it was made when the exporter had a length.
pub record HasViewMadeAt (view exporter_length : ℕ) (e : Exporter) : Type 0 where
  pub made : View
  pub given : slice_get e.views view ≡ Some made
  pub made_at : made.made_at ≡ exporter_length
