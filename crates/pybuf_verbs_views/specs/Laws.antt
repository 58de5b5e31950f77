-- Each effect keeps a sound exporter and replies a refusal only if it is refused.
use Rattle.std.specs.Prelude.{◌≡◌, ◌||◌, ℕ, true, List, Option, Some, Ok}
use Rattle.pybuf_value.specs.declared.values.PySlice.{PySlice}
use Rattle.pybuf_value.specs.declared.values.Value.{Value}
use Rattle.pybuf_value.specs.Texts.{text_in}
use Rattle.pybuf_struct.specs.declared.table.FormatType.{FormatType}
use Rattle.pybuf_struct.specs.Natives.{native_single_code, is_byte_code, is_byte_format}
use Rattle.pybuf_desc.specs.Layouts.{Layout}
use Rattle.pybuf_desc.specs.Items.{content_of_layout}
use Rattle.pybuf_desc.specs.ColumnOrder.{column_content, is_f_contiguous_layout}
use Rattle.pybuf_command.specs.declared.commands.LocalReply.{LocalReply}
use Rattle.pybuf_state.specs.Exporter.{Exporter, live_layout, released_in, with_view}
use Rattle.pybuf_state.specs.Sound.{IsSoundExporter}
use Rattle.pybuf_command.specs.declared.kinds.Subject.TheVariants as subject
use Rattle.pybuf_value.specs.Refusing.{IfDone}
use Rattle.pybuf_state.specs.Keeps.{IsSafe, IsCopied}
use Rattle.pybuf_verbs_views.specs.View.{view_of_own, view_of_view}
use Rattle.pybuf_verbs_views.specs.Range.{range_of_own}
use Rattle.pybuf_verbs_views.specs.Slice.{slice_of_view}
use Rattle.pybuf_verbs_views.specs.Cast.{cast_of_view, column_cast_of_view}
use Rattle.pybuf_verbs_views.specs.Release.{release_of_view}
use Rattle.pybuf_verbs_views.specs.Enter.{enter_of_view}
use Rattle.pybuf_verbs_views.specs.Contiguous.{contiguous_of_view}
use Rattle.pybuf_verbs_views.specs.ToReadonly.{toreadonly_of_view}

abbrev pub ViewIsSafe : Type 0
ViewIsSafe = ((e : Exporter) → IsSafe e (view_of_own e)) × ((e : Exporter) (k : ℕ) → IsSafe e (view_of_view e k))

abbrev pub RangeIsSafe : Type 0
RangeIsSafe = (e : Exporter) (from to : Value) → IsSafe e (range_of_own e from to)

abbrev pub SliceIsSafe : Type 0
SliceIsSafe = (e : Exporter) (k : ℕ) (slice : PySlice) → IsSafe e (slice_of_view e k slice)

abbrev pub CastIsSafe : Type 0
CastIsSafe = (e : Exporter) (k : ℕ) (format : Value) (shape : Option Value) → IsSafe e (cast_of_view e k format shape)

abbrev pub ColumnCastIsSafe : Type 0
ColumnCastIsSafe = (e : Exporter) (k : ℕ) (format shape : Value) → IsSafe e (column_cast_of_view e k format shape)

-- A cast that isn't refused is one to a format of one native code, and either that format or the view's has
-- single bytes as items.
abbrev pub CastsAreOfBytes : Type 0
CastsAreOfBytes =
    (e : Exporter) (k : ℕ) (format : Value) (shape : Option Value) (made : Exporter × LocalReply)
    → cast_of_view e k format shape ≡ Ok made
    → (layout : Layout) × (text : List ℕ) × (code : FormatType)
    × (live_layout e k ≡ Ok layout) × (text_in format ≡ Ok text) × (native_single_code text ≡ Some code)
    × (is_byte_code code || is_byte_format layout.format ≡ true)

-- `castf` of a view makes one more view. The items of the new view lie one after the other in column order, and
-- in that order they have the bytes of the old view.
pub record HoldsTheBytes (e : Exporter) (k : ℕ) (made : Exporter × LocalReply) : Type 0 where
  pub layout : Layout
  pub live : live_layout e k ≡ Ok layout
  pub cast : Layout
  pub answer : made ≡ with_view e cast
  pub in_column_order : is_f_contiguous_layout cast ≡ true
  pub bytes : column_content e.bytes cast ≡ content_of_layout e.bytes layout

abbrev pub ColumnCastsHoldTheBytes : Type 0
ColumnCastsHoldTheBytes =
    (e : Exporter) (k : ℕ) (format shape : Value) (made : Exporter × LocalReply) → IsSoundExporter e → column_cast_of_view e k format shape ≡ Ok made → HoldsTheBytes e k made

abbrev pub ReleaseIsSafe : Type 0
ReleaseIsSafe = (e : Exporter) (k : ℕ) → IsSafe e (release_of_view e k)

abbrev pub EnterIsSafe : Type 0
EnterIsSafe = (e : Exporter) (k : ℕ) → IsSafe e (enter_of_view e k)

-- `contig` leaves the exporter as it is, and replies a copy of the view
abbrev pub ContiguousIsCopied : Type 0
ContiguousIsCopied = (e : Exporter) (k : ℕ) → IfDone (IsCopied e (subject.View k)) (contiguous_of_view e k)

abbrev pub ToReadonlyIsSafe : Type 0
ToReadonlyIsSafe = (e : Exporter) (k : ℕ) → IsSafe e (toreadonly_of_view e k)

-- A view that is released twice is as if it were released once.
abbrev pub ReleasingTwiceIsOnce : Type 0
ReleasingTwiceIsOnce = (e once : Exporter) (k : ℕ) → released_in e k ≡ Ok once → released_in once k ≡ Ok once
