-- The vector that is made from the copy of a view.
use Rattle.std.proofs.Common.{◌≡◌, ℕ, List, Bool, ap, sym, ◌∙◌, refl, subst}
use Rattle.std.specs.Prelude.{Ok, slice_get}
use Rattle.std.proofs.lemmas.List.Elements.{All-nil}
use Rattle.pybuf_value.specs.declared.snaps.Snap.{Snap}
use Rattle.pybuf_desc.specs.Layouts.{Layout}
use Rattle.pybuf_desc.specs.Items.{content_of_layout}
use Rattle.pybuf_desc.specs.Packed.{row_major_of}
use Rattle.pybuf_desc.specs.Laws.{IsCopiedLayout, CopiesHaveTheirBytes}
use Rattle.pybuf_command.specs.declared.kinds.ExporterKind.{ExporterKind}
use Rattle.pybuf_command.specs.declared.kinds.ExporterKind.TheVariants as exporter_kind
use Rattle.pybuf_command.specs.declared.kinds.Subject.TheVariants as subject
use Rattle.pybuf_memoryview.specs.Snaps.{snap_of_copy}
use Rattle.pybuf_state.specs.Snaps.{snap_kind_of, snap_of_exporter}
use Rattle.pybuf_state.specs.Exporter.{Exporter, new_exporter, live_layout}
use Rattle.pybuf_state.specs.Fresh.{is_readonly_view, is_readonly_subject, vector_of, made_by_kind, made_of, IsPackedCopy, HoldsCopy}
use Rattle.pybuf_state.specs.Sound.{IsSoundView, IsSoundExporter}
use Rattle.pybuf_state.specs.Laws.{IsSoundLayout, LiveLayoutsAreSound, NewViewsAreSound, CopiesAreFaithful}
use Rattle.pybuf_state.proofs.Finding.{live_view}

-- an unreleased view is read-only exactly if its layout says so
readonly_of_live : (e : Exporter) (k : ℕ) (layout : Layout) → live_layout e k ≡ Ok layout → is_readonly_view (slice_get e.views k) ≡ layout.readonly
readonly_of_live e k layout found =
    let live = live_view e k layout found in ap is_readonly_view live.1.given ∙ ap (λ (l : Layout). l.readonly) live.1.shows

made_sound : NewViewsAreSound → (e : Exporter) (layout : Layout) → IsSoundLayout e layout → IsCopiedLayout e.bytes layout (row_major_of layout) → IsSoundExporter (vector_of layout.readonly (snap_of_copy e.bytes layout))
made_sound adding e layout sound copied =
    let plain : Exporter = new_exporter (exporter_kind.Vector layout.readonly) (content_of_layout e.bytes layout) in
    adding plain (row_major_of layout) (record { views = All-nil (IsSoundView plain.kind plain.bytes) })
    (record {
      formed = record { sized = sound.formed.sized; counted = copied.counted };
      inside = copied.inside;
      readonly = λ is. is;
    })

packed : (e : Exporter) (layout : Layout) → IsCopiedLayout e.bytes layout (row_major_of layout) → IsPackedCopy e.bytes layout (content_of_layout e.bytes layout) (row_major_of layout)
packed e layout copied = record {
  content = copied.content;
  whole = refl;
  format = refl;
  itemsize = refl;
  shape = refl;
  readonly = refl;
  strides = copied.strides;
  contiguous = copied.contiguous;
}

faithful_view : LiveLayoutsAreSound → NewViewsAreSound → CopiesHaveTheirBytes → (e : Exporter) (k : ℕ) (layout : Layout) → IsSoundExporter e → live_layout e k ≡ Ok layout
    → (IsSoundExporter (vector_of layout.readonly (snap_of_copy e.bytes layout))) × (HoldsCopy e (subject.View k) (vector_of layout.readonly (snap_of_copy e.bytes layout)))
faithful_view live adding copies e k layout sound found =
    let sound_layout = live e k layout sound found in
    let copied = copies e.bytes layout sound_layout.formed.counted sound_layout.inside in
    (made_sound adding e layout sound_layout copied, (layout, row_major_of layout, found, refl, refl, packed e layout copied))

-- what is made from the copy of a bytearray is sound
byte_array_sound : (bytes : List ℕ) → IsSoundExporter (new_exporter exporter_kind.ByteArray bytes)
byte_array_sound bytes = record { views = All-nil (IsSoundView exporter_kind.ByteArray bytes) }

faithful_own : (e : Exporter) (readonly : Bool) (k : ExporterKind) → k ≡ exporter_kind.ByteArray → (made : Exporter) → made ≡ made_by_kind (snap_kind_of k) readonly (snap_of_exporter e)
    → (IsSoundExporter made) × (HoldsCopy e subject.Own made)
faithful_own e readonly k is made by =
    let same : made ≡ new_exporter exporter_kind.ByteArray e.bytes = by ∙ ap (λ (kind : ExporterKind). made_by_kind (snap_kind_of kind) readonly (snap_of_exporter e)) is in
    (subst IsSoundExporter (sym same) (byte_array_sound e.bytes), same)

pub faithful : LiveLayoutsAreSound → NewViewsAreSound → CopiesHaveTheirBytes → CopiesAreFaithful
faithful live adding copies e (subject.View k) snap sound copy =
    let holds = faithful_view live adding copies e k copy.0 sound copy.1 in
    let P : Bool → Snap → Type 0 = λ readonly s. (IsSoundExporter (made_of readonly s)) × (HoldsCopy e (subject.View k) (made_of readonly s)) in
    subst (P (is_readonly_view (slice_get e.views k))) (sym copy.2)
    (subst (λ (readonly : Bool). P readonly (snap_of_copy e.bytes copy.0)) (sym (readonly_of_live e k copy.0 copy.1)) holds)
faithful live adding copies e subject.Own snap sound copy =
    faithful_own e (is_readonly_subject e subject.Own) e.kind copy.0 (made_of (is_readonly_subject e subject.Own) snap) (ap (made_of (is_readonly_subject e subject.Own)) copy.1)
faithful live adding copies e (subject.Iter k) snap sound copy = absurd copy
