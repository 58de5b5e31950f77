-- What an exporter and its views are lent as fits.
use Rattle.std.proofs.Common.{◌≡◌, ℕ, ◌*◌, List, [], length, Bool, true, false, ap, ap₂, sym, ◌∙◌, refl, subst}
use Rattle.std.specs.Prelude.{◌&&◌, ◌||◌, ◌==◌, Option, Some, None, codes, if◌then◌else◌, IfSome, slice_get}
use Rattle.std.specs.Option.{option_map}
use Rattle.std.specs.Prelude.{IfOk, Result, Ok, Err}
use Rattle.std.proofs.lemmas.Bool.{eq-eqb}
use Rattle.pybuf_lemmas.proofs.Lists.{element_holds}
use Rattle.pybuf_value.specs.declared.snaps.Snap.{Snap}
use Rattle.pybuf_value.specs.declared.snaps.SnapKind.TheVariants as snap_kind
use Rattle.pybuf_desc.specs.Items.{content_of_layout}
use Rattle.pybuf_command.specs.declared.kinds.ExporterKind.{ExporterKind}
use Rattle.pybuf_command.specs.declared.kinds.ExporterKind.TheVariants as kind
use Rattle.pybuf_command.specs.declared.kinds.Subject.{Subject}
use Rattle.pybuf_command.specs.declared.kinds.Subject.TheVariants as subject
use Rattle.pybuf_struct.specs.Formats.{codes_in, layout_from, format_after_prefix}
use Rattle.pybuf_memoryview.specs.Sized.{is_sized, byte_count}
use Rattle.pybuf_memoryview.specs.Fits.{fits_kind, fits_snap}
use Rattle.pybuf_memoryview.specs.Laws.{ContentsAreWhole}
use Rattle.pybuf_state.specs.Exporter.{Exporter, View, Iterator}
use Rattle.pybuf_state.specs.Sound.{IsSoundView, IsSoundExporter}
use Rattle.pybuf_state.specs.Snaps.{snap_kind_of, snap_of_exporter, snap_of_view, iterator_snap, snap_of_subject}

bytes_are_sized : is_sized (codes "B") 1 ≡ true
unfolding codes_in layout_from format_after_prefix
bytes_are_sized = refl

kind_fits : (k : ExporterKind) (s : Snap) → fits_kind snap_kind.Bytes s ≡ true → fits_kind (snap_kind_of k) s ≡ true
kind_fits kind.Bytes s whole = whole
kind_fits kind.ByteArray s whole = whole
kind_fits (kind.Vector readonly) s whole = whole

pub exporter_fits : (e : Exporter) → fits_snap (snap_of_exporter e) ≡ true
exporter_fits e =
    ap₂ (λ a b. a && b) (kind_fits e.kind (snap_of_exporter e) (eq-eqb (length e.bytes) (length e.bytes) refl)) bytes_are_sized

filled : ContentsAreWhole → (k : ExporterKind) (bytes : List ℕ) (v : View) (b : Bool) → v.released ≡ b → IsSoundView k bytes v
    → (b || length (if b then [] else content_of_layout bytes v.layout) == byte_count v.layout.itemsize v.layout.shape) ≡ true
filled whole k bytes v true is sound = refl
filled whole k bytes v false is sound =
    eq-eqb (length (content_of_layout bytes v.layout)) (byte_count v.layout.itemsize v.layout.shape)
    (whole bytes v.layout (sound.held is).inside ∙ ap (λ n. v.layout.itemsize * n) sound.formed.counted)

view_fits : ContentsAreWhole → (k : ExporterKind) (bytes : List ℕ) (v : View) → IsSoundView k bytes v → fits_snap (snap_of_view bytes v) ≡ true
view_fits whole k bytes v sound = ap₂ (λ a b. a && b) (filled whole k bytes v v.released refl sound) sound.formed.sized

found_fits : ContentsAreWhole → (e : Exporter) (o : Option View) (k : ℕ) → slice_get e.views k ≡ o → IsSoundExporter e → IfSome (option_map (snap_of_view e.bytes) o) (λ s. fits_snap s ≡ true)
found_fits whole e None k at sound = tt
found_fits whole e (Some v) k at sound = view_fits whole e.kind e.bytes v (element_holds (IsSoundView e.kind e.bytes) e.views k v sound.views at)

iterator_fits : (o : Option Iterator) → IfSome (option_map (λ it. iterator_snap) o) (λ snap. fits_snap snap ≡ true)
iterator_fits None = tt
iterator_fits (Some it) = bytes_are_sized

-- whatever a sound exporter lends fits
pub subject_fits : ContentsAreWhole → (e : Exporter) (s : Subject) → IsSoundExporter e → IfSome (snap_of_subject e s) (λ snap. fits_snap snap ≡ true)
subject_fits whole e subject.Own sound = exporter_fits e
subject_fits whole e (subject.View k) sound = found_fits whole e (slice_get e.views k) k refl sound
subject_fits whole e (subject.Iter k) sound = iterator_fits (slice_get e.iterators k)

-- a result that may be no snap fits if its definition does
pub fits_so : {E : Type 0} (r : Result (Option Snap) E) (o : Option Snap) → IfOk r (λ snap. snap ≡ o) → IfSome o (λ snap. fits_snap snap ≡ true) → IfOk r (λ snap. IfSome snap (λ s. fits_snap s ≡ true))
fits_so (Ok snap) o is fits = subst (λ (x : Option Snap). IfSome x (λ s. fits_snap s ≡ true)) (sym is) fits
fits_so (Err e) o is fits = tt
