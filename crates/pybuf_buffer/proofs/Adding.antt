-- The view that a buffer is made of is sound.
use Rattle.std.proofs.Common.{◌≡◌, ℕ, List, length, Bool, true, false, not, sym, subst, ap, ◌∙◌, refl, true≢false, rules}
use Rattle.std.specs.Prelude.{Result, Ok, Err, ◌==◌, ◌&&◌, nat_lt, ◌<◌}
use Rattle.pybuf_value.specs.declared.faults.Fault.{Fault}
use Rattle.pybuf_value.specs.declared.faults.Fault.TheVariants as fault
use Rattle.pybuf_value.specs.Refusing.{◌>>=◌, unless}
use Rattle.pybuf_struct.specs.Formats.{Format, format_of}
use Rattle.pybuf_desc.specs.Layouts.{Layout, bytes_layout}
use Rattle.pybuf_desc.specs.Descriptor.{Descriptor}
use Rattle.pybuf_desc.specs.Places.{Stands, layout_at}
use Rattle.pybuf_desc.specs.Valid.{IsValid, IsPlaced}
use Rattle.pybuf_desc.specs.Laws.{PlacedDescriptorsStand, DescriptorsStandForOneView, DescribedViewsHaveTheirShape, ValidWhereItemsLieInside}
use Rattle.pybuf_command.specs.Kinds.{holds_readonly}
use Rattle.pybuf_memoryview.specs.Sized.{is_size_of}
use Rattle.pybuf_command.specs.declared.kinds.ExporterKind.TheVariants as kinds
use Rattle.pybuf_command.specs.declared.commands.LocalReply.TheVariants as reply
use Rattle.pybuf_state.specs.Exporter.{Exporter, new_exporter, with_view}
use Rattle.pybuf_state.specs.Laws.{IsSoundLayout, WholeLayoutsAreSound}
use Rattle.pybuf_buffer.specs.Making.{checked_format}

vector_layout : DescriptorsStandForOneView → (d : Descriptor) (bytes : List ℕ) (n : ℕ) → n ≡ length bytes → Stands d 0 (bytes_layout n true) → bytes_layout (length bytes) true ≡ layout_at d 0
vector_layout one d bytes n long stands = ap (λ (k : ℕ). bytes_layout k true) (sym long) ∙ one d 0 (bytes_layout n true) stands

pub vector_sound : DescriptorsStandForOneView → WholeLayoutsAreSound → (e : Exporter) (d : Descriptor) (bytes : List ℕ) (n : ℕ) → n ≡ length bytes → e ≡ new_exporter (kinds.Vector true) bytes → Stands d 0 (bytes_layout n true) → IsSoundLayout e (layout_at d 0)
vector_sound one whole e d bytes n long is stands =
    subst (λ (x : Exporter). IsSoundLayout x (layout_at d 0)) (sym is)
    (subst (IsSoundLayout (new_exporter (kinds.Vector true) bytes)) (vector_layout one d bytes n long stands) (whole (new_exporter (kinds.Vector true) bytes)))

pub vector_made : DescriptorsStandForOneView → (e new : Exporter) (d : Descriptor) (bytes : List ℕ) (n k : ℕ) → n ≡ length bytes → e ≡ new_exporter (kinds.Vector true) bytes → Stands d 0 (bytes_layout n true)
    → with_view e (layout_at d 0) ≡ (new, reply.View k) → new ≡ (with_view (new_exporter (kinds.Vector true) bytes) (bytes_layout (length bytes) true)).0
vector_made one e new d bytes n k long is stands made =
    sym (ap (λ (pair : Exporter × _). pair.0) made) ∙ ap (λ (x : Exporter). (with_view x (layout_at d 0)).0) is
    ∙ ap (λ (l : Layout). (with_view (new_exporter (kinds.Vector true) bytes) l).0) (sym (vector_layout one d bytes n long stands))

-- ---- a format that passed its checks

sized_one : (same some readonly : Bool) → some ≡ true → (unless (not same) fault.Kind >>= λ u. unless readonly fault.Kind) ≡ Ok true → (some && same) ≡ true
sized_one true some readonly is done = cc
sized_one false some readonly is done = absurd (cc)

last_passed : (same readonly : Bool) → (unless (not same) fault.Kind >>= λ u. unless readonly fault.Kind) ≡ Ok true → readonly ≡ false
last_passed true true done = absurd (cc)
last_passed true false done = refl
last_passed false readonly done = absurd (cc)

both_readonly : (held readonly : Bool) → (held && not readonly) ≡ false → held ≡ true → readonly ≡ true
both_readonly held true passed is = refl
both_readonly true false passed is = absurd (true≢false passed)
both_readonly false false passed is = absurd (true≢false (sym is))

sized_after : (r : Result Format Fault) (size : ℕ) (readonly : Bool) → 0 < size → (r >>= λ format. unless (not (format.size == size)) fault.Kind >>= λ u. unless readonly fault.Kind) ≡ Ok true → is_size_of size r ≡ true
sized_after (Err f) size readonly some done = absurd (cc)
sized_after (Ok format) size readonly some done = sized_one (format.size == size) (nat_lt 0 size) readonly (search rules) done

readonly_after : (r : Result Format Fault) (size : ℕ) (readonly : Bool) → (r >>= λ format. unless (not (format.size == size)) fault.Kind >>= λ u. unless readonly fault.Kind) ≡ Ok true → readonly ≡ false
readonly_after (Err f) size readonly done = absurd (cc)
readonly_after (Ok format) size readonly done = last_passed (format.size == size) readonly done

pub buffer_sound : PlacedDescriptorsStand → DescribedViewsHaveTheirShape → ValidWhereItemsLieInside → (e : Exporter) (d : Descriptor) (start : ℕ) → IsPlaced d start → IsValid d start (length e.bytes) → checked_format e d ≡ Ok true
    → IsSoundLayout e (layout_at d start)
buffer_sound stand shape inside e d start placed valid checked =
    let stands = stand d start placed in record {
      formed = record { sized = sized_after (format_of d.format) d.itemsize (holds_readonly e.kind && not d.readonly) valid.some_size checked; counted = shape d start (layout_at d start) stands };
      inside = (inside d start (length e.bytes) (layout_at d start) placed stands).1 valid;
      readonly = λ is. both_readonly (holds_readonly e.kind) d.readonly (readonly_after (format_of d.format) d.itemsize (holds_readonly e.kind && not d.readonly) checked) is;
    }
