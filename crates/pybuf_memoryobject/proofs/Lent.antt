-- The view of all bytes of an exporter that may be written is sound.
use Rattle.std.proofs.Common.{◌≡◌, ℕ, List, length, Bool, true, false, sym, subst, ap, ◌∙◌, true≢false}
use Rattle.pybuf_desc.specs.Layouts.{Layout, bytes_layout}
use Rattle.pybuf_desc.specs.Descriptor.{Descriptor}
use Rattle.pybuf_desc.specs.Places.{Stands, layout_at}
use Rattle.pybuf_desc.specs.Laws.{DescriptorsStandForOneView}
use Rattle.pybuf_command.specs.Kinds.{holds_readonly}
use Rattle.pybuf_state.specs.Exporter.{Exporter}
use Rattle.pybuf_state.specs.Laws.{IsSoundLayout, WholeLayoutsAreSound}

pub lent_layout : DescriptorsStandForOneView → (d : Descriptor) (bytes : List ℕ) (n : ℕ) (readonly : Bool) → n ≡ length bytes → Stands d 0 (bytes_layout n readonly) → bytes_layout (length bytes) readonly ≡ layout_at d 0
lent_layout one d bytes n readonly long stands = ap (λ (k : ℕ). bytes_layout k readonly) (sym long) ∙ one d 0 (bytes_layout n readonly) stands

-- the view of all bytes of an exporter that may be written, which may be read-only or not
pub lent_sound : DescriptorsStandForOneView → WholeLayoutsAreSound → (e : Exporter) (d : Descriptor) (n : ℕ) (readonly : Bool) → n ≡ length e.bytes → holds_readonly e.kind ≡ false → Stands d 0 (bytes_layout n readonly) → IsSoundLayout e (layout_at d 0)
lent_sound one whole e d n readonly long written stands =
    let sound = whole e in
    let all : IsSoundLayout e (bytes_layout (length e.bytes) readonly) = record {
      formed = record { sized = sound.formed.sized; counted = sound.formed.counted };
      inside = sound.inside;
      readonly = λ is. absurd (true≢false (sym is ∙ written));
    } in
    subst (IsSoundLayout e) (lent_layout one d e.bytes n readonly long stands) all
