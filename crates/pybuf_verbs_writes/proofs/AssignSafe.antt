-- An assignment by a slice keeps a sound exporter.
use Rattle.std.proofs.Common.{◌≡◌, ℕ, length, false, sym, refl, subst}
use Rattle.std.specs.Prelude.{◌==◌, not, Ok}
use Rattle.std.proofs.lemmas.Bool.{eqb-true}
use Rattle.pybuf_lemmas.proofs.Booleans.{true_if_not_false}
use Rattle.pybuf_state.specs.Facts.{safe_bind}
use Rattle.pybuf_value.specs.Facts.{done_holds, passed_unless}
use Rattle.pybuf_value.specs.declared.faults.Fault.TheVariants as fault
use Rattle.pybuf_value.specs.declared.values.Value.{Value}
use Rattle.pybuf_value.specs.declared.values.PySlice.{PySlice}
use Rattle.pybuf_value.specs.declared.snaps.Snap.{Snap}
use Rattle.pybuf_value.specs.Refusing.{unless, IfDone, done_bind}
use Rattle.pybuf_index.specs.Parts.{SliceParts, saturated_parts_of}
use Rattle.pybuf_desc.specs.Layouts.{Layout, LiesInside}
use Rattle.pybuf_desc.specs.Slices.{slice_of}
use Rattle.pybuf_desc.specs.Laws.{SlicesStayInside}
use Rattle.pybuf_memoryview.specs.Items.{has_dimensions, is_none}
use Rattle.pybuf_state.specs.Exporter.{Exporter, live_layout}
use Rattle.pybuf_state.specs.Sound.{IsSoundExporter}
use Rattle.pybuf_state.specs.Keeps.{IsSafe}
use Rattle.pybuf_state.specs.Laws.{LiveLayoutsAreSound, WritingKeeps}
use Rattle.pybuf_verbs_writes.specs.Laid.{laid}
use Rattle.pybuf_verbs_writes.specs.Assign.{assign_target, has_form_of, source_in, assigned}
use Rattle.pybuf_verbs_writes.specs.Laws.{AssignIsSafe}
use Rattle.pybuf_verbs_writes.proofs.LaidLengths.{length-laid}
use Rattle.pybuf_verbs_writes.proofs.Safe.{writable}

-- what holds of a target
pub record IsAssignTarget (e : Exporter) (k : ℕ) (slice : PySlice) (target : Layout) : Type 0 where
  pub layout : Layout
  pub live : live_layout e k ≡ Ok layout
  pub may_write : layout.readonly ≡ false
  pub one_dimension : length layout.shape ≡ 1
  pub parts : SliceParts
  pub given : saturated_parts_of slice ≡ Ok parts
  pub is : target ≡ slice_of layout parts

pub target_is : (e : Exporter) (k : ℕ) (slice : PySlice) (value : Value) → IfDone (IsAssignTarget e k slice) (assign_target e k slice value)
target_is e k slice value =
    let P = IsAssignTarget e k slice in
    done_bind P (live_layout e k) _ (λ layout found.
    done_bind P (unless layout.readonly fault.Kind) _ (λ u may_write.
    done_bind P (unless (is_none value) fault.Kind) _ (λ _ _.
    done_bind P (has_dimensions layout) _ (λ _ _.
    done_bind P (unless (not (length layout.shape == 1)) fault.NotImplemented) _ (λ one is_one.
    done_bind P (saturated_parts_of slice) _ (λ parts given.
    record { layout = layout; live = found; may_write = passed_unless layout.readonly fault.Kind u may_write; one_dimension = eqb-true (length layout.shape) 1 (true_if_not_false (length layout.shape == 1) (passed_unless (not (length layout.shape == 1)) fault.NotImplemented one is_one)); parts = parts; given = given; is = refl }))))))

pub target_inside : LiveLayoutsAreSound → SlicesStayInside → (e : Exporter) (k : ℕ) (slice : PySlice) (target : Layout) → IsAssignTarget e k slice target → IsSoundExporter e → LiesInside (length e.bytes) target
target_inside live inside e k slice target is sound =
    subst (LiesInside (length e.bytes)) (sym is.is) (inside is.layout is.parts (length e.bytes) (live e k is.layout sound is.live).inside)

assigned_safe : WritingKeeps → LiveLayoutsAreSound → SlicesStayInside → (e : Exporter) (k : ℕ) (slice : PySlice) (target : Layout) (source : Snap) → IsAssignTarget e k slice target → IsSafe e (assigned e target source)
assigned_safe writing live inside e k slice target source is =
    safe_bind e (unless source.released fault.Value) _ (λ _ _.
    safe_bind e (unless (not (has_form_of target source.format source.itemsize source.shape)) fault.Value) _ (λ _ _. record {
      keeps = λ sound.
          writing e (laid e.bytes target.itemsize target.starts source.content) sound (writable e.kind is.layout is.may_write (live e k is.layout sound is.live).readonly)
          (length-laid e.bytes target.itemsize target.starts source.content (target_inside live inside e k slice target is sound));
      answers = refl;
    }))

pub assign_safe : WritingKeeps → LiveLayoutsAreSound → SlicesStayInside → AssignIsSafe
assign_safe writing live inside e k slice value lents =
    safe_bind e (assign_target e k slice value) _ (λ target found.
    safe_bind e (source_in value lents) _ (λ source _.
    assigned_safe writing live inside e k slice target source (done_holds (IsAssignTarget e k slice) (assign_target e k slice value) target (target_is e k slice value) found)))
