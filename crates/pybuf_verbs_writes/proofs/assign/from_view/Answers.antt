use Rattle.std.proofs.Common.{rules, ◌≡◌, ◌*◌, ℕ, List, ◌++◌, true, false, length, take, drop, arith, sym, ◌∙◌, ap, refl}
use Rattle.pybuf_desc.specs.Layouts.{Layout}
use Rattle.pybuf_desc.specs.Items.{content_of_layout}
use Rattle.pybuf_memoryview.specs.Orders.{nbytes_of}
use Rattle.pybuf_command.specs.declared.kinds.Subject.TheVariants as subjects
use Rattle.pybuf_memoryview.specs.Snaps.{snap_of_layout}
use Rattle.pybuf_state.specs.Answers.{exporter_of}
use Rattle.pybuf_state.specs.Snaps.{snap_of_subject}
use Rattle.pybuf_verbs_writes.specs.Laid.{laid}
use Rattle.pybuf_verbs_writes.specs.Assign.{has_form_of}
use Rattle.pybuf_verbs_writes.proofs.Assigning.{of_form, bytes_of_form, lent_back, is_assigned_from}
use Rattle.pybuf_verbs_writes.proofs.assign.from_view.Goals as goal

pub lay_moved-requires-clause-enough : goal.lay_moved-requires-clause-enough
lay_moved-requires-clause-enough c =
    let source : Layout = c.in_ok-source.source.now in
    let target : Layout = c.args.target.now in
    let form : has_form_of target source.format source.itemsize source.shape ≡ true = search rules in
    let count : nbytes_of source ≡ nbytes_of target = bytes_of_form target source.itemsize source.shape (of_form target source.format source.itemsize source.shape c.requires.one_dimension form) in
    omega (arith, count, ap length c.as_mut_slice.ensures.value, c.first_place-from.ensures.inside (length c.args.parts.now.bytes.items) c.in_ok-source.ensures.sound.inside)

pub returns-then-is_contiguous-2-clause-answer : goal.returns-then-is_contiguous-2-clause-answer
returns-then-is_contiguous-2-clause-answer c =
    let source : Layout = c.in_ok-source.source.now in
    let target : Layout = c.args.target.now in
    let bytes : List ℕ = c.args.parts.now.bytes.items in
    let form : has_form_of target source.format source.itemsize source.shape ≡ true = search rules in
    let count : nbytes_of source ≡ nbytes_of target = bytes_of_form target source.itemsize source.shape (of_form target source.format source.itemsize source.shape c.requires.one_dimension form) in
    let kept : length c.lay_moved.new.bytes ≡ (length c.args.parts.now.bytes.items) = search rules in
    is_assigned_from (exporter_of c.args.parts.now) target (snap_of_subject (exporter_of c.args.parts.now) (subjects.View c.args.view)) (snap_of_layout bytes source false) (take (length c.args.parts.now.bytes.items) (c.lay_moved.new.bytes ++ drop (length c.lay_moved.new.bytes) bytes)) c.in_ok-source.ensures.exact refl form
    (lent_back bytes c.lay_moved.new.bytes (length c.args.parts.now.bytes.items) kept ∙ c.lay_moved.ensures ∙ ap (λ (old : List ℕ). laid old target.itemsize target.starts (take (nbytes_of target) (drop c.first_place-from.result old))) c.as_mut_slice.ensures.value
    ∙ ap (laid bytes target.itemsize target.starts) (ap (λ (n : ℕ). take n (drop c.first_place-from.result bytes)) (sym count) ∙ c.first_place-from.ensures.content bytes))

pub lay-requires-clause-as_many : goal.lay-requires-clause-as_many
lay-requires-clause-as_many c =
    let source : Layout = c.in_ok-source.source.now in
    let target : Layout = c.args.target.now in
    let form : has_form_of target source.format source.itemsize source.shape ≡ true = search rules in
    let count : nbytes_of source ≡ nbytes_of target = bytes_of_form target source.itemsize source.shape (of_form target source.format source.itemsize source.shape c.requires.one_dimension form) in
    ap length (c.as_slice-2.ensures.value ∙ c.in_ok-content.ensures ∙ ap (λ (bytes : List ℕ). content_of_layout bytes source) c.as_slice.ensures)
    ∙ c.contents_are_whole.ensures c.args.parts.now.bytes.items source c.in_ok-source.ensures.sound.inside
    ∙ ap (λ (n : ℕ). source.itemsize * n) c.in_ok-source.ensures.sound.formed.counted ∙ count
