use Rattle.std.proofs.Common.{◌∙◌, ap, sym, length, arith}
use Rattle.pybuf_state.specs.Live.{is_live}
use Rattle.example_users.proofs.SpanLemmas.{lent_writable, lent_content}
use Rattle.example_users.proofs.WholeLemmas.{is_out, is_spanned, live_by, through_sound, through_shown, through_got}
use Rattle.example_users.proofs.number_array.NumberArray.set_through.Goals as goal

pub contiguous_bytes_mut-bytes-requires-clause-writable : goal.contiguous_bytes_mut-bytes-requires-clause-writable
contiguous_bytes_mut-bytes-requires-clause-writable c =
    let live = live_by c.self.inside.0 _ c.number-view.result _ c.state-state.ensures c.is_live.ensures c.if-not-is_live.false in
    lent_writable c.self.inside.0 _ c.number-view.result (is_spanned c.self.inside.0 _ c.self.invariant live) c.state_mut.ensures.value

pub overflow_mul-index : goal.overflow_mul-index
overflow_mul-index c =
    let live = live_by c.self.inside.0 _ c.number-view.result _ c.state-state.ensures c.is_live.ensures c.if-not-is_live.false in
    let bytes = c.contiguous_bytes_mut-bytes.ensures.value ∙ lent_content c.self.inside.0 _ c.number-view.result (is_spanned c.self.inside.0 _ c.self.invariant live) c.state_mut.ensures.value in
    omega (arith, ap (λ xs. length xs) bytes, c.contiguous_bytes_mut-bytes.type_inv.0, c.self.invariant.pairs, ap (λ a. length a.numbers) c.self.view_is, c.len.ensures, c.if-index-len.false)

pub overflow_mul-index-2 : goal.overflow_mul-index-2
overflow_mul-index-2 c =
    let live = live_by c.self.inside.0 _ c.number-view.result _ c.state-state.ensures c.is_live.ensures c.if-not-is_live.false in
    let bytes = c.contiguous_bytes_mut-bytes.ensures.value ∙ lent_content c.self.inside.0 _ c.number-view.result (is_spanned c.self.inside.0 _ c.self.invariant live) c.state_mut.ensures.value in
    omega (arith, ap (λ xs. length xs) bytes, c.contiguous_bytes_mut-bytes.type_inv.0, c.self.invariant.pairs, ap (λ a. length a.numbers) c.self.view_is, c.len.ensures, c.if-index-len.false)

pub overflow_add-index : goal.overflow_add-index
overflow_add-index c =
    let live = live_by c.self.inside.0 _ c.number-view.result _ c.state-state.ensures c.is_live.ensures c.if-not-is_live.false in
    let bytes = c.contiguous_bytes_mut-bytes.ensures.value ∙ lent_content c.self.inside.0 _ c.number-view.result (is_spanned c.self.inside.0 _ c.self.invariant live) c.state_mut.ensures.value in
    omega (arith, ap (λ xs. length xs) bytes, c.contiguous_bytes_mut-bytes.type_inv.0, c.self.invariant.pairs, ap (λ a. length a.numbers) c.self.view_is, c.len.ensures, c.if-index-len.false)

pub slice_bounds-copy_from_slice-end : goal.slice_bounds-copy_from_slice-end
slice_bounds-copy_from_slice-end c =
    let live = live_by c.self.inside.0 _ c.number-view.result _ c.state-state.ensures c.is_live.ensures c.if-not-is_live.false in
    let bytes = c.contiguous_bytes_mut-bytes.ensures.value ∙ lent_content c.self.inside.0 _ c.number-view.result (is_spanned c.self.inside.0 _ c.self.invariant live) c.state_mut.ensures.value in
    omega (arith, ap (λ xs. length xs) bytes, c.self.invariant.pairs, ap (λ a. length a.numbers) c.self.view_is, c.len.ensures, c.if-index-len.false)

pub invariant_of-self : goal.invariant_of-self
invariant_of-self c =
    let live = live_by c.self.inside.0 _ c.number-view.result _ c.state-state.ensures c.is_live.ensures c.if-not-is_live.false in
    through_sound _ c.self.inside.0 c.state_mut.result.now.exporter c.number-view.result c.contiguous_bytes_mut-bytes.result.now _ c.args.index c.args.number _ c.self.invariant c.self.view_is live c.state_mut.ensures.value c.contiguous_bytes_mut-bytes.ensures.value (c.copy_from_slice.ensures.after ∙ c.to_le_bytes.ensures) (omega arith) c.ranges.number.fits (omega (arith, c.len.ensures, c.if-index-len.false))

pub returns-clause-ok : goal.returns-clause-ok
returns-clause-ok c =
    let live = live_by c.self.inside.0 _ c.number-view.result _ c.state-state.ensures c.is_live.ensures c.if-not-is_live.false in
    through_shown _ c.self.inside.0 c.state_mut.result.now.exporter c.number-view.result c.contiguous_bytes_mut-bytes.result.now _ c.args.index c.args.number _ c.self.invariant c.self.view_is live c.state_mut.ensures.value c.contiguous_bytes_mut-bytes.ensures.value (c.copy_from_slice.ensures.after ∙ c.to_le_bytes.ensures) (omega arith) c.ranges.number.fits (omega (arith, c.len.ensures, c.if-index-len.false))

pub returns-clause-got : goal.returns-clause-got
returns-clause-got c =
    let live = live_by c.self.inside.0 _ c.number-view.result _ c.state-state.ensures c.is_live.ensures c.if-not-is_live.false in
    through_got _ c.self.inside.0 c.state_mut.result.now.exporter c.number-view.result c.contiguous_bytes_mut-bytes.result.now _ c.args.index c.args.number _ c.self.invariant c.self.view_is live c.state_mut.ensures.value c.contiguous_bytes_mut-bytes.ensures.value (c.copy_from_slice.ensures.after ∙ c.to_le_bytes.ensures) (omega arith) c.ranges.number.fits (omega (arith, c.len.ensures, c.if-index-len.false))

pub returns-clause-exact : goal.returns-clause-exact
returns-clause-exact c =
    let live = live_by c.self.inside.0 _ c.number-view.result _ c.state-state.ensures c.is_live.ensures c.if-not-is_live.false in
    let at = ap (λ k. is_live c.self.inside.0 k) (sym c.number-view.ensures) ∙ live in
    (is_out _ c.self.inside.0 c.args.view.now c.self.view_is at, omega (arith, c.len.ensures, c.if-index-len.false))
