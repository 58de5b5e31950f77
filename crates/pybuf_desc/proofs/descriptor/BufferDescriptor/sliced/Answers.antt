use Rattle.std.proofs.Common.{rules, arith, ◌≡◌, ◌<◌, ◌^◌, ◌*◌, pos, ◌+ℤ◌, ◌*ℤ◌, ◌≤ℤ◌, ◌<ℤ◌, SFits, w64, sym, ap, ◌∙◌, subst, pos_of_ne-zero}
use Rattle.pybuf_index.specs.Parts.{nearest_word}
use Rattle.pybuf_desc.specs.Descriptor.{Descriptor}
use Rattle.pybuf_desc.specs.Places.{Stands}
use Rattle.pybuf_desc.specs.Valid.{IsValid}
use Rattle.pybuf_desc.specs.Slices.{slice_of}
use Rattle.pybuf_desc.proofs.Moves.{dim_at}
use Rattle.pybuf_desc.proofs.Cuts.{span_first}
use Rattle.pybuf_desc.proofs.SliceMade.{IsCall, Entry, made_of, entry, entry_fits, count_few, made_stands, made_valid, first_of_made}
use Rattle.pybuf_desc.proofs.SliceBits.{bits, call_of, stride_is, first_is, next_is, stride_bits, descriptor_is}
use Rattle.pybuf_desc.proofs.descriptor.BufferDescriptor.sliced.Goals as goal

pub adjust_indices-step-requires : goal.adjust_indices-step-requires
adjust_indices-step-requires c =
    subst (λ ds. (dim_at ds 0).0 < 2 ^ 63) (sym c.dim_desc-dims.ensures) (entry_fits c.args.self.now c.args.start c.requires.placed c.requires.some_dimension)

pub len_of_entries-len-requires : goal.len_of_entries-len-requires
len_of_entries-len-requires c =
    let call : IsCall c.args.self.now c.args.start c.args.slice.now c.adjust_indices-step.result.0.start c.adjust_indices-step.result.0.end c.adjust_indices-step.result.2 =
    call_of c.args.self.now c.args.start c.dim_desc-dims.result.now c.args.slice.now c.adjust_indices-step.result.0.start c.adjust_indices-step.result.0.end c.adjust_indices-step.result.2 c.adjust_indices-step.result.1 c.dim_desc-dims.ensures c.requires.placed c.requires.some_dimension c.adjust_indices-step.ensures.saturated c.adjust_indices-step.ensures.step c.adjust_indices-step.ensures.picks c.adjust_indices-step.ensures.count c.adjust_indices-step.ensures.within in
    let few = count_few c.args.self.now c.args.start c.args.slice.now c.adjust_indices-step.result.0.start c.adjust_indices-step.result.0.end c.adjust_indices-step.result.2 call in
    let within = c.adjust_indices-step.ensures.within in
    omega (arith, few, within)

pub returns-then-count-eq0-clause-stands : goal.returns-then-count-eq0-clause-stands
returns-then-count-eq0-clause-stands c =
    let call : IsCall c.args.self.now c.args.start c.args.slice.now c.adjust_indices-step.result.0.start c.adjust_indices-step.result.0.end c.adjust_indices-step.result.2 =
    call_of c.args.self.now c.args.start c.dim_desc-dims.result.now c.args.slice.now c.adjust_indices-step.result.0.start c.adjust_indices-step.result.0.end c.adjust_indices-step.result.2 c.adjust_indices-step.result.1 c.dim_desc-dims.ensures c.requires.placed c.requires.some_dimension c.adjust_indices-step.ensures.saturated c.adjust_indices-step.ensures.step c.adjust_indices-step.ensures.picks c.adjust_indices-step.ensures.count c.adjust_indices-step.ensures.within in
    let fs : SFits w64 (dim_at c.dim_desc-dims.result.now 0).1 = search rules in
    let ft : SFits w64 c.adjust_indices-step.result.1 = search rules in
    let fr : SFits w64 c.stride_after.result = search rules in
    let stride : bits c.stride_after.result ≡ nearest_word ((dim_at c.args.self.now.dims 0).1 *ℤ c.args.slice.now.step) = stride_is c.args.self.now c.dim_desc-dims.result.now c.args.slice.now c.stride_after.result c.adjust_indices-step.result.1 c.dim_desc-dims.ensures fr fs ft c.adjust_indices-step.ensures.step c.stride_after.ensures in
    let made : made_of c.args.self.now c.len_of_entries-len.result c.adjust_indices-step.result.2 (nearest_word ((dim_at c.args.self.now.dims 0).1 *ℤ c.args.slice.now.step)) ≡ c.in_ok-descriptor.descriptor =
    descriptor_is c.args.self.now c.in_ok-descriptor.descriptor c.len_of_entries-len.result c.adjust_indices-step.result.2 (bits c.stride_after.result) (nearest_word ((dim_at c.args.self.now.dims 0).1 *ℤ c.args.slice.now.step)) stride c.in_ok-descriptor.ensures in
    λ view stands.
    subst (λ d. Stands d c.args.start (slice_of view c.args.slice.now)) made
    (made_stands c.args.self.now c.args.start c.args.slice.now c.adjust_indices-step.result.0.start c.adjust_indices-step.result.0.end c.adjust_indices-step.result.2 c.args.start c.len_of_entries-len.result call (λ h. absurd (omega (arith, h, c.if-count-eq0.true))) view stands)

pub returns-then-count-eq0-clause-valid : goal.returns-then-count-eq0-clause-valid
returns-then-count-eq0-clause-valid c =
    let call : IsCall c.args.self.now c.args.start c.args.slice.now c.adjust_indices-step.result.0.start c.adjust_indices-step.result.0.end c.adjust_indices-step.result.2 =
    call_of c.args.self.now c.args.start c.dim_desc-dims.result.now c.args.slice.now c.adjust_indices-step.result.0.start c.adjust_indices-step.result.0.end c.adjust_indices-step.result.2 c.adjust_indices-step.result.1 c.dim_desc-dims.ensures c.requires.placed c.requires.some_dimension c.adjust_indices-step.ensures.saturated c.adjust_indices-step.ensures.step c.adjust_indices-step.ensures.picks c.adjust_indices-step.ensures.count c.adjust_indices-step.ensures.within in
    let fs : SFits w64 (dim_at c.dim_desc-dims.result.now 0).1 = search rules in
    let ft : SFits w64 c.adjust_indices-step.result.1 = search rules in
    let fr : SFits w64 c.stride_after.result = search rules in
    let stride : bits c.stride_after.result ≡ nearest_word ((dim_at c.args.self.now.dims 0).1 *ℤ c.args.slice.now.step) = stride_is c.args.self.now c.dim_desc-dims.result.now c.args.slice.now c.stride_after.result c.adjust_indices-step.result.1 c.dim_desc-dims.ensures fr fs ft c.adjust_indices-step.ensures.step c.stride_after.ensures in
    let made : made_of c.args.self.now c.len_of_entries-len.result c.adjust_indices-step.result.2 (nearest_word ((dim_at c.args.self.now.dims 0).1 *ℤ c.args.slice.now.step)) ≡ c.in_ok-descriptor.descriptor =
    descriptor_is c.args.self.now c.in_ok-descriptor.descriptor c.len_of_entries-len.result c.adjust_indices-step.result.2 (bits c.stride_after.result) (nearest_word ((dim_at c.args.self.now.dims 0).1 *ℤ c.args.slice.now.step)) stride c.in_ok-descriptor.ensures in
    λ room valid.
    subst (λ d. IsValid d c.args.start room) made
    (made_valid c.args.self.now c.args.start c.args.slice.now c.adjust_indices-step.result.0.start c.adjust_indices-step.result.0.end c.adjust_indices-step.result.2 c.args.start c.len_of_entries-len.result call (λ h. absurd (omega (arith, h, c.if-count-eq0.true))) (λ entry e. c.len_of_entries-len.ensures entry (ap (λ (d : Descriptor). d.len) c.self.view_is ∙ e ∙ ap (λ ds. (dim_at ds 0).0 * entry) (sym c.dim_desc-dims.ensures))) room valid)

pub first_of_span-first-requires : goal.first_of_span-first-requires
first_of_span-first-requires c =
    let call : IsCall c.args.self.now c.args.start c.args.slice.now c.adjust_indices-step.result.0.start c.adjust_indices-step.result.0.end c.adjust_indices-step.result.2 =
    call_of c.args.self.now c.args.start c.dim_desc-dims.result.now c.args.slice.now c.adjust_indices-step.result.0.start c.adjust_indices-step.result.0.end c.adjust_indices-step.result.2 c.adjust_indices-step.result.1 c.dim_desc-dims.ensures c.requires.placed c.requires.some_dimension c.adjust_indices-step.ensures.saturated c.adjust_indices-step.ensures.step c.adjust_indices-step.ensures.picks c.adjust_indices-step.ensures.count c.adjust_indices-step.ensures.within in
    let some : 0 < c.adjust_indices-step.result.2 = pos_of_ne-zero c.if-count-eq0.false in
    let few = count_few c.args.self.now c.args.start c.args.slice.now c.adjust_indices-step.result.0.start c.adjust_indices-step.result.0.end c.adjust_indices-step.result.2 call in
    omega (arith, few, some)

pub entry_place-next-requires-clause-index_fits : goal.entry_place-next-requires-clause-index_fits
entry_place-next-requires-clause-index_fits c =
    let call : IsCall c.args.self.now c.args.start c.args.slice.now c.adjust_indices-step.result.0.start c.adjust_indices-step.result.0.end c.adjust_indices-step.result.2 =
    call_of c.args.self.now c.args.start c.dim_desc-dims.result.now c.args.slice.now c.adjust_indices-step.result.0.start c.adjust_indices-step.result.0.end c.adjust_indices-step.result.2 c.adjust_indices-step.result.1 c.dim_desc-dims.ensures c.requires.placed c.requires.some_dimension c.adjust_indices-step.ensures.saturated c.adjust_indices-step.ensures.step c.adjust_indices-step.ensures.picks c.adjust_indices-step.ensures.count c.adjust_indices-step.ensures.within in
    let ft : SFits w64 c.adjust_indices-step.result.1 = search rules in
    let some : 0 < c.adjust_indices-step.result.2 = pos_of_ne-zero c.if-count-eq0.false in
    let wide : c.adjust_indices-step.result.0.start < c.adjust_indices-step.result.0.end = (let few = count_few c.args.self.now c.args.start c.args.slice.now c.adjust_indices-step.result.0.start c.adjust_indices-step.result.0.end c.adjust_indices-step.result.2 call in omega (arith, few, some)) in
    let first : pos c.first_of_span-first.result ≡ span_first c.adjust_indices-step.result.0.start c.adjust_indices-step.result.0.end c.args.slice.now.step =
    first_is c.adjust_indices-step.result.0.start c.adjust_indices-step.result.0.end c.first_of_span-first.result c.adjust_indices-step.result.1 c.args.slice.now.step ft c.adjust_indices-step.ensures.step wide c.first_of_span-first.ensures.rises c.first_of_span-first.ensures.falls in
    let at : Entry c.args.self.now c.args.start c.first_of_span-first.result = entry c.args.self.now c.args.start c.args.slice.now c.adjust_indices-step.result.0.start c.adjust_indices-step.result.0.end c.adjust_indices-step.result.2 c.first_of_span-first.result call some first in
    at.index_fits

pub entry_place-next-requires-clause-start_fits : goal.entry_place-next-requires-clause-start_fits
entry_place-next-requires-clause-start_fits c =
    let call : IsCall c.args.self.now c.args.start c.args.slice.now c.adjust_indices-step.result.0.start c.adjust_indices-step.result.0.end c.adjust_indices-step.result.2 =
    call_of c.args.self.now c.args.start c.dim_desc-dims.result.now c.args.slice.now c.adjust_indices-step.result.0.start c.adjust_indices-step.result.0.end c.adjust_indices-step.result.2 c.adjust_indices-step.result.1 c.dim_desc-dims.ensures c.requires.placed c.requires.some_dimension c.adjust_indices-step.ensures.saturated c.adjust_indices-step.ensures.step c.adjust_indices-step.ensures.picks c.adjust_indices-step.ensures.count c.adjust_indices-step.ensures.within in
    let ft : SFits w64 c.adjust_indices-step.result.1 = search rules in
    let some : 0 < c.adjust_indices-step.result.2 = pos_of_ne-zero c.if-count-eq0.false in
    let wide : c.adjust_indices-step.result.0.start < c.adjust_indices-step.result.0.end = (let few = count_few c.args.self.now c.args.start c.args.slice.now c.adjust_indices-step.result.0.start c.adjust_indices-step.result.0.end c.adjust_indices-step.result.2 call in omega (arith, few, some)) in
    let first : pos c.first_of_span-first.result ≡ span_first c.adjust_indices-step.result.0.start c.adjust_indices-step.result.0.end c.args.slice.now.step =
    first_is c.adjust_indices-step.result.0.start c.adjust_indices-step.result.0.end c.first_of_span-first.result c.adjust_indices-step.result.1 c.args.slice.now.step ft c.adjust_indices-step.ensures.step wide c.first_of_span-first.ensures.rises c.first_of_span-first.ensures.falls in
    let at : Entry c.args.self.now c.args.start c.first_of_span-first.result = entry c.args.self.now c.args.start c.args.slice.now c.adjust_indices-step.result.0.start c.adjust_indices-step.result.0.end c.adjust_indices-step.result.2 c.first_of_span-first.result call some first in
    at.start_fits

pub entry_place-next-requires-clause-product_fits : goal.entry_place-next-requires-clause-product_fits
entry_place-next-requires-clause-product_fits c =
    let call : IsCall c.args.self.now c.args.start c.args.slice.now c.adjust_indices-step.result.0.start c.adjust_indices-step.result.0.end c.adjust_indices-step.result.2 =
    call_of c.args.self.now c.args.start c.dim_desc-dims.result.now c.args.slice.now c.adjust_indices-step.result.0.start c.adjust_indices-step.result.0.end c.adjust_indices-step.result.2 c.adjust_indices-step.result.1 c.dim_desc-dims.ensures c.requires.placed c.requires.some_dimension c.adjust_indices-step.ensures.saturated c.adjust_indices-step.ensures.step c.adjust_indices-step.ensures.picks c.adjust_indices-step.ensures.count c.adjust_indices-step.ensures.within in
    let fs : SFits w64 (dim_at c.dim_desc-dims.result.now 0).1 = search rules in
    let ft : SFits w64 c.adjust_indices-step.result.1 = search rules in
    let some : 0 < c.adjust_indices-step.result.2 = pos_of_ne-zero c.if-count-eq0.false in
    let wide : c.adjust_indices-step.result.0.start < c.adjust_indices-step.result.0.end = (let few = count_few c.args.self.now c.args.start c.args.slice.now c.adjust_indices-step.result.0.start c.adjust_indices-step.result.0.end c.adjust_indices-step.result.2 call in omega (arith, few, some)) in
    let first : pos c.first_of_span-first.result ≡ span_first c.adjust_indices-step.result.0.start c.adjust_indices-step.result.0.end c.args.slice.now.step =
    first_is c.adjust_indices-step.result.0.start c.adjust_indices-step.result.0.end c.first_of_span-first.result c.adjust_indices-step.result.1 c.args.slice.now.step ft c.adjust_indices-step.ensures.step wide c.first_of_span-first.ensures.rises c.first_of_span-first.ensures.falls in
    let at : Entry c.args.self.now c.args.start c.first_of_span-first.result = entry c.args.self.now c.args.start c.args.slice.now c.adjust_indices-step.result.0.start c.adjust_indices-step.result.0.end c.adjust_indices-step.result.2 c.first_of_span-first.result call some first in
    subst (λ z. SFits w64 (pos c.first_of_span-first.result *ℤ z)) (stride_bits c.args.self.now c.dim_desc-dims.result.now c.dim_desc-dims.ensures fs) at.product_fits

pub entry_place-next-requires-clause-low : goal.entry_place-next-requires-clause-low
entry_place-next-requires-clause-low c =
    let call : IsCall c.args.self.now c.args.start c.args.slice.now c.adjust_indices-step.result.0.start c.adjust_indices-step.result.0.end c.adjust_indices-step.result.2 =
    call_of c.args.self.now c.args.start c.dim_desc-dims.result.now c.args.slice.now c.adjust_indices-step.result.0.start c.adjust_indices-step.result.0.end c.adjust_indices-step.result.2 c.adjust_indices-step.result.1 c.dim_desc-dims.ensures c.requires.placed c.requires.some_dimension c.adjust_indices-step.ensures.saturated c.adjust_indices-step.ensures.step c.adjust_indices-step.ensures.picks c.adjust_indices-step.ensures.count c.adjust_indices-step.ensures.within in
    let fs : SFits w64 (dim_at c.dim_desc-dims.result.now 0).1 = search rules in
    let ft : SFits w64 c.adjust_indices-step.result.1 = search rules in
    let some : 0 < c.adjust_indices-step.result.2 = pos_of_ne-zero c.if-count-eq0.false in
    let wide : c.adjust_indices-step.result.0.start < c.adjust_indices-step.result.0.end = (let few = count_few c.args.self.now c.args.start c.args.slice.now c.adjust_indices-step.result.0.start c.adjust_indices-step.result.0.end c.adjust_indices-step.result.2 call in omega (arith, few, some)) in
    let first : pos c.first_of_span-first.result ≡ span_first c.adjust_indices-step.result.0.start c.adjust_indices-step.result.0.end c.args.slice.now.step =
    first_is c.adjust_indices-step.result.0.start c.adjust_indices-step.result.0.end c.first_of_span-first.result c.adjust_indices-step.result.1 c.args.slice.now.step ft c.adjust_indices-step.ensures.step wide c.first_of_span-first.ensures.rises c.first_of_span-first.ensures.falls in
    let at : Entry c.args.self.now c.args.start c.first_of_span-first.result = entry c.args.self.now c.args.start c.args.slice.now c.adjust_indices-step.result.0.start c.adjust_indices-step.result.0.end c.adjust_indices-step.result.2 c.first_of_span-first.result call some first in
    subst (λ z. pos 0 ≤ℤ (pos c.args.start +ℤ pos c.first_of_span-first.result *ℤ z)) (stride_bits c.args.self.now c.dim_desc-dims.result.now c.dim_desc-dims.ensures fs) at.low

pub entry_place-next-requires-clause-high : goal.entry_place-next-requires-clause-high
entry_place-next-requires-clause-high c =
    let call : IsCall c.args.self.now c.args.start c.args.slice.now c.adjust_indices-step.result.0.start c.adjust_indices-step.result.0.end c.adjust_indices-step.result.2 =
    call_of c.args.self.now c.args.start c.dim_desc-dims.result.now c.args.slice.now c.adjust_indices-step.result.0.start c.adjust_indices-step.result.0.end c.adjust_indices-step.result.2 c.adjust_indices-step.result.1 c.dim_desc-dims.ensures c.requires.placed c.requires.some_dimension c.adjust_indices-step.ensures.saturated c.adjust_indices-step.ensures.step c.adjust_indices-step.ensures.picks c.adjust_indices-step.ensures.count c.adjust_indices-step.ensures.within in
    let fs : SFits w64 (dim_at c.dim_desc-dims.result.now 0).1 = search rules in
    let ft : SFits w64 c.adjust_indices-step.result.1 = search rules in
    let some : 0 < c.adjust_indices-step.result.2 = pos_of_ne-zero c.if-count-eq0.false in
    let wide : c.adjust_indices-step.result.0.start < c.adjust_indices-step.result.0.end = (let few = count_few c.args.self.now c.args.start c.args.slice.now c.adjust_indices-step.result.0.start c.adjust_indices-step.result.0.end c.adjust_indices-step.result.2 call in omega (arith, few, some)) in
    let first : pos c.first_of_span-first.result ≡ span_first c.adjust_indices-step.result.0.start c.adjust_indices-step.result.0.end c.args.slice.now.step =
    first_is c.adjust_indices-step.result.0.start c.adjust_indices-step.result.0.end c.first_of_span-first.result c.adjust_indices-step.result.1 c.args.slice.now.step ft c.adjust_indices-step.ensures.step wide c.first_of_span-first.ensures.rises c.first_of_span-first.ensures.falls in
    let at : Entry c.args.self.now c.args.start c.first_of_span-first.result = entry c.args.self.now c.args.start c.args.slice.now c.adjust_indices-step.result.0.start c.adjust_indices-step.result.0.end c.adjust_indices-step.result.2 c.first_of_span-first.result call some first in
    subst (λ z. (pos c.args.start +ℤ pos c.first_of_span-first.result *ℤ z) <ℤ pos (2 ^ 63)) (stride_bits c.args.self.now c.dim_desc-dims.result.now c.dim_desc-dims.ensures fs) at.high

pub returns-clause-stands : goal.returns-clause-stands
returns-clause-stands c =
    let call : IsCall c.args.self.now c.args.start c.args.slice.now c.adjust_indices-step.result.0.start c.adjust_indices-step.result.0.end c.adjust_indices-step.result.2 =
    call_of c.args.self.now c.args.start c.dim_desc-dims.result.now c.args.slice.now c.adjust_indices-step.result.0.start c.adjust_indices-step.result.0.end c.adjust_indices-step.result.2 c.adjust_indices-step.result.1 c.dim_desc-dims.ensures c.requires.placed c.requires.some_dimension c.adjust_indices-step.ensures.saturated c.adjust_indices-step.ensures.step c.adjust_indices-step.ensures.picks c.adjust_indices-step.ensures.count c.adjust_indices-step.ensures.within in
    let fs : SFits w64 (dim_at c.dim_desc-dims.result.now 0).1 = search rules in
    let ft : SFits w64 c.adjust_indices-step.result.1 = search rules in
    let fr : SFits w64 c.stride_after.result = search rules in
    let stride : bits c.stride_after.result ≡ nearest_word ((dim_at c.args.self.now.dims 0).1 *ℤ c.args.slice.now.step) = stride_is c.args.self.now c.dim_desc-dims.result.now c.args.slice.now c.stride_after.result c.adjust_indices-step.result.1 c.dim_desc-dims.ensures fr fs ft c.adjust_indices-step.ensures.step c.stride_after.ensures in
    let made : made_of c.args.self.now c.len_of_entries-len.result c.adjust_indices-step.result.2 (nearest_word ((dim_at c.args.self.now.dims 0).1 *ℤ c.args.slice.now.step)) ≡ c.in_ok-descriptor.descriptor =
    descriptor_is c.args.self.now c.in_ok-descriptor.descriptor c.len_of_entries-len.result c.adjust_indices-step.result.2 (bits c.stride_after.result) (nearest_word ((dim_at c.args.self.now.dims 0).1 *ℤ c.args.slice.now.step)) stride c.in_ok-descriptor.ensures in
    let some : 0 < c.adjust_indices-step.result.2 = pos_of_ne-zero c.if-count-eq0.false in
    let wide : c.adjust_indices-step.result.0.start < c.adjust_indices-step.result.0.end = (let few = count_few c.args.self.now c.args.start c.args.slice.now c.adjust_indices-step.result.0.start c.adjust_indices-step.result.0.end c.adjust_indices-step.result.2 call in omega (arith, few, some)) in
    let first : pos c.first_of_span-first.result ≡ span_first c.adjust_indices-step.result.0.start c.adjust_indices-step.result.0.end c.args.slice.now.step =
    first_is c.adjust_indices-step.result.0.start c.adjust_indices-step.result.0.end c.first_of_span-first.result c.adjust_indices-step.result.1 c.args.slice.now.step ft c.adjust_indices-step.ensures.step wide c.first_of_span-first.ensures.rises c.first_of_span-first.ensures.falls in
    let next : pos c.entry_place-next.result ≡ pos c.args.start +ℤ span_first c.adjust_indices-step.result.0.start c.adjust_indices-step.result.0.end c.args.slice.now.step *ℤ (dim_at c.args.self.now.dims 0).1 =
    next_is c.args.self.now c.dim_desc-dims.result.now c.args.start c.entry_place-next.result c.first_of_span-first.result (span_first c.adjust_indices-step.result.0.start c.adjust_indices-step.result.0.end c.args.slice.now.step) c.dim_desc-dims.ensures fs first c.entry_place-next.ensures in
    λ view stands.
    subst (λ d. Stands d c.entry_place-next.result (slice_of view c.args.slice.now)) made
    (made_stands c.args.self.now c.args.start c.args.slice.now c.adjust_indices-step.result.0.start c.adjust_indices-step.result.0.end c.adjust_indices-step.result.2 c.entry_place-next.result c.len_of_entries-len.result call (λ _. next) view stands)

pub returns-clause-valid : goal.returns-clause-valid
returns-clause-valid c =
    let call : IsCall c.args.self.now c.args.start c.args.slice.now c.adjust_indices-step.result.0.start c.adjust_indices-step.result.0.end c.adjust_indices-step.result.2 =
    call_of c.args.self.now c.args.start c.dim_desc-dims.result.now c.args.slice.now c.adjust_indices-step.result.0.start c.adjust_indices-step.result.0.end c.adjust_indices-step.result.2 c.adjust_indices-step.result.1 c.dim_desc-dims.ensures c.requires.placed c.requires.some_dimension c.adjust_indices-step.ensures.saturated c.adjust_indices-step.ensures.step c.adjust_indices-step.ensures.picks c.adjust_indices-step.ensures.count c.adjust_indices-step.ensures.within in
    let fs : SFits w64 (dim_at c.dim_desc-dims.result.now 0).1 = search rules in
    let ft : SFits w64 c.adjust_indices-step.result.1 = search rules in
    let fr : SFits w64 c.stride_after.result = search rules in
    let stride : bits c.stride_after.result ≡ nearest_word ((dim_at c.args.self.now.dims 0).1 *ℤ c.args.slice.now.step) = stride_is c.args.self.now c.dim_desc-dims.result.now c.args.slice.now c.stride_after.result c.adjust_indices-step.result.1 c.dim_desc-dims.ensures fr fs ft c.adjust_indices-step.ensures.step c.stride_after.ensures in
    let made : made_of c.args.self.now c.len_of_entries-len.result c.adjust_indices-step.result.2 (nearest_word ((dim_at c.args.self.now.dims 0).1 *ℤ c.args.slice.now.step)) ≡ c.in_ok-descriptor.descriptor =
    descriptor_is c.args.self.now c.in_ok-descriptor.descriptor c.len_of_entries-len.result c.adjust_indices-step.result.2 (bits c.stride_after.result) (nearest_word ((dim_at c.args.self.now.dims 0).1 *ℤ c.args.slice.now.step)) stride c.in_ok-descriptor.ensures in
    let some : 0 < c.adjust_indices-step.result.2 = pos_of_ne-zero c.if-count-eq0.false in
    let wide : c.adjust_indices-step.result.0.start < c.adjust_indices-step.result.0.end = (let few = count_few c.args.self.now c.args.start c.args.slice.now c.adjust_indices-step.result.0.start c.adjust_indices-step.result.0.end c.adjust_indices-step.result.2 call in omega (arith, few, some)) in
    let first : pos c.first_of_span-first.result ≡ span_first c.adjust_indices-step.result.0.start c.adjust_indices-step.result.0.end c.args.slice.now.step =
    first_is c.adjust_indices-step.result.0.start c.adjust_indices-step.result.0.end c.first_of_span-first.result c.adjust_indices-step.result.1 c.args.slice.now.step ft c.adjust_indices-step.ensures.step wide c.first_of_span-first.ensures.rises c.first_of_span-first.ensures.falls in
    let next : pos c.entry_place-next.result ≡ pos c.args.start +ℤ span_first c.adjust_indices-step.result.0.start c.adjust_indices-step.result.0.end c.args.slice.now.step *ℤ (dim_at c.args.self.now.dims 0).1 =
    next_is c.args.self.now c.dim_desc-dims.result.now c.args.start c.entry_place-next.result c.first_of_span-first.result (span_first c.adjust_indices-step.result.0.start c.adjust_indices-step.result.0.end c.args.slice.now.step) c.dim_desc-dims.ensures fs first c.entry_place-next.ensures in
    λ room valid.
    subst (λ d. IsValid d c.entry_place-next.result room) made
    (made_valid c.args.self.now c.args.start c.args.slice.now c.adjust_indices-step.result.0.start c.adjust_indices-step.result.0.end c.adjust_indices-step.result.2 c.entry_place-next.result c.len_of_entries-len.result call (λ _. next) (λ entry e. c.len_of_entries-len.ensures entry (ap (λ (d : Descriptor). d.len) c.self.view_is ∙ e ∙ ap (λ ds. (dim_at ds 0).0 * entry) (sym c.dim_desc-dims.ensures))) room valid)

pub returns-clause-exact : goal.returns-clause-exact
returns-clause-exact c =
    let call : IsCall c.args.self.now c.args.start c.args.slice.now c.adjust_indices-step.result.0.start c.adjust_indices-step.result.0.end c.adjust_indices-step.result.2 =
    call_of c.args.self.now c.args.start c.dim_desc-dims.result.now c.args.slice.now c.adjust_indices-step.result.0.start c.adjust_indices-step.result.0.end c.adjust_indices-step.result.2 c.adjust_indices-step.result.1 c.dim_desc-dims.ensures c.requires.placed c.requires.some_dimension c.adjust_indices-step.ensures.saturated c.adjust_indices-step.ensures.step c.adjust_indices-step.ensures.picks c.adjust_indices-step.ensures.count c.adjust_indices-step.ensures.within in
    let fs : SFits w64 (dim_at c.dim_desc-dims.result.now 0).1 = search rules in
    let ft : SFits w64 c.adjust_indices-step.result.1 = search rules in
    let fr : SFits w64 c.stride_after.result = search rules in
    let stride : bits c.stride_after.result ≡ nearest_word ((dim_at c.args.self.now.dims 0).1 *ℤ c.args.slice.now.step) = stride_is c.args.self.now c.dim_desc-dims.result.now c.args.slice.now c.stride_after.result c.adjust_indices-step.result.1 c.dim_desc-dims.ensures fr fs ft c.adjust_indices-step.ensures.step c.stride_after.ensures in
    let made : made_of c.args.self.now c.len_of_entries-len.result c.adjust_indices-step.result.2 (nearest_word ((dim_at c.args.self.now.dims 0).1 *ℤ c.args.slice.now.step)) ≡ c.in_ok-descriptor.descriptor =
    descriptor_is c.args.self.now c.in_ok-descriptor.descriptor c.len_of_entries-len.result c.adjust_indices-step.result.2 (bits c.stride_after.result) (nearest_word ((dim_at c.args.self.now.dims 0).1 *ℤ c.args.slice.now.step)) stride c.in_ok-descriptor.ensures in
    let some : 0 < c.adjust_indices-step.result.2 = pos_of_ne-zero c.if-count-eq0.false in
    let wide : c.adjust_indices-step.result.0.start < c.adjust_indices-step.result.0.end = (let few = count_few c.args.self.now c.args.start c.args.slice.now c.adjust_indices-step.result.0.start c.adjust_indices-step.result.0.end c.adjust_indices-step.result.2 call in omega (arith, few, some)) in
    let first : pos c.first_of_span-first.result ≡ span_first c.adjust_indices-step.result.0.start c.adjust_indices-step.result.0.end c.args.slice.now.step =
    first_is c.adjust_indices-step.result.0.start c.adjust_indices-step.result.0.end c.first_of_span-first.result c.adjust_indices-step.result.1 c.args.slice.now.step ft c.adjust_indices-step.ensures.step wide c.first_of_span-first.ensures.rises c.first_of_span-first.ensures.falls in
    let next : pos c.entry_place-next.result ≡ pos c.args.start +ℤ span_first c.adjust_indices-step.result.0.start c.adjust_indices-step.result.0.end c.args.slice.now.step *ℤ (dim_at c.args.self.now.dims 0).1 =
    next_is c.args.self.now c.dim_desc-dims.result.now c.args.start c.entry_place-next.result c.first_of_span-first.result (span_first c.adjust_indices-step.result.0.start c.adjust_indices-step.result.0.end c.args.slice.now.step) c.dim_desc-dims.ensures fs first c.entry_place-next.ensures in
    first_of_made c.args.self.now c.in_ok-descriptor.descriptor c.args.start c.args.slice.now c.adjust_indices-step.result.0.start c.adjust_indices-step.result.0.end c.adjust_indices-step.result.2 c.entry_place-next.result c.len_of_entries-len.result call (λ _. next) made
