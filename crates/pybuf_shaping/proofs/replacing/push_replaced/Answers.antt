use Rattle.std.proofs.Common.{◌≡◌, ◌+◌, ◌++◌, get_or, drop, ap, sym, ◌∙◌, arith, rules, append_assoc}
use Rattle.std.proofs.lemmas.Grind.{common_steps}
use Rattle.bstr.specs.Text.{part, replaced_at}
use Rattle.pybuf_shaping.proofs.ReplaceLemmas.{next_place, next_text, last_text}
use Rattle.pybuf_shaping.proofs.replacing.push_replaced.Goals as goal

pub slice_bounds-extend_from_slice-count : goal.slice_bounds-extend_from_slice-count
slice_bounds-extend_from_slice-count c =
    (next_place c.args.bytes.now c.args.new.now c.args.width c.loop-place.last c.loop-place.place-index c.args.places.now c.loop-place-test.true c.loop-place.invariant.fits).0

pub slice_bounds-extend_from_slice-start : goal.slice_bounds-extend_from_slice-start
slice_bounds-extend_from_slice-start c =
    let next = next_place c.args.bytes.now c.args.new.now c.args.width c.loop-place.last c.loop-place.place-index c.args.places.now c.loop-place-test.true c.loop-place.invariant.fits in
    search (rules, next.0, next.1)

pub slice_bounds-extend_from_slice-end : goal.slice_bounds-extend_from_slice-end
slice_bounds-extend_from_slice-end c =
    let next = next_place c.args.bytes.now c.args.new.now c.args.width c.loop-place.last c.loop-place.place-index c.args.places.now c.loop-place-test.true c.loop-place.invariant.fits in
    search (rules, next.0, next.1)

pub overflow_add-last : goal.overflow_add-last
overflow_add-last c =
    let next = next_place c.args.bytes.now c.args.new.now c.args.width c.loop-place.last c.loop-place.place-index c.args.places.now c.loop-place-test.true c.loop-place.invariant.fits in
    omega (arith, next.1)

pub loop-place-preserved : goal.loop-place-preserved
loop-place-preserved c =
    let place = get_or c.args.places.now c.loop-place.place-index 0 in
    let next = next_place c.args.bytes.now c.args.new.now c.args.width c.loop-place.last c.loop-place.place-index c.args.places.now c.loop-place-test.true c.loop-place.invariant.fits in
    let text = next_text c.args.bytes.now c.args.new.now c.args.width c.loop-place.last c.loop-place.place-index c.args.places.now c.loop-place-test.true in
    let rest = replaced_at c.args.bytes.now c.args.width c.args.new.now (place + c.args.width) (drop (c.loop-place.place-index + 1) c.args.places.now) in
    let written : c.extend_from_slice-in-loop-place.new.self.items ≡ (c.loop-place.list.items ++ part c.loop-place.last place c.args.bytes.now) ++ c.args.new.now =
    grind (arith, common_steps) in
    record {
      whole = ap (λ l. l ++ rest) written
          ∙ (append_assoc (c.loop-place.list.items ++ part c.loop-place.last place c.args.bytes.now) c.args.new.now rest
          ∙ (append_assoc c.loop-place.list.items (part c.loop-place.last place c.args.bytes.now) (c.args.new.now ++ rest)
          ∙ (ap (λ l. c.loop-place.list.items ++ l) (sym text)
          ∙ c.loop-place.invariant.whole)));
      fits = next.2;
      inside = next.1;
    }

pub returns : goal.returns
returns c =
    let text = last_text c.args.bytes.now c.args.new.now c.args.width c.loop-place.last c.loop-place.place-index c.args.places.now c.loop-place-test.false in
    let written : c.extend_from_slice-2.new.self.items ≡ c.loop-place.list.items ++ drop c.loop-place.last c.args.bytes.now = grind (arith, common_steps) in
    written ∙ (ap (λ l. c.loop-place.list.items ++ l) (sym text) ∙ c.loop-place.invariant.whole)
