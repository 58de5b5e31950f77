use Rattle.std.proofs.Common.{◌<◌, ◌+◌, ◌*◌, length, slice_index, take, drop, arith, ap, sym, ◌∙◌}
use Rattle.std.proofs.lemmas.List.{take_more_set, length-set}
use Rattle.pybuf_shaping.specs.Digits.{bytes_of_hex}
use Rattle.pybuf_shaping.proofs.ReadLemmas.{bytes_before, blank_step, pair_step, bad_step, refused_behind, byte_of_values, value_refused}
use Rattle.pybuf_shaping.proofs.FrontLemmas.{front_read}
use Rattle.pybuf_shaping.proofs.digit_pairs.write_pairs.Goals as goal

pub loop-at-preserved-then-is_py_ascii_whitespace : goal.loop-at-preserved-then-is_py_ascii_whitespace
loop-at-preserved-then-is_py_ascii_whitespace c = record {
  whole = ap (bytes_before (take c.loop-at.count c.loop-at.room)) (blank_step c.args.text.now c.loop-at.at c.loop-at-test.true (sym c.is_py_ascii_whitespace.ensures ∙ c.if-is_py_ascii_whitespace.true)) ∙ c.loop-at.invariant.whole;
  inside = omega (arith, c.loop-at-test.true);
  counted = omega (arith, c.loop-at.invariant.counted);
  room = c.loop-at.invariant.room;
}

pub returns-then-high-gt15-clause-bytes : goal.returns-then-high-gt15-clause-bytes
returns-then-high-gt15-clause-bytes c =
    refused_behind (take c.loop-at.count c.loop-at.room) (bytes_of_hex (drop c.loop-at.at c.args.text.now)) (bytes_of_hex c.args.text.now) c.loop-at.invariant.whole
    (bad_step c.args.text.now c.loop-at.at c.loop-at-test.true (sym c.is_py_ascii_whitespace.ensures ∙ c.if-is_py_ascii_whitespace.false)
    (c.digit_value-high.ensures.value ∙ value_refused c.digit_value-high.result c.if-high-gt15.true))

pub loop-at-preserved : goal.loop-at-preserved
loop-at-preserved c =
    let inside : c.loop-at.at + 1 < length c.args.text.now = omega (arith, c.loop-at-test.true, c.if-at-text.false) in
    let free : c.loop-at.count < length c.loop-at.room = omega (arith, inside, c.loop-at.invariant.counted, c.loop-at.invariant.room) in
    let high : c.digit_value-high.result < 16 = omega (arith, c.if-high-gt15.false) in
    let low : c.digit_value-low.result < 16 = omega (arith, c.if-low-gt15.false) in
    let byte = c.digit_value-high.result * 16 + c.digit_value-low.result in
    record {
      whole = ap (λ bytes. bytes_before bytes (bytes_of_hex (drop (c.loop-at.at + 2) c.args.text.now))) (take_more_set c.loop-at.room c.loop-at.count byte free)
          ∙ (pair_step c.args.text.now (take c.loop-at.count c.loop-at.room) c.loop-at.at byte inside (c.digit_value-high.ensures.printed high)
          (byte_of_values (slice_index c.args.text.now c.loop-at.at) (slice_index c.args.text.now (c.loop-at.at + 1)) c.digit_value-high.result c.digit_value-low.result c.digit_value-high.ensures.value c.digit_value-low.ensures.value high low)
          ∙ c.loop-at.invariant.whole);
      inside = omega (arith, inside);
      counted = omega (arith, c.loop-at.invariant.counted);
      room = length-set c.loop-at.room c.loop-at.count byte ∙ c.loop-at.invariant.room;
    }

pub loop-at-init : goal.loop-at-init
loop-at-init c = record {
  whole = front_read c.args.text.now c.read_digits-count.new.room c.read_digits-count.result c.read_digits-count.ensures.digits c.read_digits-count.ensures.bytes c.read_digits-count.ensures.inside;
  inside = omega (arith, c.read_digits-count.ensures.inside);
  counted = omega arith;
  room = c.read_digits-count.ensures.same_length ∙ c.requires;
}
