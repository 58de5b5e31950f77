use Rattle.std.specs.Prelude.{slice_get}
use Rattle.pybuf_struct.specs.Formats.{fields}
use Rattle.pybuf_table.proofs.FieldLemmas.{found_at, left_after, inside_after}
use Rattle.pybuf_table.proofs.field_place.find_field.Goals as goal

pub returns-then-left-count-clause-value : goal.returns-then-left-count-clause-value
returns-then-left-count-clause-value c =
    found_at c.endianness-order.result c.loop-code.at c.loop-code.code-index c.loop-code.left c.arg_count-count.result c.pre_padding.result c.codes-codes.result.now c.code-item.result c.field_of_code.result (slice_get (fields c.args.format.now) c.args.field)
    c.loop-code-test.true c.code-item.is c.arg_count-count.ensures c.if-left-count.true c.pre_padding.ensures c.field_of_code.ensures.value c.loop-code.invariant.here

pub loop-code-preserved : goal.loop-code-preserved
loop-code-preserved c = record {
  here = left_after c.endianness-order.result c.loop-code.at c.loop-code.code-index c.loop-code.left c.arg_count-count.result c.pre_padding.result c.span.result c.codes-codes.result.now c.code-item.result (slice_get (fields c.args.format.now) c.args.field)
      c.loop-code-test.true c.code-item.is c.arg_count-count.ensures c.if-left-count.false c.pre_padding.ensures c.span.ensures c.loop-code.invariant.here;
  inside = inside_after c.endianness-order.result c.loop-code.at c.loop-code.code-index c.args.format.now.size c.pre_padding.result c.span.result c.codes-codes.result.now c.code-item.result
      c.loop-code-test.true c.code-item.is c.pre_padding.ensures c.span.ensures c.loop-code.invariant.inside;
}
