use Rattle.std.proofs.Common.{refl, arith}
use Rattle.hex.specs.Hex.{encode_with}
use Rattle.pybuf_lanes.proofs.DigitPairs.{one_vector_more, rest_written, where_it_fits}
use Rattle.pybuf_lanes.proofs.digits.write_digits.Goals as goal

pub loop-at-init : goal.loop-at-init
unfolding encode_with
loop-at-init c = record { inside = omega arith; written = refl }

pub loop-at-preserved : goal.loop-at-preserved
loop-at-preserved c = record {
  inside = omega arith;
  written = one_vector_more _ _ _ _ c.pair_lanes.ensures (omega arith) (omega arith) c.loop-at.invariant.written;
}

pub returns : goal.returns
returns c = rest_written _ _ _ _ (where_it_fits c.encode_to_slice.result c.encode_to_slice.ensures.fits (omega arith) c.encode_to_slice.ensures.written) c.loop-at.invariant.written
