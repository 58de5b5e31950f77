use Rattle.std.proofs.Common.{refl, arith, w8}
use Rattle.std.proofs.lemmas.Simd.{SwzOk-from_below}
use Rattle.hex.specs.Hex.{lower_digits}
use Rattle.pybuf_lanes.proofs.Maps.{looked_up}
use Rattle.pybuf_lanes.proofs.digits.digit_lanes.Goals as goal

pub swizzle : goal.swizzle
swizzle c = SwzOk-from_below w8 16 1 16 0 c.args.numbers refl (omega (arith, c.fits-numbers.0)) c.requires

pub returns : goal.returns
returns c = looked_up lower_digits c.args.numbers c.fits-numbers.0 c.requires
