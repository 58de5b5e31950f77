use Rattle.std.proofs.Common.{◌/◌, ◌^◌, ◌<◌, sym, subst, refl}
use Rattle.std.proofs.lemmas.Simd.{zip2_splat}
use lib.Lanes.{Each1}
use Rattle.pybuf_lanes.proofs.Maps.{below_at_each_byte}
use Rattle.pybuf_lanes.proofs.digits.high_lanes.Goals as goal

pub returns-clause-value : goal.returns-clause-value
returns-clause-value c = zip2_splat (λ a b. a / 2 ^ b) c.args.bytes 16 4 c.fits-bytes.0

pub returns-clause-small : goal.returns-clause-small
returns-clause-small c = subst (Each1 (λ n. n < 16)) (sym (returns-clause-value c)) (below_at_each_byte (λ b. b / 16) 16 refl c.args.bytes c.fits-bytes.1)
