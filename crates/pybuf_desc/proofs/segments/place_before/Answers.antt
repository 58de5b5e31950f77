use Rattle.std.proofs.Common.{SFits, w64}
use Rattle.pybuf_desc.proofs.PlaceBits.{place_earlier}
use Rattle.pybuf_desc.proofs.segments.place_before.Goals as goal

pub overflow_cast-result-3 : goal.overflow_cast-result-3
overflow_cast-result-3 c =
    let stride : SFits w64 c.args.stride = c.ranges.stride in
    place_earlier c.args.place c.args.count c.args.stride c.requires.place_fits c.requires.count_fits stride c.requires.product_fits c.requires.low c.requires.high
