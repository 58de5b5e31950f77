use Rattle.std.proofs.Common.{SFits, w64}
use Rattle.pybuf_desc.proofs.PlaceBits.{place_after}
use Rattle.pybuf_desc.proofs.sliced.entry_place.Goals as goal

pub overflow_cast-result-3 : goal.overflow_cast-result-3
overflow_cast-result-3 c =
    let stride : SFits w64 c.args.stride = c.ranges.stride in
    place_after c.args.start c.args.index c.args.stride c.requires.start_fits c.requires.index_fits stride c.requires.product_fits c.requires.low c.requires.high
