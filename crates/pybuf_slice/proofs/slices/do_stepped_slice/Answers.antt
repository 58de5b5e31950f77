-- The indices of a range inside the sequence are places of elements.
use Rattle.std.proofs.Common.{false, length}
use Rattle.pybuf_slice.proofs.ReadLemmas.{stride_inside}
use Rattle.pybuf_slice.proofs.slices.do_stepped_slice.Goals as goal

pub gather-requires : goal.gather-requires
gather-requires g c =
    rw c.in_span.ensures
    (stride_inside c.indices_of_a_span.ensures (length c.args.items.now) c.args.range.start c.args.range.end c.args.step false c.requires.moves c.requires.inside)
