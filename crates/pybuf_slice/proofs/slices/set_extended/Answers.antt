-- The indices of a slice are places of elements.
use Rattle.std.proofs.Common.{length}
use Rattle.pybuf_slice.proofs.slices.set_extended.Goals as goal

pub do_set_indexes-requires-clause-inside : goal.do_set_indexes-requires-clause-inside
do_set_indexes-requires-clause-inside g c =
    rw c.iter-indexes.ensures
    (c.indices_of_a_slice.ensures (length c.args.places.now) c.args.slice.start c.args.slice.stop c.args.slice.step c.requires.moves).inside
