use Rattle.pybuf_strided.proofs.Copies.{turned_moved, room_as_long}
use Rattle.pybuf_strided.proofs.moves.copy_turned.Goals as goal

pub gather_reversed-requires : goal.gather_reversed-requires
gather_reversed-requires c = room_as_long c.args.bytes.now c.args.source.now c.args.to c.args.from c.args.count c.requires.enough c.requires.source_inside c.requires.inside

pub returns : goal.returns
returns c =
    turned_moved c.args.bytes.now c.args.source.now c.gather_reversed.new.room c.args.to c.args.from c.args.count c.requires.enough c.requires.source_inside c.requires.inside c.gather_reversed.ensures
