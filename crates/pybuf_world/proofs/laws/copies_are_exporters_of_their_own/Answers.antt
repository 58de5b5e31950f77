use Rattle.pybuf_world.proofs.Copies.{own_exporters, own_unviewed_exporters}
use Rattle.pybuf_world.proofs.laws.copies_are_exporters_of_their_own.Goals as goal

pub returns-clause-viewed : goal.returns-clause-viewed
returns-clause-viewed c = own_exporters c.fresh_replies_are_copies.ensures c.copies_are_faithful.ensures

pub returns-clause-unviewed : goal.returns-clause-unviewed
returns-clause-unviewed c = own_unviewed_exporters c.fresh_replies_are_copies.ensures c.copies_are_faithful.ensures
