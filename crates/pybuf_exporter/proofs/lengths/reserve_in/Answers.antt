use Rattle.pybuf_exporter.proofs.Resizing.{reserves_in}
use Rattle.pybuf_exporter.proofs.lengths.reserve_in.Goals as goal

pub returns-clause-answer : goal.returns-clause-answer
returns-clause-answer c =
    reserves_in c.args.parts.now c.reserve.new.self c.args.additional c.reserve.result c.reserve.ensures.answer c.reserve.ensures.memory c.reserve.ensures.same c.reserve.ensures.room
