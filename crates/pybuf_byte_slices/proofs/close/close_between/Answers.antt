use Rattle.pybuf_byte_slices.proofs.CloseLemmas.{stride_off}
use Rattle.pybuf_byte_slices.proofs.close.close_between.Goals as goal

pub returns-clause-list : goal.returns-clause-list
returns-clause-list c = stride_off c.args.bytes.now c.close_runs.new.bytes c.args.low c.args.stride c.args.count c.requires.moves c.requires.some c.requires.inside c.close_runs.ensures
