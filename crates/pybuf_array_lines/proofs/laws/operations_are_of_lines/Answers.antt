use Rattle.pybuf_array_lines.proofs.LineLaws.{each_operation, first_bad}
use Rattle.pybuf_array_lines.proofs.laws.operations_are_of_lines.Goals as goal

pub returns-clause-each : goal.returns-clause-each
returns-clause-each c = each_operation

pub returns-clause-first : goal.returns-clause-first
returns-clause-first c = first_bad
