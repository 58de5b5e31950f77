-- An exporter of a world steps, and the others are lent to it.
use Rattle.std.specs.Prelude.{ℕ, List, set, slice_get, Option, Some, None}
use Rattle.pybuf_value.specs.declared.faults.Fault.TheVariants as fault
use Rattle.pybuf_command.specs.declared.commands.Verb.{Verb}
use Rattle.pybuf_command.specs.declared.commands.LocalReply.{LocalReply}
use Rattle.pybuf_command.specs.declared.commands.LocalReply.TheVariants as local
use Rattle.pybuf_command.specs.declared.loans.Loan.{Loan}
use Rattle.pybuf_state.specs.Exporter.{Exporter}
use Rattle.pybuf_state.specs.Loans.{given_loan}
use Rattle.pybuf_exporter.specs.Step.{estep}
use Rattle.pybuf_world.specs.declared.named.Target.{Target}
use Rattle.pybuf_world.specs.World.{World, loan_for, loans_of}

-- what each handle is lent as, to the exporter that has this number
abbrev pub named_to : World → ℕ → ℕ → Option Loan
named_to w i handle = given_loan (Some (loan_for w i handle))

-- the world after a command changed its exporter and before any handle is given, with the local reply
abbrev pub local_step : World → Target → Verb → List (ℕ × Loan) → Option Exporter → World × LocalReply
local_step w t v loans (Some e) =
    (record w { exporters = set w.exporters t.exporter (estep e t.subject v loans).0 }, (estep e t.subject v loans).1)
local_step w t v loans None = (w, local.Refused fault.UnknownName)

-- so with the loans that the command reads
abbrev pub step_of_own : World → Target → Verb → World × LocalReply
step_of_own w t v = local_step w t v (loans_of w t.exporter v) (slice_get w.exporters t.exporter)
