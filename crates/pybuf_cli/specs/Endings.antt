-- How a run of the program ends.
use Rattle.std.specs.Prelude.{ℕ}
use Rattle.pybuf_cli.specs.declared.status.Status.{Status}
use Rattle.pybuf_cli.specs.declared.status.Status.TheVariants as status

-- the exit status of the process
abbrev pub exit_number : Status → ℕ
exit_number status.Done = 0
exit_number status.BadLine = 2
exit_number status.NoMemory = 3
exit_number status.ReadFault = 4
exit_number status.WriteFault = 5
exit_number status.Usage = 6
exit_number status.TooLong = 7
exit_number status.Disagree = 8
exit_number status.BadData = 9
