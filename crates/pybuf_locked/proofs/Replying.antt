-- What a reply tells of the exporter that replied.
use Rattle.std.proofs.Common.{◌≡◌, ap}
use Rattle.std.specs.Prelude.{Result, Ok, Err, IfOk}
use Rattle.pybuf_command.specs.declared.commands.LocalCommand.{LocalCommand}
use Rattle.pybuf_command.specs.declared.commands.LocalReply.{LocalReply}
use Rattle.pybuf_state.specs.Exporter.{Exporter}
use Rattle.pybuf_state.specs.Sound.{IsSoundExporter}
use Rattle.pybuf_locked.specs.Locked.{stepped, IsReplied}

pub replied_by : {Fact Fault : Type 0} (holds : Fact → Exporter → Type 0) (command : LocalCommand) (fact : Fact) (e after : Exporter) (result : Result LocalReply Fault) → IsSoundExporter e → holds fact e → IfOk result (λ r. stepped e command ≡ (after, r)) → IfOk result (λ r. IsReplied holds command r)
replied_by holds command fact e after (Ok r) sound held is = record { fact = fact; exporter = e; sound = sound; held = held; replied = ap (λ (p : Exporter × LocalReply). p.1) is }
replied_by holds command fact e after (Err fault) sound held is = is
