-- An exporter under a lock: what holds of it whenever the lock is got, and what one command does there.
use Rattle.std.specs.Prelude.{◌≡◌}
use Rattle.pybuf_command.specs.declared.commands.LocalCommand.{LocalCommand}
use Rattle.pybuf_command.specs.declared.commands.LocalReply.{LocalReply}
use Rattle.pybuf_state.specs.Exporter.{Exporter}
use Rattle.pybuf_state.specs.Sound.{IsSoundExporter}
use Rattle.pybuf_exporter.specs.Step.{estep}
use Rattle.pybuf_exporter.specs.Stored.{StoredExporter}

-- an exporter after a command, and its reply
abbrev pub stepped : Exporter → LocalCommand → Exporter × LocalReply
stepped e command = estep e command.subject command.verb command.loans

-- What lies under a lock: an exporter as it is kept, and the fact that its user keeps beside it.
pub record Held (Fact : Type 0) : Type 0 where
  pub state : StoredExporter
  pub fact : Fact

-- After a command an invariant holds of an exporter for one fact, if it held for another before. Every exporter is
-- sound.
abbrev pub HoldsAfter : {Fact : Type 0} → (Fact → Exporter → Type 0) → Fact → Exporter → LocalCommand → Fact → Type 0
HoldsAfter holds before e command after = IsSoundExporter e → holds before e → holds after (stepped e command).0

-- a command keeps an invariant, of whatever exporter and for whatever fact it holds
abbrev pub KeepsInvariant : {Fact : Type 0} → (Fact → Exporter → Type 0) → LocalCommand → Type 0
KeepsInvariant {Fact} holds command = (fact : Fact) (e : Exporter) → HoldsAfter holds fact e command fact

-- What is known of a reply that a lock was taken for: some exporter, which is sound and of which the invariant held,
-- replies it.
pub record IsReplied {Fact : Type 0} (holds : Fact → Exporter → Type 0) (command : LocalCommand) (reply : LocalReply) : Type 0 where
  pub fact : Fact
  pub exporter : Exporter
  pub sound : IsSoundExporter exporter
  pub held : holds fact exporter
  pub replied : (stepped exporter command).1 ≡ reply
