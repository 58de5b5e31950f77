-- Bytes that are handed from one locked buffer to another.
use Rattle.std.specs.Prelude.{◌≡◌, ◌≢◌, ◌⊎◌, ℕ, List, [], ◌∷◌, ◌++◌, map, Some}
use Rattle.pybuf_value.specs.declared.values.Scalar.TheVariants as scalar
use Rattle.pybuf_value.specs.declared.values.Value.TheVariants as value
use Rattle.pybuf_command.specs.declared.commands.LocalCommand.{LocalCommand}
use Rattle.pybuf_command.specs.declared.commands.Verb.TheVariants as verb
use Rattle.pybuf_command.specs.declared.kinds.ExporterKind.TheVariants as kind
use Rattle.pybuf_command.specs.declared.kinds.Subject.TheVariants as subject
use Rattle.pybuf_share.specs.declared.joined.FinishFault.{FinishFault}
use Rattle.pybuf_share.specs.declared.joined.FinishFault.TheVariants as fault
use Rattle.pybuf_share.specs.declared.joined.Joined.{Joined}
use Rattle.pybuf_share.specs.Finishing.{IsJoined, IsNotOpening}
use Rattle.pybuf_share.specs.History.{Opening, replay}
use Rattle.pybuf_share.specs.Sessions.{Asker}

-- The bytes of the two buffers at the end: the one that gave, and the one that took.
pub record Handed : Type 0 where
  pub given : List ℕ
  pub taken : List ℕ

-- All bytes of one buffer stand behind those of the other. None is lost, and none comes twice.
abbrev pub handed : List ℕ → List ℕ → Handed
handed from to = record { given = from; taken = to ++ from }

-- a bytearray under its lock
abbrev pub byte_array : List ℕ → Opening
byte_array bytes = record { kind = kind.ByteArray; bytes = bytes }

-- Why bytes aren't handed over. Memory ran out, or what lay under a lock isn't what was put there or what was
-- replied. No receipt is out of order.
abbrev pub IsNotHanded : List ℕ → List ℕ → FinishFault → Type 0
IsNotHanded from to (fault.Opening given_kind given kept_kind kept) =
    IsNotOpening (byte_array from) given_kind given kept_kind kept ⊎ IsNotOpening (byte_array to) given_kind given kept_kind kept
IsNotHanded from to (fault.Order session before after) = ⊥
IsNotHanded from to (fault.Disagree at kept got) = kept ≢ Some got
IsNotHanded from to fault.NoMemory = Unit {0}

-- the command that adds the bytes of what handle 0 names at the end
abbrev pub extending : LocalCommand
extending = record { subject = subject.Own; verb = verb.Extend (value.One (scalar.Handle 0)); loans = [] }

-- the bytes after one thread carries out the commands of a history
abbrev pub last_bytes : Joined → List ℕ
last_bytes joined = (replay joined.kind joined.opening joined.entries).bytes

-- What is known of a history, whoever asked for its commands.
pub record IsWhole (joined : Joined) : Type 0 where
  pub opening : Opening
  pub sessions : List Asker
  pub is : IsJoined opening.kind opening.bytes sessions joined

-- What is known of the history of a buffer that one session alone has used. Its receipts are the whole history.
pub record IsAlone (opening : Opening) (s : Asker) (joined : Joined) : Type 0 where
  pub is : IsJoined opening.kind opening.bytes (s ∷ []) joined
  pub own : joined.entries ≡ map (λ r. r.entry) s.receipts
