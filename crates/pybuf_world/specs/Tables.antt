-- The world that the tables keep, and what holds of the tables.
use Rattle.std.specs.Prelude.{◌≡◌, ℕ, ◌<◌, Bool, List, [], ◌∷◌, ◌++◌, length, slice_index, slice_get, Option, Some, None}
use Rattle.pybuf_value.specs.declared.faults.Fault.TheVariants as fault
use Rattle.pybuf_value.specs.declared.snaps.Snap.{Snap}
use Rattle.pybuf_command.specs.declared.kinds.Subject.{Subject}
use Rattle.pybuf_state.specs.Exporter.{Exporter}
use Rattle.pybuf_state.specs.Fresh.{IsCopyOf, is_readonly_subject, made_of}
use Rattle.pybuf_command.specs.declared.worlds.Reply.{Reply}
use Rattle.pybuf_command.specs.declared.worlds.Reply.TheVariants as reply
use Rattle.pybuf_world.specs.declared.tables.Tables.{Tables}
use Rattle.pybuf_command.specs.declared.commands.LocalReply.{LocalReply}
use Rattle.pybuf_command.specs.declared.commands.LocalReply.TheVariants as local
use Rattle.pybuf_world.specs.declared.named.Target.{Target}
use Rattle.pybuf_world.specs.World.{World, handle_of, has_view, handles_with_copy, reply_with_copy, handles_after, reply_after}
use Rattle.pybuf_world.specs.Sound.{IsSoundWorld}

abbrev pub world_of : Tables → World
world_of t = record { exporters = t.exporters; handles = t.handles.items }

-- These are the handles of the exporters, in order.
pub record AreOwners (w : World) (owners : List ℕ) : Type 0 where
  pub counted : length owners ≡ length w.exporters
  pub first : (i : ℕ) → i < length w.exporters → slice_index owners i ≡ handle_of w i

pub record IsKept (t : Tables) : Type 0 where
  pub sound : IsSoundWorld (world_of t)
  pub owned : AreOwners (world_of t) t.owners.items

-- The handles of the exporters after a reply. A new exporter gets the next handle.
abbrev pub owners_after : List ℕ → ℕ → LocalReply → List ℕ
owners_after owners next (local.Fresh snap) = owners ++ next ∷ []
owners_after owners next _ = owners

-- so the owners are after a reply of a world that is kept
abbrev pub OwnersFollow : Tables → LocalReply → Tables → Type 0
OwnersFollow old r new = new.owners.items ≡ owners_after old.owners.items (length (world_of old).handles) r

-- one exporter more has an owner, which is the next handle
abbrev pub GainsOwner : Tables → Tables → Type 0
GainsOwner old new = new.owners.items ≡ old.owners.items ++ length (world_of old).handles ∷ []

-- The exporter is there, and the snap is the copy of its subject.
abbrev pub IsCopyAt : Option Exporter → Subject → Snap → Type 0
IsCopyAt (Some e) s snap = IsCopyOf e s snap
IsCopyAt None s snap = ⊥

-- the world with a new exporter, which a copy makes, and with its handle, and that of its view if it has one
abbrev pub with_made : Bool → World → Exporter → World × Reply
with_made viewed w made = (
  record { exporters = w.exporters ++ made ∷ []; handles = handles_with_copy viewed (length w.exporters) w.handles },
  reply_with_copy viewed (length w.handles),
)

-- the same for the copy of a subject of an exporter that is there
abbrev pub with_copy : World → Option Exporter → Subject → Snap → World × Reply
with_copy w (Some e) s snap = with_made (has_view snap.kind) w (made_of (is_readonly_subject e s) snap)
with_copy w None s snap = (w, reply.Refused fault.UnknownName)

-- so with the copy of a subject of an exporter, by its number
abbrev pub with_copy_of : World → ℕ → Subject → Snap → World × Reply
with_copy_of w exporter s snap = with_copy w (slice_get w.exporters exporter) s snap

-- The reply makes a new exporter.
abbrev pub IsFresh : LocalReply → Type 0
IsFresh (local.Fresh snap) = Unit {0}
IsFresh _ = ⊥

-- If a reply makes a new exporter, its copy is as P says.
abbrev pub IfFresh : LocalReply → (Snap → Type 0) → Type 0
IfFresh (local.Fresh snap) P = P snap
IfFresh _ P = Unit {0}

-- the world after its exporter stepped, with the handles that the reply gives, and what the world replies
abbrev pub answered : World → Target → LocalReply → World × Reply
answered w t (local.Fresh snap) = with_copy w (slice_get w.exporters t.exporter) t.subject snap
answered w t r = (record w { handles = handles_after w t r }, reply_after w t r)
