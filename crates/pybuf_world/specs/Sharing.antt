-- Items that are written through one handle of a world and read through another.
use Rattle.std.specs.Prelude.{◌≡◌, ◌≢◌, ◌⊎◌, ℕ, ◌+◌, ◌≤◌, List, [], ◌∷◌, set, slice_get, slice_index, false, Option, Some, None, Ok}
use Rattle.pybuf_value.specs.declared.values.Item.{Item}
use Rattle.pybuf_value.specs.declared.values.Value.{Value}
use Rattle.pybuf_struct.specs.Formats.{Format, format_of, fields}
use Rattle.pybuf_struct.specs.Values.{item_of}
use Rattle.pybuf_struct.specs.Laws.{normal_values}
use Rattle.pybuf_desc.specs.Layouts.{Layout}
use Rattle.pybuf_desc.specs.Items.{bytes_at}
use Rattle.pybuf_command.specs.Handles.{handle_of_value}
use Rattle.pybuf_command.specs.declared.commands.Verb.TheVariants as verb
use Rattle.pybuf_command.specs.declared.worlds.Command.TheVariants as command
use Rattle.pybuf_command.specs.declared.worlds.Reply.TheVariants as reply
use Rattle.pybuf_memoryview.specs.Items.{is_slice, scalar_in}
use Rattle.pybuf_memoryview.specs.Keys.{item_of_key, names_itself}
use Rattle.pybuf_state.specs.Exporter.{Exporter, live_layout}
use Rattle.pybuf_world.specs.declared.named.Named.TheVariants as named
use Rattle.pybuf_world.specs.World.{World, pairs_of, wstep}
use Rattle.pybuf_world.specs.Sound.{IsSoundWorld}

-- ---- items, as a world has them

-- A handle names an unreleased view, which has this layout, of the exporter that has this number. A key names
-- an item of the view, and the first byte of that item lies at this place of the exporter.
pub record HasItemAt (w : World) (handle : ℕ) (key : Value) (number place : ℕ) (layout : Layout) : Type 0 where
  pub view : ℕ
  pub names : slice_get w.handles handle ≡ Some (named.View number view)
  pub exporter : Exporter
  pub there : slice_get w.exporters number ≡ Some exporter
  pub live : live_layout exporter view ≡ Ok layout
  pub item : ℕ
  pub chosen : item_of_key layout.shape key ≡ Ok item
  pub starts : slice_index layout.starts item ≡ place

abbrev pub bytes_in_exporter : Option Exporter → ℕ → ℕ → List ℕ
bytes_in_exporter (Some e) count place = bytes_at e.bytes count place
bytes_in_exporter None count place = []

-- `count` bytes of the exporter that has this number, from a place on
abbrev pub bytes_in_world : World → ℕ → ℕ → ℕ → List ℕ
bytes_in_world w number count place = bytes_in_exporter (slice_get w.exporters number) count place

-- The normal form of a value by a format. An item to which the value was written is read as this. A handle
-- counts as what it names before the write.
abbrev pub normal_item : World → Format → Value → Item
normal_item w format v = item_of (normal_values (pairs_of w (handle_of_value v)) (fields format) (scalar_in v ∷ []))

-- Two pieces of bytes have no byte in common: they lie in different exporters, or one lies before the other.
abbrev pub ShareNoByte : ℕ → ℕ → ℕ → ℕ → ℕ → ℕ → Type 0
ShareNoByte number place count other_number other_place other_count =
    (number ≢ other_number) ⊎ ((place + count ≤ other_place) ⊎ (other_place + other_count ≤ place))

-- ---- a write to one item

-- A value was written to the item at a key of a handle. The fields say which item that is, and what its format
-- is. Only the bytes of that item change, and each item of an unreleased view stays where it was. In the new
-- world, and in each later one in which the bytes of the item are the same, `get` of each item of this format
-- that lies there replies the normal form of the value, through any handle. (In a view without dimensions the
-- key `...` names no item: `get` replies the view itself.)
pub record IsWrittenInWorld (old new : World) (handle : ℕ) (key v : Value) : Type 0 where
  pub number : ℕ
  pub place : ℕ
  pub layout : Layout
  pub item : HasItemAt old handle key number place layout
  pub format : Format
  pub spelled : format_of layout.format ≡ Ok format
  pub before : Exporter
  pub there : slice_get old.exporters number ≡ Some before
  pub after : Exporter
  pub stands : new ≡ record old { exporters = set old.exporters number after }
  pub kind : after.kind ≡ before.kind
  pub views : after.views ≡ before.views
  pub iterators : after.iterators ≡ before.iterators
  pub others : (other_number count from : ℕ) → ShareNoByte number place layout.itemsize other_number from count → bytes_in_world new other_number count from ≡ bytes_in_world old other_number count from
  pub stay : (other other_number other_place : ℕ) (other_key : Value) (its : Layout) → HasItemAt old other other_key other_number other_place its → HasItemAt new other other_key other_number other_place its
  pub seen : (later : World) (other : ℕ) (other_key : Value) (its : Layout) → IsSoundWorld later → HasItemAt later other other_key number place its → names_itself its.shape other_key ≡ false
      → its.format ≡ layout.format → bytes_in_world later number layout.itemsize place ≡ bytes_in_world new number layout.itemsize place
      → wstep later (command.Do other (verb.Get other_key)) ≡ (later, reply.Item (normal_item old format v))

-- ---- the laws

-- This holds in a sound world, whenever `set` of a view by a key that is no slice isn't refused.
abbrev pub WorldWritesAreSeen : Type 0
WorldWritesAreSeen =
    (w new : World) (handle number k : ℕ) (key v : Value) → IsSoundWorld w → slice_get w.handles handle ≡ Some (named.View number k) → is_slice key ≡ false
    → wstep w (command.Do handle (verb.Set key v)) ≡ (new, reply.Ok) → IsWrittenInWorld w new handle key v

-- If two items share no byte, `set` of one doesn't change what `get` of the other replies.
abbrev pub WritesApartAreNotSeen : Type 0
WritesApartAreNotSeen =
    (w new : World) (handle number place other other_number other_place : ℕ) (key v other_key : Value) (layout its : Layout) → IsSoundWorld w
    → HasItemAt w handle key number place layout → HasItemAt w other other_key other_number other_place its → ShareNoByte number place layout.itemsize other_number other_place its.itemsize
    → wstep w (command.Do handle (verb.Set key v)) ≡ (new, reply.Ok)
    → (wstep new (command.Do other (verb.Get other_key))).1 ≡ (wstep w (command.Do other (verb.Get other_key))).1

-- If two items of one format lie at the same place, `get` of one after `set` of the other replies the normal
-- form of the value that was set.
abbrev pub SharedWritesAreSeen : Type 0
SharedWritesAreSeen =
    (w new : World) (handle other number place : ℕ) (key v other_key : Value) (layout its : Layout) (format : Format) → IsSoundWorld w
    → HasItemAt w handle key number place layout → HasItemAt w other other_key number place its → names_itself its.shape other_key ≡ false
    → format_of layout.format ≡ Ok format → its.format ≡ layout.format → wstep w (command.Do handle (verb.Set key v)) ≡ (new, reply.Ok)
    → wstep new (command.Do other (verb.Get other_key)) ≡ (new, reply.Item (normal_item w format v))
