-- What `hash` replies of two handles of a world, if `compare` finds them equal.
use Rattle.std.specs.Prelude.{◌≡◌, ℕ, ◌<◌, List, true}
use Rattle.std.specs.List.{All}
use Rattle.pybuf_value.specs.declared.values.Scalar.TheVariants as scalar
use Rattle.pybuf_value.specs.declared.values.Value.TheVariants as value
use Rattle.pybuf_value.specs.declared.values.CompareOp.TheVariants as op
use Rattle.pybuf_command.specs.declared.commands.Verb.TheVariants as verb
use Rattle.pybuf_command.specs.declared.commands.PropertyName.TheVariants as property
use Rattle.pybuf_command.specs.declared.worlds.Command.TheVariants as command
use Rattle.pybuf_command.specs.declared.worlds.Reply.TheVariants as reply
use Rattle.pybuf_equality.specs.Laws.{IsByteFormat}
use Rattle.pybuf_world.specs.World.{World, wstep}
use Rattle.pybuf_world.specs.Sound.{IsSoundWorld}

-- If a handle replies its `format`, this is `b`, `B` or `c`. An exporter has no such property, so this says
-- nothing of it.
abbrev pub ShowsByteFormat : World → ℕ → Type 0
ShowsByteFormat w handle = (format : List ℕ) → (wstep w (command.Do handle (verb.Property property.Format))).1 ≡ reply.Text format → IsByteFormat format

-- `hash` of a handle replies these bytes.
pub record IsHashOf (w : World) (handle : ℕ) (bytes : List ℕ) : Type 0 where
  pub replied : (wstep w (command.Do handle verb.Hash)).1 ≡ reply.Bytes bytes
  pub small : All (λ b. b < 256) bytes

-- Two handles that `compare` finds equal have the same hash, if each names an exporter or a view of such a
-- format.
abbrev pub WorldEqualViewsHashAlike : Type 0
WorldEqualViewsHashAlike =
    (w : World) (handle other : ℕ) (bytes other_bytes : List ℕ) → IsSoundWorld w → ShowsByteFormat w handle → ShowsByteFormat w other
    → IsHashOf w handle bytes → IsHashOf w other other_bytes
    → (wstep w (command.Do handle (verb.Compare op.Eq (value.One (scalar.Handle other))))).1 ≡ reply.Truth true → bytes ≡ other_bytes
