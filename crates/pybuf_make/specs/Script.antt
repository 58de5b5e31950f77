-- The commands of a script, which has a number.
use Rattle.std.specs.Prelude.{ℕ, ◌+◌, ◌*◌, ◌/◌, ◌%◌, ◌==◌, pos, negsuc, List, [], ◌∷◌, ◌++◌, Some, None, if◌then◌else◌}
use Rattle.std.specs.List.{flat_map, range_with_len}
use Rattle.pybuf_value.specs.declared.values.Scalar.TheVariants as scalar
use Rattle.pybuf_value.specs.declared.values.Value.{Value}
use Rattle.pybuf_value.specs.declared.values.Value.TheVariants as value
use Rattle.pybuf_command.specs.declared.kinds.ExporterKind.TheVariants as kind
use Rattle.pybuf_command.specs.declared.commands.Verb.{Verb}
use Rattle.pybuf_command.specs.declared.commands.Verb.TheVariants as verb
use Rattle.pybuf_command.specs.declared.worlds.Command.{Command}
use Rattle.pybuf_command.specs.declared.worlds.Command.TheVariants as command

-- a whole number as a value
abbrev pub number : ℕ → Value
number n = value.One (scalar.Int (pos n))

-- a slice of all items, from the last to the first: `None:None:-1`
abbrev pub turned_round : Value
turned_round = value.Slice (record { start = scalar.None; stop = scalar.None; step = scalar.Int (negsuc 0) })

-- a bytearray without bytes, the first that the script makes: `new bytearray x`
abbrev pub new_bytearray : Command
new_bytearray = command.New kind.ByteArray (record { source = Some (value.One (scalar.Bytes [])); encoding = None; errors = None })

-- a command on that bytearray
abbrev pub of_first : Verb → Command
of_first v = command.Do 0 v

-- a command that adds a byte: `append h0 N`
abbrev pub append : ℕ → Command
append n = of_first (verb.Append (number n))

-- a command that takes out the first byte: `pop h0 0`
abbrev pub pop_first : Command
pop_first = of_first (verb.Pop (Some (number 0)))

-- After every fourth byte, the first byte is taken out.
abbrev pub popped : ℕ → List Command
popped k = if k % 4 == 3 then pop_first ∷ [] else []

-- A view of the bytearray is made, and then another, which turns the first round. The second view's bytes are
-- read, and a byte is added while both views are there. Then both are released. The handles `first` and
-- `second` name the two views.
abbrev pub viewed_by : ℕ → ℕ → List Command
viewed_by first second =
    of_first verb.View
    ∷ command.Do first (verb.Get turned_round)
    ∷ command.Do second (verb.ToBytes None)
    ∷ append 0
    ∷ command.Do first verb.Release
    ∷ command.Do second verb.Release
    ∷ []

-- This is done after every sixteenth byte. The handles go on from there: the j-th time, counted from 0, they
-- are 2j + 1 and 2j + 2.
abbrev pub viewed : ℕ → List Command
viewed k = if k % 16 == 15 then viewed_by (2 * (k / 16) + 1) (2 * (k / 16) + 2) else []

-- the commands of round k, counted from 0
abbrev pub round : ℕ → List Command
round k = append ((7 * k + 3) % 256) ∷ popped k ++ viewed k

-- First a bytearray is made, then come the rounds, and at the end its bytes are read.
abbrev pub script : ℕ → List Command
script n = new_bytearray ∷ flat_map round (range_with_len 0 n) ++ of_first (verb.ToBytes None) ∷ []
