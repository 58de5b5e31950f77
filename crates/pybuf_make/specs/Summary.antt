-- The summary of a script: five lines on its run in a new world.
use Rattle.std.specs.Prelude.{ℕ, Bool, true, false, List, [], ◌++◌, length, count_by, slice_get, codes, decimal, Option, Some, None}
use Rattle.std.specs.List.{sum}
use Rattle.pybuf_state.specs.Exporter.{Exporter}
use Rattle.pybuf_command.specs.declared.worlds.Command.{Command}
use Rattle.pybuf_command.specs.declared.worlds.Reply.{Reply}
use Rattle.pybuf_command.specs.declared.worlds.Reply.TheVariants as reply
use Rattle.pybuf_world.specs.World.{World, empty_world, world_after_all, replies_of}
use Rattle.pybuf_make.specs.Script.{script}

abbrev pub is_refusal : Reply → Bool
is_refusal (reply.Refused f) = true
is_refusal _ = false

abbrev pub bytes_of : Option Exporter → List ℕ
bytes_of (Some e) = e.bytes
bytes_of None = []

-- the bytes of the first exporter of a world, if there is one
abbrev pub first_bytes : World → List ℕ
first_bytes w = bytes_of (slice_get w.exporters 0)

-- a line that has a word and a number
abbrev pub counted : List ℕ → ℕ → List ℕ
counted word n = word ++ codes " " ++ decimal n ++ codes "\n"

-- The summary of a run: how many lines it had, and how many replies were refusals. Of the world at the end it
-- says how many handles were given, how long the first exporter is, and what the sum of its bytes is.
abbrev pub told : ℕ → ℕ → World → List ℕ
told lines refused w =
    counted (codes "lines") lines
    ++ counted (codes "refused") refused
    ++ counted (codes "handles") (length w.handles)
    ++ counted (codes "length") (length (first_bytes w))
    ++ counted (codes "sum") (sum (first_bytes w))

-- the summary of a run of these commands, line by line, in a new world
abbrev pub summary_of : List Command → List ℕ
summary_of commands = told (length commands) (count_by is_refusal (replies_of empty_world commands)) (world_after_all empty_world commands)

unfoldable pub summary : ℕ → List ℕ
summary n = summary_of (script n)
