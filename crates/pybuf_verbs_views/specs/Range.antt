-- `range`: a new view of the bytes from one place up to another.
use Rattle.std.specs.Prelude.{ℕ, ◌-◌, ◌&&◌, length, nat_le, ℤ, pos, Result, Ok, Err, if◌then◌else◌}
use Rattle.pybuf_value.specs.declared.faults.Fault.{Fault}
use Rattle.pybuf_value.specs.declared.faults.Fault.TheVariants as fault
use Rattle.pybuf_value.specs.declared.values.Value.{Value}
use Rattle.pybuf_value.specs.Refusing.{◌>>=◌}
use Rattle.pybuf_value.specs.Numbers.{number_of}
use Rattle.pybuf_desc.specs.Layouts.{bytes_layout_from}
use Rattle.pybuf_command.specs.declared.commands.LocalReply.{LocalReply}
use Rattle.pybuf_command.specs.Kinds.{holds_readonly}
use Rattle.pybuf_state.specs.Exporter.{Exporter, with_view}

-- The first place, and how many places lie from it up to the other. The first must not lie behind the other,
-- and the other must be at most `count`.
abbrev pub part_between : ℕ → ℤ → ℤ → Result (ℕ × ℕ) Fault
part_between count (pos from) (pos to) = if nat_le from to && nat_le to count then Ok (from, to - from) else Err fault.Index
part_between count _ _ = Err fault.Index

-- `range` of an exporter itself, whose items have one byte
abbrev pub range_of_own : Exporter → Value → Value → Result (Exporter × LocalReply) Fault
range_of_own e from to = do
  first ← number_of from
  end ← number_of to
  part ← part_between (length e.bytes) first end
  Ok (with_view e (bytes_layout_from part.0 part.1 (holds_readonly e.kind)))
