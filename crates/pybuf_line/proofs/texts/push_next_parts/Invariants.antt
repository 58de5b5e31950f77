use Rattle.std.proofs.Common.{◌≡◌, ◌++◌, take}
use Rattle.std.specs.List.{flat_map}
use Rattle.pybuf_value.specs.Spelling.{next_part_text}
use Rattle.pybuf_line.proofs.texts.push_next_parts.Given as goal

abbrev pub invariant-loop-part : goal.invariant-loop-part
invariant-loop-part g l = l.out.items ≡ l.initial.out.items ++ flat_map (next_part_text g.T.Part.text) (take l.part-index l.parts)
