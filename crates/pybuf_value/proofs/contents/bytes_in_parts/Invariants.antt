use Rattle.std.proofs.Common.{◌≡◌, drop}
use Rattle.pybuf_value.specs.Snaps.{bytes_in_parts}
use Rattle.pybuf_value.proofs.Parts.{bytes_before}
use Rattle.pybuf_value.proofs.contents.bytes_in_parts.Given as goal

abbrev pub invariant-loop-part : goal.invariant-loop-part
invariant-loop-part l = bytes_before l.bytes.items (bytes_in_parts (drop l.part-index l.parts)) ≡ bytes_in_parts l.parts
