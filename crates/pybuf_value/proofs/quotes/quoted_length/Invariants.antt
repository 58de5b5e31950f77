use Rattle.std.proofs.Common.{◌≡◌, ◌+◌, ◌*◌, ◌≤◌, take, length}
use Rattle.std.specs.List.{flat_map}
use Rattle.pybuf_value.specs.Quotes.{escaped_byte}
use Rattle.pybuf_value.proofs.quotes.quoted_length.Given as goal

abbrev pub invariant-loop-byte : goal.invariant-loop-byte
invariant-loop-byte l = (l.total ≡ length (flat_map (escaped_byte l.quote) (take l.byte-index l.bytes)) + 2) × (l.total ≤ 4 * l.byte-index + 2)
