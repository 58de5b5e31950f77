use Rattle.std.proofs.Common.{◌≡◌, false, take}
use Rattle.std.specs.Char.{is_ascii_lowercase, is_ascii_uppercase}
use Rattle.std.specs.List.{list_any}
use Rattle.pybuf_letters.proofs.classes.is_lower.Given as goal

abbrev pub invariant-loop-b : goal.invariant-loop-b
invariant-loop-b l =
    (l.found ≡ list_any is_ascii_lowercase (take l.b-index l.bytes))
    × (list_any is_ascii_uppercase (take l.b-index l.bytes) ≡ false)
