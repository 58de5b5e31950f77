use Rattle.std.proofs.Common.{◌≡◌, ◌++◌, ◌≤◌, take}
use Rattle.std.specs.List.{flat_map}
use Rattle.pybuf_value.specs.Quotes.{escaped_byte}
use Rattle.pybuf_value.proofs.Escapes.{between}
use Rattle.pybuf_value.proofs.quotes.write_escaped.Given as goal

-- what is written, and the run that waits
pub record Waits (Written Within Run : Type 0) : Type 0 where
  pub written : Written
  pub within : Within
  pub run : Run

abbrev pub invariant-loop-i : goal.invariant-loop-i
invariant-loop-i l =
    Waits
    (l.out.items ≡ l.initial.out.items ++ flat_map (escaped_byte l.quote) (take l.start l.bytes))
    (l.start ≤ l.i)
    (flat_map (escaped_byte l.quote) (between l.start l.i l.bytes) ≡ between l.start l.i l.bytes)
