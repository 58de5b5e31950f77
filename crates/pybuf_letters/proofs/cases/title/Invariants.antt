use Rattle.std.proofs.Common.{◌≡◌, ◌++◌, drop}
use Rattle.pybuf_letters.specs.Cases.{title, title_from}
use Rattle.pybuf_letters.proofs.cases.title.Given as goal

abbrev pub invariant-loop-b : goal.invariant-loop-b
invariant-loop-b l = l.made.items ++ title_from l.after_letter (drop l.b-index l.bytes) ≡ title l.bytes
