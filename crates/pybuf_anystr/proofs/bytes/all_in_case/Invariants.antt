use Rattle.std.proofs.Common.{◌≡◌, ℕ, Bool, false, drop}
use Rattle.std.specs.Prelude.{◌&&◌, ◌||◌, not}
use Rattle.std.specs.List.{list_any}
use Rattle.pybuf_letters.specs.Classes.{all_in_case}
use Rattle.pybuf_anystr.specs.Cases.{IsTestOfByte, IsInCase}
use Rattle.pybuf_anystr.proofs.bytes.all_in_case.Given as goal

-- What was found so far and the bytes that are left decide as all bytes do.
abbrev pub invariant-loop-b : goal.invariant-loop-b
invariant-loop-b g l =
    ((case_test opposite_test : ℕ → Bool) → IsTestOfByte (goal.F-post g l.is_case) case_test
    → IsTestOfByte (goal.G-post g l.is_opposite) opposite_test
    → ((l.found || list_any case_test (drop l.b-index l.bytes)) && not (list_any opposite_test (drop l.b-index l.bytes)))
    ≡ all_in_case case_test opposite_test l.bytes)
    × ((result : Bool) → IsInCase (goal.F-post g l.is_case) (goal.G-post g l.is_opposite) l.found (drop l.b-index l.bytes) result
    → IsInCase (goal.F-post g l.is_case) (goal.G-post g l.is_opposite) false l.bytes result)
