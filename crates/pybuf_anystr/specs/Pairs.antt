-- Tests that closures make of two strings of bytes.
use Rattle.std.specs.Prelude.{◌≡◌, ℕ, Bool, List}
use Rattle.std.specs.Borrow.{Bor}

-- a closure that is lent two strings of bytes answers what the test says
abbrev pub IsTestOfTwo : (Bor (List ℕ) → Bor (List ℕ) → Bool → Type 0) → (List ℕ → List ℕ → Bool) → Type 0
IsTestOfTwo post test =
    (bytes affix : Bor (List ℕ)) (answer : Bool) → post bytes affix answer → answer ≡ test bytes.now affix.now
