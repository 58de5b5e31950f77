-- Tests that closures make of single bytes.
use Rattle.std.specs.Prelude.{◌≡◌, ◌⊎◌, ℕ, ◌<◌, Bool, true, false, List, [], ◌∷◌}

-- a closure answers for a byte what the test says
abbrev pub IsTestOfByte : (ℕ → Bool → Type 0) → (ℕ → Bool) → Type 0
IsTestOfByte post test = (b : ℕ) (answer : Bool) → b < 256 → post b answer → answer ≡ test b

-- A result of bytes that are tested in order. As soon as the test of the opposite case answers yes for a byte, the
-- result is false. Else it is whether the test of the case answered yes for one of them; from then on that test isn't
-- asked any more. `says` and `opposes` tell what the two tests may answer for a byte, and `found` is whether the first
-- one answered yes before.
abbrev pub IsInCase : (ℕ → Bool → Type 0) → (ℕ → Bool → Type 0) → Bool → List ℕ → Bool → Type 0
IsInCase says opposes found [] result = result ≡ found
IsInCase says opposes true (b ∷ bytes) result =
    (opposes b true × (result ≡ false)) ⊎ (opposes b false × IsInCase says opposes true bytes result)
IsInCase says opposes false (b ∷ bytes) result =
    (opposes b true × (result ≡ false))
    ⊎ (opposes b false × ((answer : Bool) × says b answer × IsInCase says opposes answer bytes result))
