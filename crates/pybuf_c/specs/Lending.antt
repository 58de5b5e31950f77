-- What a call says of bytes that it lends.
use Rattle.std.specs.Prelude.{◌≡◌, ℕ, true, false, List, Option, Some, None}
use Rattle.pybuf_world.specs.Lending.{lends, lends_to_write, view_bytes}
use Rattle.pybuf_console.specs.Console.{Console}

-- The handle has a world, and these are the bytes of a view of it, which is unreleased and whose items lie one after the
-- other.
abbrev pub IsLent : ℕ → Option Console → List ℕ → Type 0
IsLent view (Some c) bytes = (lends c.world view ≡ true) × (bytes ≡ view_bytes c.world view)
IsLent view None bytes = ⊥

-- the handle has a world, and there is no such view
abbrev pub IsNotLent : ℕ → Option Console → Type 0
IsNotLent view (Some c) = lends c.world view ≡ false
IsNotLent view None = ⊥

-- the same of a view whose items may be written
abbrev pub IsLentToWrite : ℕ → Option Console → List ℕ → Type 0
IsLentToWrite view (Some c) bytes = (lends_to_write c.world view ≡ true) × (bytes ≡ view_bytes c.world view)
IsLentToWrite view None bytes = ⊥

abbrev pub IsNotLentToWrite : ℕ → Option Console → Type 0
IsNotLentToWrite view (Some c) = lends_to_write c.world view ≡ false
IsNotLentToWrite view None = ⊥
