-- What a handle lends of its console, and of the bytes of views.
use Rattle.std.specs.Prelude.{ℕ, List}
use Rattle.std.specs.Borrow.{Lends, MutBor, Fml, Array, u8}
use Rattle.pybuf_world.specs.World.{World}
use Rattle.pybuf_world.specs.Lending.{with_view_bytes}
use Rattle.pybuf_world.specs.contracts.world.World.{the_row as world_row}
use Rattle.pybuf_console.specs.Console.{Console}
use Rattle.pybuf_console.specs.Reached.{with_console}
use Rattle.pybuf_console.specs.declared.handle.WorldHandle.{WorldHandle}
use Rattle.pybuf_console.specs.contracts.console.Console.{the_row as console_row}
use Rattle.pybuf_console.specs.contracts.handle.WorldHandle.{the_row as handle_row}

-- the console with another world
abbrev pub with_world : Console → World → Console
with_world console world = record console { world = world }

-- When the loan ends, the world is as the borrower left it.
abbrev pub LendsWorld : MutBor Console → MutBor World → Fml
LendsWorld console world = Lends console_row world_row console world (with_world console.now)

-- the handle with another console in place of its own
abbrev pub with_held : WorldHandle → Console → WorldHandle
with_held handle console = record handle { address = with_console handle.address console }

-- When the loan ends, the console of the handle is as the borrower left it.
abbrev pub LendsHeld : MutBor WorldHandle → MutBor Console → Fml
LendsHeld handle console = Lends handle_row console_row handle console (with_held handle.now)

-- the console with these bytes in place of those of a view of its world
abbrev pub with_bytes : Console → ℕ → List ℕ → Console
with_bytes console view bytes = with_world console (with_view_bytes console.world view bytes)

-- When the loan ends, the view has the bytes that the borrower left. Nothing else changes.
abbrev pub LendsHeldView : MutBor WorldHandle → ℕ → MutBor (List ℕ) → Fml
LendsHeldView handle view r =
    Lends handle_row (Array u8 0) handle r (λ bytes. with_held handle.now (with_bytes handle.now.address.console view bytes))
