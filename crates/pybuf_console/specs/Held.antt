-- What a handle holds.
use Rattle.std.specs.Prelude.{Bool, true, false, Option, Some, None}
use Rattle.pybuf_console.specs.Console.{Console}
use Rattle.pybuf_console.specs.declared.handle.WorldHandle.{WorldHandle}

abbrev pub kept : Bool → Console → Option Console
kept false console = None
kept true console = Some console

-- The console of a handle. A handle is empty before a world is made and after it was freed, and then it has
-- none.
abbrev pub held : WorldHandle → Option Console
held handle = kept handle.full handle.address.console
