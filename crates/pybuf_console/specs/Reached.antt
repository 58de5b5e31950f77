-- What becomes of an address while its console is lent.
use Rattle.std.specs.Borrow.{Lends, MutBor, Fml}
use Rattle.pybuf_console.specs.Console.{Console}
use Rattle.pybuf_console.specs.declared.address.ConsoleAddress.{ConsoleAddress}
use Rattle.pybuf_console.specs.contracts.address.ConsoleAddress.{the_row}
use Rattle.pybuf_console.specs.contracts.console.Console.{the_row as console_row}

-- the address with another console in place of its own
abbrev pub with_console : ConsoleAddress → Console → ConsoleAddress
with_console address console = record address { console = console }

-- When the loan ends, the console is as the borrower left it.
abbrev pub LendsConsole : MutBor ConsoleAddress → MutBor Console → Fml
LendsConsole address console = Lends the_row console_row address console (with_console address.now)
