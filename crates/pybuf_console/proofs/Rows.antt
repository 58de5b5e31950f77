-- A console's block, and its address, own what a box of the console owns.
use mathlib.Core.List.{[]}
use mir.Syntax.{impl, tnil, dnil}
use denote.Signature.{Slot, plain}
use Rattle.std_alloc.proofs.BoxSteps.Form.{Bx}
use Rattle.std_heap.specs.contracts.Global as Heap
use Rattle.std_heap.specs.contracts.GlobalAllocator.TheImpl.{ghosts, dict}
use Rattle.std_heap.proofs.Global.TheLaws as heap
use Rattle.pybuf_slot.specs.contracts.block.Block as Block
use Rattle.pybuf_console.specs.contracts.console.Console as Console
use Rattle.pybuf_console.proofs.console.Console.TheLaws as console
use Rattle.pybuf_console.specs.contracts.address.ConsoleAddress as ConsoleAddress

abbrev pub E : Bx
E = record { row = Console.the_row; laws = console.the_row_laws; al = record { row = Heap.the_row; laws = heap.the_row_laws; g = ghosts; d = dict; drops = impl [] tnil dnil } }

abbrev pub OfBlock : Slot 0
OfBlock = plain (λ _. Block.the_row Console.the_row Heap.the_row ghosts)

abbrev pub OfAddress : Slot 0
OfAddress = plain (λ _. ConsoleAddress.the_row)

abbrev pub OfHeap : Slot 0
OfHeap = plain (λ _. Heap.the_row)
