-- A packer's block, and its address, own what a box of the packer owns.
use mathlib.Core.List.{[]}
use mir.Syntax.{impl, tnil, dnil}
use denote.Signature.{Slot, plain}
use Rattle.std_alloc.proofs.BoxSteps.Form.{Bx}
use Rattle.std_heap.specs.contracts.Global as Heap
use Rattle.std_heap.specs.contracts.GlobalAllocator.TheImpl.{ghosts, dict}
use Rattle.std_heap.proofs.Global.TheLaws as heap
use Rattle.pybuf_slot.specs.contracts.block.Block as Block
use Rattle.pybuf_struct.specs.declared.table.Endianness.TheVariants as order
use Rattle.pybuf_packer.specs.Packer as spec
use Rattle.pybuf_packer.specs.contracts.packer.Packer as Packer
use Rattle.pybuf_packer.proofs.packer.Packer.TheLaws as packer
use Rattle.pybuf_packer.specs.contracts.address.PackerAddress as PackerAddress

abbrev pub E : Bx
E = record { row = Packer.the_row; laws = packer.the_row_laws; al = record { row = Heap.the_row; laws = heap.the_row_laws; g = ghosts; d = dict; drops = impl [] tnil dnil } }

abbrev pub OfBlock : Slot 0
OfBlock = plain (λ _. Block.the_row Packer.the_row Heap.the_row ghosts)

abbrev pub OfAddress : Slot 0
OfAddress = plain (λ _. PackerAddress.the_row)

abbrev pub OfHeap : Slot 0
OfHeap = plain (λ _. Heap.the_row)

-- what an empty address stands for
abbrev pub no_packer : spec.Packer
no_packer = record { format = record { order = order.Native; codes = []; size = 0 }; values = [] }
