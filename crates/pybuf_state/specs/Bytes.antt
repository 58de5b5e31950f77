-- What a contract sees of the bytes that an exporter keeps, and of a vector of bytes.
use Rattle.std.specs.Prelude.{ℕ}
use Rattle.std.specs.declared.vec.Vec.{Vec}
use Rattle.std.specs.declared.alloc.Global.{Global}
use Rattle.std.specs.Borrow.{RattleType, u8}
use Rattle.std.specs.contracts.alloc.Global as global
use Rattle.std.specs.contracts.vec.Vec as vec
use Rattle.std.specs.contracts.impls.GlobalAllocator.TheImpl.{ghosts}
use Rattle.pybuf_front.specs.FrontContent.{FrontContent}

-- the bytes of a store, in order, and how many bytes of free room lie before them
abbrev pub StoreContent : Type 0
StoreContent = FrontContent

abbrev pub Bytes : Type 0
Bytes = Vec ℕ Global

-- the type of a vector of bytes
abbrev pub bytes_row : RattleType
bytes_row = vec.the_row u8 global.the_row ghosts
