-- Bytes that are kept behind free room.
use Rattle.std.specs.Prelude.{ℕ, List, ◌++◌, length, take, drop}
use Rattle.std.specs.Borrow.{Lends, MutBor, Fml, RattleType, Array, u8}
use Rattle.std.specs.declared.vec.Vec.{Vec}
use Rattle.std.specs.declared.alloc.Global.{Global}
use Rattle.std.specs.contracts.alloc.Global as global
use Rattle.std.specs.contracts.vec.Vec as vec
use Rattle.std.specs.contracts.impls.GlobalAllocator.TheImpl.{ghosts}
use Rattle.pybuf_front.specs.contracts.front.FrontBytes.{the_row}
use Rattle.pybuf_front.specs.FrontContent.{FrontContent}

-- the same room, with these bytes in place of the first ones; there are as many bytes as before
abbrev pub overwritten : FrontContent → List ℕ → FrontContent
overwritten f bytes = record f { items = take (length f.items) (bytes ++ drop (length bytes) f.items) }

-- the same from a place on; no byte past the end is written
abbrev pub overwritten_from : FrontContent → ℕ → List ℕ → FrontContent
overwritten_from f place bytes = overwritten f (take place f.items ++ (bytes ++ drop (length bytes) (drop place f.items)))

-- all bytes of a vector, with no free room before them
abbrev pub flat : Vec ℕ Global → FrontContent
flat bytes = record { items = bytes.items; room = 0; memory = bytes.cap }

-- after a loan the bytes are those that the loan ends with, as many as before
abbrev pub LendsItems : MutBor FrontContent → MutBor (List ℕ) → Fml
LendsItems s r = Lends the_row (Array u8 0) s r (overwritten s.now)

-- the same if the bytes from a place on are lent
abbrev pub LendsItemsFrom : MutBor FrontContent → ℕ → MutBor (List ℕ) → Fml
LendsItemsFrom s place r = Lends the_row (Array u8 0) s r (overwritten_from s.now place)

-- the type of a vector of bytes
abbrev pub bytes_row : RattleType
bytes_row = vec.the_row u8 global.the_row ghosts

-- the same if the bytes are lent as a vector, which may be changed in any way
abbrev pub LendsVector : MutBor FrontContent → MutBor (Vec ℕ Global) → Fml
LendsVector s r = Lends the_row bytes_row s r flat
