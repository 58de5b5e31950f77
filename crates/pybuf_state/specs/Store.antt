-- The bytes of an exporter, as its store has them.
use Rattle.std.specs.Prelude.{ℕ, List, ◌++◌, length, take, drop}
use Rattle.std.specs.Borrow.{Lends, MutBor, Fml, Array, u8}
use Rattle.pybuf_state.specs.Bytes.{Bytes, bytes_row, StoreContent}
use Rattle.pybuf_state.specs.contracts.store.Store.{the_row}

-- the store with these bytes in place of its first ones; it has as many bytes as before
abbrev pub overwritten : StoreContent → List ℕ → StoreContent
overwritten s bytes = record s { items = take (length s.items) (bytes ++ drop (length bytes) s.items) }

-- the store with these bytes in place of its own from a place on; no byte past its end is written
abbrev pub overwritten_from : StoreContent → ℕ → List ℕ → StoreContent
overwritten_from s place bytes = overwritten s (take place s.items ++ (bytes ++ drop (length bytes) (drop place s.items)))

-- the store with the bytes of a vector, and no free room before them
abbrev pub exchanged : Bytes → StoreContent
exchanged bytes = record { items = bytes.items; room = 0; memory = bytes.cap }

-- after a loan, the store has the bytes that the loan ends with, as many as before
abbrev pub LendsItems : MutBor StoreContent → MutBor (List ℕ) → Fml
LendsItems s r = Lends the_row (Array u8 0) s r (overwritten s.now)

-- the same, if the bytes from a place on are lent
abbrev pub LendsItemsFrom : MutBor StoreContent → ℕ → MutBor (List ℕ) → Fml
LendsItemsFrom s place r = Lends the_row (Array u8 0) s r (overwritten_from s.now place)

-- the same, if all bytes are lent and may be changed in any way
abbrev pub LendsVector : MutBor StoreContent → MutBor Bytes → Fml
LendsVector s r = Lends the_row bytes_row s r exchanged
