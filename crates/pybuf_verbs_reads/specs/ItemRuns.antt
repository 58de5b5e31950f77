-- All items of a view, which a reader reads: its format was read once.
use Rattle.std.specs.Prelude.{ℕ, zero, suc, ◌/◌, List, [], ◌∷◌, length, take, drop}
use Rattle.pybuf_value.specs.declared.values.Item.{Item}
use Rattle.pybuf_memoryview.specs.Readers.{read_by}
use Rattle.pybuf_memoryview.specs.declared.readers.ItemReader.{ItemReader}

-- n items of this size, which lie one after the other
abbrev pub items_in : ItemReader → ℕ → List ℕ → ℕ → List Item
items_in reader size run zero = []
items_in reader size run (suc n) = read_by reader (take size run) ∷ items_in reader size (drop size run) n

-- as many items as the bytes hold
abbrev pub items_of_run : ItemReader → ℕ → List ℕ → List Item
items_of_run reader size run = items_in reader size run (length run / size)
