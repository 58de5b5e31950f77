-- `tolist`: the items of a view, nested by its shape.
use Rattle.std.specs.Prelude.{ℕ, List, [], ◌∷◌, Result, Ok}
use Rattle.pybuf_value.specs.declared.faults.Fault.{Fault}
use Rattle.pybuf_value.specs.Refusing.{◌>>=◌}
use Rattle.pybuf_command.specs.declared.commands.LocalReply.{LocalReply}
use Rattle.pybuf_command.specs.declared.commands.LocalReply.TheVariants as reply
use Rattle.pybuf_memoryview.specs.Lists.{items_of_layout}
use Rattle.pybuf_state.specs.Exporter.{Exporter, live_layout}

-- The shape that the items are nested by. A view without dimensions gives a list of its one item.
abbrev pub list_shape : List ℕ → List ℕ
list_shape [] = 1 ∷ []
list_shape (n ∷ shape) = n ∷ shape

abbrev pub list_of_view : Exporter → ℕ → Result (Exporter × LocalReply) Fault
list_of_view e k = do
  layout ← live_layout e k
  Ok (e, reply.Items (list_shape layout.shape) (items_of_layout e.bytes layout))
