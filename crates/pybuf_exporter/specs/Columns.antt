-- Bytes in column order, as whole commands: which they are for every view, and what a cast to column order
-- makes of them.
use Rattle.std.specs.Prelude.{◌≡◌, ℕ, ◌+◌, ◌*◌, List, [], ◌∷◌, length, codes, Option, Some, None, Ok}
use Rattle.pybuf_value.specs.declared.values.Scalar.TheVariants as scalar
use Rattle.pybuf_value.specs.declared.values.Value.{Value}
use Rattle.pybuf_value.specs.declared.values.Value.TheVariants as value
use Rattle.pybuf_desc.specs.Layouts.{Layout}
use Rattle.pybuf_desc.specs.Items.{bytes_at}
use Rattle.pybuf_desc.specs.ColumnOrder.{number_at}
use Rattle.pybuf_command.specs.declared.kinds.Subject.TheVariants as subject
use Rattle.pybuf_command.specs.declared.commands.Verb.TheVariants as verb
use Rattle.pybuf_command.specs.declared.commands.LocalReply.{LocalReply}
use Rattle.pybuf_command.specs.declared.commands.LocalReply.TheVariants as reply
use Rattle.pybuf_command.specs.declared.loans.Loan.{Loan}
use Rattle.pybuf_memoryview.specs.Laws.{AreEntries}
use Rattle.pybuf_state.specs.Exporter.{Exporter, live_layout}
use Rattle.pybuf_state.specs.Sound.{IsSoundExporter}
use Rattle.pybuf_exporter.specs.Step.{estep}

-- an order, given by its letter
abbrev pub order_named : List ℕ → Option Value
order_named letter = Some (value.One (scalar.Text letter))

-- what `bytes` of a view replies, in an order
abbrev pub bytes_replied : Exporter → ℕ → Option Value → LocalReply
bytes_replied e k order = (estep e (subject.View k) (verb.ToBytes order) []).1

-- `bytes` of view k replies some bytes. `bytes 'F'` and `bytes 'A'` of view j reply the same, on the exporter
-- as it is then.
pub record GivesTheBytesBack (e new : Exporter) (k j : ℕ) : Type 0 where
  pub bytes : List ℕ
  pub before : bytes_replied e k None ≡ reply.Bytes bytes
  pub in_column_order : bytes_replied new j (order_named (codes "F")) ≡ reply.Bytes bytes
  pub in_either_order : bytes_replied new j (order_named (codes "A")) ≡ reply.Bytes bytes

-- This holds for a view and for what `castf` makes of it, if it isn't refused.
abbrev pub ColumnCastsGiveTheBytesBack : Type 0
ColumnCastsGiveTheBytesBack =
    (e new : Exporter) (k j : ℕ) (format shape : Value) (loans : List (ℕ × Loan)) → IsSoundExporter e
    → estep e (subject.View k) (verb.CastF format shape) loans ≡ (new, reply.View j) → GivesTheBytesBack e new k j

-- The number in column order of the item at the indices. The first index changes fastest.
abbrev pub column_number_at : List ℕ → List ℕ → ℕ
column_number_at (n ∷ shape) (index ∷ indices) = index + n * column_number_at shape indices
column_number_at _ _ = 0

-- `bytes` and `bytes 'F'` of view k, which has this layout, reply equally many bytes. The item at any indices
-- stands in the first at its row-major number, and in the second at its number in column order: they have the
-- same items in another order.
pub record HoldsTheSameItems (e : Exporter) (k : ℕ) (layout : Layout) : Type 0 where
  pub rows : List ℕ
  pub columns : List ℕ
  pub by_rows : bytes_replied e k None ≡ reply.Bytes rows
  pub by_columns : bytes_replied e k (order_named (codes "F")) ≡ reply.Bytes columns
  pub as_many : length columns ≡ length rows
  pub items : (indices : List ℕ) → AreEntries layout.shape indices
      → bytes_at columns layout.itemsize (column_number_at layout.shape indices * layout.itemsize) ≡ bytes_at rows layout.itemsize (number_at layout.shape indices * layout.itemsize)

-- This holds for every unreleased view of a sound exporter.
abbrev pub OrdersHoldTheSameItems : Type 0
OrdersHoldTheSameItems = (e : Exporter) (k : ℕ) (layout : Layout) → IsSoundExporter e → live_layout e k ≡ Ok layout → HoldsTheSameItems e k layout
