-- Which values have an order with those of a code.
use Rattle.std.proofs.Common.{◌≡◌, ℕ, Bool, true, false, List, refl}
use Rattle.std.specs.Prelude.{◌↔◌, ◌==◌, ℤ, pos, IsOk, not, slice_index}
use Rattle.pybuf_lemmas.proofs.Booleans.{false_is_not_true}
use Rattle.pybuf_struct.specs.Table.{is_big, is_signed}
use Rattle.pybuf_struct.specs.Digits.{number}
use Rattle.pybuf_struct.specs.Values.{pascal_content}
use Rattle.pybuf_value.specs.declared.values.Scalar.{Scalar}
use Rattle.pybuf_value.specs.declared.values.Scalar.TheVariants as scalar
use Rattle.pybuf_value.specs.Order.{order_of_scalars}
use Rattle.pybuf_struct.specs.declared.table.FormatType.TheVariants as code
use Rattle.pybuf_table.specs.Chosen.{has_order}
use Rattle.pybuf_table.specs.Laws.{CodesDecideOrders}

of_number : (n : ℤ) (value : Scalar) → (has_order code.SByte value ≡ true) ↔ (IsOk (order_of_scalars (scalar.Int n) value))
of_number n scalar.None = (λ is. false_is_not_true is, λ is. false_is_not_true is)
of_number n (scalar.Bool true) = (λ is. refl, λ is. refl)
of_number n (scalar.Bool false) = (λ is. refl, λ is. refl)
of_number n (scalar.Int m) = (λ is. refl, λ is. refl)
of_number n (scalar.Text t) = (λ is. false_is_not_true is, λ is. false_is_not_true is)
of_number n (scalar.Bytes b) = (λ is. false_is_not_true is, λ is. false_is_not_true is)
of_number n scalar.Ellipsis = (λ is. false_is_not_true is, λ is. false_is_not_true is)
of_number n (scalar.Handle h) = (λ is. false_is_not_true is, λ is. false_is_not_true is)

of_truth : (b : Bool) (value : Scalar) → (has_order code.SByte value ≡ true) ↔ (IsOk (order_of_scalars (scalar.Bool b) value))
of_truth true value = of_number (pos 1) value
of_truth false value = of_number (pos 0) value

of_bytes : (bytes : List ℕ) (value : Scalar) → (has_order code.Char value ≡ true) ↔ (IsOk (order_of_scalars (scalar.Bytes bytes) value))
of_bytes bytes scalar.None = (λ is. false_is_not_true is, λ is. false_is_not_true is)
of_bytes bytes (scalar.Bool b) = (λ is. false_is_not_true is, λ is. false_is_not_true is)
of_bytes bytes (scalar.Int m) = (λ is. false_is_not_true is, λ is. false_is_not_true is)
of_bytes bytes (scalar.Text t) = (λ is. false_is_not_true is, λ is. false_is_not_true is)
of_bytes bytes (scalar.Bytes b) = (λ is. refl, λ is. refl)
of_bytes bytes scalar.Ellipsis = (λ is. false_is_not_true is, λ is. false_is_not_true is)
of_bytes bytes (scalar.Handle h) = (λ is. false_is_not_true is, λ is. false_is_not_true is)

pub orders_decided : CodesDecideOrders
orders_decided o code.Pad bytes value valued = false_is_not_true valued
orders_decided o code.Char bytes value valued = of_bytes bytes value
orders_decided o code.Str bytes value valued = of_bytes bytes value
orders_decided o code.Pascal bytes value valued = of_bytes (pascal_content bytes) value
orders_decided o code.Bool bytes value valued = of_truth (not (slice_index bytes 0 == 0)) value
orders_decided o c bytes value valued = of_number (number (is_big o) (is_signed c) bytes) value
