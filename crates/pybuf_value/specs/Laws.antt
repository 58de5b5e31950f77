-- The laws of equality, of the order of bytes, and of texts between quotes.
use Rattle.std.specs.Prelude.{◌≡◌, ◌↔◌, ℕ, Bool, true, false, not, IsTrue, List, map, ◌<◌, Some}
use Rattle.std.specs.Bool.{Decides}
use Rattle.std.specs.List.{All}
use Rattle.std.specs.Str.{IsAscii}
use Rattle.std.specs.Ordering.{ordering_reverse}
use Rattle.std.specs.declared.cmp.Ordering.{Ordering}
use Rattle.std.specs.declared.cmp.Ordering.TheVariants.{Less, Equal}
use Rattle.pybuf_value.specs.declared.values.Scalar.{Scalar}
use Rattle.pybuf_value.specs.declared.values.Item.{Item}
use Rattle.pybuf_value.specs.declared.values.Item.TheVariants as item
use Rattle.pybuf_value.specs.declared.values.PySlice.{PySlice}
use Rattle.pybuf_value.specs.declared.values.Value.{Value}
use Rattle.pybuf_value.specs.declared.snaps.Snap.{Snap}
use Rattle.pybuf_value.specs.contracts.text.TextPartialEq.TheImpl as text_eq
use Rattle.pybuf_value.specs.contracts.values.ScalarPartialEq.TheImpl as scalar_eq
use Rattle.pybuf_value.specs.contracts.values.PySlicePartialEq.TheImpl as slice_eq
use Rattle.pybuf_value.specs.contracts.values.ValuePartialEq.TheImpl as value_eq
use Rattle.pybuf_value.specs.contracts.values.ItemPartialEq.TheImpl as item_eq
use Rattle.pybuf_value.specs.contracts.snaps.SnapPartialEq.TheImpl as snap_eq
use Rattle.pybuf_value.specs.declared.values.CompareOp.TheVariants as op
use Rattle.pybuf_value.specs.Equality.{counted, same_scalar, same_item}
use Rattle.pybuf_value.specs.Order.{answers}
use Rattle.pybuf_value.specs.Quotes.{quoted_text}
use Rattle.pybuf_value.specs.Unquoted.{unquoted}
use Rattle.pybuf_value.specs.Spelling.{scalar_text, handle_text}

-- ---- equality

-- an item with each truth value as the number that it counts as
abbrev pub counted_item : Item → Item
counted_item (item.One part) = item.One (counted part)
counted_item (item.Many parts) = item.Many (map counted parts)

-- reflexive, symmetric and transitive
pub record IsEquality {A : Type 0} (equal : A → A → Bool) : Type 0 where
  pub reflexive : (x : A) → IsTrue (equal x x)
  pub symmetric : (x y : A) → IsTrue (equal x y) → IsTrue (equal y x)
  pub transitive : (x y z : A) → IsTrue (equal x y) → IsTrue (equal y z) → IsTrue (equal x z)

abbrev pub ScalarEqualityIsEquivalence : Type 0
ScalarEqualityIsEquivalence = IsEquality same_scalar

abbrev pub ItemEqualityIsEquivalence : Type 0
ItemEqualityIsEquivalence = IsEquality same_item

-- two values are equal exactly if they are the same once truth values are counted as numbers
abbrev pub EqualWhereTheSame : {A : Type 0} → (A → A) → (A → A → Bool) → Type 0
EqualWhereTheSame {A} count equal = (x y : A) → Decides (equal x y) (count x ≡ count y)

-- Rust's `==` holds of two values exactly if they are the same. To it, a truth value isn't the number that it counts
-- as.
pub record EqualExactly : Type 0 where
  pub texts : (x y : List ℕ) → Decides (text_eq.eq-value.it x y) (x ≡ y)
  pub scalars : (x y : Scalar) → Decides (scalar_eq.eq-value.it x y) (x ≡ y)
  pub slices : (x y : PySlice) → Decides (slice_eq.eq-value.it x y) (x ≡ y)
  pub values : (x y : Value) → Decides (value_eq.eq-value.it x y) (x ≡ y)
  pub items : (x y : Item) → Decides (item_eq.eq-value.it x y) (x ≡ y)
  pub snaps : (x y : Snap) → Decides (snap_eq.eq-value.it x y) (x ≡ y)

-- ---- order

-- An order in which any two lists have a place. Two lists are equal in it exactly if they are the same. One is less
-- than another exactly if the other is greater. If one is less than a second and this is less than a third, the first
-- is less than the third.
pub record OrdersAll (order : List ℕ → List ℕ → Ordering) : Type 0 where
  pub equal : (xs ys : List ℕ) → (order xs ys ≡ Equal) ↔ (xs ≡ ys)
  pub turned : (xs ys : List ℕ) → order ys xs ≡ ordering_reverse (order xs ys)
  pub transitive : (xs ys zs : List ℕ) → order xs ys ≡ Less → order ys zs ≡ Less → order xs zs ≡ Less

abbrev pub exactly_one : Bool → Bool → Bool → Bool
exactly_one true false false = true
exactly_one false true false = true
exactly_one false false true = true
exactly_one _ _ _ = false

-- exactly one of `<`, `==` and `>` answers true, and each other operator denies one of these
pub record OperatorsAgree (order : Ordering) : Type 0 where
  pub one : IsTrue (exactly_one (answers op.Lt order) (answers op.Eq order) (answers op.Gt order))
  pub unequal : answers op.Ne order ≡ not (answers op.Eq order)
  pub not_less : answers op.Ge order ≡ not (answers op.Lt order)
  pub not_greater : answers op.Le order ≡ not (answers op.Gt order)

-- ---- texts

-- reading a text between quotes gives back the bytes that it was made of
abbrev pub ReadBack : List ℕ → Type 0
ReadBack bytes = All (λ b. b < 256) bytes → unquoted (quoted_text bytes) ≡ Some bytes

-- each byte of the text of a value is an ASCII byte
abbrev pub SpelledInAscii : Scalar → Type 0
SpelledInAscii s = IsAscii (scalar_text handle_text s)
