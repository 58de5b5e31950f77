-- Which values are equal, as Python's `==` answers ("Value comparisons" of the language reference).
use Rattle.std.specs.Prelude.{◌==◌, Bool, true, false, List, pos}
use Rattle.std.specs.Str.{bytes_eq}
use Rattle.std.specs.Ordering.{int_eq}
use Rattle.std.specs.Cmp.Lexicographic.{pointwise}
use Rattle.pybuf_value.specs.declared.values.Scalar.{Scalar}
use Rattle.pybuf_value.specs.declared.values.Scalar.TheVariants as scalar
use Rattle.pybuf_value.specs.declared.values.Item.{Item}
use Rattle.pybuf_value.specs.declared.values.Item.TheVariants as item

-- a truth value as the number that it counts as, and every other value as it is
abbrev pub counted : Scalar → Scalar
counted (scalar.Bool true) = scalar.Int (pos 1)
counted (scalar.Bool false) = scalar.Int (pos 0)
counted s = s

-- the two values are of one kind, and have the same value of that kind
abbrev pub identical : Scalar → Scalar → Bool
identical scalar.None scalar.None = true
identical (scalar.Bool true) (scalar.Bool true) = true
identical (scalar.Bool false) (scalar.Bool false) = true
identical (scalar.Int m) (scalar.Int n) = int_eq m n
identical (scalar.Text s) (scalar.Text t) = bytes_eq s t
identical (scalar.Bytes s) (scalar.Bytes t) = bytes_eq s t
identical scalar.Ellipsis scalar.Ellipsis = true
identical (scalar.Handle m) (scalar.Handle n) = m == n
identical _ _ = false

-- two values without parts are equal if they are of one kind and the same; a truth value counts as 0 or 1
abbrev pub same_scalar : Scalar → Scalar → Bool
same_scalar left right = identical (counted left) (counted right)

-- two tuples are equal if they have as many parts, and the parts are equal in pairs
abbrev pub same_parts : List Scalar → List Scalar → Bool
same_parts = pointwise same_scalar

-- two items are equal if both are single, or both are tuples of one length, and their parts are equal
abbrev pub same_item : Item → Item → Bool
same_item (item.One left) (item.One right) = same_scalar left right
same_item (item.Many left) (item.Many right) = same_parts left right
same_item _ _ = false
