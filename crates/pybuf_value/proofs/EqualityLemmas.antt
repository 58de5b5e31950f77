-- Two values are equal exactly if they are the same after their truth values are counted.
use Rattle.std.proofs.Common.{◌≡◌, Bool, true, false, List, [], ◌∷◌, ◌&&◌, map, refl, ap, sym, ◌∙◌, subst}
use Rattle.std.specs.Bool.{Decides}
use Rattle.std.proofs.lemmas.Bool.{false≢true}
use Rattle.std.proofs.lemmas.Bool.Decides.{Decides-eqb, Decides-int_eq}
use Rattle.std.specs.Cmp.Lexicographic.{pointwise}
use Rattle.std.proofs.lemmas.Slice.Eq.{bytes_eq-Decides, slice_eq-Decides}
use Rattle.pybuf_value.specs.declared.values.Scalar.{Scalar}
use Rattle.pybuf_value.specs.declared.values.Scalar.TheVariants as scalar
use Rattle.pybuf_value.specs.declared.values.Item.{Item}
use Rattle.pybuf_value.specs.declared.values.Item.TheVariants as item
use Rattle.pybuf_value.specs.Equality.{counted, identical, same_scalar, same_parts, same_item}
use Rattle.pybuf_value.specs.Laws.{IsEquality, EqualWhereTheSame, counted_item}

-- ---- values without parts

same_itself : (s : Scalar) → identical s s ≡ true
same_itself scalar.None = refl
same_itself (scalar.Bool true) = refl
same_itself (scalar.Bool false) = refl
same_itself (scalar.Int n) = (Decides-int_eq n n).1 refl
same_itself (scalar.Text t) = (bytes_eq-Decides t t).1 refl
same_itself (scalar.Bytes t) = (bytes_eq-Decides t t).1 refl
same_itself scalar.Ellipsis = refl
same_itself (scalar.Handle n) = (Decides-eqb n n).1 refl

from_same : (s t : Scalar) → identical s t ≡ true → s ≡ t
from_same scalar.None scalar.None h = refl
from_same (scalar.Bool true) (scalar.Bool true) h = refl
from_same (scalar.Bool false) (scalar.Bool false) h = refl
from_same (scalar.Int m) (scalar.Int n) h = ap scalar.Int ((Decides-int_eq m n).0 h)
from_same (scalar.Text s) (scalar.Text t) h = ap scalar.Text ((bytes_eq-Decides s t).0 h)
from_same (scalar.Bytes s) (scalar.Bytes t) h = ap scalar.Bytes ((bytes_eq-Decides s t).0 h)
from_same scalar.Ellipsis scalar.Ellipsis h = refl
from_same (scalar.Handle m) (scalar.Handle n) h = ap scalar.Handle ((Decides-eqb m n).0 h)
from_same _ _ h = absurd (false≢true h)

pub decides_same : (s t : Scalar) → Decides (identical s t) (s ≡ t)
decides_same s t = (from_same s t, λ p. subst (λ u. identical s u ≡ true) p (same_itself s))

pub scalars_decided : EqualWhereTheSame counted same_scalar
scalars_decided x y = decides_same (counted x) (counted y)

-- ---- items

parts_mapped : (xs ys : List Scalar) → same_parts xs ys ≡ pointwise identical (map counted xs) (map counted ys)
parts_mapped [] [] = refl
parts_mapped [] (y ∷ ys) = refl
parts_mapped (x ∷ xs) [] = refl
parts_mapped (x ∷ xs) (y ∷ ys) = ap (λ b. same_scalar x y && b) (parts_mapped xs ys)

parts_decided : (xs ys : List Scalar) → Decides (same_parts xs ys) (map counted xs ≡ map counted ys)
parts_decided xs ys = slice_eq-Decides decides_same (map counted xs) (map counted ys) (same_parts xs ys) (parts_mapped xs ys)

abbrev single_of : Item → Scalar
single_of (item.One s) = s
single_of (item.Many parts) = scalar.None

abbrev parts_of_item : Item → List Scalar
parts_of_item (item.One s) = []
parts_of_item (item.Many parts) = parts

abbrev is_tuple : Item → Bool
is_tuple (item.One s) = false
is_tuple (item.Many parts) = true

pub items_decided : EqualWhereTheSame counted_item same_item
items_decided (item.One s) (item.One t) =
    (λ h. ap item.One ((scalars_decided s t).0 h), λ p. (scalars_decided s t).1 (ap single_of p))
items_decided (item.One s) (item.Many ts) = (λ h. absurd (false≢true h), λ p. absurd (false≢true (ap is_tuple p)))
items_decided (item.Many ss) (item.One t) = (λ h. absurd (false≢true h), λ p. absurd (false≢true (sym (ap is_tuple p))))
items_decided (item.Many ss) (item.Many ts) =
    (λ h. ap item.Many ((parts_decided ss ts).0 h), λ p. (parts_decided ss ts).1 (ap parts_of_item p))

-- ---- values and items

pub equality_from : {A : Type 0} (count : A → A) (equal : A → A → Bool) → EqualWhereTheSame count equal → IsEquality equal
equality_from count equal decided = record {
  reflexive = λ x. (decided x x).1 refl;
  symmetric = λ x y h. (decided y x).1 (sym ((decided x y).0 h));
  transitive = λ x y z h k. (decided x z).1 ((decided x y).0 h ∙ (decided y z).0 k);
}
