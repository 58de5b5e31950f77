-- Records are chosen one after another.
use Rattle.std.proofs.Common.{◌≡◌, ℕ, ◌+◌, ◌<◌, Bool, true, false, cond, List, [], ◌∷◌, ◌++◌, length, take, drop, refl, sym, ap, ◌∙◌, append_assoc}
use Rattle.std.specs.Prelude.{slice_get, Some}
use Rattle.std.specs.Option.{option_map}
use Rattle.std.specs.List.{filter, enumerate_from}
use Rattle.std.proofs.lemmas.List.{append-nil}
use Rattle.std.proofs.lemmas.Option.{slice_get-map}
use Rattle.pybuf_value.specs.declared.values.Scalar.{Scalar}
use Rattle.pybuf_value.specs.declared.values.Scalar.TheVariants as scalar
use Rattle.pybuf_value.specs.declared.values.CompareOp.{CompareOp}
use Rattle.pybuf_value.specs.declared.values.CompareOp.TheVariants as op
use Rattle.pybuf_value.specs.Equality.{counted}
use Rattle.pybuf_struct.specs.Formats.{Format, Field, fields}
use Rattle.pybuf_struct.specs.Values.{values, value_in}
use Rattle.pybuf_table.specs.Records.{rows, IsLeft}
use Rattle.pybuf_table.specs.Chosen.{compares, compares_so, is_chosen}
use Rattle.pybuf_table.proofs.RowLemmas.{row_comes}

-- A truth value compares as the number that it counts as.
pub compares_counted : (o : CompareOp) (left right : Scalar) → compares o (counted left) right ≡ compares o left right
compares_counted o scalar.None right = refl
compares_counted o (scalar.Int n) right = refl
compares_counted o (scalar.Text t) right = refl
compares_counted o (scalar.Bytes b) right = refl
compares_counted o scalar.Ellipsis right = refl
compares_counted o (scalar.Handle h) right = refl
compares_counted op.Eq (scalar.Bool true) right = refl
compares_counted op.Ne (scalar.Bool true) right = refl
compares_counted op.Lt (scalar.Bool true) right = refl
compares_counted op.Le (scalar.Bool true) right = refl
compares_counted op.Gt (scalar.Bool true) right = refl
compares_counted op.Ge (scalar.Bool true) right = refl
compares_counted op.Eq (scalar.Bool false) right = refl
compares_counted op.Ne (scalar.Bool false) right = refl
compares_counted op.Lt (scalar.Bool false) right = refl
compares_counted op.Le (scalar.Bool false) right = refl
compares_counted op.Gt (scalar.Bool false) right = refl
compares_counted op.Ge (scalar.Bool false) right = refl

-- The value of a field is one of the values of its record.
pub field_value : (f : Format) (bytes : List ℕ) (field : ℕ) (place : Field) → slice_get (fields f) field ≡ Some place → slice_get (values f bytes) field ≡ Some (value_in f.order bytes place)
field_value f bytes field place there = slice_get-map (value_in f.order bytes) (fields f) field ∙ ap (option_map (value_in f.order bytes)) there

pub field_compares : (f : Format) (bytes : List ℕ) (field : ℕ) (place : Field) (o : CompareOp) (wanted lent : Scalar) → slice_get (fields f) field ≡ Some place → lent ≡ counted (value_in f.order bytes place)
    → compares o lent wanted ≡ compares_so o wanted (slice_get (values f bytes) field)
field_compares f bytes field place o wanted lent there lent_is =
    rw lent_is (compares_counted o (value_in f.order bytes place) wanted ∙ ap (compares_so o wanted) (sym (field_value f bytes field place there)))

-- One more record is put behind the others if it is chosen.
put_by : {X : Type 0} → (b : Bool) (x : X) (out rest : List X) → (out ++ cond b (x ∷ []) []) ++ rest ≡ out ++ cond b (x ∷ rest) rest
put_by true x out rest = append_assoc out (x ∷ []) rest
put_by false x out rest = ap (λ (front : List _). front ++ rest) (append-nil out)

pub chosen_more : (f : Format) (field : ℕ) (o : CompareOp) (wanted : Scalar) (number size : ℕ) (bytes first rest : List ℕ) (out next : List (ℕ × List Scalar)) → IsLeft f bytes → 0 < length bytes → size ≡ f.size → first ≡ take size bytes → rest ≡ drop size bytes
    → next ≡ out ++ cond (is_chosen field o wanted (number, values f first)) ((number, values f first) ∷ []) []
    → next ++ filter (is_chosen field o wanted) (enumerate_from (number + 1) (rows f rest)) ≡ out ++ filter (is_chosen field o wanted) (enumerate_from number (rows f bytes))
chosen_more f field o wanted number size bytes first rest out next is some size_is first_is rest_is next_is =
    let p = is_chosen field o wanted in
    let others = filter p (enumerate_from (number + 1) (rows f rest)) in
    rw next_is (put_by (p (number, values f first)) (number, values f first) out others
    ∙ ap (λ (all : List (List Scalar)). out ++ filter p (enumerate_from number all)) (sym (row_comes f bytes first rest size (values f first) is some size_is first_is rest_is refl)))
