-- How many items a shape has.
use Rattle.std.proofs.Common.{◌≡◌, ℕ, zero, suc, ◌+◌, ◌*◌, ◌<◌, ◌≤◌, Bool, true, false, List, [], ◌∷◌, length, get_or, drop, drop-cons, refl, sym, ◌∙◌, ap, subst, arith, tests, add-one, mul_assoc, le-mul_of_pos_right, All}
use Rattle.std.specs.Prelude.{ℤ, pos, negsuc, nat_le, ◌&&◌, Option, Some, None, Result, Ok, Err, if◌then◌else◌}
use Rattle.std.specs.List.{AllByRecursion}
use Rattle.std.proofs.lemmas.List.Elements.{All-from_recursion, recursion_from_All}
use Rattle.pybuf_value.specs.Choosing.{◌>>=◌}
use Rattle.pybuf_value.specs.Numbers.{number_in}
use Rattle.pybuf_value.specs.declared.faults.Fault.{Fault}
use Rattle.pybuf_value.specs.declared.values.Scalar.{Scalar}
use Rattle.pybuf_value.specs.declared.values.Value.{Value}
use Rattle.pybuf_value.specs.declared.values.Value.TheVariants as value
use Rattle.pybuf_desc.specs.Layouts.{product}
use Rattle.pybuf_line.specs.Scalars.{handle_in}
use Rattle.pybuf_line.specs.Spellings.{value_in}
use Rattle.pybuf_nd_lines.specs.Shapes.{most_items, each_gives, counted, entry_in, is_shape, if_shape, shape_of_value, shape_in, IsShape}

product_some : (shape : List ℕ) → AllByRecursion (λ n. 0 < n) shape → 0 < product shape
product_some [] h = omega arith
product_some (zero ∷ shape) h = absurd (omega (arith, h.0))
product_some (suc n ∷ shape) h = let rest = product_some shape h.1 in omega (arith, rest)

left_some : (shape : List ℕ) (i : ℕ) → AllByRecursion (λ n. 0 < n) shape → 0 < product (drop i shape)
left_some shape zero h = product_some shape h
left_some [] (suc i) h = omega arith
left_some (n ∷ shape) (suc i) h = left_some shape i h.1

pub product_more : (shape : List ℕ) (i items total : ℕ) → i < length shape → total ≡ items * product (drop i shape)
    → total ≡ items * get_or shape i 0 * product (drop (i + 1) shape)
product_more shape i items total below e =
    rw add-one (e ∙ ap (λ ns. items * product ns) (drop-cons shape i 0 below) ∙ sym (mul_assoc items (get_or shape i 0) (product (drop (suc i) shape))))

more_than : (total more rest most : ℕ) → total ≡ more * rest → 0 < rest → most < more → nat_le total most ≡ false
more_than total more rest most e some h =
    let long : more ≤ more * rest = le-mul_of_pos_right more some in
    let far : most < total = omega (arith, e, long, h) in
    grind (arith, tests)

pub too_many : (shape : List ℕ) (i items most : ℕ) → All (λ n. 0 < n) shape → i < length shape → product shape ≡ items * product (drop i shape)
    → most < items * get_or shape i 0 → nat_le (product shape) most ≡ false
too_many shape i items most some below e h =
    more_than (product shape) (items * get_or shape i 0) (product (drop (i + 1) shape)) most (product_more shape i items (product shape) below e)
    (left_some shape (i + 1) (recursion_from_All (λ n. 0 < n) shape some)) h

fits_so : (total more rest most : ℕ) → total ≡ more * rest → 0 < rest → total ≤ most → more ≤ most
fits_so total more rest most e some h = let long : more ≤ more * rest = le-mul_of_pos_right more some in omega (arith, e, long, h)

small_so : (shape : List ℕ) → is_shape shape ≡ true → product shape ≤ most_items
small_so shape h = small_by (nat_le 1 (length shape)) (nat_le (length shape) 64) (nat_le (product shape) most_items) refl h
  where
    small_by : (some few fits : Bool) → nat_le (product shape) most_items ≡ fits → (some && (few && fits)) ≡ true → product shape ≤ most_items
    small_by true true true e h = grind (arith, tests)
    small_by true true false e h = cc
    small_by true false fits e h = cc
    small_by false few fits e h = cc

pub due_fits : (kept shape xs : List ℕ) (i items : ℕ) → IsShape kept → xs ≡ kept → shape ≡ kept → i < length xs → product shape ≡ items * product (drop i shape)
    → items * get_or xs i 0 ≤ most_items
due_fits kept shape xs i items is same alike below e =
    let here : i < length kept = subst (λ ns. i < length ns) same below in
    let whole : product kept ≡ items * product (drop i kept) = subst (λ ns. product ns ≡ items * product (drop i ns)) alike e in
    subst (λ ns. items * get_or ns i 0 ≤ most_items) (sym same)
    (fits_so (product kept) (items * get_or kept i 0) (product (drop (i + 1) kept)) most_items (product_more kept i items (product kept) here whole)
    (left_some kept (i + 1) (recursion_from_All (λ n. 0 < n) kept is.entries)) (small_so kept is.small))

-- ---- entries

counted_low : (r : Result ℤ Fault) (n : ℕ) → counted r ≡ Some n → 0 < n
counted_low (Ok (pos m)) n e = grind (arith, tests)
counted_low (Ok (negsuc m)) n e = cc
counted_low (Err f) n e = cc

entry_low : (part : Scalar) (n : ℕ) → entry_in part ≡ Some n → 0 < n
entry_low part n e = counted_low (number_in part) n e

low_first : (first : Option ℕ) (others : Option (List ℕ)) (entries : List ℕ) → ((n : ℕ) → first ≡ Some n → 0 < n)
    → ((rest : List ℕ) → others ≡ Some rest → AllByRecursion (λ n. 0 < n) rest)
    → (first >>= λ n. others >>= λ rest. Some (n ∷ rest)) ≡ Some entries → AllByRecursion (λ n. 0 < n) entries
low_first None others entries low so e = cc
low_first (Some n) None entries low so e = cc
low_first (Some n) (Some rest) entries low so e = let same : n ∷ rest ≡ entries = cc in subst (AllByRecursion (λ n. 0 < n)) same (low n refl, so rest refl)

low_each : (parts : List Scalar) (entries : List ℕ) → each_gives entry_in parts ≡ Some entries → AllByRecursion (λ n. 0 < n) entries
low_each [] entries e = let same : [] ≡ entries = cc in subst (AllByRecursion (λ n. 0 < n)) same tt
low_each (part ∷ more) entries e = low_first (entry_in part) (each_gives entry_in more) entries (entry_low part) (low_each more) e

pub entries_low : (parts : List Scalar) (entries : List ℕ) → Some entries ≡ each_gives entry_in parts → All (λ n. 0 < n) entries
entries_low parts entries e = All-from_recursion (λ n. 0 < n) entries (low_each parts entries (sym e))

-- ---- shapes

shape_by_test : (entries shape : List ℕ) (b : Bool) → is_shape entries ≡ b → (if b then Some entries else None) ≡ Some shape → All (λ n. 0 < n) entries → IsShape shape
shape_by_test entries shape true small e low = let same : entries ≡ shape = cc in subst IsShape same (record { entries = low; small = small })
shape_by_test entries shape false small e low = cc

shape_by_entries : (parts : List Scalar) (entries : Option (List ℕ)) (shape : List ℕ) → each_gives entry_in parts ≡ entries → (entries >>= if_shape) ≡ Some shape → IsShape shape
shape_by_entries parts None shape given e = cc
shape_by_entries parts (Some entries) shape given e = shape_by_test entries shape (is_shape entries) refl e (entries_low parts entries (sym given))

shape_by_value : (v : Option Value) (shape : List ℕ) → (v >>= shape_of_value) ≡ Some shape → IsShape shape
shape_by_value None shape e = cc
shape_by_value (Some (value.One one)) shape e = cc
shape_by_value (Some (value.Slice slice)) shape e = cc
shape_by_value (Some (value.Tuple parts)) shape e = cc
shape_by_value (Some (value.List parts)) shape e = shape_by_entries parts (each_gives entry_in parts) shape refl e
shape_by_value (Some (value.Slices slices)) shape e = cc

pub shape_sound : (word shape : List ℕ) → shape_in word ≡ Some shape → IsShape shape
shape_sound word shape e = shape_by_value (value_in handle_in word) shape e
