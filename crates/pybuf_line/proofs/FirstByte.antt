-- The first byte of a scalar says how the scalar is spelled.
use Rattle.std.proofs.Common.{◌≡◌, ◌≢◌, ℕ, ◌<◌, ◌≤◌, ◌-◌, true, false, List, [], ◌∷◌, length, take, drop, get_or, refl, sym, ◌∙◌, ap, arith, tests}
use Rattle.std.proofs.lemmas.List.{take_rest}
use Rattle.std.specs.Prelude.{Option, Some, None}
use Rattle.std.specs.Char.{is_ascii_digit}
use Rattle.pybuf_value.specs.Choosing.{◌or_else◌}
use Rattle.pybuf_value.specs.declared.values.Scalar.{Scalar}
use Rattle.pybuf_line.specs.Scalars.{constant_in, handle_in, handle_value_in, positive_in, negative_in, whole_in, bytes_in, text_in, plain_in, scalar_in}

no_constant : (b : ℕ) (bs : List ℕ) → b ≢ 78 → b ≢ 84 → b ≢ 70 → b ≢ 46 → constant_in (b ∷ bs) ≡ None
unfolding constant_in
no_constant b bs n1 n2 n3 n4 = grind (arith, tests)

no_name_of_digit : (b : ℕ) (bs : List ℕ) → is_ascii_digit b ≡ true → constant_in (b ∷ bs) ≡ None
unfolding constant_in
no_name_of_digit b bs h = grind (arith, tests)

no_whole : (b : ℕ) (bs : List ℕ) → b ≢ 45 → is_ascii_digit b ≡ false → whole_in (b ∷ bs) ≡ None
no_whole b bs n h = grind (arith, tests)

no_sign : (b : ℕ) (bs : List ℕ) → is_ascii_digit b ≡ true → whole_in (b ∷ bs) ≡ positive_in (b ∷ bs)
no_sign b bs h = grind (arith, tests)

sign : (b : ℕ) (bs : List ℕ) → b ≡ 45 → whole_in (b ∷ bs) ≡ negative_in bs
sign b bs h = grind (arith, tests)

no_handle : (b : ℕ) (bs : List ℕ) → b ≢ 104 → handle_value_in handle_in (b ∷ bs) ≡ None
no_handle b bs n = grind (arith, tests)

no_bytes : (b : ℕ) (bs : List ℕ) → b ≢ 120 → bytes_in (b ∷ bs) ≡ None
no_bytes b bs n = grind (arith, tests)

no_text : (b : ℕ) (bs : List ℕ) → b ≢ 39 → text_in (b ∷ bs) ≡ None
no_text b bs n = grind (arith, tests)

no_other : (o : Option Scalar) → (o or_else None) ≡ o
no_other None = refl
no_other (Some x) = refl

first_alone : (c w h b : Option Scalar) → w ≡ None → h ≡ None → b ≡ None → (c or_else w or_else h or_else b) ≡ c
first_alone c w h b nw nh nb = rw (nw, nh, nb) (no_other c)

second_alone : (c w h b : Option Scalar) → c ≡ None → h ≡ None → b ≡ None → (c or_else w or_else h or_else b) ≡ w
second_alone c w h b nc nh nb = rw (nc, nh, nb) (no_other w)

third_alone : (c w h b : Option Scalar) → c ≡ None → w ≡ None → b ≡ None → (c or_else w or_else h or_else b) ≡ h
third_alone c w h b nc nw nb = rw (nc, nw, nb) (no_other h)

fourth_alone : (c w h b : Option Scalar) → c ≡ None → w ≡ None → h ≡ None → (c or_else w or_else h or_else b) ≡ b
fourth_alone c w h b nc nw nh = rw (nc, nw, nh) refl

not_digit : (b : ℕ) → is_ascii_digit b ≡ true → (b ≢ 104) × (b ≢ 120)
not_digit b h = (grind (arith, tests), grind (arith, tests))

-- A digit begins a number.
pub by_digit : (b : ℕ) (bs : List ℕ) → is_ascii_digit b ≡ true → plain_in handle_in (b ∷ bs) ≡ positive_in (b ∷ bs)
by_digit b bs h =
    let other = not_digit b h in
    second_alone _ _ _ _ (no_name_of_digit b bs h) (no_handle b bs other.0) (no_bytes b bs other.1) ∙ no_sign b bs h

by_x : (b : ℕ) (bs : List ℕ) → b ≡ 120 → plain_in handle_in (b ∷ bs) ≡ bytes_in (b ∷ bs)
by_x b bs e =
    fourth_alone _ _ _ _ (no_constant b bs (omega arith) (omega arith) (omega arith) (omega arith)) (no_whole b bs (omega arith) (grind (arith, tests)))
    (no_handle b bs (omega arith))

by_sign : (b : ℕ) (bs : List ℕ) → b ≡ 45 → plain_in handle_in (b ∷ bs) ≡ negative_in bs
by_sign b bs e =
    second_alone _ _ _ _ (no_constant b bs (omega arith) (omega arith) (omega arith) (omega arith)) (no_handle b bs (omega arith)) (no_bytes b bs (omega arith))
    ∙ sign b bs e

by_h : (b : ℕ) (bs : List ℕ) → b ≡ 104 → plain_in handle_in (b ∷ bs) ≡ handle_value_in handle_in (b ∷ bs)
by_h b bs e =
    third_alone _ _ _ _ (no_constant b bs (omega arith) (omega arith) (omega arith) (omega arith)) (no_whole b bs (omega arith) (grind (arith, tests)))
    (no_bytes b bs (omega arith))

-- Any other byte begins a name.
by_other : (b : ℕ) (bs : List ℕ) → is_ascii_digit b ≡ false → b ≢ 120 → b ≢ 45 → b ≢ 104 → plain_in handle_in (b ∷ bs) ≡ constant_in (b ∷ bs)
by_other b bs h n1 n2 n3 = first_alone _ _ _ _ (no_whole b bs n2 h) (no_handle b bs n3) (no_bytes b bs n1)

no_digit : (b : ℕ) → b ≡ 39 → is_ascii_digit b ≡ false
no_digit b h = grind (arith, tests)

-- A quote begins a text.
by_quote : (b : ℕ) (bs : List ℕ) → b ≡ 39 → scalar_in handle_in (b ∷ bs) ≡ text_in (b ∷ bs)
by_quote b bs e =
    let none : plain_in handle_in (b ∷ bs) ≡ None =
    by_other b bs (no_digit b e) (omega arith) (omega arith) (omega arith)
    ∙ no_constant b bs (omega arith) (omega arith) (omega arith) (omega arith) in
    rw none refl

-- No other byte begins a text.
by_no_quote : (b : ℕ) (bs : List ℕ) → b ≢ 39 → scalar_in handle_in (b ∷ bs) ≡ plain_in handle_in (b ∷ bs)
by_no_quote b bs n = rw (no_text b bs n) (no_other (plain_in handle_in (b ∷ bs)))

-- the same for a text that isn't empty
pub digit_first : (text : List ℕ) → 1 ≤ length text → is_ascii_digit (get_or text 0 0) ≡ true → plain_in handle_in text ≡ positive_in text
digit_first [] some h = absurd (omega (arith, some))
digit_first (b ∷ bs) some h = by_digit b bs h

pub x_first : (text : List ℕ) → 1 ≤ length text → get_or text 0 0 ≡ 120 → plain_in handle_in text ≡ bytes_in text
x_first [] some h = absurd (omega (arith, some))
x_first (b ∷ bs) some h = by_x b bs h

pub sign_first : (text : List ℕ) → 1 ≤ length text → get_or text 0 0 ≡ 45 → plain_in handle_in text ≡ negative_in (take (length text - 1) (drop 1 text))
sign_first [] some h = absurd (omega (arith, some))
sign_first (b ∷ bs) some h = by_sign b bs h ∙ sym (ap negative_in (take_rest (b ∷ bs) 1))

pub h_first : (text : List ℕ) → 1 ≤ length text → get_or text 0 0 ≡ 104 → plain_in handle_in text ≡ handle_value_in handle_in text
h_first [] some h = absurd (omega (arith, some))
h_first (b ∷ bs) some h = by_h b bs h

pub quote_first : (text : List ℕ) → 1 ≤ length text → get_or text 0 0 ≡ 39 → scalar_in handle_in text ≡ text_in text
quote_first [] some h = absurd (omega (arith, some))
quote_first (b ∷ bs) some h = by_quote b bs h

pub no_quote_first : (text : List ℕ) → 1 ≤ length text → get_or text 0 0 ≢ 39 → scalar_in handle_in text ≡ plain_in handle_in text
no_quote_first [] some h = absurd (omega (arith, some))
no_quote_first (b ∷ bs) some h = by_no_quote b bs h

-- the same for an empty text
pub no_plain_empty : (text : List ℕ) → length text < 1 → plain_in handle_in text ≡ None
unfolding constant_in
no_plain_empty [] h = grind (arith, tests)
no_plain_empty (b ∷ bs) h = absurd (omega (arith, h))

pub no_scalar_empty : (text : List ℕ) → length text < 1 → scalar_in handle_in text ≡ None
no_scalar_empty [] h = ap (λ (o : Option Scalar). o or_else text_in []) (no_plain_empty [] h)
no_scalar_empty (b ∷ bs) h = absurd (omega (arith, h))
