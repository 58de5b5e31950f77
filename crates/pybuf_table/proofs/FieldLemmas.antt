-- The fields of one code, by their numbers.
use Rattle.std.proofs.Common.{◌≡◌, ℕ, zero, suc, ◌+◌, ◌-◌, ◌*◌, ◌<◌, ◌≤◌, List, [], ◌∷◌, ◌++◌, length, get_or, drop, refl, sym, ap, ◌∙◌, arith}
use Rattle.std.specs.Prelude.{Some, Option, slice_get}
use Rattle.pybuf_struct.specs.Facts.{length-fields_of_code, next_is}
use Rattle.pybuf_struct.specs.declared.table.FormatType.{FormatType}
use Rattle.pybuf_struct.specs.declared.table.FormatType.TheVariants as code
use Rattle.pybuf_struct.specs.declared.table.Endianness.{Endianness}
use Rattle.pybuf_struct.specs.Table.{size_of}
use Rattle.pybuf_struct.specs.Formats.{Code, Field, fields_in_row, fields_of_code, fields_from, field_count, offset_after, span, extent}

abbrev field_at : FormatType → ℕ → ℕ → Option Field
field_at c offset size = Some (record { code = c; offset = offset; length = size })

pub unit_in_row : (c : FormatType) (size offset count number : ℕ) → number < count → slice_get (fields_in_row c size offset count) number ≡ Some (record { code = c; offset = offset + number * size; length = size })
unit_in_row c size offset zero number less = absurd (omega arith)
unit_in_row c size offset (suc count) zero less = let same : offset ≡ offset + 0 * size = omega arith in ap (λ (n : ℕ). field_at c n size) same
unit_in_row c size offset (suc count) (suc number) less =
    let same : offset + size + number * size ≡ offset + suc number * size = omega arith in
    unit_in_row c size (offset + size) count number (omega arith) ∙ ap (λ (n : ℕ). field_at c n size) same

-- ---- lists end to end

pub get_left : {X : Type 0} → (xs ys : List X) (k : ℕ) → k < length xs → slice_get (xs ++ ys) k ≡ slice_get xs k
get_left [] ys k less = absurd (omega arith)
get_left (x ∷ xs) ys zero less = refl
get_left (x ∷ xs) ys (suc k) less = get_left xs ys k (omega arith)

pub get_right : {X : Type 0} → (xs ys : List X) (k left : ℕ) → left + length xs ≡ k → slice_get (xs ++ ys) k ≡ slice_get ys left
get_right [] ys k left same = ap (slice_get ys) (omega arith)
get_right (x ∷ xs) ys zero left same = absurd (omega arith)
get_right (x ∷ xs) ys (suc k) left same = get_right xs ys k left (omega arith)

-- ---- the fields of codes, one after another

-- A field is one of the first code, or one of the other codes.
pub field_here : (o : Endianness) (at : ℕ) (c : Code) (codes : List Code) (k : ℕ) → k < field_count c
    → slice_get (fields_from o at (c ∷ codes)) k ≡ slice_get (fields_of_code c.code (size_of o c.code) (at + c.pre_padding) c.repeat) k
field_here o at c codes k less =
    get_left (fields_of_code c.code (size_of o c.code) (at + c.pre_padding) c.repeat) (fields_from o (offset_after o at c) codes) k
    (rw (length-fields_of_code c.code (size_of o c.code) (at + c.pre_padding) c.repeat) less)

pub field_later : (o : Endianness) (at : ℕ) (c : Code) (codes : List Code) (k : ℕ) → field_count c ≤ k
    → slice_get (fields_from o at (c ∷ codes)) k ≡ slice_get (fields_from o (offset_after o at c) codes) (k - field_count c)
field_later o at c codes k within =
    get_right (fields_of_code c.code (size_of o c.code) (at + c.pre_padding) c.repeat) (fields_from o (offset_after o at c) codes) k (k - field_count c)
    (rw (length-fields_of_code c.code (size_of o c.code) (at + c.pre_padding) c.repeat) (omega arith))

-- ---- the codes of a format, one after another

pub found_here : (o : Endianness) (at i k : ℕ) (codes : List Code) (c : Code) → i < length codes → c ≡ get_or codes i c → k < field_count c
    → slice_get (fields_from o at (drop i codes)) k ≡ slice_get (fields_of_code c.code (size_of o c.code) (at + c.pre_padding) c.repeat) k
found_here o at i k codes c less is there = rw (next_is codes i c less is) (field_here o at c (drop (i + 1) codes) k there)

pub found_later : (o : Endianness) (at i k : ℕ) (codes : List Code) (c : Code) → i < length codes → c ≡ get_or codes i c → field_count c ≤ k
    → slice_get (fields_from o at (drop i codes)) k ≡ slice_get (fields_from o (offset_after o at c) (drop (i + 1) codes)) (k - field_count c)
found_later o at i k codes c less is there = rw (next_is codes i c less is) (field_later o at c (drop (i + 1) codes) k there)

pub more_inside : (o : Endianness) (at i size : ℕ) (codes : List Code) (c : Code) → i < length codes → c ≡ get_or codes i c → at + extent o (drop i codes) ≤ size
    → at + (c.pre_padding + span o c + extent o (drop (i + 1) codes)) ≤ size
more_inside o at i size codes c less is within = rw (next_is codes i c less is) at within

pub found_at : (o : Endianness) (at i k count pad : ℕ) (codes : List Code) (c : Code) (place : Field) (wanted : Option Field) → i < length codes → c ≡ get_or codes i c → count ≡ field_count c → k < count → pad ≡ c.pre_padding
    → slice_get (fields_of_code c.code (size_of o c.code) (at + pad) c.repeat) k ≡ Some place → slice_get (fields_from o at (drop i codes)) k ≡ wanted → Some place ≡ wanted
found_at o at i k count pad codes c place wanted less is count_is there pad_is value left =
    let within : k < field_count c = rw count_is at there in
    let here : slice_get (fields_of_code c.code (size_of o c.code) (at + c.pre_padding) c.repeat) k ≡ Some place = rw pad_is at value in
    sym here ∙ sym (found_here o at i k codes c less is within) ∙ left

pub left_after : (o : Endianness) (at i k count pad bytes : ℕ) (codes : List Code) (c : Code) (wanted : Option Field) → i < length codes → c ≡ get_or codes i c → count ≡ field_count c → count ≤ k → pad ≡ c.pre_padding → bytes ≡ span o c
    → slice_get (fields_from o at (drop i codes)) k ≡ wanted → slice_get (fields_from o (at + pad + bytes) (drop (i + 1) codes)) (k - count) ≡ wanted
left_after o at i k count pad bytes codes c wanted less is count_is there pad_is bytes_is left =
    let within : field_count c ≤ k = rw count_is at there in
    rw (pad_is, bytes_is, count_is) (sym (found_later o at i k codes c less is within) ∙ left)

pub inside_after : (o : Endianness) (at i size pad bytes : ℕ) (codes : List Code) (c : Code) → i < length codes → c ≡ get_or codes i c → pad ≡ c.pre_padding → bytes ≡ span o c → at + extent o (drop i codes) ≤ size
    → at + pad + bytes + extent o (drop (i + 1) codes) ≤ size
inside_after o at i size pad bytes codes c less is pad_is bytes_is within =
    let more : at + (c.pre_padding + span o c + extent o (drop (i + 1) codes)) ≤ size = more_inside o at i size codes c less is within in
    rw (pad_is, bytes_is) (omega (arith, more))
