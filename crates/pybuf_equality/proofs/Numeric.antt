-- Formats of one whole number.
use Rattle.std.proofs.Common.{◌≡◌, ℕ, ◌+◌, ◌*◌, ◌≤◌, Bool, false, List, [], ◌∷◌, length, map, take, drop, ap, ap₂, sym, ◌∙◌, arith}
use Rattle.std.specs.Prelude.{Option, Some, None, IfSome, Ok, Err, if◌then◌else◌}
use Rattle.std.proofs.lemmas.Bool.{eq-eqb}
use Rattle.std.proofs.lemmas.List.{append-nil, take_all}
use Rattle.pybuf_value.specs.declared.faults.Fault.TheVariants as fault
use Rattle.pybuf_value.specs.declared.values.Scalar.{Scalar}
use Rattle.pybuf_value.specs.declared.values.Scalar.TheVariants as scalar
use Rattle.pybuf_struct.specs.declared.table.Endianness.{Endianness}
use Rattle.pybuf_struct.specs.declared.table.FormatType.{FormatType}
use Rattle.pybuf_struct.specs.Digits.{number}
use Rattle.pybuf_struct.specs.Formats.{Code, Format, Field, extent, fields, fields_of_code, fields_from}
use Rattle.pybuf_struct.specs.Table.{is_big, size_of}
use Rattle.pybuf_struct.specs.Values.{value_of, value_in, values, unpacked_values}

-- A value of the code is a whole number, with or without a sign.
abbrev pub IsNumber : FormatType → Bool → Type 0
IsNumber code signed = (o : Endianness) (bytes : List ℕ) → value_of o code bytes ≡ scalar.Int (number (is_big o) signed bytes)

-- One unit of the code is one field.
abbrev pub IsOneField : FormatType → Type 0
IsOneField code = (size offset : ℕ) → fields_of_code code size offset 1 ≡ record { code = code; offset = offset; length = size } ∷ []

one_field : (f : Format) (c : Code) → f.codes ≡ c ∷ [] → c.repeat ≡ 1 → c.pre_padding ≡ 0 → IsOneField c.code
    → fields f ≡ record { code = c.code; offset = 0; length = size_of f.order c.code } ∷ []
one_field f c only once unpadded field =
    ap (fields_from f.order 0) only
    ∙ append-nil (fields_of_code c.code (size_of f.order c.code) (0 + c.pre_padding) c.repeat)
    ∙ ap₂ (λ (p n : ℕ). fields_of_code c.code (size_of f.order c.code) (0 + p) n) unpadded once
    ∙ field (size_of f.order c.code) 0

one_size : (f : Format) (c : Code) (size : ℕ) → f.codes ≡ c ∷ [] → c.repeat ≡ 1 → c.pre_padding ≡ 0 → extent f.order f.codes ≡ size → size_of f.order c.code ≡ size
one_size f c size only once unpadded filled =
    let unit : ℕ = size_of f.order c.code in
    let alone : unit ≡ 0 + 1 * unit + 0 = omega arith in
    alone ∙ ap₂ (λ (p n : ℕ). p + n * unit + 0) (sym unpadded) (sym once) ∙ ap (extent f.order) (sym only) ∙ filled

one_value : (f : Format) (c : Code) (size : ℕ) (signed : Bool) → f.codes ≡ c ∷ [] → c.repeat ≡ 1 → c.pre_padding ≡ 0 → is_big f.order ≡ false → extent f.order f.codes ≡ size → f.size ≡ size
    → IsNumber c.code signed → IsOneField c.code → (bytes : List ℕ) → length bytes ≡ size → unpacked_values f bytes ≡ Ok (scalar.Int (number false signed bytes) ∷ [])
one_value f c size signed only once unpadded little filled whole value field bytes long =
    let unit : ℕ = size_of f.order c.code in
    let unit_size : unit ≡ size = one_size f c size only once unpadded filled in
    let enough : length bytes ≤ unit = omega (arith, long, unit_size) in
    let all : take unit (drop 0 bytes) ≡ bytes = take_all unit bytes enough in
    ap (λ (t : Bool). if t then Ok (values f bytes) else Err fault.Struct) (eq-eqb (length bytes) f.size (long ∙ sym whole))
    ∙ ap (λ (fs : List Field). Ok (map (value_in f.order bytes) fs)) (one_field f c only once unpadded field)
    ∙ ap (λ (v : Scalar). Ok (v ∷ []))
    (ap (value_of f.order c.code) all ∙ value f.order bytes ∙ ap (λ (b : Bool). scalar.Int (number b signed bytes)) little)

pub number_values : (r : Option Bool) (f : Format) (c : Code) (size : ℕ) → f.codes ≡ c ∷ [] → c.repeat ≡ 1 → c.pre_padding ≡ 0 → is_big f.order ≡ false → extent f.order f.codes ≡ size → f.size ≡ size
    → IfSome r (λ signed. IsNumber c.code signed) → IfSome r (λ signed. IsOneField c.code)
    → IfSome r (λ signed. (bytes : List ℕ) → length bytes ≡ size → unpacked_values f bytes ≡ Ok (scalar.Int (number false signed bytes) ∷ []))
number_values None f c size only once unpadded little filled whole value field = tt
number_values (Some signed) f c size only once unpadded little filled whole value field = one_value f c size signed only once unpadded little filled whole value field
