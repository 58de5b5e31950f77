-- The value of a field is read from the field's own bytes, and a value that was read has these bytes.
use Rattle.std.proofs.Common.{◌≡◌, ℕ, zero, suc, ◌-◌, min, Bool, true, false, cond, eqb, List, [], ◌∷◌, length, get_or, take, replicate, ℤ, Result, Ok, Err, refl, sym, ap, ◌∙◌, arith}
use Rattle.std.specs.Prelude.{IsTrue, not}
use Rattle.std.specs.Int.{bytes_high_first}
use Rattle.std.proofs.Math.Dec.{eqb-suc-zero}
use Rattle.std.proofs.lemmas.Bool.{eqb-true, eq-eqb}
use Rattle.std.proofs.lemmas.List.{length-take, length-append, length-replicate, take-append-le, take-take, take_all, take_min, append-nil}
use Rattle.pybuf_lemmas.proofs.Numbers.{length_low_first}
use Rattle.pybuf_lemmas.proofs.Lists.{IsBytes}
use Rattle.pybuf_struct.specs.Facts.{digits_again, halved, complement_fits, signed_again, reads_back, signed_back}
use Rattle.pybuf_value.specs.declared.faults.Fault.{Fault}
use Rattle.pybuf_value.specs.declared.faults.Fault.TheVariants as fault
use Rattle.pybuf_value.specs.declared.values.Scalar.{Scalar}
use Rattle.pybuf_value.specs.declared.values.Scalar.TheVariants as scalar
use Rattle.pybuf_value.specs.declared.snaps.Snap.{Snap}
use Rattle.pybuf_value.specs.Numbers.{number_in}
use Rattle.pybuf_value.specs.Snaps.{bytes_like, bytes_alone}
use Rattle.pybuf_value.specs.Refusing.{◌>>=◌}
use Rattle.pybuf_struct.specs.declared.table.Endianness.{Endianness}
use Rattle.pybuf_struct.specs.declared.table.Endianness.TheVariants as order
use Rattle.pybuf_struct.specs.declared.table.FormatType.{FormatType}
use Rattle.pybuf_struct.specs.declared.table.FormatType.TheVariants as code
use Rattle.pybuf_struct.specs.Table.{is_big, is_signed, size_of}
use Rattle.pybuf_struct.specs.Digits.{unsigned_number, signed_as, number, is_width}
use Rattle.pybuf_struct.specs.Values.{is_length, pascal_content, value_of}
use Rattle.pybuf_struct.specs.Packing.{is_in_range, complement_of, digits_of, number_bytes, truth_byte, fitted_to, single_byte, pascal_bytes, pascal_field, bytes_of}
use Rattle.pybuf_struct.specs.Laws.{normal_number, normal_truth, normal_bytes, normal_pascal, normal_of, is_exact}

abbrev okay : {A : Type 0} → A → Result A Fault
okay x = Ok x

ok_is : (x y : List ℕ) → okay x ≡ okay y → x ≡ y
ok_is x y e = cc

-- what a field gives back of a value that it took; the bytes of the value fill the field
abbrev pub GivesBack : Scalar → Scalar → List ℕ → ℕ → Type 0
GivesBack read normal bytes len = (read ≡ normal) × (length bytes ≡ len)

-- ---- lengths

length-big_endian : (k n : ℕ) → length (bytes_high_first k n) ≡ k
length-big_endian zero n = refl
length-big_endian (suc k) n = ap suc (length-big_endian k n)

length-digits_of : (big : Bool) (size n : ℕ) → length (digits_of big size n) ≡ size
length-digits_of true size n = length-big_endian size n
length-digits_of false size n = length_low_first 0 size n

length-fitted_to : (n : ℕ) (bytes : List ℕ) → length (fitted_to n bytes) ≡ n
length-fitted_to n bytes = omega (arith, length-append (take n bytes) (replicate (n - length bytes) 0), length-take n bytes, length-replicate {A = ℕ} (n - length bytes) 0)

unit_width : (c : FormatType) (o : Endianness) → IsTrue (is_width (size_of o c))
unit_width code.Long order.Native = refl
unit_width code.Long _ = refl
unit_width code.ULong order.Native = refl
unit_width code.ULong _ = refl
unit_width _ o = refl

width_at : (c : FormatType) (o : Endianness) (len : ℕ) → eqb len (size_of o c) ≡ true → IsTrue (is_width len)
width_at c o len e = rw (eqb-true len (size_of o c) e) (unit_width c o)

-- ---- reading what was written

number_gives_in : (big signed : Bool) (len : ℕ) (n : ℤ) (bytes : List ℕ) → IsTrue (is_width len) → (r : Bool) → is_in_range signed len n ≡ r → cond r (okay (digits_of big len (complement_of len n))) (Err fault.Struct) ≡ okay bytes
    → GivesBack (scalar.Int (number big signed bytes)) (scalar.Int n) bytes len
number_gives_in big signed len n bytes width false range is = absurd cc
number_gives_in big signed len n bytes width true range is =
    let word = complement_of len n in
    let bytes_is : bytes ≡ digits_of big len word = sym (ok_is (digits_of big len word) bytes is) in
    let long : length bytes ≡ len = ap length bytes_is ∙ length-digits_of big len word in
    let digits : unsigned_number big bytes ≡ word = ap (unsigned_number big) bytes_is ∙ digits_again len width big word (complement_fits len signed n range) in
    let read : number big signed bytes ≡ n = ap (λ (k : ℕ). signed_as signed k (unsigned_number big bytes)) long ∙ ap (signed_as signed len) digits ∙ signed_again len (halved len width) signed n range in
    (ap (λ (z : ℤ). scalar.Int z) read, long)

number_gives : (big signed : Bool) (len : ℕ) (n : Result ℤ Fault) (bytes : List ℕ) → IsTrue (is_width len) → number_bytes big signed len n ≡ Ok bytes → GivesBack (scalar.Int (number big signed bytes)) (normal_number n) bytes len
number_gives big signed len (Err e) bytes width is = absurd cc
number_gives big signed len (Ok n) bytes width is = number_gives_in big signed len n bytes width (is_in_range signed len n) refl is

single_is : (content bytes : List ℕ) → single_byte content ≡ okay bytes → (content ≡ bytes) × (length content ≡ 1)
single_is content bytes is = single_by content bytes (eqb (length content) 1) refl is
  where
    single_by : (content bytes : List ℕ) → (r : Bool) → eqb (length content) 1 ≡ r → cond r (okay content) (Err fault.Struct) ≡ okay bytes → (content ≡ bytes) × (length content ≡ 1)
    single_by content bytes true one is = (ok_is content bytes is, eqb-true _ _ one)
    single_by content bytes false one is = absurd cc

char_gives : (content : Result (List ℕ) Fault) (len : ℕ) (bytes : List ℕ) → len ≡ 1 → (content >>= single_byte) ≡ Ok bytes → GivesBack (scalar.Bytes bytes) (normal_bytes (λ b. b) content) bytes len
char_gives (Err e) len bytes one is = absurd cc
char_gives (Ok content) len bytes one is =
    let s = single_is content bytes is in
    (ap (λ (b : List ℕ). scalar.Bytes b) (sym s.0), ap length (sym s.0) ∙ s.1 ∙ sym one)

truth_gives : (byte : Result ℕ Fault) (len : ℕ) (bytes : List ℕ) → len ≡ 1 → (byte >>= λ b. okay (b ∷ [])) ≡ Ok bytes → GivesBack (scalar.Bool (not (eqb (get_or bytes 0 0) 0))) (normal_truth byte) bytes len
truth_gives (Err e) len bytes one is = absurd cc
truth_gives (Ok byte) len bytes one is =
    let bytes_is : byte ∷ [] ≡ bytes = ok_is (byte ∷ []) bytes is in
    rw (← bytes_is) (refl, sym one)

string_gives : (content : Result (List ℕ) Fault) (len : ℕ) (bytes : List ℕ) → (content >>= λ b. okay (fitted_to len b)) ≡ Ok bytes → GivesBack (scalar.Bytes bytes) (normal_bytes (fitted_to len) content) bytes len
string_gives (Err e) len bytes is = absurd cc
string_gives (Ok content) len bytes is =
    let bytes_is : fitted_to len content ≡ bytes = ok_is (fitted_to len content) bytes is in
    rw (← bytes_is) (refl, length-fitted_to len content)

-- the bytes of a Pascal string that its length byte counts, cut to the field
pascal_cut : (room : ℕ) (content : List ℕ) → take (min (length content) (min room 255)) (fitted_to room content) ≡ take (min room 255) content
pascal_cut room content =
    take-append-le (min (length content) (min room 255)) (take room content) (replicate (room - length content) 0) (omega (arith, length-take room content))
    ∙ take-take (min (length content) (min room 255)) room content (omega arith)
    ∙ ap (λ (n : ℕ). take n content) (omega arith)
    ∙ take_min (min room 255) content

pascal_gives_in : (content : Result (List ℕ) Fault) (room : ℕ) (bytes : List ℕ) → (content >>= λ b. okay (pascal_bytes room b)) ≡ Ok bytes → GivesBack (scalar.Bytes (pascal_content bytes)) (normal_bytes (take (min room 255)) content) bytes (suc room)
pascal_gives_in (Err e) room bytes is = absurd cc
pascal_gives_in (Ok content) room bytes is =
    let bytes_is : pascal_bytes room content ≡ bytes = ok_is (pascal_bytes room content) bytes is in
    rw (← bytes_is) (ap (λ (b : List ℕ). scalar.Bytes b) (pascal_cut room content), ap suc (length-fitted_to room content))

pascal_gives : (content : Result (List ℕ) Fault) (len : ℕ) (bytes : List ℕ) → pascal_field len content ≡ Ok bytes → GivesBack (scalar.Bytes (pascal_content bytes)) (normal_pascal len content) bytes len
pascal_gives content zero bytes is =
    let bytes_is : [] ≡ bytes = ok_is [] bytes is in
    rw (← bytes_is) (refl, refl)
pascal_gives content (suc room) bytes is =
    let one : suc room - 1 ≡ room = omega arith in
    let some : eqb (suc room) 0 ≡ false = eqb-suc-zero room in
    rw (some, one) (pascal_gives_in content room bytes (rw (some, one) at is))

pub field_gives : (o : Endianness) (pairs : List (ℕ × Snap)) (c : FormatType) (len : ℕ) (v : Scalar) (bytes : List ℕ) → IsTrue (is_length o c len) → bytes_of o pairs c len v ≡ Ok bytes
    → GivesBack (value_of o c bytes) (normal_of pairs c len v) bytes len
field_gives o pairs code.Pad len v bytes fits is = absurd cc
field_gives o pairs code.Char len v bytes fits is = char_gives (bytes_alone pairs v) len bytes (eqb-true _ _ fits) is
field_gives o pairs code.Bool len v bytes fits is = truth_gives (truth_byte v) len bytes (eqb-true _ _ fits) is
field_gives o pairs code.Str len v bytes fits is = string_gives (bytes_like pairs v) len bytes is
field_gives o pairs code.Pascal len v bytes fits is = pascal_gives (bytes_like pairs v) len bytes is
field_gives o pairs c len v bytes fits is = number_gives (is_big o) (is_signed c) len (number_in v) bytes (width_at c o len fits) is

-- ---- writing what was read

fitted_whole : (len : ℕ) (bytes : List ℕ) → length bytes ≡ len → fitted_to len bytes ≡ bytes
fitted_whole len bytes long =
    let none : len - length bytes ≡ 0 = omega arith in
    rw (none, take_all len bytes (omega arith)) (append-nil bytes)

number_back : (big signed : Bool) (len : ℕ) (bytes : List ℕ) → IsTrue (is_width len) → length bytes ≡ len → IsBytes bytes → number_bytes big signed len (Ok (number big signed bytes)) ≡ Ok bytes
number_back big signed len bytes width long fits =
    let digits = reads_back len width big bytes long fits in
    let back = signed_back len (halved len width) signed (unsigned_number big bytes) digits.1 in
    let n : number big signed bytes ≡ signed_as signed len (unsigned_number big bytes) = ap (λ (k : ℕ). signed_as signed k (unsigned_number big bytes)) long in
    rw (n, back.0, back.1, digits.0) refl

pub field_back : (o : Endianness) (pairs : List (ℕ × Snap)) (c : FormatType) (len : ℕ) (bytes : List ℕ) → IsTrue (is_length o c len) → IsTrue (is_exact c) → length bytes ≡ len → IsBytes bytes
    → bytes_of o pairs c len (value_of o c bytes) ≡ Ok bytes
field_back o pairs code.Pad len bytes fits exact long small = absurd cc
field_back o pairs code.Bool len bytes fits exact long small = absurd cc
field_back o pairs code.Pascal len bytes fits exact long small = absurd cc
field_back o pairs code.Char len bytes fits exact long small = rw (eq-eqb (length bytes) 1 (long ∙ eqb-true _ _ fits)) refl
field_back o pairs code.Str len bytes fits exact long small = ap okay (fitted_whole len bytes long)
field_back o pairs c len bytes fits exact long small = number_back (is_big o) (is_signed c) len bytes (width_at c o len fits) long small
