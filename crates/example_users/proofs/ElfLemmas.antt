-- What the header of a program's file says about its sections.
use Rattle.std.proofs.Common.{◌≡◌, ℕ, ◌≤◌, pos, Bool, true, false, List, [], ◌∷◌, length, take, refl, arith, ap, sym, ◌∙◌, subst, Result, Ok, Err, ℤ, codes}
use Rattle.std.specs.Prelude.{nat_lt, nat_le, slice_index_or, IfOk}
use Rattle.std.proofs.lemmas.List.{length-take-le}
use Rattle.std.proofs.lemmas.Bool.{leb-true, le-leb}
use Rattle.std.proofs.lemmas.Bool.Decides.{nat_tests}
use Rattle.pybuf_value.specs.declared.faults.Fault.{Fault}
use Rattle.pybuf_value.specs.declared.faults.Fault.TheVariants as fault
use Rattle.pybuf_value.specs.declared.values.Scalar.{Scalar}
use Rattle.pybuf_value.specs.declared.values.Scalar.TheVariants as scalar
use Rattle.pybuf_value.specs.declared.halt.Halt.{Halt}
use Rattle.pybuf_copy.specs.declared.memory.NoMemory.{NoMemory}
use Rattle.pybuf_value.specs.declared.faults.Outcome.{Outcome}
use Rattle.pybuf_value.specs.Halting.{Gives, outcome_of, given_by, stopped_by, done_by}
use Rattle.pybuf_value.specs.Making.{so_many_numbers}
use Rattle.pybuf_value.specs.Refusing.{◌>>=◌}
use Rattle.pybuf_struct.specs.Digits.{little_endian}
use Rattle.pybuf_struct.specs.Formats.{codes_in, layout_from, format_after_prefix}
use Rattle.pybuf_table.specs.Records.{RecordFormat, record_format}
use Rattle.pybuf_table.specs.Offsets.{row_from}
use Rattle.example_users.specs.Elf.{number_at, header_values_of}
use Rattle.example_users.proofs.LogLemmas.{in_head}

-- the values of the first bytes of a file, by the format of a header
header_row : List ℕ → List Scalar
header_row head =
    scalar.Int (pos (number_at head 8 40)) ∷ scalar.Int (pos (number_at head 2 58)) ∷ scalar.Int (pos (number_at head 2 60))
    ∷ scalar.Int (pos (number_at head 2 62)) ∷ []

row_of_long : (file : List ℕ) → 64 ≤ length file →
    (record_format (codes "<40xQ10xHHH") >>= λ r. row_from r.format (pos 0) file) ≡ Ok (header_row (take 64 file))
unfolding codes_in layout_from format_after_prefix header_row
row_of_long file long = rw (le-leb 64 (length file) long, length-take-le 64 file long) refl

row_of_short : (file : List ℕ) → nat_le 64 (length file) ≡ false →
    (record_format (codes "<40xQ10xHHH") >>= λ r. row_from r.format (pos 0) file) ≡ Err fault.Struct
unfolding codes_in layout_from format_after_prefix
row_of_short file short = rw short refl

-- The format of a header is a format.
pub header_has_format : (f : Fault) → record_format (codes "<40xQ10xHHH") ≡ Err f → ⊥
unfolding codes_in layout_from format_after_prefix
header_has_format f same = cc

row_of_head : (file : List ℕ) → header_row (take 64 file) ≡ header_row file
unfolding header_row
row_of_head file =
    λ i. scalar.Int (pos (little_endian 0 (in_head file 8 40 64 (omega arith) i))) ∷ scalar.Int (pos (little_endian 0 (in_head file 2 58 64 (omega arith) i)))
    ∷ scalar.Int (pos (little_endian 0 (in_head file 2 60 64 (omega arith) i))) ∷ scalar.Int (pos (little_endian 0 (in_head file 2 62 64 (omega arith) i))) ∷ []

read_by : (file : List ℕ) (r : RecordFormat) (b : Bool) → nat_le 64 (length file) ≡ b → record_format (codes "<40xQ10xHHH") ≡ Ok r →
    row_from r.format (pos 0) file ≡ header_values_of file
unfolding header_row
read_by file r true test is =
    let long : 64 ≤ length file = leb-true 64 (length file) test in
    let short : nat_lt (length file) 64 ≡ false = grind (arith, nat_tests) in
    ap (λ x. x >>= λ r. row_from r.format (pos 0) file) (sym is) ∙ (row_of_long file long ∙ (ap Ok (row_of_head file) ∙ rw short refl))
read_by file r false test is =
    let short : nat_lt (length file) 64 ≡ true = grind (arith, nat_tests) in
    ap (λ x. x >>= λ r. row_from r.format (pos 0) file) (sym is) ∙ (row_of_short file test ∙ rw short refl)

-- what is read by that format
pub header_read_by : (file : List ℕ) (r : RecordFormat) → record_format (codes "<40xQ10xHHH") ≡ Ok r → row_from r.format (pos 0) file ≡ header_values_of file
header_read_by file r is = read_by file r (nat_le 64 (length file)) refl is

-- A file whose header was read has one, and these are its numbers.
pub record IsHeader (file : List ℕ) (values : List Scalar) : Type 0 where
  pub long : 64 ≤ length file
  pub short : nat_lt (length file) 64 ≡ false
  pub numbers : so_many_numbers 4 values ≡ Ok (pos (number_at file 8 40) ∷ pos (number_at file 2 58) ∷ pos (number_at file 2 60) ∷ pos (number_at file 2 62) ∷ [])

header_by : (file : List ℕ) (values : List Scalar) (b : Bool) → nat_lt (length file) 64 ≡ b → header_values_of file ≡ Ok values → IsHeader file values
header_by file values true test is = let bad : Err fault.Struct ≡ Ok values = rw test at is in cc
header_by file values false test is =
    let given : Ok (scalar.Int (pos (number_at file 8 40)) ∷ scalar.Int (pos (number_at file 2 58)) ∷ scalar.Int (pos (number_at file 2 60)) ∷ scalar.Int (pos (number_at file 2 62)) ∷ []) ≡ Ok values = rw test at is in
    let same : values ≡ scalar.Int (pos (number_at file 8 40)) ∷ scalar.Int (pos (number_at file 2 58)) ∷ scalar.Int (pos (number_at file 2 60)) ∷ scalar.Int (pos (number_at file 2 62)) ∷ [] = cc in
    record { long = grind (arith, nat_tests); short = test; numbers = ap (so_many_numbers 4) same }

pub is_header : (file : List ℕ) (values : List Scalar) → header_values_of file ≡ Ok values → IsHeader file values
is_header file values is = header_by file values (nat_lt (length file) 64) refl is

refused_by : (file : List ℕ) (f : Fault) (b : Bool) → nat_lt (length file) 64 ≡ b → header_values_of file ≡ Err f → (nat_lt (length file) 64 ≡ true) × (f ≡ fault.Struct)
unfolding header_row
refused_by file f true test is = let same : Err fault.Struct ≡ Err f = rw test at is in (test, cc)
refused_by file f false test is = let bad : Ok (header_row file) ≡ Err f = rw test at is in cc

-- A file without a header is refused.
pub header_refused : (file : List ℕ) (f : Fault) → header_values_of file ≡ Err f → (nat_lt (length file) 64 ≡ true) × (f ≡ fault.Struct)
header_refused file f is = refused_by file f (nat_lt (length file) 64) refl is

-- ---- the format of a section

size_told : Result RecordFormat Fault → ℕ
size_told (Ok r) = r.format.size
size_told (Err f) = 0

section_size : (r : RecordFormat) → record_format (codes "<IIQQQQIIQQ") ≡ Ok r → r.format.size ≡ 64
unfolding codes_in layout_from format_after_prefix size_told
section_size r is = sym (ap size_told is)

pub sections_sized : (r : Result RecordFormat Halt) → Gives (record_format (codes "<IIQQQQIIQQ")) r → IfOk r (λ records. records.format.size ≡ 64)
sections_sized (Ok r) given = section_size r given
sections_sized (Err why) given = tt

-- the fourth of some numbers
pub fourth_of : (numbers : List ℤ) (a b c d : ℤ) (rest : List ℤ) → numbers ≡ a ∷ b ∷ c ∷ d ∷ rest → slice_index_or numbers 3 (pos 0) ≡ d
fourth_of numbers a b c d rest is = ap (λ ns. slice_index_or ns 3 (pos 0)) is

given_back : {X : Type 0} (wanted : Result X Fault) → Gives wanted (stopped_by (given_by (outcome_of wanted)))
given_back (Ok x) = refl
given_back (Err f) = refl

-- an answer that may be a refusal, as a single result
pub given_so : {X : Type 0} (wanted : Result X Fault) (r : Result (Outcome X) NoMemory) → IfOk r (λ o. o ≡ outcome_of wanted) →
    Gives wanted (done_by given_by r)
given_so wanted (Err none) is = tt
given_so {X} wanted (Ok o) is = subst (λ (x : Outcome X). Gives wanted (stopped_by (given_by x))) (sym is) (given_back wanted)
