-- The laws of formats: what is read from bytes that were written, and where fields lie.
use Rattle.std.specs.Str.{byte}
use Rattle.std.specs.Prelude.{◌⊎◌, Some, IsTrue, Bool, true, false, ℕ, ◌==◌, ◌+◌, ◌-◌, ◌%◌, ◌^◌, ◌≡◌, ◌<◌, ◌≤◌, min, not, List, [], ◌∷◌, ◌++◌, length, map, take, ℤ, Result, Ok, Err, if◌then◌else◌}
use Rattle.std.specs.List.{All, AllByRecursion}
use Rattle.pybuf_value.specs.declared.faults.Fault.{Fault}
use Rattle.pybuf_value.specs.declared.values.Scalar.{Scalar}
use Rattle.pybuf_value.specs.declared.values.Scalar.TheVariants as scalar
use Rattle.pybuf_value.specs.declared.snaps.Snap.{Snap}
use Rattle.pybuf_value.specs.Numbers.{number_in}
use Rattle.pybuf_value.specs.Snaps.{bytes_like, bytes_alone}
use Rattle.pybuf_struct.specs.declared.table.Endianness.{Endianness}
use Rattle.pybuf_struct.specs.declared.table.FormatType.{FormatType}
use Rattle.pybuf_struct.specs.declared.table.FormatType.TheVariants as code
use Rattle.pybuf_struct.specs.declared.table.Endianness.TheVariants as order
use Rattle.pybuf_struct.specs.Table.{letter, is_allowed, size_of, alignment_of}
use Rattle.pybuf_struct.specs.Singles.{size_by}
use Rattle.pybuf_struct.specs.Natives.{is_item_code, native_single_code}
use Rattle.pybuf_struct.specs.Formats.{Code, Format, Field, prefix_of, format_of, fields}
use Rattle.pybuf_struct.specs.FormatTexts.{WrittenCode, IsPrefixOf, AreWritten, text_of_codes, items_of_codes, item_of_code, end_after}
use Rattle.pybuf_struct.specs.Values.{values, unpacked_values}
use Rattle.pybuf_struct.specs.Packing.{truth_byte, fitted_to, packed_bytes}

abbrev pub normal_number : Result ℤ Fault → Scalar
normal_number (Ok n) = scalar.Int n
normal_number (Err f) = scalar.None

abbrev pub normal_truth : Result ℕ Fault → Scalar
normal_truth (Ok byte) = scalar.Bool (not (byte == 0))
normal_truth (Err f) = scalar.None

abbrev pub normal_bytes : (List ℕ → List ℕ) → Result (List ℕ) Fault → Scalar
normal_bytes cut (Ok bytes) = scalar.Bytes (cut bytes)
normal_bytes cut (Err f) = scalar.None

abbrev pub normal_pascal : ℕ → Result (List ℕ) Fault → Scalar
normal_pascal len content = if len == 0 then scalar.Bytes [] else normal_bytes (take (min (len - 1) 255)) content

-- What a field gives back of a value that was written to it. A number comes back as a whole number, and a value of `?`
-- as a truth value. The bytes of `s` are cut or filled with zeros to the field's length. The bytes of `p` are cut to
-- the length less 1, and to 255.
abbrev pub normal_of : List (ℕ × Snap) → FormatType → ℕ → Scalar → Scalar
normal_of pairs code.Pad len v = scalar.None
normal_of pairs code.Char len v = normal_bytes (λ bytes. bytes) (bytes_alone pairs v)
normal_of pairs code.Bool len v = normal_truth (truth_byte v)
normal_of pairs code.Str len v = normal_bytes (fitted_to len) (bytes_like pairs v)
normal_of pairs code.Pascal len v = normal_pascal len (bytes_like pairs v)
normal_of pairs c len v = normal_number (number_in v)

-- the same for each field, in order
abbrev pub normal_values : List (ℕ × Snap) → List Field → List Scalar → List Scalar
normal_values pairs (f ∷ fs) (v ∷ vs) = normal_of pairs f.code f.length v ∷ normal_values pairs fs vs
normal_values pairs [] vs = []
normal_values pairs (f ∷ fs) [] = []

-- a code for which every byte comes back as it was, which holds of all but `x`, `?` and `p`
abbrev pub is_exact : FormatType → Bool
is_exact code.Pad = false
is_exact code.Bool = false
is_exact code.Pascal = false
is_exact _ = true

-- each code has no padding, and every byte of it comes back as it was
abbrev pub AreExact : List Code → Type 0
AreExact codes = AllByRecursion (λ c. (c.pre_padding ≡ 0) × IsTrue (is_exact c.code)) codes

-- fields that begin at p or later; each begins at or after the end of the one before it, and the last ends at q at the
-- latest
abbrev pub Spread : ℕ → List Field → ℕ → Type 0
Spread p [] q = p ≤ q
Spread p (f ∷ fs) q = (p ≤ f.offset) × Spread (f.offset + f.length) fs q

-- a field begins at a multiple of its code's alignment
abbrev pub IsAligned : Endianness → Field → Type 0
IsAligned o f = f.offset % alignment_of o f.code ≡ 0

-- The fields of a format that a text spells follow one another within its size, at multiples of their alignment.
abbrev pub FieldsLieInOrder : Type 0
FieldsLieInOrder = (text : List ℕ) (f : Format) → format_of text ≡ Ok f → Spread 0 (fields f) f.size × AllByRecursion (IsAligned f.order) (fields f)

-- A format that a text spells has the order of its prefix, and only codes that formats of this prefix have.
abbrev pub CodesAreAllowed : Type 0
CodesAreAllowed =
    (text : List ℕ) (f : Format) → format_of text ≡ Ok f
    → (f.order ≡ (prefix_of text).0) × AllByRecursion (λ c. is_allowed f.order c.code ≡ true) f.codes

-- The size of a format that a text spells is the offset at which its codes end.
abbrev pub SizesEndTheCodes : Type 0
SizesEndTheCodes = (text : List ℕ) (f : Format) → format_of text ≡ Ok f → f.size ≡ end_after f.order 0 (map item_of_code f.codes)

-- Values that were written by a format are read as what each field gives back of its value.
abbrev pub ReadsWhatWasWritten : Type 0
ReadsWhatWasWritten =
    (text : List ℕ) (f : Format) (pairs : List (ℕ × Snap)) (args : List Scalar) (bytes : List ℕ)
    → format_of text ≡ Ok f → packed_bytes f pairs args ≡ Ok bytes → unpacked_values f bytes ≡ Ok (normal_values pairs (fields f) args)

-- If values were read by an exact format, writing them by this format gives the same bytes.
abbrev pub WritesWhatWasRead : Type 0
WritesWhatWasRead =
    (text : List ℕ) (f : Format) (pairs : List (ℕ × Snap)) (args : List Scalar) (bytes : List ℕ)
    → format_of text ≡ Ok f → AreExact f.codes → All (λ b. b < 256) bytes → unpacked_values f bytes ≡ Ok args → packed_bytes f pairs args ≡ Ok bytes

-- The bytes that values are packed to are as many as the size of the format says.
abbrev pub PackingFillsTheFormat : Type 0
PackingFillsTheFormat =
    (text : List ℕ) (f : Format) (pairs : List (ℕ × Snap)) (args : List Scalar) (bytes : List ℕ)
    → format_of text ≡ Ok f → packed_bytes f pairs args ≡ Ok bytes → length bytes ≡ f.size

-- Bytes of the format's size are never refused, and read as the values of its fields.
abbrev pub BytesOfTheSizeAreRead : Type 0
BytesOfTheSizeAreRead = (f : Format) (bytes : List ℕ) → length bytes ≡ f.size → unpacked_values f bytes ≡ Ok (values f bytes)

-- Codes and counts that are written after a prefix are read as the same order, codes and counts, if their whole size is
-- at most `isize::MAX`.
abbrev pub FormatsReadBack : Type 0
FormatsReadBack =
    (o : Endianness) (prefix : List ℕ) (ws : List WrittenCode)
    → IsPrefixOf o prefix → AreWritten o ws → end_after o 0 (items_of_codes ws) < 2 ^ 63
    → (f : Format) × (format_of (prefix ++ text_of_codes ws) ≡ Ok f) × (f.order ≡ o) × (map item_of_code f.codes ≡ items_of_codes ws)

-- A text is a format of one native code exactly if it is the letter of a code other than `x`, `s` and `p`, alone or
-- behind `@`.
pub record NativeCodesAreSpelled : Type 0 where
  pub alone : (c : FormatType) → is_item_code c ≡ true → native_single_code (letter c ∷ []) ≡ Some c
  pub behind : (c : FormatType) → is_item_code c ≡ true → native_single_code (byte "@" ∷ letter c ∷ []) ≡ Some c
  pub only : (text : List ℕ) (c : FormatType) → native_single_code text ≡ Some c →
      (is_item_code c ≡ true) × ((text ≡ letter c ∷ []) ⊎ (text ≡ byte "@" ∷ letter c ∷ []))

-- A format of one native code is a format, whose items have the code's native size.
abbrev pub NativeCodesHaveTheirSize : Type 0
NativeCodesHaveTheirSize = (text : List ℕ) (c : FormatType) → native_single_code text ≡ Some c → size_by text ≡ Ok (size_of order.Native c)
