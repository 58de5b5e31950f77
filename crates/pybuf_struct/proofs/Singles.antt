-- What the text of one code's letter spells.
use Rattle.std.proofs.Common.{◌≡◌, ℕ, Bool, true, false, cond, List, [], ◌∷◌, ◌++◌, ◌+◌, length, take, drop, replicate, Option, Some, None, Ok, refl, ap, subst, ◌∙◌, sym, arith}
use Rattle.std.specs.Prelude.{◌==◌, Result, Err, IsErr}
use Rattle.std.proofs.lemmas.Bool.{eqb-true}
use Rattle.std.proofs.lemmas.List.{append-nil, take_all, drop_all, length-replicate}
use Rattle.pybuf_lemmas.proofs.Lists.{found_passes}
use Rattle.pybuf_struct.specs.Facts.{unpacked_at}
use Rattle.pybuf_value.specs.declared.faults.Fault.{Fault}
use Rattle.pybuf_value.specs.declared.values.Scalar.{Scalar}
use Rattle.pybuf_value.specs.declared.snaps.Snap.{Snap}
use Rattle.pybuf_value.specs.Refusing.{◌>>=◌}
use Rattle.pybuf_struct.specs.declared.table.Endianness.TheVariants as order
use Rattle.pybuf_struct.specs.declared.table.FormatType.{FormatType}
use Rattle.pybuf_struct.specs.declared.table.FormatType.TheVariants as code
use Rattle.pybuf_struct.specs.Table.{letter, every_code, size_of}
use Rattle.pybuf_struct.specs.Formats.{Format, Field, codes_in, layout_from, format_after_prefix, format_of}
use Rattle.pybuf_struct.specs.Values.{value_of, values, unpacked_values}
use Rattle.pybuf_struct.specs.Packing.{bytes_of, contents_of, room_with_contents, packed_bytes}
use Rattle.pybuf_struct.specs.Singles.{single_code, is_numeric, numeric_code, numeric_alone, values_by, bytes_by}

-- the format that the letter of a code spells
abbrev pub single_format : FormatType → Format
single_format c = record { order = order.Native; codes = record { repeat = 1; code = c; pre_padding = 0 } ∷ []; size = size_of order.Native c }

pub letter_spells : (c : FormatType) → format_of (letter c ∷ []) ≡ Ok (single_format c)
unfolding codes_in layout_from format_after_prefix
letter_spells code.Pad = refl
letter_spells _ = refl

pub single_spells : (text : List ℕ) (c : FormatType) → single_code text ≡ Some c → format_of text ≡ Ok (single_format c)
single_spells [] c is = absurd cc
single_spells (b ∷ []) c is =
    let same : letter c ≡ b = eqb-true (letter c) b (found_passes (λ d. letter d == b) every_code c is) in
    subst (λ (x : ℕ). format_of (x ∷ []) ≡ Ok (single_format c)) same (letter_spells c)
single_spells (b ∷ d ∷ rest) c is = absurd cc

one_value : (c : FormatType) (bytes : List ℕ) → is_numeric c ≡ true → take (size_of order.Native c) bytes ≡ bytes → values (single_format c) bytes ≡ value_of order.Native c bytes ∷ []
one_value code.Pad bytes numeric whole = absurd cc
one_value code.Char bytes numeric whole = absurd cc
one_value code.Str bytes numeric whole = absurd cc
one_value code.Pascal bytes numeric whole = absurd cc
one_value c bytes numeric whole = ap (λ (bs : List ℕ). value_of order.Native c bs ∷ []) whole

passed : (d : FormatType) (b : Bool) (c : FormatType) → is_numeric d ≡ b → cond b (Some d) None ≡ Some c → (Some d ≡ Some c) × (is_numeric c ≡ true)
passed d true c is found = let same : d ≡ c = cc in (found, subst (λ (x : FormatType). is_numeric x ≡ true) same is)
passed d false c is found = absurd cc

abbrev okay : List Scalar → Result (List Scalar) Fault
okay vs = Ok vs

numeric_is : (code : Option FormatType) (c : FormatType) → numeric_alone code ≡ Some c → (code ≡ Some c) × (is_numeric c ≡ true)
numeric_is None c is = absurd cc
numeric_is (Some d) c is = passed d (is_numeric d) c refl is

pub value_of_single : (text : List ℕ) (c : FormatType) (bytes : List ℕ) → numeric_code text ≡ Some c → length bytes ≡ size_of order.Native c
    → values_by text bytes ≡ Ok (value_of order.Native c bytes ∷ [])
value_of_single text c bytes is long =
    let numeric = numeric_is (single_code text) c is in
    let spells = single_spells text c numeric.0 in
    ap (λ (r : Result Format Fault). r >>= λ f. unpacked_values f bytes) spells
    ∙ unpacked_at (single_format c) bytes long
    ∙ ap okay (one_value c bytes numeric.1 (take_all (size_of order.Native c) bytes (omega (arith, long))))

abbrev okay_bytes : List ℕ → Result (List ℕ) Fault
okay_bytes bytes = Ok bytes

abbrev alone_in : FormatType → ℕ → List Field
alone_in c n = record { code = c; offset = 0; length = n } ∷ []

filled : (c : FormatType) (n : ℕ) (r : Result (List ℕ) Fault) (bytes : List ℕ) → r ≡ Ok bytes → length bytes ≡ n
    → room_with_contents (alone_in c n) (r >>= λ first. Ok (first ∷ [])) (replicate n 0) ≡ Ok bytes
filled c n (Err f) bytes is long = absurd cc
filled c n (Ok first) bytes is long =
    let same : first ≡ bytes = cc in
    let rest : drop (0 + length first) (replicate n 0) ≡ [] = drop_all (0 + length first) (replicate n 0) (omega (arith, length-replicate {A = ℕ} n 0, ap length same, long)) in
    ap okay_bytes (ap (λ (l : List ℕ). first ++ l) rest ∙ append-nil first ∙ same)

refused : (c : FormatType) (n : ℕ) (r : Result (List ℕ) Fault) → IsErr r → IsErr (room_with_contents (alone_in c n) (r >>= λ first. Ok (first ∷ [])) (replicate n 0))
refused c n (Err f) is = is
refused c n (Ok first) is = absurd cc

-- a code whose values are numbers or truth values looks at nothing that is lent
unlent : (c : FormatType) (pairs : List (ℕ × Snap)) (v : Scalar) → is_numeric c ≡ true → bytes_of order.Native pairs c (size_of order.Native c) v ≡ bytes_of order.Native [] c (size_of order.Native c) v
unlent code.Pad pairs v numeric = absurd cc
unlent code.Char pairs v numeric = absurd cc
unlent code.Str pairs v numeric = absurd cc
unlent code.Pascal pairs v numeric = absurd cc
unlent c pairs v numeric = refl

packed_alone : (c : FormatType) (pairs : List (ℕ × Snap)) (v : Scalar) → is_numeric c ≡ true
    → packed_bytes (single_format c) pairs (v ∷ []) ≡ room_with_contents (alone_in c (size_of order.Native c)) (bytes_of order.Native pairs c (size_of order.Native c) v >>= λ first. Ok (first ∷ [])) (replicate (size_of order.Native c) 0)
unfolding contents_of
packed_alone code.Pad pairs v numeric = absurd cc
packed_alone code.Char pairs v numeric = absurd cc
packed_alone code.Str pairs v numeric = absurd cc
packed_alone code.Pascal pairs v numeric = absurd cc
packed_alone c pairs v numeric = refl

bytes_of_single : (text : List ℕ) (c : FormatType) (pairs : List (ℕ × Snap)) (v : Scalar) → numeric_code text ≡ Some c
    → bytes_by text pairs (v ∷ []) ≡ room_with_contents (alone_in c (size_of order.Native c)) (bytes_of order.Native [] c (size_of order.Native c) v >>= λ first. Ok (first ∷ [])) (replicate (size_of order.Native c) 0)
bytes_of_single text c pairs v is =
    let numeric = numeric_is (single_code text) c is in
    ap (λ (r : Result Format Fault). r >>= λ f. packed_bytes f pairs (v ∷ [])) (single_spells text c numeric.0)
    ∙ packed_alone c pairs v numeric.1
    ∙ ap (λ (r : Result (List ℕ) Fault). room_with_contents (alone_in c (size_of order.Native c)) (r >>= λ first. Ok (first ∷ [])) (replicate (size_of order.Native c) 0)) (unlent c pairs v numeric.1)

pub packed_single : (text : List ℕ) (c : FormatType) (v : Scalar) (bytes : List ℕ) → numeric_code text ≡ Some c → length bytes ≡ size_of order.Native c
    → bytes_of order.Native [] c (size_of order.Native c) v ≡ Ok bytes → (pairs : List (ℕ × Snap)) → bytes_by text pairs (v ∷ []) ≡ Ok bytes
packed_single text c v bytes is long given pairs =
    bytes_of_single text c pairs v is ∙ filled c (size_of order.Native c) (bytes_of order.Native [] c (size_of order.Native c) v) bytes given long

pub refused_single : (text : List ℕ) (c : FormatType) (v : Scalar) → numeric_code text ≡ Some c
    → IsErr (bytes_of order.Native [] c (size_of order.Native c) v) → (pairs : List (ℕ × Snap)) → IsErr (bytes_by text pairs (v ∷ []))
refused_single text c v is given pairs =
    subst IsErr (sym (bytes_of_single text c pairs v is)) (refused c (size_of order.Native c) (bytes_of order.Native [] c (size_of order.Native c) v) given)
