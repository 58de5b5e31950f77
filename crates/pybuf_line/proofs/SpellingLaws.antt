-- The laws of parts and of values without parts.
use Rattle.std.proofs.Common.{◌≡◌, ℕ, ◌+◌, ◌-◌, ◌^◌, ◌<◌, suc, ℤ, pos, negsuc, List, [], ◌∷◌, ◌++◌, length, take, drop, Bool, true, false, not, cond, ◌==◌, ◌&&◌, Some, None, refl, sym, ◌∙◌, ap, arith, tests, decimal}
use Rattle.std.specs.List.{join_with_byte, onto_first, AllByRecursion}
use Rattle.std.specs.Char.{is_ascii_digit}
use Rattle.std.specs.Str.{bytes_eq}
use Rattle.std.specs.Str.Parse.{digits_value, AllDigits}
use Rattle.std.proofs.lemmas.List.{drop_at, take_at, length-append, take-append-drop}
use Rattle.std.proofs.lemmas.Slice.Eq.{bytes_eq-Decides}
use Rattle.std.proofs.lemmas.Fmt.{decimal_is_IsNumeral_wide}
use Rattle.pybuf_lemmas.proofs.Numbers.{passed_numbers_are_equal, number_equals_itself, value_below_ten_is_digit}
use Rattle.pybuf_line.specs.Facts.{number_read}
use Rattle.hex.specs.Hex.{encode_lower}
use Rattle.hex.proofs.HexLemmas.{decode_of-encode_lower}
use Rattle.pybuf_value.specs.declared.values.Scalar.{Scalar}
use Rattle.pybuf_value.specs.declared.values.Scalar.TheVariants as scalar
use Rattle.pybuf_line.specs.Parts.{parts_from}
use Rattle.pybuf_value.specs.Spelling.{handle_text}
use Rattle.pybuf_line.specs.Scalars.{constant_in, whole_in, positive_in, before_end, plain_in, scalar_in, written_scalar, handle_in}
use Rattle.pybuf_line.specs.Laws.{PartsJoin, IsOnePart, PartsAreSingle, EnclosedIsBetween, BetweenIsEnclosed, IsSpelled, IsSlicePart, ScalarsReadBack}
use Rattle.pybuf_line.proofs.Commas.{some_part, quote_cuts, other_cuts}

-- One byte more on the first part is one byte more in front.
join_onto : (b : ℕ) (parts : List (List ℕ)) (first : List ℕ) (more : List (List ℕ)) → parts ≡ first ∷ more →
    join_with_byte 44 (onto_first b parts) ≡ b ∷ join_with_byte 44 parts
join_onto b parts first [] e = rw e refl
join_onto b parts first (next ∷ more) e = rw e refl

join_cut : (parts : List (List ℕ)) (first : List ℕ) (more : List (List ℕ)) → parts ≡ first ∷ more →
    join_with_byte 44 ([] ∷ parts) ≡ 44 ∷ join_with_byte 44 parts
join_cut parts first more e = rw e refl

comma_there : (b : ℕ) (quoted : Bool) → (b == 44 && not quoted) ≡ true → b ≡ 44
comma_there b quoted h = grind (arith, tests)

join_step : (b : ℕ) (q c : Bool) (ps qs rest : List (List ℕ)) (text : List ℕ) →
    ((first : List ℕ) × (more : List (List ℕ)) × (ps ≡ first ∷ more)) → ((first : List ℕ) × (more : List (List ℕ)) × (qs ≡ first ∷ more)) →
    (c ≡ true → b ≡ 44) → join_with_byte 44 ps ≡ text → join_with_byte 44 qs ≡ text →
    join_with_byte 44 (cond q (onto_first b ps) (cond c ([] ∷ qs) (onto_first b qs))) ≡ b ∷ text
join_step b true c ps qs rest text sp sq e hp hq = join_onto b ps sp.0 sp.1 sp.2 ∙ ap (λ t. b ∷ t) hp
join_step b false true ps qs rest text sp sq e hp hq =
    join_cut qs sq.0 sq.1 sq.2 ∙ (ap (λ t. 44 ∷ t) hq ∙ ap (λ x. x ∷ text) (sym (e refl)))
join_step b false false ps qs rest text sp sq e hp hq = join_onto b qs sq.0 sq.1 sq.2 ∙ ap (λ t. b ∷ t) hq

join_from : (quoted : Bool) (text : List ℕ) → join_with_byte 44 (parts_from quoted text) ≡ text
join_from quoted [] = refl
join_from quoted (b ∷ rest) =
    join_step b (b == 39) (b == 44 && not quoted) (parts_from (not quoted) rest) (parts_from quoted rest) [] rest
    (some_part (not quoted) rest) (some_part quoted rest) (comma_there b quoted) (join_from (not quoted) rest) (join_from quoted rest)

pub parts_join : PartsJoin
parts_join text = join_from false text

-- The first part, which may begin between quotes, and the others are one part each.
abbrev SingleFrom : Bool → List (List ℕ) → Type 0
SingleFrom quoted [] = Unit {0}
SingleFrom quoted (part ∷ more) = (parts_from quoted part ≡ part ∷ []) × AllByRecursion IsOnePart more

single_onto : (quoted next : Bool) (b : ℕ) (parts : List (List ℕ)) →
    ((part : List ℕ) → parts_from quoted (b ∷ part) ≡ onto_first b (parts_from next part)) → SingleFrom next parts → SingleFrom quoted (onto_first b parts)
single_onto quoted next b [] cuts h = (cuts [], tt)
single_onto quoted next b (part ∷ more) cuts h = (cuts part ∙ ap (onto_first b) h.0, h.1)

all_single : (quoted : Bool) (parts : List (List ℕ)) → quoted ≡ false → SingleFrom quoted parts → AllByRecursion IsOnePart parts
all_single quoted [] e h = tt
all_single quoted (part ∷ more) e h = (sym (ap (λ q. parts_from q part) e) ∙ h.0, h.1)

outside : (b : ℕ) (quoted : Bool) → (b == 44 && not quoted) ≡ true → quoted ≡ false
outside b quoted h = grind (arith, tests)

single_step : (b : ℕ) (quoted q c : Bool) (rest : List ℕ) → (b == 39) ≡ q → (b == 44 && not quoted) ≡ c →
    SingleFrom (not quoted) (parts_from (not quoted) rest) → SingleFrom quoted (parts_from quoted rest) →
    SingleFrom quoted (cond q (onto_first b (parts_from (not quoted) rest)) (cond c ([] ∷ parts_from quoted rest) (onto_first b (parts_from quoted rest))))
single_step b quoted true c rest q_is c_is turned same =
    single_onto quoted (not quoted) b (parts_from (not quoted) rest) (λ part. quote_cuts b quoted part (passed_numbers_are_equal b 39 q_is)) turned
single_step b quoted false true rest q_is c_is turned same =
    (sym (ap (λ q. parts_from q []) (outside b quoted c_is)), all_single quoted (parts_from quoted rest) (outside b quoted c_is) same)
single_step b quoted false false rest q_is c_is turned same =
    single_onto quoted quoted b (parts_from quoted rest) (λ part. other_cuts b quoted part q_is c_is) same

single_from : (quoted : Bool) (text : List ℕ) → SingleFrom quoted (parts_from quoted text)
single_from quoted [] = (refl, tt)
single_from quoted (b ∷ rest) =
    single_step b quoted (b == 39) (b == 44 && not quoted) rest refl refl (single_from (not quoted) rest) (single_from quoted rest)

pub parts_single : PartsAreSingle
parts_single text = all_single false (parts_from false text) refl (single_from false text)

pub same_bytes : (xs ys : List ℕ) → bytes_eq xs ys ≡ true → xs ≡ ys
same_bytes xs ys h = (bytes_eq-Decides xs ys).0 h

before_end_of : (closing : ℕ) (rest inner : List ℕ) (same : Bool) → bytes_eq (drop (length rest - 1) rest) (closing ∷ []) ≡ same →
    cond same (Some (take (length rest - 1) rest)) None ≡ Some inner → rest ≡ inner ++ closing ∷ []
before_end_of closing rest inner true e h =
    let last = same_bytes (drop (length rest - 1) rest) (closing ∷ []) e in
    let front : take (length rest - 1) rest ≡ inner = cc in
    sym (take-append-drop (length rest - 1) rest) ∙ (ap (λ l. take (length rest - 1) rest ++ l) last ∙ ap (λ l. l ++ closing ∷ []) front)
before_end_of closing rest inner false e h = cc

enclosed_of : (opening closing first : ℕ) (rest inner : List ℕ) (same : Bool) → (first == opening) ≡ same →
    cond same (before_end closing rest) None ≡ Some inner → first ∷ rest ≡ opening ∷ inner ++ closing ∷ []
enclosed_of opening closing first rest inner true e h =
    let end = before_end_of closing rest inner (bytes_eq (drop (length rest - 1) rest) (closing ∷ [])) refl h in
    ap (λ f. f ∷ rest) (passed_numbers_are_equal first opening e) ∙ ap (λ l. opening ∷ l) end
enclosed_of opening closing first rest inner false e h = cc

pub enclosed_there : EnclosedIsBetween
enclosed_there opening closing [] inner h = cc
enclosed_there opening closing (first ∷ rest) inner h = enclosed_of opening closing first rest inner (first == opening) refl h

itself : (n : ℕ) → bytes_eq (n ∷ []) (n ∷ []) ≡ true
itself n = grind (arith, tests)

before_end_read : (closing : ℕ) (inner : List ℕ) → before_end closing (inner ++ closing ∷ []) ≡ Some inner
before_end_read closing inner =
    let text = inner ++ closing ∷ [] in
    let n : length text - 1 ≡ length inner = omega (arith, length-append inner (closing ∷ [])) in
    let last : drop (length text - 1) text ≡ closing ∷ [] = ap (λ k. drop k text) n ∙ drop_at inner (closing ∷ []) (length inner) refl in
    let front : take (length text - 1) text ≡ inner = ap (λ k. take k text) n ∙ take_at inner (closing ∷ []) (length inner) refl in
    ap (λ b. cond b (Some (take (length text - 1) text)) None) (ap (λ l. bytes_eq l (closing ∷ [])) last ∙ itself closing) ∙ ap Some front

pub enclosed_read : BetweenIsEnclosed
enclosed_read opening closing inner =
    ap (λ b. cond b (before_end closing (inner ++ closing ∷ [])) None) (number_equals_itself opening) ∙ before_end_read closing inner

no_name : (c : ℕ) (cs : List ℕ) → is_ascii_digit c ≡ true → constant_in (c ∷ cs) ≡ None
unfolding constant_in
no_name c cs h = grind (arith, tests)

no_sign : (c : ℕ) (cs : List ℕ) → is_ascii_digit c ≡ true → whole_in (c ∷ cs) ≡ positive_in (c ∷ cs)
no_sign c cs h = grind (arith, tests)

digits_read : (n : ℕ) (ds : List ℕ) → 0 < length ds → AllDigits 10 ds → digits_value 10 ds ≡ n → n < 2 ^ 127 → plain_in handle_in ds ≡ Some (scalar.Int (pos n))
digits_read n [] some all e h = absurd (omega arith)
digits_read n (c ∷ cs) some all e h =
    let d = value_below_ten_is_digit c all.0 in
    rw (no_name c cs d, no_sign c cs d, number_read (2 ^ 127) n (c ∷ cs) some all e h) refl

signed_read : (n : ℕ) (ds : List ℕ) → 0 < length ds → AllDigits 10 ds → digits_value 10 ds ≡ suc n → n < 2 ^ 127 → plain_in handle_in (45 ∷ ds) ≡ Some (scalar.Int (negsuc n))
unfolding constant_in
signed_read n ds some all e h = rw (number_read (2 ^ 127 + 1) (suc n) ds some all e (omega (arith, h))) refl

number_reads : (n : ℤ) → IsSpelled (scalar.Int n) → plain_in handle_in (written_scalar handle_text (scalar.Int n)) ≡ Some (scalar.Int n)
number_reads (pos n) h =
    let d = decimal_is_IsNumeral_wide n (omega (arith, h)) in
    digits_read n (decimal n) d.0.0 d.0.1 d.1 h
number_reads (negsuc n) h =
    let d = decimal_is_IsNumeral_wide (suc n) (omega (arith, h)) in
    signed_read n (decimal (suc n)) d.0.0 d.0.1 d.1 h

pub no_number : (c : ℕ) (cs : List ℕ) → is_ascii_digit c ≡ false → (c == 45) ≡ false → whole_in (c ∷ cs) ≡ None
no_number c cs h s = grind (arith, tests)

bytes_read : (bs : List ℕ) → IsSpelled (scalar.Bytes bs) → plain_in handle_in (written_scalar handle_text (scalar.Bytes bs)) ≡ Some (scalar.Bytes bs)
unfolding constant_in
bytes_read bs h = rw (no_number 120 (encode_lower bs) refl refl, decode_of-encode_lower bs h) refl

pub handle_read : (n : ℕ) → n < 2 ^ 64 → handle_in (handle_text n) ≡ Some n
handle_read n h =
    let d = decimal_is_IsNumeral_wide n (omega (arith, h)) in
    number_read (2 ^ 64) n (decimal n) d.0.0 d.0.1 d.1 h

handle_reads : (n : ℕ) → IsSpelled (scalar.Handle n) → plain_in handle_in (written_scalar handle_text (scalar.Handle n)) ≡ Some (scalar.Handle n)
unfolding constant_in
handle_reads n h =
    let d = decimal_is_IsNumeral_wide n (omega (arith, h)) in
    rw (no_number 104 (decimal n) refl refl, number_read (2 ^ 64) n (decimal n) d.0.0 d.0.1 d.1 h) refl

text_reads : (t : List ℕ) → IsSpelled (scalar.Text t) → scalar_in handle_in (written_scalar handle_text (scalar.Text t)) ≡ Some (scalar.Text t)
unfolding constant_in
text_reads t h = rw (no_number 39 (t ++ 39 ∷ []) refl refl, enclosed_read 39 39 t, h) refl

-- what may stand in a slice
pub part_reads : (s : Scalar) → IsSlicePart s → plain_in handle_in (written_scalar handle_text s) ≡ Some s
unfolding constant_in
part_reads scalar.None h = refl
part_reads (scalar.Bool true) h = refl
part_reads (scalar.Bool false) h = refl
part_reads (scalar.Int number) h = number_reads number h
part_reads (scalar.Text text) h = absurd h
part_reads (scalar.Bytes bytes) h = bytes_read bytes h
part_reads scalar.Ellipsis h = refl
part_reads (scalar.Handle handle) h = handle_reads handle h

plain_first : (text : List ℕ) (s : Scalar) → plain_in handle_in text ≡ Some s → scalar_in handle_in text ≡ Some s
plain_first text s h = rw h refl

pub scalars_read : ScalarsReadBack
scalars_read scalar.None h = plain_first (written_scalar handle_text scalar.None) scalar.None (part_reads scalar.None h)
scalars_read (scalar.Bool truth) h = plain_first (written_scalar handle_text (scalar.Bool truth)) (scalar.Bool truth) (part_reads (scalar.Bool truth) h)
scalars_read (scalar.Int number) h = plain_first (written_scalar handle_text (scalar.Int number)) (scalar.Int number) (part_reads (scalar.Int number) h)
scalars_read (scalar.Text text) h = text_reads text h
scalars_read (scalar.Bytes bytes) h = plain_first (written_scalar handle_text (scalar.Bytes bytes)) (scalar.Bytes bytes) (part_reads (scalar.Bytes bytes) h)
scalars_read scalar.Ellipsis h = plain_first (written_scalar handle_text scalar.Ellipsis) scalar.Ellipsis (part_reads scalar.Ellipsis h)
scalars_read (scalar.Handle handle) h = plain_first (written_scalar handle_text (scalar.Handle handle)) (scalar.Handle handle) (part_reads (scalar.Handle handle) h)
