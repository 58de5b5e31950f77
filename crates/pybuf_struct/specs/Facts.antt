-- Facts about the definitions of this crate, with their proofs, for the proofs of the crates above.
use Rattle.std.proofs.Common.{◌≡◌, ℕ, List, length, Ok, refl, ◌<◌, false, arith, zero, suc, [], ◌∷◌, ◌^◌, Bool, true, ◌-◌, sym, ◌∙◌, ◌+◌, ℤ, pos, negsuc, ◌*◌, leb, ap, get_or, subst, ◌≤◌, Option, Some, cond, None, ltb, map}
use Rattle.std.proofs.lemmas.Bool.{eq-eqb, ltb-true, le-leb, lt-leb, lt-ltb, leb-true, leb-false}
use Rattle.std.proofs.lemmas.Bool.Decides.{nat_tests}
use Rattle.std.specs.Prelude.{IsTrue, drop, ok_or}
use Rattle.std.specs.Int.{w16, from_le_bytes, from_be_bytes, w32, w64}
use Rattle.std.proofs.lemmas.Nat.{from_le_bytes-to_le_bytes_2, from_be_bytes-to_be_bytes_2, from_le_bytes-to_le_bytes_4, from_be_bytes-to_be_bytes_4, from_le_bytes-to_le_bytes_8, from_be_bytes-to_be_bytes_8, le_bytes_2, be_bytes_2, le_bytes_4, be_bytes_4, le_bytes_8, be_bytes_8}
use Rattle.std.proofs.lemmas.Int.{ints}
use Rattle.std.specs.List.{AllByRecursion, take_while}
use Rattle.std.specs.Char.{is_ascii_digit}
use Rattle.std.proofs.lemmas.List.{drop_more}
use Rattle.pybuf_lemmas.proofs.Lists.{IsBytes, eight_items}
use Rattle.pybuf_lemmas.proofs.Numbers.{below_zero}
use Rattle.pybuf_value.specs.Choosing.{◌>>=◌}
use Rattle.pybuf_struct.specs.Formats.{Format, fields_in_row, fields_of_code, field_count_of, CountedCode, code_after, allowed_code, each_code, counted_code, count_of, codes_in, parts_of, Code, layout_from, code_at, offset_after}
use Rattle.pybuf_struct.specs.Values.{values, unpacked_values}
use Rattle.pybuf_struct.specs.Digits.{is_width, little_endian, big_endian, unsigned_number, signed_as}
use Rattle.pybuf_struct.specs.Packing.{digits_of, is_in_range, complement_of}
use Rattle.pybuf_struct.specs.declared.table.FormatType.{FormatType}
use Rattle.pybuf_struct.specs.declared.table.Endianness.{Endianness}
use Rattle.pybuf_struct.specs.Table.{is_allowed, code_of}
use Rattle.pybuf_struct.specs.FormatTexts.{item_of_code, end_after}
use Rattle.pybuf_struct.specs.declared.table.FormatType.TheVariants as code
use Rattle.pybuf_value.specs.declared.faults.Fault.TheVariants as fault

pub unpacked_at : (f : Format) (bytes : List ℕ) → length bytes ≡ f.size → unpacked_values f bytes ≡ Ok (values f bytes)
unpacked_at f bytes long = rw (eq-eqb (length bytes) f.size long) refl

pub past_widths : (n : ℕ) → 8 < n → is_width n ≡ false
past_widths n lt = grind (arith, nat_tests)

pub by_width : (P : ℕ → Type 0) → P 1 → P 2 → P 4 → P 8 → (n : ℕ) → IsTrue (is_width n) → P n
by_width P one two four eight zero h = absurd cc
by_width P one two four eight (suc zero) h = one
by_width P one two four eight (suc (suc zero)) h = two
by_width P one two four eight (suc (suc (suc zero))) h = absurd cc
by_width P one two four eight (suc (suc (suc (suc zero)))) h = four
by_width P one two four eight (suc (suc (suc (suc (suc zero))))) h = absurd cc
by_width P one two four eight (suc (suc (suc (suc (suc (suc zero)))))) h = absurd cc
by_width P one two four eight (suc (suc (suc (suc (suc (suc (suc zero))))))) h = absurd cc
by_width P one two four eight (suc (suc (suc (suc (suc (suc (suc (suc zero)))))))) h = eight
by_width P one two four eight (suc (suc (suc (suc (suc (suc (suc (suc (suc n))))))))) h = absurd (let e : is_width (suc (suc (suc (suc (suc (suc (suc (suc (suc n))))))))) ≡ false = past_widths (suc (suc (suc (suc (suc (suc (suc (suc (suc n))))))))) (omega arith) in cc)

pub low_first_two : (a b : ℕ) → from_le_bytes w16 (a ∷ b ∷ []) ≡ little_endian 0 (a ∷ b ∷ [])
low_first_two a b = omega arith

pub high_first_two : (a b : ℕ) → from_be_bytes w16 (a ∷ b ∷ []) ≡ big_endian (a ∷ b ∷ [])
high_first_two a b = omega arith

pub low_first_four : (a b c d : ℕ) → from_le_bytes w32 (a ∷ b ∷ c ∷ d ∷ []) ≡ little_endian 0 (a ∷ b ∷ c ∷ d ∷ [])
low_first_four a b c d = omega arith

pub high_first_four : (a b c d : ℕ) → from_be_bytes w32 (a ∷ b ∷ c ∷ d ∷ []) ≡ big_endian (a ∷ b ∷ c ∷ d ∷ [])
high_first_four a b c d = omega arith

abbrev pub DigitsAgain : ℕ → Type 0
DigitsAgain size = (big : Bool) (n : ℕ) → n < 256 ^ size → unsigned_number big (digits_of big size n) ≡ n

pub again_one : DigitsAgain 1
again_one true n lt = omega arith
again_one false n lt = omega arith

pub again_two : DigitsAgain 2
again_two true n lt = sym (high_first_two _ _) ∙ from_be_bytes-to_be_bytes_2 n lt
again_two false n lt = sym (low_first_two _ _) ∙ from_le_bytes-to_le_bytes_2 n lt

pub again_four : DigitsAgain 4
again_four true n lt = sym (high_first_four _ _ _ _) ∙ from_be_bytes-to_be_bytes_4 n lt
again_four false n lt = sym (low_first_four _ _ _ _) ∙ from_le_bytes-to_le_bytes_4 n lt

pub high_first_eight : (a b c d e f g h : ℕ) → from_be_bytes w64 (a ∷ b ∷ c ∷ d ∷ e ∷ f ∷ g ∷ h ∷ []) ≡ big_endian (a ∷ b ∷ c ∷ d ∷ e ∷ f ∷ g ∷ h ∷ [])
high_first_eight a b c d e f g h = omega arith

pub low_first_eight : (a b c d e f g h : ℕ) → from_le_bytes w64 (a ∷ b ∷ c ∷ d ∷ e ∷ f ∷ g ∷ h ∷ []) ≡ little_endian 0 (a ∷ b ∷ c ∷ d ∷ e ∷ f ∷ g ∷ h ∷ [])
low_first_eight a b c d e f g h = omega arith

pub again_eight : DigitsAgain 8
again_eight true n lt = sym (high_first_eight _ _ _ _ _ _ _ _) ∙ from_be_bytes-to_be_bytes_8 n lt
again_eight false n lt = sym (low_first_eight _ _ _ _ _ _ _ _) ∙ from_le_bytes-to_le_bytes_8 n lt

pub digits_again : (size : ℕ) → IsTrue (is_width size) → (big : Bool) (n : ℕ) → n < 256 ^ size → unsigned_number big (digits_of big size n) ≡ n
digits_again size w = by_width DigitsAgain again_one again_two again_four again_eight size w

abbrev pub Halved : ℕ → Type 0
Halved size = (h : ℕ) × (256 ^ size ≡ h + h)

pub halved : (size : ℕ) → IsTrue (is_width size) → Halved size
halved size w = by_width Halved (2 ^ 7, refl) (2 ^ 15, refl) (2 ^ 31, refl) (2 ^ 63, refl) size w

pub complement_fits : (size : ℕ) (signed : Bool) (n : ℤ) → is_in_range signed size n ≡ true → complement_of size n < 256 ^ size
complement_fits size true (pos n) h = omega (arith, ltb-true _ _ h)
complement_fits size true (negsuc n) h = omega (arith, ltb-true _ _ h)
complement_fits size false (pos n) h = ltb-true _ _ h
complement_fits size false (negsuc n) h = absurd cc

pub signed_again : (size : ℕ) → Halved size → (signed : Bool) (n : ℤ) → is_in_range signed size n ≡ true → signed_as signed size (complement_of size n) ≡ n
signed_again size half true (pos n) h = rw (lt-leb _ _ (ltb-true _ _ h)) refl
signed_again size half true (negsuc n) h =
    let low : 2 * n < 256 ^ size = ltb-true _ _ h in
    let top : leb (256 ^ size) (2 * (256 ^ size - suc n)) ≡ true = le-leb _ _ (omega (arith, half.1)) in
    rw top (omega (arith, ints, half.1))
signed_again size half false (pos n) h = refl
signed_again size half false (negsuc n) h = absurd cc

abbrev pub ReadsBack : ℕ → Type 0
ReadsBack size = (big : Bool) (bytes : List ℕ) → length bytes ≡ size → IsBytes bytes → (digits_of big size (unsigned_number big bytes) ≡ bytes) × (unsigned_number big bytes < 256 ^ size)

pub back_one : ReadsBack 1
back_one true (a ∷ []) len fits = (ap (λ (x : ℕ). x ∷ []) (omega (arith, fits 0)), omega (arith, fits 0))
back_one false (a ∷ []) len fits = (ap (λ (x : ℕ). x ∷ []) (omega (arith, fits 0)), omega (arith, fits 0))
back_one big [] len fits = absurd (omega arith)
back_one big (a ∷ b ∷ bytes) len fits = absurd (omega arith)

pub back_two : ReadsBack 2
back_two true (a ∷ b ∷ []) len fits = (be_bytes_2 (a ∷ b ∷ []) _ refl fits (sym (high_first_two a b)), omega (arith, fits 0, fits 1))
back_two false (a ∷ b ∷ []) len fits = (le_bytes_2 (a ∷ b ∷ []) _ refl fits (sym (low_first_two a b)), omega (arith, fits 0, fits 1))
back_two big [] len fits = absurd (omega arith)
back_two big (a ∷ []) len fits = absurd (omega arith)
back_two big (a ∷ b ∷ c ∷ bytes) len fits = absurd (omega arith)

pub back_four : ReadsBack 4
back_four true (a ∷ b ∷ c ∷ d ∷ []) len fits = (be_bytes_4 (a ∷ b ∷ c ∷ d ∷ []) _ refl fits (sym (high_first_four a b c d)), omega (arith, fits 0, fits 1, fits 2, fits 3))
back_four false (a ∷ b ∷ c ∷ d ∷ []) len fits = (le_bytes_4 (a ∷ b ∷ c ∷ d ∷ []) _ refl fits (sym (low_first_four a b c d)), omega (arith, fits 0, fits 1, fits 2, fits 3))
back_four big [] len fits = absurd (omega arith)
back_four big (a ∷ []) len fits = absurd (omega arith)
back_four big (a ∷ b ∷ []) len fits = absurd (omega arith)
back_four big (a ∷ b ∷ c ∷ []) len fits = absurd (omega arith)
back_four big (a ∷ b ∷ c ∷ d ∷ e ∷ bytes) len fits = absurd (omega arith)

pub back_eight : ReadsBack 8
back_eight big bytes len fits = rw (eight_items bytes len) (eight big (get_or bytes 0 0) (get_or bytes 1 0) (get_or bytes 2 0) (get_or bytes 3 0) (get_or bytes 4 0) (get_or bytes 5 0) (get_or bytes 6 0) (get_or bytes 7 0) (λ i. subst (λ (l : List ℕ). get_or l i 0 < 256) (eight_items bytes len) (fits i)))
  where
    eight : (big : Bool) (a b c d e f g h : ℕ) → IsBytes (a ∷ b ∷ c ∷ d ∷ e ∷ f ∷ g ∷ h ∷ [])
        → (digits_of big 8 (unsigned_number big (a ∷ b ∷ c ∷ d ∷ e ∷ f ∷ g ∷ h ∷ [])) ≡ a ∷ b ∷ c ∷ d ∷ e ∷ f ∷ g ∷ h ∷ []) × (unsigned_number big (a ∷ b ∷ c ∷ d ∷ e ∷ f ∷ g ∷ h ∷ []) < 256 ^ 8)
    eight true a b c d e f g h fits = (be_bytes_8 (a ∷ b ∷ c ∷ d ∷ e ∷ f ∷ g ∷ h ∷ []) _ refl fits (sym (high_first_eight a b c d e f g h)), omega (arith, fits 0, fits 1, fits 2, fits 3, fits 4, fits 5, fits 6, fits 7))
    eight false a b c d e f g h fits = (le_bytes_8 (a ∷ b ∷ c ∷ d ∷ e ∷ f ∷ g ∷ h ∷ []) _ refl fits (sym (low_first_eight a b c d e f g h)), omega (arith, fits 0, fits 1, fits 2, fits 3, fits 4, fits 5, fits 6, fits 7))

pub reads_back : (size : ℕ) → IsTrue (is_width size) → (big : Bool) (bytes : List ℕ) → length bytes ≡ size → IsBytes bytes → (digits_of big size (unsigned_number big bytes) ≡ bytes) × (unsigned_number big bytes < 256 ^ size)
reads_back size w = by_width ReadsBack back_one back_two back_four back_eight size w

pub signed_back_by : (size n : ℕ) → n < 256 ^ size → (top : Bool) → leb (256 ^ size) (2 * n) ≡ top
    → (is_in_range true size (signed_as true size n) ≡ true) × (complement_of size (signed_as true size n) ≡ n)
signed_back_by size n lt true e =
    let high : 256 ^ size ≤ 2 * n = leb-true _ _ e in
    let z : signed_as true size n ≡ negsuc (256 ^ size - suc n) = rw e (below_zero size n lt) in
    rw z (lt-ltb _ _ (omega arith), omega arith)
signed_back_by size n lt false e =
    let low : 2 * n < 256 ^ size = leb-false _ _ e in
    let z : signed_as true size n ≡ pos n = rw e refl in
    rw z (lt-ltb _ _ low, refl)

pub signed_back : (size : ℕ) → Halved size → (signed : Bool) (n : ℕ) → n < 256 ^ size
    → (is_in_range signed size (signed_as signed size n) ≡ true) × (complement_of size (signed_as signed size n) ≡ n)
signed_back size half false n lt = (lt-ltb _ _ lt, refl)
signed_back size half true n lt = signed_back_by size n lt (leb (256 ^ size) (2 * n)) refl

pub length-fields_in_row : (c : FormatType) (size offset n : ℕ) → length (fields_in_row c size offset n) ≡ n
length-fields_in_row c size offset zero = refl
length-fields_in_row c size offset (suc n) = ap suc (length-fields_in_row c size (offset + size) n)

pub length-fields_of_code : (c : FormatType) (size offset n : ℕ) → length (fields_of_code c size offset n) ≡ field_count_of c n
length-fields_of_code code.Pad size offset n = refl
length-fields_of_code code.Str size offset n = refl
length-fields_of_code code.Pascal size offset n = refl
length-fields_of_code c size offset n = length-fields_in_row c size offset n

abbrev pub some : {A : Type 0} → A → Option A
some x = Some x

pub allowed_if : (o : Endianness) (c d : FormatType) (b : Bool) → is_allowed o c ≡ b → cond b (Some c) None ≡ some d → is_allowed o d ≡ true
allowed_if o c d true allowed is = let same : c ≡ d = cc in subst (λ (e : FormatType). is_allowed o e ≡ true) same allowed
allowed_if o c d false allowed is = absurd cc

pub allowed_some : (o : Endianness) (found : Option FormatType) (d : FormatType) → (found >>= λ c. cond (is_allowed o c) (Some c) None) ≡ some d → is_allowed o d ≡ true
allowed_some o None d is = absurd cc
allowed_some o (Some c) d is = allowed_if o c d (is_allowed o c) refl is

pub counted_some : (o : Endianness) (count : ℕ) (found : Option FormatType) (item : CountedCode) → ((d : FormatType) → found ≡ some d → is_allowed o d ≡ true)
    → (found >>= λ c. Some (record { repeat = count; code = c })) ≡ some item → is_allowed o item.code ≡ true
counted_some o count None item allowed is = absurd cc
counted_some o count (Some c) item allowed is =
    let same : record { repeat = count; code = c } ≡ item = cc in
    subst (λ (i : CountedCode). is_allowed o i.code ≡ true) same (allowed c refl)

pub after_allowed : (o : Endianness) (count : ℕ) (rest : List ℕ) (item : CountedCode) → code_after o count rest ≡ some item → is_allowed o item.code ≡ true
after_allowed o count [] item is = absurd cc
after_allowed o count (b ∷ []) item is = counted_some o count (allowed_code o b) item (λ d e. allowed_some o (code_of b) d e) is
after_allowed o count (b ∷ c ∷ rest) item is = absurd cc

abbrev pub AreAllowed : Endianness → List CountedCode → Type 0
AreAllowed o items = AllByRecursion (λ item. is_allowed o item.code ≡ true) items

abbrev pub onto : CountedCode → List CountedCode → Option (List CountedCode)
onto item others = Some (item ∷ others)

pub each_by : (o : Endianness) (first : Option CountedCode) (others : Option (List CountedCode)) (items : List CountedCode)
    → ((item : CountedCode) → first ≡ some item → is_allowed o item.code ≡ true) → ((rest : List CountedCode) → others ≡ some rest → AreAllowed o rest)
    → (first >>= λ item. others >>= onto item) ≡ some items → AreAllowed o items
each_by o None others items one all is = absurd cc
each_by o (Some item) None items one all is = absurd cc
each_by o (Some item) (Some rest) items one all is =
    let same : item ∷ rest ≡ items = cc in
    subst (AreAllowed o) same (one item refl, all rest refl)

pub each_allowed : (o : Endianness) (parts : List (List ℕ)) (items : List CountedCode) → each_code o parts ≡ some items → AreAllowed o items
each_allowed o [] items is = let nothing : List CountedCode = [] in let same : nothing ≡ items = cc in subst (AreAllowed o) same tt
each_allowed o (part ∷ parts) items is =
    each_by o (counted_code o part) (each_code o parts) items
    (λ item e. after_allowed o (count_of (take_while is_ascii_digit part)) (drop (length (take_while is_ascii_digit part)) part) item e)
    (λ rest e. each_allowed o parts rest e) is

pub read_allowed : (o : Endianness) (text : List ℕ) (items : List CountedCode) → codes_in o text ≡ some items → AreAllowed o items
unfolding codes_in
read_allowed o text items is = each_allowed o (parts_of text) items is

abbrev pub CodesAllowed : Endianness → List Code → Type 0
CodesAllowed o codes = AllByRecursion (λ c. is_allowed o c.code ≡ true) codes

abbrev pub with_code : Code → List Code × ℕ → Option (List Code × ℕ)
with_code c l = Some (c ∷ l.0, l.1)

pub codes_by : (o : Endianness) (c : Code) (r : Bool) (rest : Option (List Code × ℕ)) (l : List Code × ℕ) → is_allowed o c.code ≡ true → ((k : List Code × ℕ) → rest ≡ some k → CodesAllowed o k.0) → cond r (rest >>= with_code c) None ≡ some l → CodesAllowed o l.0
codes_by o c false rest l one all is = absurd cc
codes_by o c true None l one all is = absurd cc
codes_by o c true (Some k) l one all is =
    let same : (c ∷ k.0, k.1) ≡ l = cc in
    subst (λ (m : List Code × ℕ). CodesAllowed o m.0) same (one, all k refl)

pub codes_allowed : (o : Endianness) (offset : ℕ) (items : List CountedCode) (l : List Code × ℕ) → AreAllowed o items → layout_from o offset items ≡ some l → CodesAllowed o l.0
unfolding layout_from
codes_allowed o offset [] l are is =
    let nothing : List Code × ℕ = ([], offset) in
    let same : nothing ≡ l = cc in
    subst (λ (m : List Code × ℕ). CodesAllowed o m.0) same tt
codes_allowed o offset (item ∷ items) l are is =
    codes_by o (code_at o offset item) (ltb (offset_after o offset (code_at o offset item)) (2 ^ 63)) (layout_from o (offset_after o offset (code_at o offset item)) items) l are.0
    (λ k e. codes_allowed o (offset_after o offset (code_at o offset item)) items k are.1 e) is

abbrev pub Again : Endianness → ℕ → List CountedCode → List Code × ℕ → Type 0
Again o offset items l = (map item_of_code l.0 ≡ items) × (l.1 ≡ end_after o offset items)

pub again_by : (o : Endianness) (offset : ℕ) (item : CountedCode) (items : List CountedCode) (r : Bool) (rest : Option (List Code × ℕ)) (l : List Code × ℕ)
    → ((k : List Code × ℕ) → rest ≡ some k → Again o (offset_after o offset (code_at o offset item)) items k) → cond r (rest >>= with_code (code_at o offset item)) None ≡ some l → Again o offset (item ∷ items) l
again_by o offset item items false rest l after is = absurd cc
again_by o offset item items true None l after is = absurd cc
again_by o offset item items true (Some k) l after is =
    let same : (code_at o offset item ∷ k.0, k.1) ≡ l = cc in
    let left = after k refl in
    subst (Again o offset (item ∷ items)) same (ap (λ (others : List CountedCode). item ∷ others) left.0, left.1)

pub laid_again : (o : Endianness) (offset : ℕ) (items : List CountedCode) (l : List Code × ℕ) → layout_from o offset items ≡ some l → Again o offset items l
unfolding layout_from
laid_again o offset [] l is =
    let nothing : List Code × ℕ = ([], offset) in
    let same : nothing ≡ l = cc in
    subst (Again o offset []) same (refl, refl)
laid_again o offset (item ∷ items) l is =
    again_by o offset item items (ltb (offset_after o offset (code_at o offset item)) (2 ^ 63)) (layout_from o (offset_after o offset (code_at o offset item)) items) l
    (λ k e. laid_again o (offset_after o offset (code_at o offset item)) items k e) is

pub next_is : (codes : List Code) (i : ℕ) (c : Code) → i < length codes → c ≡ get_or codes i c → drop i codes ≡ c ∷ drop (i + 1) codes
next_is codes i c less is = drop_more codes i c less ∙ ap (λ (d : Code). d ∷ drop (i + 1) codes) (sym is)

pub ok_or_some : (o : Option Format) (f : Format) → ok_or o fault.Struct ≡ Ok f → o ≡ Some f
ok_or_some None f is = absurd cc
ok_or_some (Some g) f is = ap some (let same : g ≡ f = cc in same)
