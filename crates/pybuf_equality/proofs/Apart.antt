-- Items that are equal exactly if their bytes are the same.
use Rattle.std.proofs.Common.{◌≡◌, ℕ, zero, suc, ◌+◌, ◌<◌, ◌≤◌, pos, Bool, true, false, true≢false, List, [], ◌∷◌, ◌++◌, length, map, ap, ap₂, sym, ◌∙◌, refl, subst, arith, get_or, Fits, w8}
use Rattle.std.specs.Prelude.{All, ◌==◌, ◌&&◌, bytes_eq, Result, Ok}
use Rattle.std.specs.List.{list_all, AllByRecursion}
use Rattle.std.specs.Cmp.Lexicographic.{pointwise}
use Rattle.std.proofs.lemmas.Bool.{eqb-true}
use Rattle.std.proofs.lemmas.Bool.Decides.{Decides-int_eq}
use Rattle.std.proofs.lemmas.Slice.Eq.{bytes_eq-Decides}
use Rattle.std.proofs.lemmas.List.Elements.{All-head, All-tail, All-take, All-drop, All-from_get_or}
use Rattle.pybuf_lemmas.proofs.Booleans.{first_of_both, second_of_both}
use Rattle.pybuf_struct.specs.Facts.{unpacked_at}
use Rattle.pybuf_desc.specs.Facts.{whole_bytes}
use Rattle.pybuf_value.specs.declared.faults.Fault.{Fault}
use Rattle.pybuf_value.specs.declared.values.Scalar.{Scalar}
use Rattle.pybuf_value.specs.declared.values.Scalar.TheVariants as scalar
use Rattle.pybuf_value.specs.declared.values.Item.{Item}
use Rattle.pybuf_value.specs.declared.values.Item.TheVariants as item
use Rattle.pybuf_value.specs.Equality.{same_scalar, same_item}
use Rattle.pybuf_value.specs.Laws.{ItemEqualityIsEquivalence}
use Rattle.pybuf_struct.specs.declared.table.Endianness.{Endianness}
use Rattle.pybuf_struct.specs.declared.table.FormatType.{FormatType}
use Rattle.pybuf_struct.specs.declared.table.FormatType.TheVariants as code
use Rattle.pybuf_struct.specs.Formats.{Code, Format, Field, format_of, fields, fields_from, fields_of_code, fields_in_row, offset_after}
use Rattle.pybuf_struct.specs.Digits.{number}
use Rattle.pybuf_struct.specs.Table.{size_of}
use Rattle.pybuf_struct.specs.Values.{value_of, value_in, values, unpacked_values, item_of}
use Rattle.pybuf_struct.specs.Packing.{packed_bytes}
use Rattle.pybuf_struct.specs.Laws.{is_exact, AreExact, WritesWhatWasRead}
use Rattle.pybuf_desc.specs.Items.{bytes_at, bytes_of_items, content_of_layout}
use Rattle.pybuf_desc.specs.Layouts.{Layout, LiesInside, HasItemsOfItsShape, product}
use Rattle.pybuf_memoryview.specs.Items.{item_by, item_of_values}
use Rattle.pybuf_memoryview.specs.Readers.{read_by, IsSpelledBy}
use Rattle.pybuf_memoryview.specs.Lists.{items_of_layout}
use Rattle.pybuf_memoryview.specs.declared.readers.ItemReader.{ItemReader}
use Rattle.pybuf_memoryview.specs.declared.readers.ItemReader.TheVariants as reader
use Rattle.pybuf_equality.specs.Equality.{same_items}
use Rattle.pybuf_equality.specs.Exact.{is_exact_code, is_exact_format, is_exact_reader}
use Rattle.pybuf_equality.specs.Reading.{ReadsAs}
use Rattle.pybuf_equality.proofs.Bools.{alike, bytes_both}

-- ---- values of exact codes are numbers and bytes

abbrev pub IsPlain : Scalar → Type 0
IsPlain (scalar.Int n) = Unit {0}
IsPlain (scalar.Bytes bytes) = Unit {0}
IsPlain _ = ⊥

plain_value : (o : Endianness) (c : FormatType) (bytes : List ℕ) → is_exact c ≡ true → IsPlain (value_of o c bytes)
plain_value o code.Pad bytes e = absurd (true≢false (sym e))
plain_value o code.Bool bytes e = absurd (true≢false (sym e))
plain_value o code.Pascal bytes e = absurd (true≢false (sym e))
plain_value o code.Char bytes e = tt
plain_value o code.Str bytes e = tt
plain_value o _ bytes e = tt

abbrev IsExactField : Field → Type 0
IsExactField f = is_exact f.code ≡ true

both_fields : (xs ys : List Field) → AllByRecursion IsExactField xs → AllByRecursion IsExactField ys → AllByRecursion IsExactField (xs ++ ys)
both_fields [] ys p q = q
both_fields (x ∷ xs) ys p q = (p.0, both_fields xs ys p.1 q)

row_exact : (c : FormatType) (size offset n : ℕ) → is_exact c ≡ true → AllByRecursion IsExactField (fields_in_row c size offset n)
row_exact c size offset zero e = tt
row_exact c size offset (suc n) e = (e, row_exact c size (offset + size) n e)

code_exact : (c : FormatType) (size offset n : ℕ) → is_exact c ≡ true → AllByRecursion IsExactField (fields_of_code c size offset n)
code_exact code.Pad size offset n e = tt
code_exact code.Str size offset n e = (refl, tt)
code_exact code.Pascal size offset n e = (e, tt)
code_exact code.SByte size offset n e = row_exact code.SByte size offset n e
code_exact code.UByte size offset n e = row_exact code.UByte size offset n e
code_exact code.Char size offset n e = row_exact code.Char size offset n e
code_exact code.Bool size offset n e = row_exact code.Bool size offset n e
code_exact code.Short size offset n e = row_exact code.Short size offset n e
code_exact code.UShort size offset n e = row_exact code.UShort size offset n e
code_exact code.Int size offset n e = row_exact code.Int size offset n e
code_exact code.UInt size offset n e = row_exact code.UInt size offset n e
code_exact code.Long size offset n e = row_exact code.Long size offset n e
code_exact code.ULong size offset n e = row_exact code.ULong size offset n e
code_exact code.LongLong size offset n e = row_exact code.LongLong size offset n e
code_exact code.ULongLong size offset n e = row_exact code.ULongLong size offset n e
code_exact code.SSizeT size offset n e = row_exact code.SSizeT size offset n e
code_exact code.SizeT size offset n e = row_exact code.SizeT size offset n e
code_exact code.WideChar size offset n e = row_exact code.WideChar size offset n e

all_exact : (o : Endianness) (offset : ℕ) (codes : List Code) → list_all is_exact_code codes ≡ true → AllByRecursion IsExactField (fields_from o offset codes)
all_exact o offset [] e = tt
all_exact o offset (c ∷ codes) e =
    both_fields (fields_of_code c.code (size_of o c.code) (offset + c.pre_padding) c.repeat) (fields_from o (offset_after o offset c) codes)
    (code_exact c.code (size_of o c.code) (offset + c.pre_padding) c.repeat (second_of_both (c.pre_padding == 0) (is_exact c.code) (first_of_both (is_exact_code c) (list_all is_exact_code codes) e)))
    (all_exact o (offset_after o offset c) codes (second_of_both (is_exact_code c) (list_all is_exact_code codes) e))

plain_values : (o : Endianness) (bytes : List ℕ) (fs : List Field) → AllByRecursion IsExactField fs → AllByRecursion IsPlain (map (value_in o bytes) fs)
plain_values o bytes [] e = tt
plain_values o bytes (f ∷ fs) e = (plain_value o f.code _ e.0, plain_values o bytes fs e.1)

exact_codes : (codes : List Code) → list_all is_exact_code codes ≡ true → AreExact codes
exact_codes [] e = tt
exact_codes (c ∷ codes) e =
    let here = first_of_both (is_exact_code c) (list_all is_exact_code codes) e in
    let unpadded : c.pre_padding ≡ 0 = eqb-true c.pre_padding 0 (first_of_both (c.pre_padding == 0) (is_exact c.code) here) in
    ((unpadded, second_of_both (c.pre_padding == 0) (is_exact c.code) here), exact_codes codes (second_of_both (is_exact_code c) (list_all is_exact_code codes) e))

-- ---- equal items are the same

same_plain : (x y : Scalar) → IsPlain x → IsPlain y → same_scalar x y ≡ true → x ≡ y
same_plain (scalar.Int m) (scalar.Int n) p q e = ap (λ z. scalar.Int z) ((Decides-int_eq m n).0 e)
same_plain (scalar.Bytes s) (scalar.Bytes t) p q e = ap (λ z. scalar.Bytes z) ((bytes_eq-Decides s t).0 e)
same_plain (scalar.Int m) (scalar.Bytes t) p q e = absurd (true≢false (sym e))
same_plain (scalar.Bytes s) (scalar.Int n) p q e = absurd (true≢false (sym e))
same_plain (scalar.Int m) _ p q e = absurd q
same_plain (scalar.Bytes s) _ p q e = absurd q
same_plain _ y p q e = absurd p

same_parts : (xs ys : List Scalar) → AllByRecursion IsPlain xs → AllByRecursion IsPlain ys → pointwise same_scalar xs ys ≡ true → xs ≡ ys
same_parts [] [] p q e = refl
same_parts [] (y ∷ ys) p q e = absurd (true≢false (sym e))
same_parts (x ∷ xs) [] p q e = absurd (true≢false (sym e))
same_parts (x ∷ xs) (y ∷ ys) p q e =
    ap₂ (λ (z : Scalar) (zs : List Scalar). z ∷ zs) (same_plain x y p.0 q.0 (first_of_both (same_scalar x y) (pointwise same_scalar xs ys) e))
    (same_parts xs ys p.1 q.1 (second_of_both (same_scalar x y) (pointwise same_scalar xs ys) e))

same_values : (xs ys : List Scalar) → AllByRecursion IsPlain xs → AllByRecursion IsPlain ys → same_item (item_of xs) (item_of ys) ≡ true → xs ≡ ys
same_values [] [] p q e = refl
same_values [] (y ∷ []) p q e = absurd (true≢false (sym e))
same_values [] (y ∷ (z ∷ ys)) p q e = absurd (true≢false (sym e))
same_values (x ∷ []) [] p q e = absurd (true≢false (sym e))
same_values (x ∷ []) (y ∷ []) p q e = ap (λ (z : Scalar). z ∷ []) (same_plain x y p.0 q.0 e)
same_values (x ∷ []) (y ∷ (z ∷ ys)) p q e = absurd (true≢false (sym e))
same_values (x ∷ (w ∷ xs)) [] p q e = absurd (true≢false (sym e))
same_values (x ∷ (w ∷ xs)) (y ∷ []) p q e = absurd (true≢false (sym e))
same_values (x ∷ (w ∷ xs)) (y ∷ (z ∷ ys)) p q e = same_parts (x ∷ (w ∷ xs)) (y ∷ (z ∷ ys)) p q e

-- ---- readers

abbrev pub AreBytes : List ℕ → Type 0
AreBytes xs = All (λ b. b < 256) xs

ok_same : (xs ys : List ℕ) (r : Result (List ℕ) Fault) → r ≡ Ok xs → r ≡ Ok ys → xs ≡ ys
ok_same xs ys r p q = cc

fields_apart : WritesWhatWasRead → (text : List ℕ) (f : Format) (size : ℕ) (xs ys : List ℕ) → format_of text ≡ Ok f → is_exact_format f size ≡ true → AreBytes xs → AreBytes ys → length xs ≡ size → length ys ≡ size
    → same_item (item_of_values (unpacked_values f xs)) (item_of_values (unpacked_values f ys)) ≡ true → xs ≡ ys
fields_apart law text f size xs ys spelled exact small others_small long other_long e =
    let sized : f.size ≡ size = eqb-true f.size size (first_of_both (f.size == size) (list_all is_exact_code f.codes) exact) in
    let codes = second_of_both (f.size == size) (list_all is_exact_code f.codes) exact in
    let read = unpacked_at f xs (long ∙ sym sized) in
    let other_read = unpacked_at f ys (other_long ∙ sym sized) in
    let plain = all_exact f.order 0 f.codes codes in
    let e_values : same_item (item_of (values f xs)) (item_of (values f ys)) ≡ true =
    ap₂ (λ (r s : Result (List Scalar) Fault). same_item (item_of_values r) (item_of_values s)) (sym read) (sym other_read) ∙ e in
    let same : values f xs ≡ values f ys = same_values (values f xs) (values f ys) (plain_values f.order xs (fields f) plain) (plain_values f.order ys (fields f) plain) e_values in
    let exact_list = exact_codes f.codes codes in
    ok_same xs ys (packed_bytes f [] (values f xs)) (law text f [] (values f xs) xs spelled exact_list small read)
    (ap (packed_bytes f []) same ∙ law text f [] (values f ys) ys spelled exact_list others_small other_read)

byte_apart : (xs ys : List ℕ) → length xs ≡ 1 → length ys ≡ 1 → same_item (read_by reader.Byte xs) (read_by reader.Byte ys) ≡ true → xs ≡ ys
byte_apart [] ys long other_long e = absurd (omega (arith, long))
byte_apart (x ∷ []) [] long other_long e = absurd (omega (arith, other_long))
byte_apart (x ∷ []) (y ∷ []) long other_long e =
    let same : pos x ≡ pos y = (Decides-int_eq (pos x) (pos y)).0 e in
    let number : x ≡ y = cc in
    ap (λ (z : ℕ). z ∷ []) number
byte_apart (x ∷ []) (y ∷ (z ∷ ys)) long other_long e = absurd (omega (arith, other_long))
byte_apart (x ∷ (w ∷ xs)) ys long other_long e = absurd (omega (arith, long))

reader_apart : WritesWhatWasRead → (r : ItemReader) (text : List ℕ) (size : ℕ) (xs ys : List ℕ) → IsSpelledBy text r → is_exact_reader r size ≡ true → AreBytes xs → AreBytes ys → length xs ≡ size → length ys ≡ size
    → same_item (read_by r xs) (read_by r ys) ≡ true → xs ≡ ys
reader_apart law reader.Byte text size xs ys spelled exact small others_small long other_long e =
    let one : size ≡ 1 = eqb-true size 1 exact in byte_apart xs ys (long ∙ one) (other_long ∙ one) e
reader_apart law (reader.Fields f) text size xs ys spelled exact small others_small long other_long e = fields_apart law text f size xs ys spelled exact small others_small long other_long e
reader_apart law reader.Nothing text size xs ys spelled exact small others_small long other_long e = absurd (true≢false (sym exact))

-- Items are equal exactly if their bytes are the same.
pub items_as_bytes : ItemEqualityIsEquivalence → WritesWhatWasRead → (r : ItemReader) (text : List ℕ) (size : ℕ) (xs ys : List ℕ) → IsSpelledBy text r → ReadsAs r text size → is_exact_reader r size ≡ true
    → AreBytes xs → AreBytes ys → length xs ≡ size → length ys ≡ size → same_item (item_by text xs) (item_by text ys) ≡ bytes_eq xs ys
items_as_bytes law writes r text size xs ys spelled reads exact small others_small long other_long =
    alike (same_item (item_by text xs) (item_by text ys)) (bytes_eq xs ys)
    (λ e. (bytes_eq-Decides xs ys).1
    (reader_apart writes r text size xs ys spelled exact small others_small long other_long (ap₂ same_item (reads xs long) (reads ys other_long) ∙ e)))
    (λ e. ap (λ (zs : List ℕ). same_item (item_by text xs) (item_by text zs)) (sym ((bytes_eq-Decides xs ys).0 e)) ∙ law.reflexive (item_by text xs))

-- ---- whole views

abbrev pub items_from : List ℕ → List ℕ → ℕ → List ℕ → List Item
items_from text bytes size starts = map (λ start. item_by text (bytes_at bytes size start)) starts

pub contents_as_bytes : ItemEqualityIsEquivalence → WritesWhatWasRead → (r : ItemReader) (text : List ℕ) (size : ℕ) (bytes other starts others : List ℕ) → IsSpelledBy text r → ReadsAs r text size → is_exact_reader r size ≡ true
    → AreBytes bytes → AreBytes other → length starts ≡ length others → All (λ start. start + size ≤ length bytes) starts → All (λ start. start + size ≤ length other) others
    → same_items (items_from text bytes size starts) (items_from text other size others) ≡ bytes_eq (bytes_of_items bytes size starts) (bytes_of_items other size others)
contents_as_bytes law writes r text size bytes other [] [] spelled reads exact small others_small as_many inside other_inside = refl
contents_as_bytes law writes r text size bytes other [] (o ∷ others) spelled reads exact small others_small as_many inside other_inside = absurd (omega (arith, as_many))
contents_as_bytes law writes r text size bytes other (s ∷ starts) [] spelled reads exact small others_small as_many inside other_inside = absurd (omega (arith, as_many))
contents_as_bytes law writes r text size bytes other (s ∷ starts) (o ∷ others) spelled reads exact small others_small as_many inside other_inside =
    let long = whole_bytes bytes size s (All-head (λ x. x + size ≤ length bytes) s starts inside) in
    let other_long = whole_bytes other size o (All-head (λ x. x + size ≤ length other) o others other_inside) in
    let fewer : length starts ≡ length others = omega (arith, as_many) in
    ap₂ (λ (a b : Bool). a && b)
    (items_as_bytes law writes r text size (bytes_at bytes size s) (bytes_at other size o) spelled reads exact
    (All-take (λ b. b < 256) size _ (All-drop (λ b. b < 256) s bytes small)) (All-take (λ b. b < 256) size _ (All-drop (λ b. b < 256) o other others_small)) long other_long)
    (contents_as_bytes law writes r text size bytes other starts others spelled reads exact small others_small fewer (All-tail (λ x. x + size ≤ length bytes) s starts inside) (All-tail (λ x. x + size ≤ length other) o others other_inside))
    ∙ sym (bytes_both (bytes_at bytes size s) (bytes_of_items bytes size starts) (bytes_at other size o) (bytes_of_items other size others) (long ∙ sym other_long))

-- Two texts read the bytes of an item alike, if these have the item's size.
abbrev pub ReadAlike : List ℕ → List ℕ → ℕ → Type 0
ReadAlike text other_text size = (bytes : List ℕ) → length bytes ≡ size → item_by text bytes ≡ item_by other_text bytes

items_alike : (text other_text : List ℕ) (size : ℕ) (bytes starts : List ℕ) → ReadAlike text other_text size → All (λ start. start + size ≤ length bytes) starts
    → items_from text bytes size starts ≡ items_from other_text bytes size starts
items_alike text other_text size bytes [] alike inside = refl
items_alike text other_text size bytes (s ∷ starts) alike inside =
    ap₂ (λ (item : Item) (items : List Item). item ∷ items) (alike (bytes_at bytes size s) (whole_bytes bytes size s (All-head (λ x. x + size ≤ length bytes) s starts inside)))
    (items_alike text other_text size bytes starts alike (All-tail (λ x. x + size ≤ length bytes) s starts inside))

pub exact_views : ItemEqualityIsEquivalence → WritesWhatWasRead → (r : ItemReader) (bytes other : List ℕ) (layout other_layout : Layout)
    → IsSpelledBy layout.format r → ReadsAs r layout.format layout.itemsize → is_exact_reader r layout.itemsize ≡ true → AreBytes bytes → AreBytes other
    → HasItemsOfItsShape layout → HasItemsOfItsShape other_layout → layout.shape ≡ other_layout.shape → ReadAlike layout.format other_layout.format layout.itemsize → layout.itemsize ≡ other_layout.itemsize
    → LiesInside (length bytes) layout → LiesInside (length other) other_layout
    → bytes_eq (content_of_layout bytes layout) (content_of_layout other other_layout) ≡ same_items (items_of_layout bytes layout) (items_of_layout other other_layout)
exact_views law writes r bytes other layout other_layout spelled reads exact small others_small counted other_counted shape alike size inside other_inside =
    let there : All (λ start. start + layout.itemsize ≤ length other) other_layout.starts = subst (λ (n : ℕ). All (λ start. start + n ≤ length other) other_layout.starts) (sym size) other_inside in
    ap (λ (n : ℕ). bytes_eq (content_of_layout bytes layout) (bytes_of_items other n other_layout.starts)) (sym size)
    ∙ sym (contents_as_bytes law writes r layout.format layout.itemsize bytes other layout.starts other_layout.starts spelled reads exact small others_small
    (counted ∙ ap product shape ∙ sym other_counted) inside there)
    ∙ ap (same_items (items_of_layout bytes layout))
    (items_alike layout.format other_layout.format layout.itemsize other other_layout.starts alike there ∙ ap (λ (n : ℕ). items_from other_layout.format other n other_layout.starts) size)

-- A text reads as itself.
pub one_text : (text other_text : List ℕ) (size : ℕ) → text ≡ other_text → ReadAlike text other_text size
one_text text other_text size same = λ bytes long. ap (λ (t : List ℕ). item_by t bytes) same

-- The reader reads items of this size as numbers, with or without a sign.
abbrev ReadsNumbers : Bool → ItemReader → ℕ → Type 0
ReadsNumbers signed r n = (bytes : List ℕ) → length bytes ≡ n → read_by r bytes ≡ item.One (scalar.Int (number false signed bytes))

pub numbers_alike : (r s : ItemReader) (text other_text : List ℕ) (size other_size n m : ℕ) (signed other_signed : Bool) → ReadsAs r text size → ReadsAs s other_text other_size
    → ReadsNumbers signed r n → ReadsNumbers other_signed s m → n ≡ size → m ≡ other_size → signed ≡ other_signed → n ≡ m → ReadAlike text other_text size
numbers_alike r s text other_text size other_size n m signed other_signed reads other_reads numbers other_numbers one two sign same = λ bytes long.
    let here : length bytes ≡ n = long ∙ sym one in
    let there : length bytes ≡ m = here ∙ same in
    sym (reads bytes long) ∙ numbers bytes here ∙ ap (λ (b : Bool). item.One (scalar.Int (number false b bytes))) sign ∙ sym (other_numbers bytes there) ∙ other_reads bytes (there ∙ two)

-- The bytes that the code has are bytes.
pub are_bytes : (xs : List ℕ) → ((i : ℕ) → Fits w8 (get_or xs i 0)) → AreBytes xs
are_bytes xs fit = All-from_get_or (λ b. b < 256) xs 0 (λ i below. omega (arith, fit i))
