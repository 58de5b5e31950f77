-- No argument is refused with `StructError` or `BufferError`.
use Rattle.std.proofs.Common.{◌≡◌, ℕ, zero, suc, ◌^◌, ◌++◌, List, [], ◌∷◌, Bool, true, false, refl, length}
use Rattle.std.specs.Prelude.{◌==◌, ◌&&◌, ◌||◌, not, ℤ, pos, negsuc, Option, Some, None, Result, Ok, Err, nat_lt, if◌then◌else◌}
use Rattle.std.specs.Option.{ok_or}
use Rattle.std.specs.Str.{is_utf8}
use Rattle.bstr.specs.Owned.{joined}
use Rattle.hex.specs.Hex.{encode_lower, hex_digit_value}
use Rattle.pybuf_value.specs.declared.faults.Fault.{Fault}
use Rattle.pybuf_value.specs.declared.faults.Fault.TheVariants as fault
use Rattle.pybuf_value.specs.declared.snaps.Snap.{Snap}
use Rattle.pybuf_value.specs.declared.snaps.SnapKind.{SnapKind}
use Rattle.pybuf_value.specs.declared.snaps.SnapKind.TheVariants as snap_kind
use Rattle.pybuf_value.specs.declared.values.Scalar.{Scalar}
use Rattle.pybuf_value.specs.declared.values.Scalar.TheVariants as scalar
use Rattle.pybuf_value.specs.declared.values.Value.{Value}
use Rattle.pybuf_value.specs.declared.values.Value.TheVariants as value
use Rattle.pybuf_value.specs.Refusing.{◌>>=◌, unless}
use Rattle.pybuf_value.specs.Numbers as numbers
use Rattle.pybuf_value.specs.Snaps as snaps
use Rattle.pybuf_value.specs.Texts as texts
use Rattle.pybuf_search.specs.Affixes as affixes
use Rattle.pybuf_search.specs.Separators as separators
use Rattle.std.specs.Char.{is_ascii_alphabetic, is_ascii_alphanumeric, is_ascii_digit, is_ascii_lowercase, is_ascii_uppercase}
use Rattle.pybuf_search.specs.Ends.{without_prefix, without_suffix}
use Rattle.pybuf_search.specs.Places.{first_place, last_place}
use Rattle.pybuf_letters.specs.Cases.{lower, upper, swapcase, capitalize, title}
use Rattle.pybuf_letters.specs.Classes.{all_of, all_in_case, is_blank, is_title}
use Rattle.pybuf_letters.specs.Strips.{stripped, stripped_left, stripped_right}
use Rattle.pybuf_shaping.specs.Padding.{centered, justified_left, justified_right}
use Rattle.pybuf_shaping.specs.Digits as digits
use Rattle.pybuf_shaping.specs.Replacing as replacing
use Rattle.pybuf_shaping.specs.Arguments as fills
use Rattle.pybuf_shaping.specs.Tables as tables
use Rattle.pybuf_shaping.specs.Tabs as tabs
use Rattle.pybuf_bytes.specs.declared.needles.Needle.{Needle}
use Rattle.pybuf_bytes.specs.declared.needles.Needle.TheVariants as needle
use Rattle.pybuf_bytes.specs.Needles as needles
use Rattle.pybuf_bytes.specs.Options as options
use Rattle.pybuf_bytes.specs.Searching as searching
use Rattle.pybuf_bytes.specs.Shaping as shaping
use Rattle.pybuf_command.specs.declared.methods.MethodName.{MethodName}
use Rattle.pybuf_command.specs.declared.methods.MethodName.TheVariants as name
use Rattle.pybuf_methods.specs.Given as given
use Rattle.pybuf_methods.specs.Plain as plain
use Rattle.pybuf_methods.specs.Sought as sought
use Rattle.pybuf_methods.specs.Shaped as shaped
use Rattle.pybuf_methods.specs.Cut as cut
use Rattle.pybuf_methods.specs.Methods.{method_reply}

abbrev pub is_struct : Fault → Bool
is_struct fault.Struct = true
is_struct _ = false

-- the faults with which only edits are refused
abbrev pub is_of_edits : Fault → Bool
is_of_edits fault.Struct = true
is_of_edits fault.Buffer = true
is_of_edits _ = false

-- The result isn't refused with either of these faults.
abbrev pub Known : {A : Type 0} → Result A Fault → Type 0
Known (Ok x) = Unit {0}
Known (Err f) = is_of_edits f ≡ false

-- The result of an edit isn't refused with `StructError`.
abbrev pub Edited : {A : Type 0} → Result A Fault → Type 0
Edited (Ok x) = Unit {0}
Edited (Err f) = is_struct f ≡ false

not_struct : (f : Fault) → is_of_edits f ≡ false → is_struct f ≡ false
not_struct fault.Struct is = is
not_struct _ is = refl

pub also : {A : Type 0} (r : Result A Fault) → Known r → Edited r
also (Ok x) known = tt
also (Err f) known = not_struct f known

pub edit_bind : {A B : Type 0} (r : Result A Fault) (f : A → Result B Fault) → Edited r → ((a : A) → Edited (f a)) → Edited (r >>= f)
edit_bind (Ok a) f first after = after a
edit_bind (Err g) f first after = first

pub edit_checked : (b : Bool) (f : Fault) → is_struct f ≡ false → Edited (unless b f)
edit_checked true f is = is
edit_checked false f is = tt

pub edit_either : {A : Type 0} (b : Bool) (r s : Result A Fault) → Edited r → Edited s → Edited (if b then r else s)
edit_either true r s this that = this
edit_either false r s this that = that

pub bind : {A B : Type 0} (r : Result A Fault) (f : A → Result B Fault) → Known r → ((a : A) → Known (f a)) → Known (r >>= f)
bind (Ok a) f first after = after a
bind (Err g) f first after = first

pub checked : (b : Bool) (f : Fault) → is_of_edits f ≡ false → Known (unless b f)
checked true f is = is
checked false f is = tt

pub either : {A : Type 0} (b : Bool) (r s : Result A Fault) → Known r → Known s → Known (if b then r else s)
either true r s this that = this
either false r s this that = that

pub some_or : {A : Type 0} (o : Option A) (f : Fault) → is_of_edits f ≡ false → Known (ok_or o f)
some_or (Some x) f is = tt
some_or None f is = is

pub carried : {A B : Type 0} (r : Result A Fault) (f : A → B) → Known r → Known (r >>= λ x. Ok (f x))
carried r f known = bind r (λ x. Ok (f x)) known (λ x. tt)

-- ---- values

pub number_in : (s : Scalar) → Known (numbers.number_in s)
number_in (scalar.Int n) = tt
number_in (scalar.Bool true) = tt
number_in (scalar.Bool false) = tt
number_in _ = refl

pub number_of : (v : Value) → Known (numbers.number_of v)
number_of (value.One s) = number_in s
number_of _ = refl

pub fitted_number : (f : Fault) (n : ℤ) → is_of_edits f ≡ false → Known (numbers.fitted_number f n)
fitted_number f n is = either (numbers.is_word n) (Ok n) (Err f) tt is

pub count_in : (v : Value) → Known (numbers.count_in v)
count_in v = bind (numbers.number_of v) _ (number_of v) (λ n. fitted_number fault.Overflow n refl)

pub count_or : (absent : ℤ) (v : Option Value) → Known (numbers.count_or absent v)
count_or absent None = tt
count_or absent (Some v) = count_in v

pub byte_of : (n : ℤ) → Known (numbers.byte_of n)
byte_of (pos n) = either (nat_lt n 256) (Ok n) (Err fault.Value) tt refl
byte_of (negsuc n) = refl

pub byte_in : (v : Value) → Known (numbers.byte_in v)
byte_in v = bind (numbers.number_of v) _ (number_of v) (λ n. byte_of n)

pub text_in : (v : Value) → Known (texts.text_in v)
text_in (value.One (scalar.Text text)) = tt
text_in _ = refl

pub fitted : (bytes : List ℕ) → Known (texts.fitted bytes)
fitted bytes = either (nat_lt (length bytes) (2 ^ 63)) (Ok bytes) (Err fault.Overflow) tt refl

content_of_view : (released contiguous : Bool) (content : List ℕ) → Known (snaps.content_of_view released contiguous content)
content_of_view true contiguous content = refl
content_of_view false true content = tt
content_of_view false false content = refl

content_of_kind : (k : SnapKind) (released contiguous : Bool) (content : List ℕ) → Known (snaps.content_of_kind k released contiguous content)
content_of_kind snap_kind.Iterator released contiguous content = refl
content_of_kind snap_kind.View released contiguous content = content_of_view released contiguous content
content_of_kind _ released contiguous content = tt

content_of : (snap : Option Snap) → Known (snaps.content_of snap)
content_of None = refl
content_of (Some snap) = content_of_kind snap.kind snap.released snap.contiguous snap.content

bytes_like : (pairs : List (ℕ × Snap)) (s : Scalar) → Known (snaps.bytes_like pairs s)
bytes_like pairs (scalar.Bytes bytes) = tt
bytes_like pairs (scalar.Handle h) = content_of (snaps.snap_of pairs h)
bytes_like pairs _ = refl

pub like_in : (pairs : List (ℕ × Snap)) (v : Value) → Known (snaps.like_in pairs v)
like_in pairs (value.One s) = bytes_like pairs s
like_in pairs _ = refl

content_if_bytes : (k : SnapKind) (content : List ℕ) → Known (snaps.content_if_bytes k content)
content_if_bytes snap_kind.Bytes content = tt
content_if_bytes _ content = refl

content_of_bytes : (snap : Option Snap) → Known (snaps.content_of_bytes snap)
content_of_bytes None = refl
content_of_bytes (Some snap) = content_if_bytes snap.kind snap.content

bytes_alone : (pairs : List (ℕ × Snap)) (s : Scalar) → Known (snaps.bytes_alone pairs s)
bytes_alone pairs (scalar.Bytes bytes) = tt
bytes_alone pairs (scalar.Handle h) = content_of_bytes (snaps.snap_of pairs h)
bytes_alone pairs _ = refl

content_if_unreleased : (released : Bool) (content : List ℕ) → Known (snaps.content_if_unreleased released content)
content_if_unreleased true content = refl
content_if_unreleased false content = tt

content_read : (k : SnapKind) (released : Bool) (content : List ℕ) → Known (snaps.content_read k released content)
content_read snap_kind.Iterator released content = refl
content_read snap_kind.View released content = content_if_unreleased released content
content_read _ released content = tt

content_of_named : (snap : Option Snap) → Known (snaps.content_of_named snap)
content_of_named None = refl
content_of_named (Some snap) = content_read snap.kind snap.released snap.content

byte_in_scalar : (s : Scalar) → Known (snaps.byte_in_scalar s)
byte_in_scalar s = bind (numbers.number_in s) _ (number_in s) (λ n. byte_of n)

bytes_in_parts : (parts : List Scalar) → Known (snaps.bytes_in_parts parts)
bytes_in_parts [] = tt
bytes_in_parts (s ∷ parts) = bind (snaps.byte_in_scalar s) _ (byte_in_scalar s) (λ byte. bind (snaps.bytes_in_parts parts) _ (bytes_in_parts parts) (λ bytes. tt))

pub bytes_in : (pairs : List (ℕ × Snap)) (v : Value) → Known (snaps.bytes_in pairs v)
bytes_in pairs (value.One (scalar.Bytes bytes)) = tt
bytes_in pairs (value.One (scalar.Handle h)) = content_of_named (snaps.snap_of pairs h)
bytes_in pairs (value.Tuple parts) = bytes_in_parts parts
bytes_in pairs (value.List parts) = bytes_in_parts parts
bytes_in pairs _ = refl

-- ---- the bytes that something new is made of

zeros_of : (n : ℤ) → Known (options.zeros_of n)
zeros_of (pos n) = tt
zeros_of (negsuc n) = refl

sized_bytes : (n : ℤ) → Known (options.sized_bytes n)
sized_bytes n = bind (numbers.fitted_number fault.Overflow n) _ (fitted_number fault.Overflow n refl) (λ size. zeros_of size)

bytes_by_number : (pairs : List (ℕ × Snap)) (source : Value) (r : Result ℤ Fault) → Known (options.bytes_by_number pairs source r)
bytes_by_number pairs source (Ok n) = sized_bytes n
bytes_by_number pairs source (Err f) = bytes_in pairs source

encoded : (source : Value) (encoding : List ℕ) (errors : Option (List ℕ)) → Known (options.encoded source encoding errors)
encoded source encoding errors =
    bind (texts.text_in source) _ (text_in source) (λ text.
    bind (unless (not (options.is_utf8_name encoding || options.is_ascii_name encoding)) fault.Value) _ (checked _ fault.Value refl) (λ _.
    bind (unless (not (options.is_strict errors)) fault.Value) _ (checked _ fault.Value refl) (λ _.
    bind (unless (options.is_ascii_name encoding && not (texts.is_ascii text)) fault.Value) _ (checked _ fault.Value refl) (λ _. tt))))

option_text : (v : Option Value) → Known (options.text_given v)
option_text None = tt
option_text (Some v) = bind (texts.text_in v) _ (text_in v) (λ text. tt)

bytes_by : (pairs : List (ℕ × Snap)) (source : Option Value) (encoding errors : Option (List ℕ)) → Known (options.bytes_by pairs source encoding errors)
bytes_by pairs None None None = tt
bytes_by pairs None None (Some errors) = refl
bytes_by pairs None (Some encoding) errors = refl
bytes_by pairs (Some source) None None = bytes_by_number pairs source (numbers.number_of source)
bytes_by pairs (Some source) None (Some errors) = refl
bytes_by pairs (Some source) (Some encoding) errors = encoded source encoding errors

pub bytes_of_options : (pairs : List (ℕ × Snap)) (source encoding errors : Option Value) → Known (options.bytes_of_options pairs source encoding errors)
bytes_of_options pairs source encoding errors =
    bind (options.text_given encoding) _ (option_text encoding) (λ name.
    bind (options.text_given errors) _ (option_text errors) (λ handler. bytes_by pairs source name handler))

-- ---- arguments of methods

none : (args : List Value) → Known (given.none args)
none [] = tt
none (a ∷ args) = refl

one : (args : List Value) → Known (given.one args)
one [] = refl
one (a ∷ []) = tt
one (a ∷ b ∷ args) = refl

two : (args : List Value) → Known (given.two args)
two [] = refl
two (a ∷ []) = refl
two (a ∷ b ∷ []) = tt
two (a ∷ b ∷ c ∷ args) = refl

at_most_one : (args : List Value) → Known (given.at_most_one args)
at_most_one [] = tt
at_most_one (a ∷ []) = tt
at_most_one (a ∷ b ∷ args) = refl

at_most_two : (args : List Value) → Known (given.at_most_two args)
at_most_two [] = tt
at_most_two (a ∷ []) = tt
at_most_two (a ∷ b ∷ []) = tt
at_most_two (a ∷ b ∷ c ∷ args) = refl

one_or_two : (args : List Value) → Known (given.one_or_two args)
one_or_two [] = refl
one_or_two (a ∷ []) = tt
one_or_two (a ∷ b ∷ []) = tt
one_or_two (a ∷ b ∷ c ∷ args) = refl

two_or_three : (args : List Value) → Known (given.two_or_three args)
two_or_three [] = refl
two_or_three (a ∷ []) = refl
two_or_three (a ∷ b ∷ []) = tt
two_or_three (a ∷ b ∷ c ∷ []) = tt
two_or_three (a ∷ b ∷ c ∷ d ∷ args) = refl

one_to_three : (args : List Value) → Known (given.one_to_three args)
one_to_three [] = refl
one_to_three (a ∷ []) = tt
one_to_three (a ∷ b ∷ []) = tt
one_to_three (a ∷ b ∷ c ∷ []) = tt
one_to_three (a ∷ b ∷ c ∷ d ∷ args) = refl

bound_in : (v : Value) → Known (given.bound_in v)
bound_in (value.One scalar.None) = tt
bound_in v = carried (numbers.number_of v) (λ n. Some n) (number_of v)

bound_given : (v : Option Value) → Known (given.bound_given v)
bound_given None = tt
bound_given (Some v) = bound_in v

flag_given : (v : Option Value) → Known (given.flag_given v)
flag_given None = tt
flag_given (Some v) = carried (numbers.number_of v) given.nonzero (number_of v)

bytes_if : (pairs : List (ℕ × Snap)) (v : Value) → Known (given.bytes_if pairs v)
bytes_if pairs (value.One scalar.None) = tt
bytes_if pairs v = carried (snaps.bytes_in pairs v) (λ bytes. Some bytes) (bytes_in pairs v)

bytes_given : (pairs : List (ℕ × Snap)) (v : Option Value) → Known (given.bytes_given pairs v)
bytes_given pairs None = tt
bytes_given pairs (Some v) = bytes_if pairs v

text_if : (v : Value) → Known (given.text_if v)
text_if (value.One scalar.None) = tt
text_if v = carried (texts.text_in v) (λ text. Some text) (text_in v)

text_given : (v : Option Value) → Known (given.text_given v)
text_given None = tt
text_given (Some v) = text_if v

separator_of_scalar : (pairs : List (ℕ × Snap)) (s : Scalar) → Known (given.separator_in pairs (value.One s))
separator_of_scalar pairs (scalar.Text text) = tt
separator_of_scalar pairs s = bytes_alone pairs s

separator_in : (pairs : List (ℕ × Snap)) (v : Value) → Known (given.separator_in pairs v)
separator_in pairs (value.One s) = separator_of_scalar pairs s
separator_in pairs _ = refl

separator_given : (pairs : List (ℕ × Snap)) (v : Option Value) → Known (given.separator_given pairs v)
separator_given pairs None = tt
separator_given pairs (Some v) = bind (given.separator_in pairs v) _ (separator_in pairs v) (λ bytes. tt)

each_in : (pairs : List (ℕ × Snap)) (parts : List Scalar) → Known (given.each_in pairs parts)
each_in pairs [] = tt
each_in pairs (part ∷ parts) = bind (snaps.bytes_in pairs (value.One part)) _ (bytes_in pairs (value.One part)) (λ bytes. bind (given.each_in pairs parts) _ (each_in pairs parts) (λ others. tt))

lists_in : (pairs : List (ℕ × Snap)) (v : Value) → Known (given.lists_in pairs v)
lists_in pairs (value.Tuple parts) = each_in pairs parts
lists_in pairs (value.List parts) = each_in pairs parts
lists_in pairs _ = refl

-- ---- needles, affixes and separators

needle_bytes : (sub : Needle) → Known (needles.needle_bytes sub)
needle_bytes (needle.Bytes bytes) = tt
needle_bytes (needle.Number n) = bind (numbers.byte_of n) _ (byte_of n) (λ byte. tt)

needle_by : (pairs : List (ℕ × Snap)) (v : Value) (r : Result ℤ Fault) → Known (needles.needle_by pairs v r)
needle_by pairs v (Ok n) = bind (numbers.byte_of n) _ (byte_of n) (λ byte. tt)
needle_by pairs v (Err f) = bind (snaps.bytes_in pairs v) _ (bytes_in pairs v) (λ bytes. tt)

sought_in : (pairs : List (ℕ × Snap)) (v : Value) → Known (sought.sought_in pairs v)
sought_in pairs v = bind (needles.needle_in pairs v) _ (needle_by pairs v (numbers.number_of v)) (λ sub. needle_bytes sub)

pub contains_in : (pairs : List (ℕ × Snap)) (bytes : List ℕ) (v : Value) → Known (sought.contains_in pairs bytes v)
contains_in pairs bytes v = bind (sought.sought_in pairs v) _ (sought_in pairs v) (λ sub. tt)

any_of : (test : List ℕ → Bool) (pairs : List (ℕ × Snap)) (parts : List Scalar) → Known (affixes.any_of test pairs parts)
any_of test pairs [] = tt
any_of test pairs (part ∷ parts) =
    bind (snaps.bytes_in pairs (value.One part)) _ (bytes_in pairs (value.One part)) (λ bytes. either (test bytes) (Ok true) (affixes.any_of test pairs parts) tt (any_of test pairs parts))

single_or_any_of : (test : List ℕ → Bool) (pairs : List (ℕ × Snap)) (v : Value) → Known (affixes.single_or_any_of test pairs v)
single_or_any_of test pairs (value.Tuple parts) = any_of test pairs parts
single_or_any_of test pairs v = carried (snaps.bytes_in pairs v) test (bytes_in pairs v)

test_in : (test : List ℕ → List ℕ → Bool) (pairs : List (ℕ × Snap)) (affix : Value) (part : Option (List ℕ)) → Known (affixes.test_in test pairs affix part)
test_in test pairs affix None = tt
test_in test pairs affix (Some part) = single_or_any_of (test part) pairs affix

by_separator : {X : Type 0} (separator : List ℕ) (x : X) → Known (separators.by_separator separator x)
by_separator separator x = either (length separator == 0) (Err fault.Value) (Ok x) refl tt

-- ---- fills, tables and digits

single : (bytes : Option (List ℕ)) → Known (fills.single bytes)
single None = refl
single (Some []) = refl
single (Some (b ∷ [])) = tt
single (Some (b ∷ c ∷ bytes)) = refl

fill_of_named : (snap : Option Snap) → Known (fills.fill_of_named snap)
fill_of_named None = refl
fill_of_named (Some snap) = single (snaps.content_of_string snap.kind snap.content)

fill_in : (pairs : List (ℕ × Snap)) (v : Value) → Known (fills.fill_in pairs v)
fill_in pairs (value.One (scalar.Handle h)) = fill_of_named (snaps.snap_of pairs h)
fill_in pairs v = single (snaps.string_bytes_of pairs v)

fill_of : (pairs : List (ℕ × Snap)) (v : Option Value) → Known (fills.fill_of pairs v)
fill_of pairs None = tt
fill_of pairs (Some v) = fill_in pairs v

full_table : (table : List ℕ) → Known (fills.full_table table)
full_table table = either (length table == 256) (Ok table) (Err fault.Value) tt refl

table_read : (r : Result (List ℕ) Fault) → Known (fills.table_read r)
table_read (Ok table) = full_table table
table_read (Err fault.UnknownName) = refl
table_read (Err _) = refl

table_in : (pairs : List (ℕ × Snap)) (v : Value) → Known (fills.table_in pairs v)
table_in pairs (value.One scalar.None) = tt
table_in pairs v = table_read (snaps.bytes_in pairs v)

table_given : (pairs : List (ℕ × Snap)) (v : Option Value) → Known (fills.table_given pairs v)
table_given pairs None = tt
table_given pairs (Some v) = table_in pairs v

dropped_given : (pairs : List (ℕ × Snap)) (v : Option Value) → Known (fills.dropped_given pairs v)
dropped_given pairs None = tt
dropped_given pairs (Some v) = bytes_in pairs v

tables_of : (pairs : List (ℕ × Snap)) (table delete : Option Value) → Known (fills.tables_of pairs table delete)
tables_of pairs table delete = bind (fills.table_given pairs table) _ (table_given pairs table) (λ t. bind (fills.dropped_given pairs delete) _ (dropped_given pairs delete) (λ d. tt))

translation : (pairs : List (ℕ × Snap)) (table delete : Option Value) (bytes : List ℕ) → Known (fills.translation pairs table delete bytes)
translation pairs table delete bytes = bind (fills.tables_of pairs table delete) _ (tables_of pairs table delete) (λ t. tt)

table_of : (from to : List ℕ) → Known (tables.table_of from to)
table_of from to = either (length from == length to) _ (Err fault.Value) tt refl

digits_separator : (separator : List ℕ) → Known (digits.separator_in separator)
digits_separator [] = refl
digits_separator (b ∷ []) = either (nat_lt b 128) (Ok b) (Err fault.Value) tt refl
digits_separator (b ∷ c ∷ bytes) = refl

text_by_groups : (separator : List ℕ) (size : ℤ) (bytes : List ℕ) → Known (digits.text_by_groups separator size bytes)
text_by_groups separator size bytes = bind (digits.separator_in separator) _ (digits_separator separator) (λ b. fitted _)

hex_text : (separator : Option (List ℕ)) (size : ℤ) (bytes : List ℕ) → Known (digits.hex_text separator size bytes)
hex_text separator size [] = tt
hex_text None size (b ∷ bytes) = fitted (encode_lower (b ∷ bytes))
hex_text (Some separator) (pos zero) (b ∷ bytes) = fitted (encode_lower (b ∷ bytes))
hex_text (Some separator) (pos (suc n)) (b ∷ bytes) = text_by_groups separator (pos (suc n)) (b ∷ bytes)
hex_text (Some separator) (negsuc n) (b ∷ bytes) = text_by_groups separator (negsuc n) (b ∷ bytes)

byte_of_digits : (high low : Option ℕ) → Known (digits.byte_of_digits high low)
byte_of_digits (Some high) (Some low) = tt
byte_of_digits (Some high) None = refl
byte_of_digits None low = refl

bytes_of_hex : (text : List ℕ) → Known (digits.bytes_of_hex text)
bytes_of_hex [] = tt
bytes_of_hex (c ∷ []) = either (is_blank c) (Ok []) (Err fault.Value) tt refl
bytes_of_hex (c ∷ d ∷ text) =
    either (is_blank c) (digits.bytes_of_hex (d ∷ text)) _ (bytes_of_hex (d ∷ text))
    (bind (digits.byte_of_digits (hex_digit_value c) (hex_digit_value d)) _ (byte_of_digits (hex_digit_value c) (hex_digit_value d)) (λ b. bind (digits.bytes_of_hex text) _ (bytes_of_hex text) (λ bytes. tt)))

pub hex_of : (pairs : List (ℕ × Snap)) (sep group : Option Value) (bytes : List ℕ) → Known (shaped.hex_of pairs sep group bytes)
hex_of pairs sep group bytes =
    bind (given.separator_given pairs sep) _ (separator_given pairs sep) (λ separator.
    bind (numbers.count_or (pos 1) group) _ (count_or (pos 1) group) (λ size. hex_text separator size bytes))

-- ---- methods

truth : (answer : Bool) (args : List Value) → Known (plain.truth answer args)
truth answer args = bind (given.none args) _ (none args) (λ _. tt)

changed : (bytes : List ℕ) (args : List Value) → Known (plain.changed bytes args)
changed bytes args = bind (given.none args) _ (none args) (λ _. tt)

add : (pairs : List (ℕ × Snap)) (bytes : List ℕ) (args : List Value) → Known (plain.add pairs bytes args)
add pairs bytes args = bind (given.one args) _ (one args) (λ other. bind (snaps.like_in pairs other) _ (like_in pairs other) (λ like. bind (texts.fitted (bytes ++ like)) _ (fitted (bytes ++ like)) (λ sum. tt)))

operand_in : (pairs : List (ℕ × Snap)) (v : Value) → Known (searching.operand_in pairs v)
operand_in pairs (value.One s) = bytes_in pairs (value.One s)
operand_in pairs _ = refl

concat_of : (pairs : List (ℕ × Snap)) (other : Value) (bytes : List ℕ) → Known (searching.concat_of pairs other bytes)
concat_of pairs other bytes = bind (searching.operand_in pairs other) _ (operand_in pairs other) (λ operand. fitted (bytes ++ operand))

concat : (pairs : List (ℕ × Snap)) (bytes : List ℕ) (args : List Value) → Known (plain.concat pairs bytes args)
concat pairs bytes args = bind (given.one args) _ (one args) (λ other. bind (searching.concat_of pairs other bytes) _ (concat_of pairs other bytes) (λ sum. tt))

mul : (bytes : List ℕ) (args : List Value) → Known (plain.mul bytes args)
mul bytes args = bind (given.one args) _ (one args) (λ times. bind (numbers.count_in times) _ (count_in times) (λ n. bind (searching.repeated_of n bytes) _ (fitted _) (λ product. tt)))

join : (pairs : List (ℕ × Snap)) (bytes : List ℕ) (args : List Value) → Known (plain.join pairs bytes args)
join pairs bytes args = bind (given.one args) _ (one args) (λ list. bind (given.lists_in pairs list) _ (lists_in pairs list) (λ parts. bind (texts.fitted (joined bytes parts)) _ (fitted (joined bytes parts)) (λ whole. tt)))

hex : (pairs : List (ℕ × Snap)) (bytes : List ℕ) (args : List Value) → Known (shaped.hex pairs bytes args)
hex pairs bytes args = bind (given.at_most_two args) _ (at_most_two args) (λ two. bind (shaped.hex_of pairs two.0 two.1 bytes) _ (hex_of pairs two.0 two.1 bytes) (λ text. tt))

fromhex : (args : List Value) → Known (shaped.fromhex args)
fromhex args = bind (given.one args) _ (one args) (λ v. bind (texts.text_in v) _ (text_in v) (λ text. bind (digits.bytes_of_hex text) _ (bytes_of_hex text) (λ bytes. tt)))

width_and_fill : (pairs : List (ℕ × Snap)) (args : List Value) → Known (shaped.width_and_fill pairs args)
width_and_fill pairs args = bind (given.one_or_two args) _ (one_or_two args) (λ two. bind (numbers.count_in two.0) _ (count_in two.0) (λ width. bind (fills.fill_of pairs two.1) _ (fill_of pairs two.1) (λ fill. tt)))

padded : (shape : ℤ → ℕ → List ℕ → List ℕ) (pairs : List (ℕ × Snap)) (bytes : List ℕ) (args : List Value) → Known (shaped.padded shape pairs bytes args)
padded shape pairs bytes args = bind (shaped.width_and_fill pairs args) _ (width_and_fill pairs args) (λ two. tt)

zfill : (bytes : List ℕ) (args : List Value) → Known (shaped.zfill bytes args)
zfill bytes args = bind (given.one args) _ (one args) (λ v. bind (numbers.count_in v) _ (count_in v) (λ width. tt))

expandtabs : (bytes : List ℕ) (args : List Value) → Known (shaped.expandtabs bytes args)
expandtabs bytes args = bind (given.at_most_one args) _ (at_most_one args) (λ v. bind (numbers.count_or (pos 8) v) _ (count_or (pos 8) v) (λ size. bind (tabs.expanded (tabs.tab_size size) bytes) _ (fitted _) (λ whole. tt)))

maketrans : (pairs : List (ℕ × Snap)) (args : List Value) → Known (shaped.maketrans pairs args)
maketrans pairs args = bind (given.two args) _ (two args) (λ both. bind (snaps.bytes_in pairs both.0) _ (bytes_in pairs both.0) (λ from. bind (snaps.bytes_in pairs both.1) _ (bytes_in pairs both.1) (λ to. bind (tables.table_of from to) _ (table_of from to) (λ table. tt))))

translate : (pairs : List (ℕ × Snap)) (bytes : List ℕ) (args : List Value) → Known (shaped.translate pairs bytes args)
translate pairs bytes args = bind (given.one_or_two args) _ (one_or_two args) (λ both. bind (fills.translation pairs (Some both.0) both.1 bytes) _ (translation pairs (Some both.0) both.1 bytes) (λ whole. tt))

replace : (pairs : List (ℕ × Snap)) (bytes : List ℕ) (args : List Value) → Known (shaped.replace pairs bytes args)
replace pairs bytes args =
    bind (given.two_or_three args) _ (two_or_three args) (λ three.
    bind (snaps.bytes_in pairs three.0) _ (bytes_in pairs three.0) (λ old.
    bind (snaps.bytes_in pairs three.1) _ (bytes_in pairs three.1) (λ new.
    bind (numbers.count_or (negsuc 0) three.2) _ (count_or (negsuc 0) three.2) (λ most.
    bind (replacing.replacement most old new bytes) _ (fitted _) (λ whole. tt)))))

text_of : (bytes : List ℕ) → Known (shaping.text_of bytes)
text_of bytes = bind (unless (not (is_utf8 bytes)) fault.Value) _ (checked _ fault.Value refl) (λ _. tt)

decoded : (bytes : List ℕ) (encoding errors : Option (List ℕ)) → Known (shaping.decoded bytes encoding errors)
decoded bytes encoding errors =
    bind (unless (not (shaping.is_utf8_codec encoding || shaping.is_ascii_codec encoding)) fault.Value) _ (checked _ fault.Value refl) (λ _.
    bind (unless (not (options.is_strict errors)) fault.Value) _ (checked _ fault.Value refl) (λ _.
    bind (unless (shaping.is_ascii_codec encoding && not (texts.is_ascii bytes)) fault.Value) _ (checked _ fault.Value refl) (λ _. text_of bytes)))

decode : (bytes : List ℕ) (args : List Value) → Known (shaped.decode bytes args)
decode bytes args =
    bind (given.at_most_two args) _ (at_most_two args) (λ two.
    bind (given.text_given two.0) _ (text_given two.0) (λ encoding.
    bind (given.text_given two.1) _ (text_given two.1) (λ errors.
    bind (shaping.decoded bytes encoding errors) _ (decoded bytes encoding errors) (λ text. tt))))

strip : (side : (ℕ → Bool) → List ℕ → List ℕ) (pairs : List (ℕ × Snap)) (bytes : List ℕ) (args : List Value) → Known (cut.strip side pairs bytes args)
strip side pairs bytes args = bind (given.at_most_one args) _ (at_most_one args) (λ v. bind (given.bytes_given pairs v) _ (bytes_given pairs v) (λ chars. tt))

remove : (without : List ℕ → List ℕ → List ℕ) (pairs : List (ℕ × Snap)) (bytes : List ℕ) (args : List Value) → Known (cut.remove without pairs bytes args)
remove without pairs bytes args = bind (given.one args) _ (one args) (λ v. bind (snaps.bytes_in pairs v) _ (bytes_in pairs v) (λ affix. tt))

split_of : (separator : Option (List ℕ)) (most : ℤ) (bytes : List ℕ) → Known (searching.split_of separator most bytes)
split_of None most bytes = tt
split_of (Some separator) most bytes = by_separator separator _

rsplit_of : (separator : Option (List ℕ)) (most : ℤ) (bytes : List ℕ) → Known (searching.rsplit_of separator most bytes)
rsplit_of None most bytes = tt
rsplit_of (Some separator) most bytes = by_separator separator _

split : (parts_by : Option (List ℕ) → ℤ → List ℕ → Result (List (List ℕ)) Fault) (pairs : List (ℕ × Snap)) (bytes : List ℕ) (args : List Value)
    → ((separator : Option (List ℕ)) (most : ℤ) → Known (parts_by separator most bytes)) → Known (cut.split parts_by pairs bytes args)
split parts_by pairs bytes args by =
    bind (given.at_most_two args) _ (at_most_two args) (λ two.
    bind (given.bytes_given pairs two.0) _ (bytes_given pairs two.0) (λ separator.
    bind (numbers.count_or (negsuc 0) two.1) _ (count_or (negsuc 0) two.1) (λ most.
    bind (parts_by separator most bytes) _ (by separator most) (λ parts. tt))))

partition : (pairs : List (ℕ × Snap)) (bytes : List ℕ) (args : List Value) → Known (cut.partition pairs bytes args)
partition pairs bytes args = bind (given.one args) _ (one args) (λ v. bind (snaps.bytes_in pairs v) _ (bytes_in pairs v) (λ separator. bind (separators.by_separator separator _) _ (by_separator separator _) (λ parts. tt)))

rpartition : (pairs : List (ℕ × Snap)) (bytes : List ℕ) (args : List Value) → Known (cut.rpartition pairs bytes args)
rpartition pairs bytes args = bind (given.one args) _ (one args) (λ v. bind (snaps.bytes_in pairs v) _ (bytes_in pairs v) (λ separator. bind (separators.by_separator separator _) _ (by_separator separator _) (λ parts. tt)))

splitlines : (bytes : List ℕ) (args : List Value) → Known (cut.splitlines bytes args)
splitlines bytes args = bind (given.at_most_one args) _ (at_most_one args) (λ v. bind (given.flag_given v) _ (flag_given v) (λ keep. tt))

place : (search : List ℕ → List ℕ → Option ℕ) (pairs : List (ℕ × Snap)) (bytes : List ℕ) (args : List Value) → Known (sought.place search pairs bytes args)
place search pairs bytes args =
    bind (given.one_to_three args) _ (one_to_three args) (λ three.
    bind (sought.sought_in pairs three.0) _ (sought_in pairs three.0) (λ sub.
    bind (given.bound_given three.1) _ (bound_given three.1) (λ start.
    bind (given.bound_given three.2) _ (bound_given three.2) (λ end. tt))))

find : (search : List ℕ → List ℕ → Option ℕ) (pairs : List (ℕ × Snap)) (bytes : List ℕ) (args : List Value) → Known (sought.find search pairs bytes args)
find search pairs bytes args = bind (sought.place search pairs bytes args) _ (place search pairs bytes args) (λ found. tt)

found_place : (found : Option ℕ) → Known (sought.found_place found)
found_place None = refl
found_place (Some n) = tt

index : (search : List ℕ → List ℕ → Option ℕ) (pairs : List (ℕ × Snap)) (bytes : List ℕ) (args : List Value) → Known (sought.index search pairs bytes args)
index search pairs bytes args = bind (sought.place search pairs bytes args) _ (place search pairs bytes args) (λ found. found_place found)

count : (pairs : List (ℕ × Snap)) (bytes : List ℕ) (args : List Value) → Known (sought.count pairs bytes args)
count pairs bytes args =
    bind (given.one_to_three args) _ (one_to_three args) (λ three.
    bind (sought.sought_in pairs three.0) _ (sought_in pairs three.0) (λ sub.
    bind (given.bound_given three.1) _ (bound_given three.1) (λ start.
    bind (given.bound_given three.2) _ (bound_given three.2) (λ end. tt))))

affix_given : (args : List Value) → Known (sought.affix_given args)
affix_given args =
    bind (given.one_to_three args) _ (one_to_three args) (λ three.
    bind (given.bound_given three.1) _ (bound_given three.1) (λ start.
    bind (given.bound_given three.2) _ (bound_given three.2) (λ end. tt)))

startswith : (pairs : List (ℕ × Snap)) (bytes : List ℕ) (args : List Value) → Known (sought.startswith pairs bytes args)
startswith pairs bytes args = bind (sought.affix_given args) _ (affix_given args) (λ three. bind (affixes.startswith_of pairs three.0 three.1 three.2 bytes) _ (test_in _ pairs three.0 _) (λ answer. tt))

endswith : (pairs : List (ℕ × Snap)) (bytes : List ℕ) (args : List Value) → Known (sought.endswith pairs bytes args)
endswith pairs bytes args = bind (sought.affix_given args) _ (affix_given args) (λ three. bind (affixes.endswith_of pairs three.0 three.1 three.2 bytes) _ (test_in _ pairs three.0 _) (λ answer. tt))

pub method : (pairs : List (ℕ × Snap)) (bytes : List ℕ) (m : MethodName) (args : List Value) → Known (method_reply pairs bytes m args)
method pairs bytes name.Add args = add pairs bytes args
method pairs bytes name.Concat args = concat pairs bytes args
method pairs bytes name.Mul args = mul bytes args
method pairs bytes name.IsAlnum args = truth (all_of is_ascii_alphanumeric bytes) args
method pairs bytes name.IsAlpha args = truth (all_of is_ascii_alphabetic bytes) args
method pairs bytes name.IsAscii args = truth (texts.is_ascii bytes) args
method pairs bytes name.IsDigit args = truth (all_of is_ascii_digit bytes) args
method pairs bytes name.IsLower args = truth (all_in_case is_ascii_lowercase is_ascii_uppercase bytes) args
method pairs bytes name.IsSpace args = truth (all_of is_blank bytes) args
method pairs bytes name.IsTitle args = truth (is_title bytes) args
method pairs bytes name.IsUpper args = truth (all_in_case is_ascii_uppercase is_ascii_lowercase bytes) args
method pairs bytes name.Lower args = changed (lower bytes) args
method pairs bytes name.Upper args = changed (upper bytes) args
method pairs bytes name.SwapCase args = changed (swapcase bytes) args
method pairs bytes name.Capitalize args = changed (capitalize bytes) args
method pairs bytes name.Title args = changed (title bytes) args
method pairs bytes name.Hex args = hex pairs bytes args
method pairs bytes name.FromHex args = fromhex args
method pairs bytes name.Center args = padded centered pairs bytes args
method pairs bytes name.LJust args = padded justified_left pairs bytes args
method pairs bytes name.RJust args = padded justified_right pairs bytes args
method pairs bytes name.Find args = find first_place pairs bytes args
method pairs bytes name.RFind args = find last_place pairs bytes args
method pairs bytes name.Index args = index first_place pairs bytes args
method pairs bytes name.RIndex args = index last_place pairs bytes args
method pairs bytes name.Count args = count pairs bytes args
method pairs bytes name.StartsWith args = startswith pairs bytes args
method pairs bytes name.EndsWith args = endswith pairs bytes args
method pairs bytes name.Join args = join pairs bytes args
method pairs bytes name.MakeTrans args = maketrans pairs args
method pairs bytes name.Translate args = translate pairs bytes args
method pairs bytes name.Strip args = strip stripped pairs bytes args
method pairs bytes name.LStrip args = strip stripped_left pairs bytes args
method pairs bytes name.RStrip args = strip stripped_right pairs bytes args
method pairs bytes name.RemovePrefix args = remove without_prefix pairs bytes args
method pairs bytes name.RemoveSuffix args = remove without_suffix pairs bytes args
method pairs bytes name.Split args = split searching.split_of pairs bytes args (λ separator most. split_of separator most bytes)
method pairs bytes name.RSplit args = split searching.rsplit_of pairs bytes args (λ separator most. rsplit_of separator most bytes)
method pairs bytes name.Partition args = partition pairs bytes args
method pairs bytes name.RPartition args = rpartition pairs bytes args
method pairs bytes name.ExpandTabs args = expandtabs bytes args
method pairs bytes name.SplitLines args = splitlines bytes args
method pairs bytes name.ZFill args = zfill bytes args
method pairs bytes name.Replace args = replace pairs bytes args
method pairs bytes name.Decode args = decode bytes args
