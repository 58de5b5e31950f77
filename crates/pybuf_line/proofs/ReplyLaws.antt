-- The text of a reply is one line.
use Rattle.std.proofs.Common.{◌≡◌, ℕ, ◌/◌, ◌%◌, zero, suc, List, [], ◌∷◌, ◌++◌, Bool, true, false, cond, ◌==◌, ◌||◌, codes, refl, ◌∙◌, ap, arith, tests, ℤ, pos, negsuc}
use Rattle.std.specs.List.{flat_map, list_any}
use Rattle.std.specs.Fmt.{signed_decimal, digits, digits_onto, digit_glyph, decimal}
use Rattle.pybuf_lemmas.proofs.Numbers.{digit_is_no_line_end}
use Rattle.pybuf_lemmas.proofs.Lists.{hex_digit_is_no_line_end}
use Rattle.pybuf_line.specs.Facts.{one_line_both}
use Rattle.pybuf_value.specs.Facts.{quote_of_is_no_line_end}
use Rattle.pybuf_value.specs.Names.{python_name_of}
use Rattle.pybuf_value.specs.declared.faults.Fault.{Fault}
use Rattle.pybuf_value.specs.declared.faults.Fault.TheVariants as fault
use Rattle.pybuf_value.specs.declared.values.Scalar.{Scalar}
use Rattle.pybuf_value.specs.declared.values.Scalar.TheVariants as scalar
use Rattle.pybuf_value.specs.declared.values.Item.{Item}
use Rattle.pybuf_value.specs.declared.values.Item.TheVariants as item
use Rattle.pybuf_command.specs.declared.worlds.Reply.TheVariants as reply
use Rattle.pybuf_value.specs.Quotes.{quote_of, escaped_byte, quoted_text}
use Rattle.pybuf_value.specs.Spelling.{bytes_text, truth_text, handle_text, scalar_text, next_part_text, tuple_text, item_text, list_text}
use Rattle.pybuf_command.specs.Shown.{blocks, nested_text}
use Rattle.pybuf_line.specs.Laws.{IsOneLine, ShowsOneLine, RepliesAreSingle, NamesStaySingle}

digits_step : (k n : ℕ) (last : Bool) (acc : List ℕ) → IsOneLine acc → ((m : ℕ) (more : List ℕ) → IsOneLine more → IsOneLine (digits_onto k 10 false m more)) →
    IsOneLine (cond last (digit_glyph false (n % 10) ∷ acc) (digits_onto k 10 false (n / 10) (digit_glyph false (n % 10) ∷ acc)))
digits_step k n true acc h others = ap (λ b. b || list_any (λ c. c == 10) acc) (digit_is_no_line_end (n % 10)) ∙ h
digits_step k n false acc h others =
    others (n / 10) (digit_glyph false (n % 10) ∷ acc) (ap (λ b. b || list_any (λ c. c == 10) acc) (digit_is_no_line_end (n % 10)) ∙ h)

digits_single : (k n : ℕ) (acc : List ℕ) → IsOneLine acc → IsOneLine (digits_onto k 10 false n acc)
digits_single zero n acc h = h
digits_single (suc k) n acc h = digits_step k n (n / 10 == 0) acc h (digits_single k)

decimal_single : (n : ℕ) → IsOneLine (decimal n)
unfolding digits
decimal_single n = digits_single 64 n [] refl

escaped_single : (q b : ℕ) → (q == 10) ≡ false → IsOneLine (escaped_byte q b)
escaped_single q b h = grind (arith, tests, hex_digit_is_no_line_end (b / 16), hex_digit_is_no_line_end (b % 16))

all_escaped_single : (q : ℕ) (bytes : List ℕ) → (q == 10) ≡ false → IsOneLine (flat_map (escaped_byte q) bytes)
all_escaped_single q [] h = refl
all_escaped_single q (b ∷ bytes) h = one_line_both (escaped_byte q b) (flat_map (escaped_byte q) bytes) (escaped_single q b h) (all_escaped_single q bytes h)

quoted_single : (bytes : List ℕ) → IsOneLine (quoted_text bytes)
quoted_single bytes =
    let q = quote_of bytes in
    let one : (q == 10) ≡ false = quote_of_is_no_line_end bytes in
    one_line_both (q ∷ flat_map (escaped_byte q) bytes) (q ∷ [])
    (ap (λ b. b || list_any (λ c. c == 10) (flat_map (escaped_byte q) bytes)) one ∙ all_escaped_single q bytes one)
    (ap (λ b. b || false) one)

truth_single : (truth : Bool) → IsOneLine (truth_text truth)
truth_single true = refl
truth_single false = refl

number_single : (n : ℤ) → IsOneLine (signed_decimal n)
number_single (pos n) = decimal_single n
number_single (negsuc n) = decimal_single (suc n)

scalar_single : (name : ℕ → List ℕ) → ((n : ℕ) → IsOneLine (name n)) → (s : Scalar) → IsOneLine (scalar_text name s)
scalar_single name single scalar.None = refl
scalar_single name single (scalar.Bool truth) = truth_single truth
scalar_single name single (scalar.Int number) = number_single number
scalar_single name single (scalar.Text text) = quoted_single text
scalar_single name single (scalar.Bytes bytes) = quoted_single bytes
scalar_single name single scalar.Ellipsis = refl
scalar_single name single (scalar.Handle handle) = single handle

parts_single : {A : Type 0} (text : A → List ℕ) → ((part : A) → IsOneLine (text part)) → (parts : List A) → IsOneLine (flat_map (next_part_text text) parts)
parts_single text single [] = refl
parts_single text single (part ∷ more) =
    one_line_both (next_part_text text part) (flat_map (next_part_text text) more) (single part) (parts_single text single more)

tuple_single : {A : Type 0} (text : A → List ℕ) → ((part : A) → IsOneLine (text part)) → (parts : List A) → IsOneLine (tuple_text text parts)
tuple_single text single [] = refl
tuple_single text single (part ∷ []) = one_line_both (text part) (codes ",)") (single part) refl
tuple_single text single (part ∷ next ∷ more) =
    one_line_both (text part ++ flat_map (next_part_text text) (next ∷ more)) (codes ")")
    (one_line_both (text part) (flat_map (next_part_text text) (next ∷ more)) (single part) (parts_single text single (next ∷ more))) refl

item_single : (name : ℕ → List ℕ) → ((n : ℕ) → IsOneLine (name n)) → (i : Item) → IsOneLine (item_text name i)
item_single name single (item.One part) = scalar_single name single part
item_single name single (item.Many parts) = tuple_single (scalar_text name) (scalar_single name single) parts

list_single : {A : Type 0} (text : A → List ℕ) → ((part : A) → IsOneLine (text part)) → (parts : List A) → IsOneLine (list_text text parts)
list_single text single [] = refl
list_single text single (part ∷ more) =
    one_line_both (text part ++ flat_map (next_part_text text) more) (codes "]")
    (one_line_both (text part) (flat_map (next_part_text text) more) (single part) (parts_single text single more)) refl

nested_single : {A : Type 0} (text : A → List ℕ) → ((part : A) → IsOneLine (text part)) → (shape : List ℕ) (items : List A) →
    IsOneLine (nested_text text shape items)
nested_single text single [] items = list_single text single items
nested_single text single (n ∷ []) items = list_single text single items
nested_single text single (n ∷ m ∷ more) items =
    list_single (nested_text text (m ∷ more)) (nested_single text single (m ∷ more)) (blocks n items)

name_single : (f : Fault) → IsOneLine (python_name_of f)
name_single fault.Index = refl
name_single _ = refl

pub reply_single : NamesStaySingle
reply_single name single reply.Ok h = refl
reply_single name single (reply.Handle handle) h = single handle
reply_single name single (reply.Pair exporter view) h =
    one_line_both (name exporter) (32 ∷ name view) (single exporter) (single view)
reply_single name single (reply.Items shape items) h = nested_single (item_text name) (item_single name single) shape items
reply_single name single (reply.Item shown) h = item_single name single shown
reply_single name single (reply.Bytes bytes) h = quoted_single bytes
reply_single name single (reply.ByteLists lists) h = list_single bytes_text quoted_single lists
reply_single name single (reply.Text text) h = quoted_single text
reply_single name single (reply.Shown text) h = h text refl
reply_single name single (reply.Truth truth) h = truth_single truth
reply_single name single reply.NotImplementedReply h = refl
reply_single name single reply.Stop h = refl
reply_single name single (reply.Numbers numbers) h = tuple_single signed_decimal number_single numbers
reply_single name single (reply.Refused f) h = name_single f

pub handle_single : RepliesAreSingle handle_text
handle_single r h = reply_single handle_text decimal_single r h
