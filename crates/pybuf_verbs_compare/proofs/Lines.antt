-- If a subject is shown as a text, the text has no line feed.
use Rattle.std.proofs.Common.{◌≡◌, ℕ, ◌/◌, ◌%◌, zero, suc, List, [], ◌∷◌, ◌++◌, Bool, true, false, cond, ◌==◌, ◌||◌, not, codes, refl, ◌∙◌, ap, arith, tests}
use Rattle.std.specs.List.{flat_map, list_any}
use Rattle.std.specs.Fmt.{digits, digits_onto, digit_glyph, decimal}
use Rattle.std.proofs.lemmas.List.Folds.{list_any-append}
use Rattle.pybuf_lemmas.proofs.Lists.{HasNoFeed, hex_digit_is_no_line_end}
use Rattle.pybuf_lemmas.proofs.Numbers.{digit_is_no_line_end}
use Rattle.pybuf_value.specs.Facts.{quote_of_is_no_line_end}
use Rattle.pybuf_value.specs.Quotes.{quote_of, escaped_byte, quoted_text, repr_of}
use Rattle.pybuf_command.specs.declared.kinds.ExporterKind.{ExporterKind}
use Rattle.pybuf_command.specs.declared.kinds.ExporterKind.TheVariants as kind
use Rattle.pybuf_state.specs.Keeps.{is_one_line}
use Rattle.pybuf_verbs_compare.specs.Repr.{shown_bytes, shown_view}

both : (xs ys : List ℕ) → HasNoFeed xs → HasNoFeed ys → HasNoFeed (xs ++ ys)
both xs ys h k = list_any-append (λ b. b == 10) xs ys ∙ (ap (λ b. b || list_any (λ c. c == 10) ys) h ∙ k)

-- ---- decimal numbers

digits_step : (k n : ℕ) (last : Bool) (acc : List ℕ) → HasNoFeed acc → ((m : ℕ) (more : List ℕ) → HasNoFeed more → HasNoFeed (digits_onto k 10 false m more)) →
    HasNoFeed (cond last (digit_glyph false (n % 10) ∷ acc) (digits_onto k 10 false (n / 10) (digit_glyph false (n % 10) ∷ acc)))
digits_step k n true acc h others = ap (λ b. b || list_any (λ c. c == 10) acc) (digit_is_no_line_end (n % 10)) ∙ h
digits_step k n false acc h others =
    others (n / 10) (digit_glyph false (n % 10) ∷ acc) (ap (λ b. b || list_any (λ c. c == 10) acc) (digit_is_no_line_end (n % 10)) ∙ h)

digits_single : (k n : ℕ) (acc : List ℕ) → HasNoFeed acc → HasNoFeed (digits_onto k 10 false n acc)
digits_single zero n acc h = h
digits_single (suc k) n acc h = digits_step k n (n / 10 == 0) acc h (digits_single k)

decimal_single : (n : ℕ) → HasNoFeed (decimal n)
unfolding digits
decimal_single n = digits_single 64 n [] refl

-- ---- quoted bytes

escaped_single : (q b : ℕ) → (q == 10) ≡ false → HasNoFeed (escaped_byte q b)
escaped_single q b h = grind (arith, tests, hex_digit_is_no_line_end (b / 16), hex_digit_is_no_line_end (b % 16))

all_escaped_single : (q : ℕ) (bytes : List ℕ) → (q == 10) ≡ false → HasNoFeed (flat_map (escaped_byte q) bytes)
all_escaped_single q [] h = refl
all_escaped_single q (b ∷ bytes) h = both (escaped_byte q b) (flat_map (escaped_byte q) bytes) (escaped_single q b h) (all_escaped_single q bytes h)

quoted_single : (bytes : List ℕ) → HasNoFeed (quoted_text bytes)
quoted_single bytes =
    let q = quote_of bytes in
    let one : (q == 10) ≡ false = quote_of_is_no_line_end bytes in
    both (q ∷ flat_map (escaped_byte q) bytes) (q ∷ [])
    (ap (λ b. b || list_any (λ c. c == 10) (flat_map (escaped_byte q) bytes)) one ∙ all_escaped_single q bytes one)
    (ap (λ b. b || false) one)

repr_single : (before bytes after : List ℕ) → HasNoFeed before → HasNoFeed after → HasNoFeed (repr_of before bytes after)
repr_single before bytes after first last = both (before ++ quoted_text bytes) after (both before (quoted_text bytes) first (quoted_single bytes)) last

-- ---- the texts

pub bytes_shown : (k : ExporterKind) (bytes : List ℕ) → is_one_line (shown_bytes k bytes) ≡ true
bytes_shown kind.ByteArray bytes = ap not (repr_single (codes "bytearray(b") bytes (codes ")") refl refl)
bytes_shown kind.Bytes bytes = ap not (repr_single (codes "b") bytes [] refl refl)
bytes_shown (kind.Vector readonly) bytes = ap not (repr_single (codes "b") bytes [] refl refl)

pub view_shown : (k : ℕ) (released : Bool) → is_one_line (shown_view k released) ≡ true
view_shown k true = ap not (both (codes "<released memory " ++ decimal k) (codes ">") (both (codes "<released memory ") (decimal k) refl (decimal_single k)) refl)
view_shown k false = ap not (both (codes "<memory " ++ decimal k) (codes ">") (both (codes "<memory ") (decimal k) refl (decimal_single k)) refl)
