-- A text that can be read has pairs of digits with blanks around them.
use Rattle.std.proofs.Common.{◌≡◌, ◌⊎◌, inl, inr, refl, sym, ap, ap₂, ◌∙◌, ℕ, ◌+◌, ◌*◌, List, [], ◌∷◌, ◌++◌, map, Result, Ok, Err, Option, Some, None, Bool, true, false, cond, subst, append_assoc, append-nil, arith}
use Rattle.std.specs.Prelude.{◌↔◌, IsTrue, Contains, is_some}
use Rattle.std.specs.List.{All, flat_map}
use Rattle.std.proofs.lemmas.Bool.{false≢true}
use Rattle.std.proofs.lemmas.List.Elements.{All-nil, All-cons, All-head, All-tail}
use Rattle.std.proofs.lemmas.Bool.Decides.{nat_tests}
use Rattle.hex.specs.Hex.{hex_digit_value, is_hex_digit}
use Rattle.pybuf_value.specs.declared.faults.Fault.{Fault}
use Rattle.pybuf_value.specs.declared.faults.Fault.TheVariants as fault
use Rattle.pybuf_value.specs.Refusing.{◌>>=◌}
use Rattle.pybuf_letters.specs.Classes.{is_blank}
use Rattle.pybuf_letters.specs.Laws.{the_blanks}
use Rattle.pybuf_shaping.specs.Digits.{byte_of_digits, bytes_of_hex}
use Rattle.pybuf_shaping.specs.HexPairs.{Pair, IsPair, text_of_pair, value_or_0, byte_of_pair, SpellsBytes, LacksDigit, BreaksPair, IsBroken, HexIsReadInPairs}
use Rattle.pybuf_shaping.proofs.ReadLemmas.{bytes_before, nothing_before, skip, pair, bad}

-- A byte is a blank exactly if the list has it.
abbrev pub NamesBlanks : Type 0
NamesBlanks = (b : ℕ) → IsTrue (is_blank b) ↔ Contains the_blanks b

is_printed : NamesBlanks → (b : ℕ) → ¬ Contains the_blanks b → is_blank b ≡ false
is_printed names b none = by_test (is_blank b) refl
  where
    by_test : (test : Bool) → is_blank b ≡ test → test ≡ false
    by_test true h = absurd (none ((names b).0 h))
    by_test false h = refl

printed_is : NamesBlanks → (b : ℕ) → is_blank b ≡ false → ¬ Contains the_blanks b
printed_is names b h some = false≢true (sym h ∙ (names b).1 some)

-- the byte that two digits spell
abbrev pub byte_of : ℕ → ℕ → ℕ
byte_of c d = value_or_0 (hex_digit_value c) * 16 + value_or_0 (hex_digit_value d)

-- the answer when all is read
abbrev pub done : List ℕ → Result (List ℕ) Fault
done bytes = Ok bytes

abbrev pub denied : Fault → Result (List ℕ) Fault
denied f = Err f

-- what a last byte by itself is read as
abbrev pub alone : Bool → Result (List ℕ) Fault
alone blank = cond blank (Ok []) (Err fault.Value)

-- ---- one more byte or one more pair in front

spells_nothing : SpellsBytes [] []
spells_nothing = record { pairs = []; behind = []; whole = refl; are = All-nil IsPair; blank = All-nil (Contains the_blanks); values = refl }

blank_in_front : (b : ℕ) (text bytes : List ℕ) → Contains the_blanks b → SpellsBytes text bytes → SpellsBytes (b ∷ text) bytes
blank_in_front b text bytes is spells = by_pairs spells.pairs spells.whole spells.are spells.values
  where
    by_pairs : (pairs : List Pair) → flat_map text_of_pair pairs ++ spells.behind ≡ text → All IsPair pairs → map byte_of_pair pairs ≡ bytes → SpellsBytes (b ∷ text) bytes
    by_pairs [] whole are values = record {
      pairs = [];
      behind = b ∷ spells.behind;
      whole = ap (λ (t : List ℕ). b ∷ t) whole;
      are = are;
      blank = All-cons (Contains the_blanks) b spells.behind is spells.blank;
      values = values;
    }
    by_pairs (first ∷ more) whole are values =
        let one : IsPair first = All-head IsPair first more are in
        let longer : Pair = record { before = b ∷ first.before; high = first.high; low = first.low } in
        record {
          pairs = longer ∷ more;
          behind = spells.behind;
          whole = ap (λ (t : List ℕ). b ∷ t) whole;
          are = All-cons IsPair longer more (record { blank = All-cons (Contains the_blanks) b first.before is one.blank; high = one.high; low = one.low }) (All-tail IsPair first more are);
          blank = spells.blank;
          values = values;
        }

pair_in_front : (c d : ℕ) (text bytes : List ℕ) → is_hex_digit c ≡ true → is_hex_digit d ≡ true → SpellsBytes text bytes
    → SpellsBytes (c ∷ d ∷ text) (byte_of c d ∷ bytes)
pair_in_front c d text bytes high low spells =
    let first : Pair = record { before = []; high = c; low = d } in
    record {
      pairs = first ∷ spells.pairs;
      behind = spells.behind;
      whole = ap (λ (t : List ℕ). c ∷ d ∷ t) spells.whole;
      are = All-cons IsPair first spells.pairs (record { blank = All-nil (Contains the_blanks); high = high; low = low }) spells.are;
      blank = spells.blank;
      values = ap (λ (bs : List ℕ). byte_of c d ∷ bs) spells.values;
    }

-- ---- a text that can be read spells its bytes

-- reading two digits, and then what stands behind them
abbrev pub behind_digits : Option ℕ → Option ℕ → Result (List ℕ) Fault → Result (List ℕ) Fault
behind_digits high low rest = byte_of_digits high low >>= (λ byte. rest >>= (λ bytes. Ok (byte ∷ bytes)))

ok_same : (xs ys : List ℕ) → done xs ≡ done ys → xs ≡ ys
ok_same xs ys e = cc

spelled-pair : (c d : ℕ) (text bytes : List ℕ) → ((more : List ℕ) → bytes_of_hex text ≡ Ok more → SpellsBytes text more)
    → behind_digits (hex_digit_value c) (hex_digit_value d) (bytes_of_hex text) ≡ Ok bytes → SpellsBytes (c ∷ d ∷ text) bytes
spelled-pair c d text bytes later e = by_digits (hex_digit_value c) (hex_digit_value d) (bytes_of_hex text) refl refl refl e
  where
    by_digits : (high low : Option ℕ) (rest : Result (List ℕ) Fault) → hex_digit_value c ≡ high → hex_digit_value d ≡ low → bytes_of_hex text ≡ rest → behind_digits high low rest ≡ Ok bytes → SpellsBytes (c ∷ d ∷ text) bytes
    by_digits (Some high) (Some low) (Ok more) h l r e =
        let values : value_or_0 (hex_digit_value c) * 16 + value_or_0 (hex_digit_value d) ≡ high * 16 + low = ap₂ (λ (x y : Option ℕ). value_or_0 x * 16 + value_or_0 y) h l in
        let all : byte_of c d ∷ more ≡ bytes = ap (λ n. n ∷ more) values ∙ ok_same ((high * 16 + low) ∷ more) bytes e in
        subst (SpellsBytes (c ∷ d ∷ text)) all (pair_in_front c d text more (ap is_some h) (ap is_some l) (later more r))
    by_digits (Some high) (Some low) (Err f) h l r e = absurd (cc)
    by_digits (Some high) None rest h l r e = absurd (cc)
    by_digits None low rest h l r e = absurd (cc)

spelled : NamesBlanks → (text bytes : List ℕ) → bytes_of_hex text ≡ Ok bytes → SpellsBytes text bytes
spelled names [] bytes e = subst (SpellsBytes []) (ok_same [] bytes e) spells_nothing
spelled names (c ∷ []) bytes e = by_blank (is_blank c) refl e
  where
    by_blank : (test : Bool) → is_blank c ≡ test → alone test ≡ Ok bytes → SpellsBytes (c ∷ []) bytes
    by_blank true h e = subst (SpellsBytes (c ∷ [])) (ok_same [] bytes e) (blank_in_front c [] [] ((names c).0 h) spells_nothing)
    by_blank false h e = absurd (cc)
spelled names (c ∷ d ∷ text) bytes e = by_blank (spelled names (d ∷ text)) (spelled names text) (is_blank c) refl e
  where
    by_blank : ((more : List ℕ) → bytes_of_hex (d ∷ text) ≡ Ok more → SpellsBytes (d ∷ text) more) → ((more : List ℕ) → bytes_of_hex text ≡ Ok more → SpellsBytes text more)
        → (test : Bool) → is_blank c ≡ test → cond test (bytes_of_hex (d ∷ text)) (behind_digits (hex_digit_value c) (hex_digit_value d) (bytes_of_hex text)) ≡ Ok bytes → SpellsBytes (c ∷ d ∷ text) bytes
    by_blank next later true h e = blank_in_front c (d ∷ text) bytes ((names c).0 h) (next bytes e)
    by_blank next later false h e = spelled-pair c d text bytes later e

-- ---- a text that spells bytes can be read

blanks_skipped : NamesBlanks → (blanks text : List ℕ) → All (Contains the_blanks) blanks → bytes_of_hex (blanks ++ text) ≡ bytes_of_hex text
blanks_skipped names [] text all = refl
blanks_skipped names (b ∷ blanks) text all =
    skip b (blanks ++ text) ((names b).1 (All-head (Contains the_blanks) b blanks all)) ∙ blanks_skipped names blanks text (All-tail (Contains the_blanks) b blanks all)

-- A digit is no blank.
digit_printed : (c : ℕ) → is_hex_digit c ≡ true → is_blank c ≡ false
digit_printed c h = grind (arith, nat_tests)

digits_are : (c d : ℕ) → is_hex_digit c ≡ true → is_hex_digit d ≡ true → byte_of_digits (hex_digit_value c) (hex_digit_value d) ≡ Ok (value_or_0 (hex_digit_value c) * 16 + value_or_0 (hex_digit_value d))
digits_are c d high low = by_values (hex_digit_value c) (hex_digit_value d) high low
  where
    by_values : (x y : Option ℕ) → is_some x ≡ true → is_some y ≡ true → byte_of_digits x y ≡ Ok (value_or_0 x * 16 + value_or_0 y)
    by_values (Some x) (Some y) h l = refl
    by_values (Some x) None h l = absurd (cc)
    by_values None y h l = absurd (cc)

before_one : (byte : ℕ) (bytes : List ℕ) (rest : Result (List ℕ) Fault) → (bytes_before bytes rest >>= (λ others. Ok (byte ∷ others))) ≡ bytes_before (byte ∷ bytes) rest
before_one byte bytes (Ok rest) = refl
before_one byte bytes (Err f) = refl

pair_read : NamesBlanks → (first : Pair) (text bytes : List ℕ) (rest : Result (List ℕ) Fault) → IsPair first → bytes_of_hex text ≡ bytes_before bytes rest → bytes_of_hex (text_of_pair first ++ text) ≡ bytes_before (byte_of_pair first ∷ bytes) rest
pair_read names first text bytes rest is later =
    ap bytes_of_hex (append_assoc first.before (first.high ∷ first.low ∷ []) text)
    ∙ blanks_skipped names first.before (first.high ∷ first.low ∷ text) is.blank
    ∙ pair first.high first.low (byte_of_pair first) text (digit_printed first.high is.high) (digits_are first.high first.low is.high is.low)
    ∙ ap (λ r. r >>= (λ others. Ok (byte_of_pair first ∷ others))) later
    ∙ before_one (byte_of_pair first) bytes rest

pairs_read : NamesBlanks → (pairs : List Pair) (text : List ℕ) → All IsPair pairs → bytes_of_hex (flat_map text_of_pair pairs ++ text) ≡ bytes_before (map byte_of_pair pairs) (bytes_of_hex text)
pairs_read names [] text are = sym (nothing_before (bytes_of_hex text))
pairs_read names (first ∷ more) text are =
    ap bytes_of_hex (append_assoc (text_of_pair first) (flat_map text_of_pair more) text)
    ∙ pair_read names first (flat_map text_of_pair more ++ text) (map byte_of_pair more) (bytes_of_hex text) (All-head IsPair first more are) (pairs_read names more text (All-tail IsPair first more are))

-- What stands behind a text that spells bytes is read behind those bytes.
read_on : NamesBlanks → (text bytes rest : List ℕ) → SpellsBytes text bytes → bytes_of_hex (text ++ rest) ≡ bytes_before bytes (bytes_of_hex rest)
read_on names text bytes rest spells =
    ap (λ (t : List ℕ). bytes_of_hex (t ++ rest)) (sym spells.whole)
    ∙ ap bytes_of_hex (append_assoc (flat_map text_of_pair spells.pairs) spells.behind rest)
    ∙ pairs_read names spells.pairs (spells.behind ++ rest) spells.are
    ∙ ap₂ (λ (bs : List ℕ) (r : Result (List ℕ) Fault). bytes_before bs r) spells.values (blanks_skipped names spells.behind rest spells.blank)

read : NamesBlanks → (text bytes : List ℕ) → SpellsBytes text bytes → bytes_of_hex text ≡ Ok bytes
read names text bytes spells = ap bytes_of_hex (sym (append-nil text)) ∙ read_on names text bytes [] spells ∙ ap Ok (append-nil bytes)

-- ---- a text that is refused is broken

broken_here : (text : List ℕ) → BreaksPair text → IsBroken text
broken_here text breaks = record { front = []; rest = text; bytes = []; whole = refl; spells = spells_nothing; breaks = breaks }

broken_behind_blank : (b : ℕ) (text : List ℕ) → Contains the_blanks b → IsBroken text → IsBroken (b ∷ text)
broken_behind_blank b text is broken =
    record {
      front = b ∷ broken.front;
      rest = broken.rest;
      bytes = broken.bytes;
      whole = ap (λ (t : List ℕ). b ∷ t) broken.whole;
      spells = blank_in_front b broken.front broken.bytes is broken.spells;
      breaks = broken.breaks;
    }

broken_behind_pair : (c d : ℕ) (text : List ℕ) → is_hex_digit c ≡ true → is_hex_digit d ≡ true → IsBroken text → IsBroken (c ∷ d ∷ text)
broken_behind_pair c d text high low broken =
    record {
      front = c ∷ d ∷ broken.front;
      rest = broken.rest;
      bytes = byte_of c d ∷ broken.bytes;
      whole = ap (λ (t : List ℕ). c ∷ d ∷ t) broken.whole;
      spells = pair_in_front c d broken.front broken.bytes high low broken.spells;
      breaks = broken.breaks;
    }

no_digit : NamesBlanks → (c : ℕ) (rest : List ℕ) → is_blank c ≡ false → is_hex_digit c ≡ false → BreaksPair (c ∷ rest)
no_digit names c rest printed none = record { first = c; rest = rest; begins = refl; printed = printed_is names c printed; broken = inl none }

one_digit : NamesBlanks → (c : ℕ) (rest : List ℕ) → is_blank c ≡ false → is_hex_digit c ≡ true → LacksDigit rest → BreaksPair (c ∷ rest)
one_digit names c rest printed some lacks = record { first = c; rest = rest; begins = refl; printed = printed_is names c printed; broken = inr (some, lacks) }

last_digit : NamesBlanks → (c : ℕ) → is_blank c ≡ false → BreaksPair (c ∷ [])
last_digit names c printed = by_digit (is_hex_digit c) refl
  where
    by_digit : (test : Bool) → is_hex_digit c ≡ test → BreaksPair (c ∷ [])
    by_digit true h = one_digit names c [] printed h tt
    by_digit false h = no_digit names c [] printed h

err_same : (f g : Fault) → denied f ≡ denied g → g ≡ f
err_same f g e = cc

broken-pair : NamesBlanks → (c d : ℕ) (text : List ℕ) (f : Fault) → is_blank c ≡ false → ((g : Fault) → bytes_of_hex text ≡ Err g → (g ≡ fault.Value) × IsBroken text)
    → behind_digits (hex_digit_value c) (hex_digit_value d) (bytes_of_hex text) ≡ Err f → (f ≡ fault.Value) × IsBroken (c ∷ d ∷ text)
broken-pair names c d text f printed later e = by_digits (hex_digit_value c) (hex_digit_value d) (bytes_of_hex text) refl refl refl e
  where
    by_digits : (high low : Option ℕ) (rest : Result (List ℕ) Fault) → hex_digit_value c ≡ high → hex_digit_value d ≡ low → bytes_of_hex text ≡ rest → behind_digits high low rest ≡ Err f → (f ≡ fault.Value) × IsBroken (c ∷ d ∷ text)
    by_digits (Some high) (Some low) (Ok more) h l r e = absurd (cc)
    by_digits (Some high) (Some low) (Err g) h l r e =
        let found = later g r in
        (err_same g f e ∙ found.0, broken_behind_pair c d text (ap is_some h) (ap is_some l) found.1)
    by_digits (Some high) None rest h l r e = (err_same fault.Value f e, broken_here (c ∷ d ∷ text) (one_digit names c (d ∷ text) printed (ap is_some h) (ap is_some l)))
    by_digits None low rest h l r e = (err_same fault.Value f e, broken_here (c ∷ d ∷ text) (no_digit names c (d ∷ text) printed (ap is_some h)))

is_broken : NamesBlanks → (text : List ℕ) (f : Fault) → bytes_of_hex text ≡ Err f → (f ≡ fault.Value) × IsBroken text
is_broken names [] f e = absurd (cc)
is_broken names (c ∷ []) f e = by_blank (is_blank c) refl e
  where
    by_blank : (test : Bool) → is_blank c ≡ test → alone test ≡ Err f → (f ≡ fault.Value) × IsBroken (c ∷ [])
    by_blank true h e = absurd (cc)
    by_blank false h e = (err_same fault.Value f e, broken_here (c ∷ []) (last_digit names c h))
is_broken names (c ∷ d ∷ text) f e = by_blank (is_broken names (d ∷ text)) (is_broken names text) (is_blank c) refl e
  where
    by_blank : ((g : Fault) → bytes_of_hex (d ∷ text) ≡ Err g → (g ≡ fault.Value) × IsBroken (d ∷ text)) → ((g : Fault) → bytes_of_hex text ≡ Err g → (g ≡ fault.Value) × IsBroken text)
        → (test : Bool) → is_blank c ≡ test → cond test (bytes_of_hex (d ∷ text)) (behind_digits (hex_digit_value c) (hex_digit_value d) (bytes_of_hex text)) ≡ Err f → (f ≡ fault.Value) × IsBroken (c ∷ d ∷ text)
    by_blank next later true h e = let found = next f e in (found.0, broken_behind_blank c (d ∷ text) ((names c).0 h) found.1)
    by_blank next later false h e = broken-pair names c d text f h later e

-- ---- a text that is broken is refused

no_value : (c : ℕ) → is_hex_digit c ≡ false → hex_digit_value c ≡ None
no_value c h = by_value (hex_digit_value c) refl h
  where
    by_value : (x : Option ℕ) → hex_digit_value c ≡ x → is_some x ≡ false → hex_digit_value c ≡ None
    by_value (Some x) e h = absurd (cc)
    by_value None e h = e

no_byte : (x : Option ℕ) (d : ℕ) → is_hex_digit d ≡ false → byte_of_digits x (hex_digit_value d) ≡ Err fault.Value
no_byte (Some x) d h = ap (byte_of_digits (Some x)) (no_value d h)
no_byte None d h = refl

second_lacks : (c : ℕ) (rest : List ℕ) → is_blank c ≡ false → LacksDigit rest → bytes_of_hex (c ∷ rest) ≡ Err fault.Value
second_lacks c [] printed lacks = ap alone printed
second_lacks c (d ∷ text) printed lacks =
    ap (λ (t : Bool). cond t (bytes_of_hex (d ∷ text)) (behind_digits (hex_digit_value c) (hex_digit_value d) (bytes_of_hex text))) printed
    ∙ ap (λ r. r >>= (λ byte. bytes_of_hex text >>= (λ bytes. Ok (byte ∷ bytes)))) (no_byte (hex_digit_value c) d lacks)

refused_here : NamesBlanks → (text : List ℕ) → BreaksPair text → bytes_of_hex text ≡ Err fault.Value
refused_here names text breaks = ap bytes_of_hex breaks.begins ∙ by_kind breaks.broken
  where
    by_kind : ((is_hex_digit breaks.first ≡ false) ⊎ ((is_hex_digit breaks.first ≡ true) × LacksDigit breaks.rest)) → bytes_of_hex (breaks.first ∷ breaks.rest) ≡ Err fault.Value
    by_kind (inl none) = bad breaks.first breaks.rest (is_printed names breaks.first breaks.printed) (no_value breaks.first none)
    by_kind (inr one) = second_lacks breaks.first breaks.rest (is_printed names breaks.first breaks.printed) one.1

refused : NamesBlanks → (text : List ℕ) (f : Fault) → (f ≡ fault.Value) × IsBroken text → bytes_of_hex text ≡ Err f
refused names text f is =
    ap bytes_of_hex (sym is.1.whole)
    ∙ read_on names is.1.front is.1.bytes is.1.rest is.1.spells
    ∙ ap (bytes_before is.1.bytes) (refused_here names is.1.rest is.1.breaks)
    ∙ ap Err (sym is.0)

pub read_in_pairs : NamesBlanks → (text : List ℕ) → HexIsReadInPairs text
read_in_pairs names text =
    record {
      read = λ bytes. (spelled names text bytes, read names text bytes);
      refused = λ f. (is_broken names text f, refused names text f);
    }
