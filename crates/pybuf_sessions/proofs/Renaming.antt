-- What a text that is written with names becomes, piece by piece.
use Rattle.std.proofs.Common.{◌≡◌, ℕ, ◌+◌, Bool, true, false, not, ◌==◌, ◌&&◌, ◌||◌, List, [], ◌∷◌, ◌++◌, refl, sym, ◌∙◌, ap, subst, arith, tests}
use Rattle.std.specs.Prelude.{Option, Some, None}
use Rattle.std.specs.List.{list_any, list_all, onto_first}
use Rattle.std.proofs.lemmas.List.{append_assoc, append-nil, map-append}
use Rattle.pybuf_lemmas.proofs.Lists.{first_of_all, rest_of_all}
use Rattle.pybuf_lemmas.proofs.Booleans.{and_not_true}
use Rattle.pybuf_value.specs.Spelling.{handle_text}
use Rattle.pybuf_command.specs.declared.kinds.Subject.{Subject}
use Rattle.pybuf_command.specs.declared.loans.Loan.{Loan}
use Rattle.pybuf_sessions.specs.Names.{name_in, name_text, lent_as}
use Rattle.pybuf_sessions.specs.Pieces.{is_mark, pieces_from, pieces, is_handle, text_at, loan_at, next_after, handled_from, loans_from}
use Rattle.pybuf_sessions.specs.Laws.{AreNumbered, lent_by}
use Rattle.pybuf_sessions.proofs.Putting.{onto_begun, onto_none, quote_on, other_on, mark_on, byte_no_name, byte_no_handle}

-- ---- what a text becomes

-- whether a piece is a handle, the text that was made, and what is lent, if handles are numbered from a number
-- on
pub record Outcome : Type 0 where
  pub refused : Bool
  pub text : List ℕ
  pub loans : List (ℕ × Loan)

abbrev pub outcome_of : ℕ → List (List ℕ) → Outcome
outcome_of n all = record { refused = list_any is_handle all; text = handled_from n all; loans = loans_from n all }

abbrev pub outcome : ℕ → List ℕ → Outcome
outcome n text = outcome_of n (pieces text)

abbrev pub behind : List ℕ → List (ℕ × Loan) → Outcome → Outcome
behind text loans rest = record { refused = rest.refused; text = text ++ rest.text; loans = loans ++ rest.loans }

behind_both : (a b : List ℕ) (k l : List (ℕ × Loan)) (o : Outcome) → behind a k (behind b l o) ≡ behind (a ++ b) (k ++ l) o
behind_both a b k l o =
    ap (λ text. record { refused = o.refused; text = text; loans = k ++ (l ++ o.loans) }) (sym (append_assoc a b o.text))
    ∙ ap (λ loans. record { refused = o.refused; text = (a ++ b) ++ o.text; loans = loans }) (sym (append_assoc k l o.loans))

-- The text is empty, or begins with a byte at which a piece ends.
abbrev pub IsBehind : List ℕ → Type 0
IsBehind [] = Unit {0}
IsBehind (b ∷ rest) = is_mark b ≡ true

-- the number behind that of the last handle
abbrev pub next_number : ℕ → List ℕ → ℕ
next_number n [] = n
next_number n (h ∷ more) = next_number (n + 1) more

-- A text with names in place of handles becomes a text with these handles, and they are lent.
abbrev pub Comes : (ℕ → Subject) → ℕ → List ℕ → List ℕ → List ℕ → Type 0
Comes named n handles text written =
    (rest : List ℕ) → IsBehind rest → outcome n (text ++ rest) ≡ behind written (lent_by named handles) (outcome (next_number n handles) rest)

pub nothing_comes : (named : ℕ → Subject) (n : ℕ) → Comes named n [] [] []
nothing_comes named n rest h = refl

-- ---- one text behind another

next_both : (n : ℕ) (a b : List ℕ) → next_number n (a ++ b) ≡ next_number (next_number n a) b
next_both n [] b = refl
next_both n (h ∷ a) b = next_both (n + 1) a b

pub numbered_first : (n : ℕ) (a b : List ℕ) → AreNumbered n (a ++ b) → AreNumbered n a
numbered_first n [] b h = tt
numbered_first n (x ∷ a) b h = (h.0, numbered_first (n + 1) a b h.1)

pub numbered_second : (n : ℕ) (a b : List ℕ) → AreNumbered n (a ++ b) → AreNumbered (next_number n a) b
numbered_second n [] b h = h
numbered_second n (x ∷ a) b h = numbered_second (n + 1) a b h.1

pub both_come : (named : ℕ → Subject) (n : ℕ) (h k t u w v : List ℕ) → Comes named n h t w → Comes named (next_number n h) k u v →
    ((rest : List ℕ) → IsBehind rest → IsBehind (u ++ rest)) → Comes named n (h ++ k) (t ++ u) (w ++ v)
both_come named n h k t u w v first second goes rest r =
    ap (outcome n) (append_assoc t u rest)
    ∙ (first (u ++ rest) (goes rest r)
    ∙ (ap (behind w (lent_by named h)) (second rest r)
    ∙ (behind_both w v (lent_by named h) (lent_by named k) (outcome (next_number (next_number n h) k) rest)
    ∙ (ap (λ loans. behind (w ++ v) loans (outcome (next_number (next_number n h) k) rest)) (sym (map-append (λ x. (x, lent_as (named x))) h k))
    ∙ ap (λ m. behind (w ++ v) (lent_by named (h ++ k)) (outcome m rest)) (sym (next_both n h k))))))

-- ---- marks

no_quote : (b : ℕ) → is_mark b ≡ true → (b == 39) ≡ false
no_quote b h = grind (arith, tests)

mark_out : (b : ℕ) → is_mark b ≡ true → (is_mark b && not false) ≡ true
mark_out b h = rw h refl

mark_comes : (n b : ℕ) (rest : List ℕ) → is_mark b ≡ true → outcome n (b ∷ rest) ≡ behind (b ∷ []) [] (outcome n rest)
mark_comes n b rest h =
    ap (outcome_of n) (mark_on b false rest (no_quote b h) (mark_out b h))
    ∙ (ap
    (λ name. record {
      refused = is_handle (b ∷ []) || list_any is_handle (pieces rest);
      text = text_at n name (b ∷ []) ++ handled_from (next_after n name) (pieces rest);
      loans = loan_at n name ++ loans_from (next_after n name) (pieces rest);
    })
    (byte_no_name b)
    ∙ ap (λ refused. record { refused = refused || list_any is_handle (pieces rest); text = b ∷ handled_from n (pieces rest); loans = loans_from n (pieces rest) })
    (byte_no_handle b))

pub before_comes : (named : ℕ → Subject) (n b : ℕ) (h t w : List ℕ) → is_mark b ≡ true → Comes named n h t w → Comes named n h (b ∷ t) (b ∷ w)
before_comes named n b h t w mark comes rest r =
    mark_comes n b (t ++ rest) mark
    ∙ (ap (behind (b ∷ []) []) (comes rest r) ∙ behind_both (b ∷ []) w [] (lent_by named h) (outcome (next_number n h) rest))

pub joined_come : (named : ℕ → Subject) (n b : ℕ) (h k t u w v : List ℕ) → is_mark b ≡ true → Comes named n h t w → Comes named (next_number n h) k u v →
    Comes named n (h ++ k) (t ++ b ∷ u) (w ++ b ∷ v)
joined_come named n b h k t u w v mark first second =
    both_come named n h k t (b ∷ u) w (b ∷ v) first (before_comes named (next_number n h) b k u v mark second) (λ rest r. mark)

pub after_comes : (named : ℕ → Subject) (n b : ℕ) (h t w : List ℕ) → is_mark b ≡ true → Comes named n h t w → Comes named n h (t ++ b ∷ []) (w ++ b ∷ [])
after_comes named n b h t w mark comes =
    subst (λ all. Comes named n all (t ++ b ∷ []) (w ++ b ∷ [])) (append-nil h)
    (joined_come named n b h [] t [] w [] mark comes (nothing_comes named (next_number n h)))

-- ---- single pieces

-- A text is whole if the pieces behind it go on through it.
abbrev pub IsWhole : List ℕ → Type 0
IsWhole text = (rest : List ℕ) → pieces_from false (text ++ rest) ≡ onto_begun text (pieces_from false rest)

-- The byte is no quote, and no piece ends at it.
abbrev pub is_plain : ℕ → Bool
is_plain b = not (is_mark b) && not (b == 39)

abbrev pub IsPlain : List ℕ → Type 0
IsPlain text = list_all is_plain text ≡ true

plain_no_quote : (b : ℕ) → is_plain b ≡ true → (b == 39) ≡ false
plain_no_quote b h = grind (arith, tests)

plain_no_mark : (b : ℕ) → is_plain b ≡ true → (is_mark b && not false) ≡ false
plain_no_mark b h = grind (arith, tests)

byte_in_front : (b : ℕ) (a : List ℕ) (all : List (List ℕ)) → onto_first b (onto_begun a all) ≡ onto_begun (b ∷ a) all
byte_in_front b a [] = refl
byte_in_front b a (piece ∷ more) = refl

one_in_front : (b : ℕ) (all : List (List ℕ)) → onto_first b all ≡ onto_begun (b ∷ []) all
one_in_front b [] = refl
one_in_front b (piece ∷ more) = refl

pub plain_whole : (text : List ℕ) → IsPlain text → IsWhole text
plain_whole [] h rest = sym (onto_none false rest)
plain_whole (x ∷ a) h rest =
    let first = first_of_all is_plain x a h in
    other_on x false (a ++ rest) (plain_no_quote x first) (plain_no_mark x first)
    ∙ (ap (onto_first x) (plain_whole a (rest_of_all is_plain x a h) rest) ∙ byte_in_front x a (pieces_from false rest))

-- The byte is no quote.
abbrev pub is_unquoted : ℕ → Bool
is_unquoted b = not (b == 39)

unquoted : (b : ℕ) → is_unquoted b ≡ true → (b == 39) ≡ false
unquoted b h = grind (arith, tests)

to_quote : (t rest : List ℕ) → list_all is_unquoted t ≡ true → pieces_from true (t ++ 39 ∷ rest) ≡ onto_begun (t ++ 39 ∷ []) (pieces_from false rest)
to_quote [] rest h = quote_on 39 true rest refl ∙ one_in_front 39 (pieces_from false rest)
to_quote (x ∷ t) rest h =
    other_on x true (t ++ 39 ∷ rest) (unquoted x (first_of_all is_unquoted x t h)) (and_not_true (is_mark x))
    ∙ (ap (onto_first x) (to_quote t rest (rest_of_all is_unquoted x t h)) ∙ byte_in_front x (t ++ 39 ∷ []) (pieces_from false rest))

pub quoted_whole : (t : List ℕ) → list_all is_unquoted t ≡ true → IsWhole (39 ∷ t ++ 39 ∷ [])
quoted_whole t h rest =
    ap (λ l. pieces_from false (39 ∷ l)) (append_assoc t (39 ∷ []) rest)
    ∙ (quote_on 39 false (t ++ 39 ∷ rest) refl ∙ (ap (onto_first 39) (to_quote t rest h) ∙ byte_in_front 39 (t ++ 39 ∷ []) (pieces_from false rest)))

-- Behind a piece nothing follows, or the pieces of the rest do.
pub record Follows (rest : List ℕ) : Type 0 where
  pub more : List (List ℕ)
  pub cut : pieces rest ≡ [] ∷ more

follows : (rest : List ℕ) → IsBehind rest → Follows rest
follows [] h = record { more = []; cut = refl }
follows (b ∷ rest) h = record { more = (b ∷ []) ∷ pieces rest; cut = mark_on b false rest (no_quote b h) (mark_out b h) }

-- what a piece becomes, by the name that it is
piece_outcome : (n : ℕ) (piece rest : List ℕ) (name : Option Subject) → IsBehind rest → IsWhole piece → is_handle piece ≡ false → name_in piece ≡ name →
    outcome n (piece ++ rest) ≡ behind (text_at n name piece) (loan_at n name) (outcome (next_after n name) rest)
piece_outcome n piece rest name r whole free e =
    let f = follows rest r in
    let cut : pieces (piece ++ rest) ≡ piece ∷ f.more =
    whole rest ∙ (ap (onto_begun piece) f.cut ∙ ap (λ first. first ∷ f.more) (append-nil piece)) in
    ap (outcome_of n) cut
    ∙ (ap
    (λ (x : Option Subject). record {
      refused = is_handle piece || list_any is_handle f.more;
      text = text_at n x piece ++ handled_from (next_after n x) f.more;
      loans = loan_at n x ++ loans_from (next_after n x) f.more;
    })
    e
    ∙ (ap
    (λ refused. record {
      refused = refused || list_any is_handle f.more;
      text = text_at n name piece ++ handled_from (next_after n name) f.more;
      loans = loan_at n name ++ loans_from (next_after n name) f.more;
    })
    free
    ∙ ap (λ all. behind (text_at n name piece) (loan_at n name) (outcome_of (next_after n name) all)) (sym f.cut)))

pub piece_comes : (named : ℕ → Subject) (n : ℕ) (piece : List ℕ) → IsWhole piece → is_handle piece ≡ false → name_in piece ≡ None →
    Comes named n [] piece piece
piece_comes named n piece whole free none rest r = piece_outcome n piece rest None r whole free none

pub name_comes : (named : ℕ → Subject) (n : ℕ) (s : Subject) → named n ≡ s → IsPlain (name_text s) → is_handle (name_text s) ≡ false →
    name_in (name_text s) ≡ Some s → Comes named n (n ∷ []) (name_text (named n)) (handle_text n)
name_comes named n s e plain free is rest r =
    ap (λ (x : Subject). outcome n (name_text x ++ rest)) e
    ∙ (piece_outcome n (name_text s) rest (Some s) r (plain_whole (name_text s) plain) free is
    ∙ ap (λ (x : Subject). behind (handle_text n) ((n, lent_as x) ∷ []) (outcome (n + 1) rest)) (sym e))
