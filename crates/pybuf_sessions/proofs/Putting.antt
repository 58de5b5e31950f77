-- Pieces of a text that are put one after the other, and how far that is done.
use Rattle.std.proofs.Common.{◌≡◌, ℕ, ◌+◌, ◌-◌, ◌<◌, ◌≤◌, Bool, true, false, not, cond, ◌==◌, ◌&&◌, ◌||◌, List, [], ◌∷◌, ◌++◌, length, take, drop, get_or, refl, sym, ◌∙◌, ap, arith, tests, length-append}
use Rattle.std.specs.Prelude.{Option, Some, None}
use Rattle.std.specs.List.{list_any, onto_first}
use Rattle.std.proofs.lemmas.List.{append_assoc, append-nil, drop_more}
use Rattle.pybuf_lemmas.proofs.Lists.{part_grows_by_one}
use Rattle.pybuf_command.specs.declared.kinds.Subject.{Subject}
use Rattle.pybuf_command.specs.declared.loans.Loan.{Loan}
use Rattle.pybuf_sessions.specs.Names.{name_in}
use Rattle.pybuf_sessions.specs.Pieces.{is_mark, pieces_from, is_handle, text_at, loan_at, next_after, handled_from, loans_from}
use Rattle.pybuf_sessions.specs.Putting.{IsPut}

-- ---- pieces, byte by byte

-- the bytes of the piece that is begun, in front of the pieces of the rest
abbrev pub onto_begun : List ℕ → List (List ℕ) → List (List ℕ)
onto_begun begun [] = begun ∷ []
onto_begun begun (piece ∷ more) = (begun ++ piece) ∷ more

onto_byte : (begun : List ℕ) (b : ℕ) (all : List (List ℕ)) → onto_begun begun (onto_first b all) ≡ onto_begun (begun ++ b ∷ []) all
onto_byte begun b [] = refl
onto_byte begun b (piece ∷ more) = ap (λ first. first ∷ more) (sym (append_assoc begun (b ∷ []) piece))

onto_some : (b : ℕ) (all : List (List ℕ)) → onto_begun [] (onto_first b all) ≡ onto_first b all
onto_some b [] = refl
onto_some b (piece ∷ more) = refl

onto_none_if : (a b : Bool) (x : ℕ) (ps qs rs : List (List ℕ)) →
    onto_begun [] (cond a (onto_first x ps) (cond b ([] ∷ qs) (onto_first x rs))) ≡ cond a (onto_first x ps) (cond b ([] ∷ qs) (onto_first x rs))
onto_none_if true b x ps qs rs = onto_some x ps
onto_none_if false true x ps qs rs = refl
onto_none_if false false x ps qs rs = onto_some x rs

-- If no piece is begun, the pieces are those of the rest.
pub onto_none : (quoted : Bool) (text : List ℕ) → onto_begun [] (pieces_from quoted text) ≡ pieces_from quoted text
onto_none quoted [] = refl
onto_none quoted (b ∷ rest) =
    onto_none_if (b == 39) (is_mark b && not quoted) b (pieces_from (not quoted) rest) ((b ∷ []) ∷ pieces_from quoted rest) (pieces_from quoted rest)

-- what is left to put: the piece that is begun, and then the pieces of the rest
abbrev pub left_from : List ℕ → ℕ → ℕ → Bool → List (List ℕ)
left_from text start i quoted = onto_begun (take (i - start) (drop start text)) (pieces_from quoted (drop i text))

pub quote_on : (b : ℕ) (quoted : Bool) (rest : List ℕ) → b ≡ 39 → pieces_from quoted (b ∷ rest) ≡ onto_first b (pieces_from (not quoted) rest)
quote_on b quoted rest e = rw e refl

pub other_on : (b : ℕ) (quoted : Bool) (rest : List ℕ) → (b == 39) ≡ false → (is_mark b && not quoted) ≡ false →
    pieces_from quoted (b ∷ rest) ≡ onto_first b (pieces_from quoted rest)
other_on b quoted rest q m = rw (q, m) refl

pub mark_on : (b : ℕ) (quoted : Bool) (rest : List ℕ) → (b == 39) ≡ false → (is_mark b && not quoted) ≡ true →
    pieces_from quoted (b ∷ rest) ≡ [] ∷ (b ∷ []) ∷ pieces_from quoted rest
mark_on b quoted rest q m = rw (q, m) refl

pub quote_left : (text : List ℕ) (start i : ℕ) (quoted : Bool) → start ≤ i → i < length text → get_or text i 0 ≡ 39 →
    left_from text start i quoted ≡ left_from text start (i + 1) (not quoted)
quote_left text start i quoted within here e =
    let begun = take (i - start) (drop start text) in
    ap (λ rest. onto_begun begun (pieces_from quoted rest)) (drop_more text i 0 here)
    ∙ (ap (onto_begun begun) (quote_on (get_or text i 0) quoted (drop (i + 1) text) e)
    ∙ (onto_byte begun (get_or text i 0) (pieces_from (not quoted) (drop (i + 1) text))
    ∙ ap (λ l. onto_begun l (pieces_from (not quoted) (drop (i + 1) text))) (sym (part_grows_by_one text start i within here))))

pub other_left : (text : List ℕ) (start i : ℕ) (quoted : Bool) → start ≤ i → i < length text →
    (get_or text i 0 == 39) ≡ false → (is_mark (get_or text i 0) && not quoted) ≡ false →
    left_from text start i quoted ≡ left_from text start (i + 1) quoted
other_left text start i quoted within here q m =
    let begun = take (i - start) (drop start text) in
    ap (λ rest. onto_begun begun (pieces_from quoted rest)) (drop_more text i 0 here)
    ∙ (ap (onto_begun begun) (other_on (get_or text i 0) quoted (drop (i + 1) text) q m)
    ∙ (onto_byte begun (get_or text i 0) (pieces_from quoted (drop (i + 1) text))
    ∙ ap (λ l. onto_begun l (pieces_from quoted (drop (i + 1) text))) (sym (part_grows_by_one text start i within here))))

pub mark_left : (text : List ℕ) (start i : ℕ) (quoted : Bool) → start ≤ i → i < length text →
    (get_or text i 0 == 39) ≡ false → (is_mark (get_or text i 0) && not quoted) ≡ true →
    left_from text start i quoted ≡ take (i - start) (drop start text) ∷ (get_or text i 0 ∷ []) ∷ left_from text (i + 1) (i + 1) quoted
mark_left text start i quoted within here q m =
    let begun = take (i - start) (drop start text) in
    let none : i + 1 - (i + 1) ≡ 0 = omega arith in
    ap (λ rest. onto_begun begun (pieces_from quoted rest)) (drop_more text i 0 here)
    ∙ (ap (onto_begun begun) (mark_on (get_or text i 0) quoted (drop (i + 1) text) q m)
    ∙ (ap (λ first. first ∷ (get_or text i 0 ∷ []) ∷ pieces_from quoted (drop (i + 1) text)) (append-nil begun)
    ∙ ap (λ rest. begun ∷ (get_or text i 0 ∷ []) ∷ rest)
    (sym (ap (λ n. onto_begun (take n (drop (i + 1) text)) (pieces_from quoted (drop (i + 1) text))) none ∙ onto_none quoted (drop (i + 1) text)))))

pub left_same : (text : List ℕ) (start start2 i : ℕ) (quoted quoted2 : Bool) → start2 ≡ start → quoted2 ≡ quoted →
    left_from text start i quoted ≡ left_from text start2 i quoted2
left_same text start start2 i quoted quoted2 e1 e2 = cc

-- ---- pieces, one by one

-- The pieces are put up to some that are left.
pub record PutSoFar (all : List (List ℕ)) (old : List ℕ) (lent : List (ℕ × Loan)) (new : List ℕ) (lent_now : List (ℕ × Loan)) (rest : List (List ℕ)) : Type 0 where
  pub named : list_any is_handle all ≡ list_any is_handle rest
  pub text : old ++ handled_from (length lent) all ≡ new ++ handled_from (length lent_now) rest
  pub loans : lent ++ loans_from (length lent) all ≡ lent_now ++ loans_from (length lent_now) rest

pub same_put : (all rest rest' : List (List ℕ)) (old new new' : List ℕ) (lent lent_now lent_now' : List (ℕ × Loan)) → new' ≡ new → lent_now' ≡ lent_now → rest ≡ rest' →
    PutSoFar all old lent new lent_now rest → PutSoFar all old lent new' lent_now' rest'
same_put all rest rest' old new new' lent lent_now lent_now' e1 e2 e3 p = record {
  named = p.named ∙ ap (list_any is_handle) e3;
  text = p.text ∙ (let t : new ++ handled_from (length lent_now) rest ≡ new' ++ handled_from (length lent_now') rest' = cc in t);
  loans = p.loans ∙ (let t : lent_now ++ loans_from (length lent_now) rest ≡ lent_now' ++ loans_from (length lent_now') rest' = cc in t);
}

next_is : (lent lent_now : List (ℕ × Loan)) (name : Option Subject) → lent_now ≡ lent ++ loan_at (length lent) name →
    next_after (length lent) name ≡ length lent_now
next_is lent lent_now (Some s) e = omega (arith, ap length e, length-append lent (loan_at (length lent) (Some s)))
next_is lent lent_now None e = sym (ap length e ∙ ap length (append-nil lent))

pub piece_put : (all rest : List (List ℕ)) (piece old new new2 : List ℕ) (lent lent_now lent2 : List (ℕ × Loan)) →
    PutSoFar all old lent new lent_now (piece ∷ rest) → IsPut piece new lent_now new2 lent2 → PutSoFar all old lent new2 lent2 rest
piece_put all rest piece old new new2 lent lent_now lent2 p put =
    let n = length lent_now in
    let name = name_in piece in
    let next : next_after n name ≡ length lent2 = next_is lent_now lent2 name put.loans in
    record {
      named = p.named ∙ ap (λ t. t || list_any is_handle rest) put.named;
      text =
          p.text
          ∙ (sym (append_assoc new (text_at n name piece) (handled_from (next_after n name) rest))
          ∙ (ap (λ t. t ++ handled_from (next_after n name) rest) (sym put.text) ∙ ap (λ k. new2 ++ handled_from k rest) next));
      loans =
          p.loans
          ∙ (sym (append_assoc lent_now (loan_at n name) (loans_from (next_after n name) rest))
          ∙ (ap (λ t. t ++ loans_from (next_after n name) rest) (sym put.loans) ∙ ap (λ k. lent2 ++ loans_from k rest) next));
    }

-- A single byte is neither a name nor a handle.
pub byte_no_name : (b : ℕ) → name_in (b ∷ []) ≡ None
byte_no_name b = grind (arith, tests)

pub byte_no_handle : (b : ℕ) → is_handle (b ∷ []) ≡ false
byte_no_handle b = grind (arith, tests)

pub byte_put : (all rest : List (List ℕ)) (b : ℕ) (old new new2 : List ℕ) (lent lent_now : List (ℕ × Loan)) →
    PutSoFar all old lent new lent_now ((b ∷ []) ∷ rest) → new2 ≡ new ++ b ∷ [] → PutSoFar all old lent new2 lent_now rest
byte_put all rest b old new new2 lent lent_now p e =
    piece_put all rest (b ∷ []) old new new2 lent lent_now lent_now p
    (record {
      named = byte_no_handle b;
      text = e ∙ ap (λ name. new ++ text_at (length lent_now) name (b ∷ [])) (sym (byte_no_name b));
      loans = sym (ap (λ name. lent_now ++ loan_at (length lent_now) name) (byte_no_name b) ∙ append-nil lent_now);
    })
