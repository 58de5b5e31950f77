-- What one more byte adds to a text whose tabs become spaces.
use Rattle.std.proofs.Common.{◌≡◌, ◌≢◌, ℕ, zero, suc, ◌+◌, ◌-◌, ◌*◌, ◌/◌, ◌%◌, ◌<◌, ◌≤◌, Bool, true, false, not, cond, eqb, ℤ, pos, negsuc, List, [], ◌∷◌, ◌++◌, reverse, replicate, refl, ap, sym, ◌∙◌, arith, ⊎_elim, append_assoc}
use Rattle.std.specs.Prelude.{◌≤ℤ◌}
use Rattle.std.specs.List.{prefix_len}
use Rattle.std.proofs.lemmas.Bool.{cases_Bool, cond-true, cond-false, ne_eqb}
use Rattle.std.proofs.lemmas.Int.{ints}
use Rattle.std.proofs.lemmas.List.{append-nil, reverse-append, reverse-reverse}
use Rattle.std.proofs.lemmas.Nat.{mod_below, mod-mul-add, div-add-mod'}
use Rattle.pybuf_letters.specs.Lines.{is_line_break}
use Rattle.pybuf_shaping.specs.Tabs.{spaces_at, column_behind, expanded_from, tab_size}
use Rattle.pybuf_shaping.specs.Laws.{column_of, LeadsToStop, TabsLeadToStops}

-- the column behind a text that begins at a column
abbrev column_after : ℕ → List ℕ → ℕ
column_after column [] = column
column_after column (b ∷ text) = column_after (column_behind column b) text

-- Each space takes one column.
after_spaces : (count column : ℕ) (rest : List ℕ) → column_after column (replicate count 32 ++ rest) ≡ column_after (column + count) rest
after_spaces zero column rest = ap (λ c. column_after c rest) (omega arith)
after_spaces (suc count) column rest = after_spaces count (column + 1) rest ∙ ap (λ c. column_after c rest) (omega arith)

-- The rest of a text begins at the column behind what its front became.
in_two : (size column : ℕ) (text rest : List ℕ) →
    expanded_from size column (text ++ rest) ≡ expanded_from size column text ++ expanded_from size (column_after column (expanded_from size column text)) rest
in_two size column [] rest = refl
in_two size column (b ∷ text) rest =
    let count : ℕ = spaces_at size column in
    let spaces : List ℕ = replicate count 32 in
    let behind_tab : List ℕ = expanded_from size (column + count) text in
    let behind_other : List ℕ = expanded_from size (column_behind column b) text in
    let onto : List ℕ → List ℕ = λ front. front ++ expanded_from size (column_after column front) rest in
    ⊎_elim
    (λ tab.
    cond-true (eqb b 9) _ _ tab
    ∙ ap (λ l. spaces ++ l) (in_two size (column + count) text rest)
    ∙ sym (append_assoc spaces behind_tab (expanded_from size (column_after (column + count) behind_tab) rest))
    ∙ ap (λ c. (spaces ++ behind_tab) ++ expanded_from size c rest) (sym (after_spaces count column behind_tab))
    ∙ sym (ap onto (cond-true (eqb b 9) (spaces ++ behind_tab) (b ∷ behind_other) tab)))
    (λ other.
    cond-false (eqb b 9) _ _ other
    ∙ ap (λ l. b ∷ l) (in_two size (column_behind column b) text rest)
    ∙ sym (ap onto (cond-false (eqb b 9) (spaces ++ behind_tab) (b ∷ behind_other) other)))
    (cases_Bool (eqb b 9))

-- ---- columns

one_behind : (column : ℕ) (text : List ℕ) (b : ℕ) → column_after column (text ++ b ∷ []) ≡ column_behind (column_after column text) b
one_behind column [] b = refl
one_behind column (c ∷ text) b = one_behind (column_behind column c) text b

by_break : (break : Bool) (n : ℕ) → cond break 0 (n + 1) ≡ cond (not break) (1 + n) 0
by_break true n = refl
by_break false n = omega arith

turned : (text : List ℕ) → column_after 0 (reverse text) ≡ prefix_len (λ b. not (is_line_break b)) text
turned [] = refl
turned (b ∷ text) =
    ap (column_after 0) (reverse-append (b ∷ []) text)
    ∙ one_behind 0 (reverse text) b
    ∙ ap (λ c. column_behind c b) (turned text)
    ∙ by_break (is_line_break b) (prefix_len (λ c. not (is_line_break c)) text)

column_is : (text : List ℕ) → column_after 0 text ≡ column_of text
column_is text = ap (column_after 0) (sym (reverse-reverse text)) ∙ turned (reverse text)

-- ---- one more byte

one_tab : (size : ℕ) (text : List ℕ) →
    expanded_from size 0 (text ++ 9 ∷ []) ≡ expanded_from size 0 text ++ replicate (spaces_at size (column_after 0 (expanded_from size 0 text))) 32
one_tab size text =
    let column : ℕ = column_after 0 (expanded_from size 0 text) in
    in_two size 0 text (9 ∷ []) ∙ ap (λ l. expanded_from size 0 text ++ l) (append-nil (replicate (spaces_at size column) 32))

one_other : (size : ℕ) (text : List ℕ) (b : ℕ) → b ≢ 9 → expanded_from size 0 (text ++ b ∷ []) ≡ expanded_from size 0 text ++ b ∷ []
one_other size text b other =
    in_two size 0 text (b ∷ []) ∙ ap (λ l. expanded_from size 0 text ++ l) (cond-false (eqb b 9) _ _ (ne_eqb b 9 other))

-- The spaces at a column lead to the next multiple of the size.
to_stop : (size column : ℕ) → 0 < size → (0 < spaces_at size column) × (spaces_at size column ≤ size) × ((column + spaces_at size column) % size ≡ 0)
to_stop zero column some = absurd (omega arith)
to_stop (suc size) column some =
    let below = mod_below column (suc size) some in
    let whole = div-add-mod' column (suc size) in
    let next : column + (suc size - column % suc size) ≡ (column / suc size + 1) * suc size + 0 = omega arith in
    (omega arith, omega arith, ap (λ n. n % suc size) next ∙ mod-mul-add (column / suc size + 1) (suc size) 0 some)

leads : (size : ℕ) (text : List ℕ) → 0 < size → LeadsToStop size text
leads size text some =
    let front : List ℕ = expanded_from size 0 text in
    let column : ℕ = column_after 0 front in
    let steps = to_stop size column some in record {
      spaces = spaces_at size column;
      some = (steps.0, steps.1);
      adds = one_tab size text;
      stop = ap (λ c. (c + spaces_at size column) % size) (sym (column_is front)) ∙ steps.2;
    }

no_size : (size : ℤ) → size ≤ℤ pos 0 → tab_size size ≡ 0
no_size (pos n) low = omega (arith, ints)
no_size (negsuc n) low = refl

vanishes : (size : ℕ) (text : List ℕ) → size ≡ 0 → expanded_from size 0 (text ++ 9 ∷ []) ≡ expanded_from size 0 text
vanishes zero text none = one_tab 0 text ∙ append-nil (expanded_from 0 0 text)
vanishes (suc size) text none = absurd (omega arith)

pub tabs_lead_to_stops : (text : List ℕ) → TabsLeadToStops text
tabs_lead_to_stops text = record {
  empty = λ size. refl;
  stop = λ size some. leads size text some;
  none = λ size low. vanishes (tab_size size) text (no_size size low);
  other = λ size b other. one_other (tab_size size) text b other;
}
