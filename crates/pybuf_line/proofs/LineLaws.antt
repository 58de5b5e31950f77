-- The laws of lines, words and commands.
use Rattle.std.proofs.Common.{◌≡◌, ◌⊎◌, inl, inr, ℕ, ◌+◌, List, [], ◌∷◌, ◌++◌, length, map, Bool, true, false, cond, ◌==◌, ◌||◌, Option, Some, None, Result, Ok, Err, refl, sym, ◌∙◌, ap, arith, tests}
use Rattle.std.specs.List.{flat_map, join_with_byte, list_any, onto_first, AllByRecursion}
use Rattle.std.proofs.lemmas.List.{append_assoc, append-nil}
use Rattle.std.proofs.lemmas.List.Splits.{join_with_byte-slice_split}
use Rattle.pybuf_command.specs.declared.worlds.Command.{Command}
use Rattle.pybuf_line.specs.Parts.{parts_at}
use Rattle.pybuf_line.specs.Commands.{command_in}
use Rattle.pybuf_line.specs.Lines.{lines, without_empty_last, commands_from, before}
use Rattle.pybuf_line.specs.Laws.{ended_line, LinesJoin, IsOneLine, LinesAreSingle, WordsJoin, CommandsAreOfLines, BadLineIsFirst}

pub words_join : WordsJoin
words_join line = join_with_byte-slice_split 32 line

no_length : (b : ℕ) (bs : List ℕ) → true ≡ (length (b ∷ bs) == 0) → ⊥
no_length b bs h = grind (arith, tests)

-- The parts, each with a line feed, make up the joined parts, which may lack the last line feed.
last_ended : (part : List ℕ) (empty : Bool) → empty ≡ (length part == 0) →
    (flat_map ended_line (cond empty [] (part ∷ [])) ≡ part) ⊎ (flat_map ended_line (cond empty [] (part ∷ [])) ≡ ended_line part)
last_ended [] true h = inl refl
last_ended (b ∷ bs) true h = absurd (no_length b bs h)
last_ended part false h = inr (append-nil (ended_line part))

parts_ended : (parts : List (List ℕ)) →
    (flat_map ended_line (without_empty_last parts) ≡ join_with_byte 10 parts) ⊎ (flat_map ended_line (without_empty_last parts) ≡ ended_line (join_with_byte 10 parts))
parts_ended [] = inl refl
parts_ended (part ∷ []) = last_ended part (length part == 0) refl
parts_ended (part ∷ next ∷ more) =
    elim (parts_ended (next ∷ more)) [
      | inl same ↦ inl (ap (λ rest. ended_line part ++ rest) same ∙ append_assoc part (10 ∷ []) (join_with_byte 10 (next ∷ more)))
      | inr longer ↦
          inr
          (ap (λ rest. ended_line part ++ rest) longer
          ∙ (append_assoc part (10 ∷ []) (ended_line (join_with_byte 10 (next ∷ more)))
          ∙ sym (append_assoc part (10 ∷ join_with_byte 10 (next ∷ more)) (10 ∷ []))))
    ]

pub lines_join : LinesJoin
lines_join input =
    let whole = join_with_byte-slice_split 10 input in
    elim (parts_ended (parts_at 10 input)) [ inl same ↦ inl (same ∙ whole) | inr longer ↦ inr (longer ∙ ap ended_line whole) ]

-- No part has the byte at which they were cut.
onto_single : (x : ℕ) (parts : List (List ℕ)) → (x == 10) ≡ false → AllByRecursion IsOneLine parts → AllByRecursion IsOneLine (onto_first x parts)
onto_single x [] h all = (ap (λ b. b || false) h, tt)
onto_single x (part ∷ parts) h all = (ap (λ b. b || list_any (λ c. c == 10) part) h ∙ all.0, all.1)

step_single : (x : ℕ) (cut : Bool) (parts : List (List ℕ)) → (x == 10) ≡ cut → AllByRecursion IsOneLine parts →
    AllByRecursion IsOneLine (cond cut ([] ∷ parts) (onto_first x parts))
step_single x true parts h all = (refl, all)
step_single x false parts h all = onto_single x parts h all

parts_single : (input : List ℕ) → AllByRecursion IsOneLine (parts_at 10 input)
parts_single [] = (refl, tt)
parts_single (x ∷ xs) = step_single x (x == 10) (parts_at 10 xs) refl (parts_single xs)

last_single : (part : List ℕ) (empty : Bool) → IsOneLine part → AllByRecursion IsOneLine (cond empty [] (part ∷ []))
last_single part true h = tt
last_single part false h = (h, tt)

lines_single_of : (parts : List (List ℕ)) → AllByRecursion IsOneLine parts → AllByRecursion IsOneLine (without_empty_last parts)
lines_single_of [] all = tt
lines_single_of (part ∷ []) all = last_single part (length part == 0) all.0
lines_single_of (part ∷ next ∷ more) all = (all.0, lines_single_of (next ∷ more) all.1)

pub lines_single : LinesAreSingle
lines_single input = lines_single_of (parts_at 10 input) (parts_single input)

-- what one more line says of the lines after it
each_step : (n : ℕ) (c : Option Command) (r : Result (List Command) ℕ) (commands : List Command) → before n c r ≡ Ok commands →
    (first : Command) × (others : List Command) × (c ≡ Some first) × (r ≡ Ok others) × (commands ≡ first ∷ others)
each_step n None r commands h = let no : ⊥ = cc in absurd no
each_step n (Some c) (Ok rest) commands h = (c, rest, refl, refl, cc)
each_step n (Some c) (Err m) commands h = let no : ⊥ = cc in absurd no

join_first : (c : Option Command) (first : Command) (cs : List (Option Command)) (others commands : List Command) →
    c ≡ Some first → cs ≡ map Some others → commands ≡ first ∷ others → c ∷ cs ≡ map Some commands
join_first c first cs others commands e h same = ap (λ x. x ∷ cs) e ∙ (ap (λ x. Some first ∷ x) h ∙ sym (ap (map Some) same))

each_from : (name_in : List ℕ → Option ℕ) (n : ℕ) (all : List (List ℕ)) (commands : List Command) → commands_from name_in n all ≡ Ok commands → map (command_in name_in) all ≡ map Some commands
each_from name_in n [] commands h = let none : commands ≡ [] = cc in rw none refl
each_from name_in n (line ∷ rest) commands h =
    let s = each_step n (command_in name_in line) (commands_from name_in (n + 1) rest) commands h in
    join_first (command_in name_in line) s.0 (map (command_in name_in) rest) s.1 commands s.2 (each_from name_in (n + 1) rest s.1 s.3) s.4

pub each_command : CommandsAreOfLines
each_command name_in input commands h = each_from name_in 1 (lines input) commands h

first_step : (n m : ℕ) (c : Option Command) (r : Result (List Command) ℕ) → before n c r ≡ Err m →
    ((c ≡ None) × (m ≡ n)) ⊎ ((first : Command) × (c ≡ Some first) × (r ≡ Err m))
first_step n m None r h = inl (refl, cc)
first_step n m (Some c) (Ok rest) h = let no : ⊥ = cc in absurd no
first_step n m (Some c) (Err k) h = inr (c, refl, cc)

abbrev IsFirst : (List ℕ → Option ℕ) → ℕ → List (List ℕ) → ℕ → Type 0
IsFirst name_in n all m =
    (commands : List Command) × (rest : List (Option Command))
    × (map (command_in name_in) all ≡ map Some commands ++ None ∷ rest) × (m ≡ length commands + n)

first_from : (name_in : List ℕ → Option ℕ) (n : ℕ) (all : List (List ℕ)) (m : ℕ) → commands_from name_in n all ≡ Err m → IsFirst name_in n all m
first_from name_in n [] m h = let no : ⊥ = cc in absurd no
first_from name_in n (line ∷ rest) m h =
    elim (first_step n m (command_in name_in line) (commands_from name_in (n + 1) rest) h) [
      | inl none ↦ ([], map (command_in name_in) rest, ap (λ c. c ∷ map (command_in name_in) rest) none.0, omega (arith, none.1))
      | inr some ↦
          let more = first_from name_in (n + 1) rest m some.2 in (
            some.0 ∷ more.0,
            more.1,
            ap (λ c. c ∷ map (command_in name_in) rest) some.1 ∙ ap (λ others. Some some.0 ∷ others) more.2,
            omega (arith, more.3),
          )
    ]

pub first_bad : BadLineIsFirst
first_bad name_in input n h = first_from name_in 1 (lines input) n h
