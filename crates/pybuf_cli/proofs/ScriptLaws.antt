-- Scripts, line by line: each line is one line, and spells the command of the script.
use Rattle.std.proofs.Common.{◌≡◌, ◌==◌, ◌||◌, ℕ, zero, suc, ◌+◌, ◌*◌, ◌/◌, ◌%◌, ◌^◌, ◌<◌, ◌≤◌, Bool, true, false, cond, List, [], ◌∷◌, ◌++◌, refl, sym, ◌∙◌, ap, arith, codes}
use Rattle.std.specs.Prelude.{Some, None, Ok, decimal}
use Rattle.std.specs.List.{flat_map, range_with_len, list_any}
use Rattle.std.proofs.lemmas.List.{append_assoc}
use Rattle.std.proofs.lemmas.Fmt.{decimal_digit}
use Rattle.hex.specs.Hex.{encode_lower, encode_with}
use Rattle.std.proofs.lemmas.List.Folds.{list_any-append}
use Rattle.pybuf_line.specs.Facts.{line_cut, without_last}
use Rattle.pybuf_value.specs.Spelling.{handle_text}
use Rattle.pybuf_command.specs.declared.commands.Verb.TheVariants as verb
use Rattle.pybuf_command.specs.declared.worlds.Command.{Command}
use Rattle.pybuf_command.specs.declared.worlds.Command.TheVariants as command
use Rattle.pybuf_command.specs.declared.worlds.Reply.TheVariants as reply
use Rattle.pybuf_line.specs.Parts.{parts_at}
use Rattle.pybuf_line.specs.Scalars.{handle_in}
use Rattle.pybuf_line.specs.Commands.{command_in}
use Rattle.pybuf_line.specs.Lines.{without_empty_last, before, commands_from}
use Rattle.pybuf_line.specs.Laws.{ended_line, IsOneLine, RepliesAreSingle, CommandsReadBack}
use Rattle.pybuf_make.specs.Script.{new_bytearray, of_first, append, pop_first, turned_round, viewed_by, round, script}
use Rattle.pybuf_cli.specs.Scripts.{viewed_lines, round_lines, script_lines}
use Rattle.pybuf_cli.specs.Laws.{ScriptsAreSpelled}

-- ---- lines and their commands

-- Each of these texts is one line, and these are the commands that they spell.
abbrev Spell : List (List ℕ) → List Command → Type 0
Spell [] [] = Unit {0}
Spell (line ∷ more) (c ∷ cs) = IsOneLine line × (command_in handle_in line ≡ Some c) × Spell more cs
Spell _ _ = ⊥

spell_both : (ls ms : List (List ℕ)) (cs ds : List Command) → Spell ls cs → Spell ms ds → Spell (ls ++ ms) (cs ++ ds)
spell_both [] ms [] ds first then = then
spell_both (line ∷ ls) ms (c ∷ cs) ds first then = (first.0, first.1, spell_both ls ms cs ds first.2 then)
spell_both [] ms (c ∷ cs) ds first then = absurd first
spell_both (line ∷ ls) ms [] ds first then = absurd first

parts_of_lines : (ls : List (List ℕ)) (cs : List Command) → Spell ls cs → parts_at 10 (flat_map ended_line ls) ≡ ls ++ [] ∷ []
parts_of_lines [] [] spelled = refl
parts_of_lines (line ∷ ls) (c ∷ cs) spelled =
    ap (parts_at 10) (append_assoc line (10 ∷ []) (flat_map ended_line ls))
    ∙ (line_cut line (flat_map ended_line ls) spelled.0 ∙ ap (λ rest. line ∷ rest) (parts_of_lines ls cs spelled.2))
parts_of_lines [] (c ∷ cs) spelled = absurd spelled
parts_of_lines (line ∷ ls) [] spelled = absurd spelled

commands_of_lines : (n : ℕ) (ls : List (List ℕ)) (cs : List Command) → Spell ls cs → commands_from handle_in n ls ≡ Ok cs
commands_of_lines n [] [] spelled = refl
commands_of_lines n (line ∷ ls) (c ∷ cs) spelled =
    ap (λ o. before n o (commands_from handle_in (n + 1) ls)) spelled.1 ∙ ap (before n (Some c)) (commands_of_lines (n + 1) ls cs spelled.2)
commands_of_lines n [] (c ∷ cs) spelled = absurd spelled
commands_of_lines n (line ∷ ls) [] spelled = absurd spelled

-- ---- the lines of a script

zero_text : decimal 0 ≡ codes "0"
zero_text = decimal_digit 0 (omega arith)

one_text : decimal 1 ≡ codes "1"
one_text = decimal_digit 1 (omega arith)

no_digits : encode_lower [] ≡ []
unfolding encode_with
no_digits = refl

module _ (reads : CommandsReadBack) (single : RepliesAreSingle handle_text) where
  -- The text of a number has no line feed.
  decimal_single : (n : ℕ) → IsOneLine (decimal n)
  decimal_single n = single (reply.Handle n) (λ text shown. absurd (cc))

  numbered_last : (front : List ℕ) (n : ℕ) → IsOneLine front → IsOneLine (front ++ decimal n)
  numbered_last front n here =
      list_any-append (λ b. b == 10) front (decimal n) ∙ (ap (λ x. x || list_any (λ b. b == 10) (decimal n)) here ∙ decimal_single n)

  numbered : (front back : List ℕ) (n : ℕ) → IsOneLine front → IsOneLine back → IsOneLine (front ++ decimal n ++ back)
  numbered front back n here there =
      list_any-append (λ b. b == 10) (front ++ decimal n) back
      ∙ (ap (λ x. x || list_any (λ b. b == 10) back) (numbered_last front n here) ∙ there)

  append_spelled : (n : ℕ) → n < 256 → command_in handle_in (codes "append h0 " ++ decimal n) ≡ Some (append n)
  append_spelled n small =
      ap (λ first. command_in handle_in (codes "append h" ++ (first ++ (codes " " ++ decimal n)))) (sym zero_text)
      ∙ reads (append n) (omega arith, (omega (arith, small), tt))

  append_zero_spelled : command_in handle_in (codes "append h0 0") ≡ Some (append 0)
  append_zero_spelled =
      ap (λ digit. command_in handle_in (codes "append h" ++ (digit ++ (codes " " ++ digit)))) (sym zero_text)
      ∙ reads (append 0) (omega arith, (omega arith, tt))

  pop_first_spelled : command_in handle_in (codes "pop h0 0") ≡ Some pop_first
  pop_first_spelled =
      ap (λ digit. command_in handle_in (codes "pop h" ++ (digit ++ (codes " " ++ digit)))) (sym zero_text)
      ∙ reads pop_first (omega arith, (omega arith, tt))

  view_first_spelled : command_in handle_in (codes "view h0") ≡ Some (of_first verb.View)
  view_first_spelled = ap (λ digit. command_in handle_in (codes "view h" ++ digit)) (sym zero_text) ∙ reads (of_first verb.View) (omega arith, tt)

  bytes_first_spelled : command_in handle_in (codes "bytes h0") ≡ Some (of_first (verb.ToBytes None))
  bytes_first_spelled = ap (λ digit. command_in handle_in (codes "bytes h" ++ digit)) (sym zero_text) ∙ reads (of_first (verb.ToBytes None)) (omega arith, tt)

  new_spelled : command_in handle_in (codes "new bytearray x") ≡ Some new_bytearray
  new_spelled = ap (λ digits. command_in handle_in (codes "new bytearray x" ++ digits)) (sym no_digits) ∙ reads new_bytearray (λ _. omega arith)

  get_spelled : (n : ℕ) → n < 2 ^ 64 → command_in handle_in (codes "get h" ++ decimal n ++ codes " None:None:-1") ≡ Some (command.Do n (verb.Get turned_round))
  get_spelled n small =
      ap (λ digit. command_in handle_in (codes "get h" ++ (decimal n ++ (codes " None:None:-" ++ digit)))) (sym one_text)
      ∙ reads (command.Do n (verb.Get turned_round)) (small, ((tt, tt, omega arith), tt))

  bytes_spelled : (n : ℕ) → n < 2 ^ 64 → command_in handle_in (codes "bytes h" ++ decimal n) ≡ Some (command.Do n (verb.ToBytes None))
  bytes_spelled n small = reads (command.Do n (verb.ToBytes None)) (small, tt)

  release_spelled : (n : ℕ) → n < 2 ^ 64 → command_in handle_in (codes "release h" ++ decimal n) ≡ Some (command.Do n verb.Release)
  release_spelled n small = reads (command.Do n verb.Release) (small, tt)

  viewed_by_spelled : (first second : ℕ) → first < 2 ^ 64 → second < 2 ^ 64 → Spell (viewed_lines first second) (viewed_by first second)
  viewed_by_spelled first second small below = (
    refl,
    view_first_spelled,
    (
      numbered (codes "get h") (codes " None:None:-1") first refl refl,
      get_spelled first small,
      (
        numbered_last (codes "bytes h") second refl,
        bytes_spelled second below,
        (
          refl,
          append_zero_spelled,
          (
            numbered_last (codes "release h") first refl,
            release_spelled first small,
            (numbered_last (codes "release h") second refl, release_spelled second below, tt),
          ),
        ),
      ),
    ),
  )

  pop_spelled : (here : Bool) → Spell (cond here (codes "pop h0 0" ∷ []) []) (cond here (pop_first ∷ []) [])
  pop_spelled true = (refl, pop_first_spelled, tt)
  pop_spelled false = tt

  view_spelled : (here : Bool) (first second : ℕ) → first < 2 ^ 64 → second < 2 ^ 64 →
      Spell (cond here (viewed_lines first second) []) (cond here (viewed_by first second) [])
  view_spelled true first second small below = viewed_by_spelled first second small below
  view_spelled false first second small below = tt

  round_spelled : (k : ℕ) → k < 4096 → Spell (round_lines k) (round k)
  round_spelled k below =
      let n = (7 * k + 3) % 256 in
      let small : n < 256 = omega arith in
      let time : k / 16 ≤ k = omega arith in (
        numbered_last (codes "append h0 ") n refl,
        append_spelled n small,
        spell_both _ _ _ _ (pop_spelled (k % 4 == 3))
            (view_spelled (k % 16 == 15) (2 * (k / 16) + 1) (2 * (k / 16) + 2) (omega (arith, time, below)) (omega (arith, time, below))),
      )

  rounds_spelled : (k n : ℕ) → k + n ≤ 4096 → Spell (flat_map round_lines (range_with_len k n)) (flat_map round (range_with_len k n))
  rounds_spelled k zero within = tt
  rounds_spelled k (suc n) within =
      spell_both (round_lines k) (flat_map round_lines (range_with_len (k + 1) n)) (round k) (flat_map round (range_with_len (k + 1) n))
      (round_spelled k (omega (arith, within))) (rounds_spelled (k + 1) n (omega (arith, within)))

  script_spelled : (n : ℕ) → n ≤ 4096 → Spell (script_lines n) (script n)
  script_spelled n within = (
    refl,
    new_spelled,
    spell_both _ _ _ _ (rounds_spelled 0 n (omega (arith, within))) (refl, bytes_first_spelled, tt),
  )

  pub scripts_spelled : ScriptsAreSpelled
  scripts_spelled n within =
      let spelled = script_spelled n within in
      ap (commands_from handle_in 1) (ap without_empty_last (parts_of_lines (script_lines n) (script n) spelled) ∙ without_last (script_lines n))
      ∙ commands_of_lines 1 (script_lines n) (script n) spelled
