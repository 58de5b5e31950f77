-- The commands of lines, after one more line.
use Rattle.std.proofs.Common.{◌≡◌, ℕ, ◌+◌, List, [], ◌∷◌, ◌++◌, refl, sym, ◌∙◌, ap, Result, Ok, Err, Some}
use Rattle.std.proofs.lemmas.List.{append_assoc}
use Rattle.pybuf_command.specs.declared.worlds.Command.{Command}
use Rattle.pybuf_line.specs.Scalars.{handle_in}
use Rattle.pybuf_line.specs.Commands.{command_in}
use Rattle.pybuf_line.specs.Lines.{lines, commands_from, before}

-- the commands in front of those that the rest gives
abbrev pub onto : List Command → Result (List Command) ℕ → Result (List Command) ℕ
onto commands (Ok rest) = Ok (commands ++ rest)
onto commands (Err n) = Err n

onto_before : (commands : List Command) (n : ℕ) (c : Command) (rest : Result (List Command) ℕ) →
    onto commands (before n (Some c) rest) ≡ onto (commands ++ c ∷ []) rest
onto_before commands n c (Ok rest) = ap Ok (sym (append_assoc commands (c ∷ []) rest))
onto_before commands n c (Err m) = refl

-- What all lines of an input give, by the commands before and by the rest.
pub next_command : (all : Result (List Command) ℕ) (commands : List Command) (n : ℕ) (rest line after : List ℕ) (c : Command) →
    lines rest ≡ line ∷ lines after → command_in handle_in line ≡ Some c →
    all ≡ onto commands (commands_from handle_in (n + 1) (lines rest)) →
    all ≡ onto (commands ++ c ∷ []) (commands_from handle_in (n + 1 + 1) (lines after))
next_command all commands n rest line after c cut spells h =
    h
    ∙ (ap (λ l. onto commands (commands_from handle_in (n + 1) l)) cut
    ∙ (ap (λ x. onto commands (before (n + 1) x (commands_from handle_in (n + 1 + 1) (lines after)))) spells
    ∙ onto_before commands (n + 1) c (commands_from handle_in (n + 1 + 1) (lines after))))
