-- What lines ask for, after one more line.
use Rattle.std.proofs.Common.{◌≡◌, ℕ, ◌+◌, List, [], ◌∷◌, ◌++◌, length, refl, sym, ◌∙◌, ap, arith}
use Rattle.std.specs.Prelude.{Result, Ok, Err, Some}
use Rattle.std.proofs.lemmas.List.{append_assoc}
use Rattle.pybuf_command.specs.declared.commands.LocalCommand.{LocalCommand}
use Rattle.pybuf_sessions.specs.declared.asks.Ask.{Ask}
use Rattle.pybuf_sessions.specs.Asks.{ask_in}
use Rattle.pybuf_sessions.specs.Scripts.{scripts_of, added}
use Rattle.pybuf_sessions.specs.Sessions.{ask_before, asks_from}
use Rattle.pybuf_sessions.proofs.Growing.{one_ask_more}

-- what lines asked for, in front of what the rest asks for
abbrev pub onto : List Ask → Result (List Ask) ℕ → Result (List Ask) ℕ
onto asks (Ok rest) = Ok (asks ++ rest)
onto asks (Err n) = Err n

onto_before : (asks : List Ask) (n : ℕ) (a : Ask) (rest : Result (List Ask) ℕ) → onto asks (ask_before n (Some a) rest) ≡ onto (asks ++ a ∷ []) rest
onto_before asks n a (Ok rest) = ap Ok (sym (append_assoc asks (a ∷ []) rest))
onto_before asks n a (Err m) = refl

-- The lines before a number ask for so much, and these are the scripts.
pub record AskedSoFar (all : Result (List Ask) ℕ) (scripts : List (List LocalCommand)) (n : ℕ) (left : List (List ℕ)) : Type 0 where
  pub asks : List Ask
  pub kept : scripts ≡ scripts_of asks
  pub whole : all ≡ onto asks (asks_from n left)

pub one_asked : (all : Result (List Ask) ℕ) (scripts more : List (List LocalCommand)) (n n2 : ℕ) (left after : List (List ℕ)) (line : List ℕ) (a : Ask) →
    AskedSoFar all scripts n left → left ≡ line ∷ after → ask_in line ≡ Some a → more ≡ added a.session a.command scripts → n2 ≡ n + 1 →
    AskedSoFar all more n2 after
one_asked all scripts more n n2 left after line a far cut asks grown next = record {
  asks = far.asks ++ a ∷ [];
  kept = grown ∙ (ap (added a.session a.command) far.kept ∙ sym (one_ask_more far.asks a));
  whole =
      far.whole
      ∙ (ap (λ l. onto far.asks (asks_from n l)) cut
      ∙ (ap (λ x. onto far.asks (ask_before n x (asks_from (n + 1) after))) asks
      ∙ (onto_before far.asks n a (asks_from (n + 1) after) ∙ ap (λ k. onto (far.asks ++ a ∷ []) (asks_from k after)) (sym next))));
}

-- ---- numbers of lines

-- A line is left, so the count of lines that were read is below the count of all lines.
pub counted : (n : ℕ) (left after all : List (List ℕ)) (line : List ℕ) → left ≡ line ∷ after → n + length left ≡ length all + 1 → n + 1 + length after ≡ length all + 1
counted n left after all line cut h = omega (arith, ap length cut, h)
