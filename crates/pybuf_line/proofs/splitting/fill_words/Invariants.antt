use Rattle.std.proofs.Common.{◌≡◌, ◌≤◌, ◌-◌, map, take, drop}
use Rattle.pybuf_line.specs.Words.{words}
use Rattle.pybuf_line.proofs.Cuts.{onto_parts, texts}
use Rattle.pybuf_line.proofs.splitting.fill_words.Given as goal

-- the words so far, and the place of the one that is begun
pub record Filled (Words Within : Type 0) : Type 0 where
  pub words : Words
  pub within : Within

abbrev pub invariant-loop-i : goal.invariant-loop-i
invariant-loop-i l =
    Filled
    (words l.line ≡ onto_parts (texts l.found.items) (take (l.i - l.start) (drop l.start l.line)) (words (drop l.i l.line)))
    (l.start ≤ l.i)
