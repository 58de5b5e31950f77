-- Entries that join scripts are all the commands of these scripts.
use Rattle.std.proofs.Common.{◌≡◌, ℕ, zero, suc, ◌+◌, ◌<◌, List, [], ◌∷◌, ◌++◌, length, map, take, Some, slice_get, refl, ap, sym, ◌∙◌, arith, inl, inr, append_assoc}
use Rattle.std.specs.List.{All, sum_by}
use Rattle.std.proofs.lemmas.List.{append-nil}
use Rattle.std.proofs.lemmas.List.Elements.{All-head, All-tail}
use Rattle.std.proofs.lemmas.List.Sums.{sum_by-cons}
use Rattle.std.proofs.lemmas.Option.{none-some, same_Some}
use Rattle.pybuf_command.specs.declared.commands.LocalCommand.{LocalCommand}
use Rattle.pybuf_command.specs.declared.commands.LocalReply.{LocalReply}
use Rattle.pybuf_share.specs.declared.entries.Entry.{Entry}
use Rattle.pybuf_share.specs.Joining.{resolve, resolved_from, entries_of, Joins}
use Rattle.pybuf_share.specs.Finishing.{numbers_from}
use Rattle.pybuf_share.specs.Laws.{AreTheScripts}
use Rattle.pybuf_share.proofs.Follows.{follows_length, same_first, same_rest}
use Rattle.pybuf_share.proofs.Theirs.{MoreIf, Among, many_of, many_more, many_none}

-- If each entry's session is one of these, they have all entries.
all_counted_by : (x : Entry) (h : List Entry) (n : ℕ) → x.session < n → many_of h (numbers_from 0 n) ≡ length h → MoreIf (Among 0 n x.session) (many_of (x ∷ h) (numbers_from 0 n)) (many_of h (numbers_from 0 n)) → many_of (x ∷ h) (numbers_from 0 n) ≡ length (x ∷ h)
all_counted_by x h n known rest (inl more) = let m = more.1 in omega (arith, rest, m)
all_counted_by x h n known rest (inr none) = absurd (none.0 (omega arith, omega (arith, known)))

all_counted : (h : List Entry) (n : ℕ) → All (λ x. x.session < n) h → many_of h (numbers_from 0 n) ≡ length h
all_counted [] n known = many_none (numbers_from 0 n)
all_counted (x ∷ h) n known = all_counted_by x h n (All-head (λ y. y.session < n) x h known) (all_counted h n (All-tail (λ y. y.session < n) x h known)) (many_more x h 0 n)

-- If each session has as many entries as its script has commands, the sums are the same.
sum_counted : (k : ℕ) (scripts : List (List LocalCommand)) (entries : List Entry) → ((i : ℕ) (script : List LocalCommand) → slice_get scripts i ≡ Some script → length (entries_of (k + i) entries) ≡ length script)
    → many_of entries (numbers_from k (length scripts)) ≡ sum_by length scripts
sum_counted k [] entries each = refl
sum_counted k (script ∷ scripts) entries each =
    let same : k + 0 ≡ k = omega arith in
    let first : length (entries_of k entries) ≡ length script = ap (λ (n : ℕ). length (entries_of n entries)) (sym same) ∙ each 0 script refl in
    let rest = sum_counted (suc k) scripts entries (λ i s is. let next : suc k + i ≡ k + suc i = omega arith in ap (λ (n : ℕ). length (entries_of n entries)) next ∙ each (suc i) s is) in
    let sum = sum_by-cons (λ (s : List LocalCommand). length s) script scripts in
    omega (arith, first, rest, sum)

-- the entry at a place, and the command of the script at that place
follows_at : (before : List LocalReply) (xs : List Entry) (script : List LocalCommand) (n : ℕ) (c : LocalCommand) → map (λ x. x.command) xs ≡ resolved_from before (map (λ x. x.reply) xs) script → slice_get script n ≡ Some c
    → (x : Entry) × (slice_get xs n ≡ Some x) × (x.command ≡ resolve c (before ++ map (λ y. y.reply) (take n xs)))
follows_at before xs [] n c e is = absurd (none-some {A = LocalCommand} c is)
follows_at before [] (d ∷ ds) n c e is = let len = ap length e in absurd (omega (arith, len))
follows_at before (x ∷ xs) (d ∷ ds) zero c e is =
    let rest = map (λ (y : Entry). y.command) xs in
    let others = resolved_from (before ++ x.reply ∷ []) (map (λ (y : Entry). y.reply) xs) ds in (
      x,
      refl,
      same_first x.command (resolve d before) rest others e
          ∙ ap (λ (k : LocalCommand). resolve k before) (same_Some {A = LocalCommand} d c is)
          ∙ ap (λ (l : List LocalReply). resolve c l) (sym (append-nil before)),
    )
follows_at before (x ∷ xs) (d ∷ ds) (suc n) c e is =
    let rest = map (λ (y : Entry). y.command) xs in
    let others = resolved_from (before ++ x.reply ∷ []) (map (λ (y : Entry). y.reply) xs) ds in
    let there = follows_at (before ++ x.reply ∷ []) xs ds n c (same_rest x.command (resolve d before) rest others e) is in
    (there.0, there.1, there.2 ∙ ap (λ (l : List LocalReply). resolve c l) (append_assoc before (x.reply ∷ []) (map (λ (y : Entry). y.reply) (take n xs))))

pub joined_are_scripts : (scripts : List (List LocalCommand)) (entries : List Entry) → Joins scripts entries → AreTheScripts scripts entries
joined_are_scripts scripts entries joins =
    let many : (i : ℕ) (script : List LocalCommand) → slice_get scripts i ≡ Some script → length (entries_of i entries) ≡ length script = λ i script is. follows_length (entries_of i entries) script (joins.each i script is) in
    record {
      as_many = sym (all_counted entries (length scripts) joins.known) ∙ sum_counted 0 scripts entries (λ i script is. let same : 0 + i ≡ i = omega arith in ap (λ (n : ℕ). length (entries_of n entries)) same ∙ many i script is);
      each_many = many;
      each =
          λ session place script command is at.
          let own = entries_of session entries in
          let found = follows_at [] own script place command (joins.each session script is) at in
          record { entry = found.0; there = found.1; resolved = found.2 };
    }
