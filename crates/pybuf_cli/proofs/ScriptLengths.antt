-- The text of a script is no longer than an input may be.
use Rattle.std.proofs.Common.{◌≡◌, ◌==◌, ℕ, zero, suc, ◌+◌, ◌*◌, ◌/◌, ◌%◌, ◌<◌, ◌≤◌, Bool, true, false, cond, List, [], ◌∷◌, ◌++◌, length, ◌∙◌, ap, arith, tests, codes}
use Rattle.std.specs.Prelude.{decimal, nat_lt}
use Rattle.std.specs.List.{flat_map, range_with_len}
use Rattle.std.proofs.lemmas.Fmt.{length-decimal-le}
use Rattle.std.proofs.lemmas.Grind.{flat_map-append}
use Rattle.std.proofs.lemmas.List.{length-append}
use Rattle.pybuf_line.specs.Scalars.{handle_in}
use Rattle.pybuf_line.specs.Lines.{commands_in}
use Rattle.pybuf_line.specs.Laws.{ended_line}
use Rattle.pybuf_cli.specs.declared.status.Status.TheVariants as status
use Rattle.pybuf_cli.specs.Program.{most, due_for, ending_for}
use Rattle.pybuf_cli.specs.Scripts.{viewed_lines, round_lines, script_lines, script_text}
use Rattle.pybuf_cli.specs.Laws.{ScriptsAreSpelled, ScriptsAreRun}

text_length : List (List ℕ) → ℕ
text_length ls = length (flat_map ended_line ls)

of_none : text_length [] ≤ 0
unfolding text_length
of_none = omega arith

-- a line, its line feed, and the other lines
of_line : (line : List ℕ) (rest : List (List ℕ)) (m k : ℕ) → length line ≤ m → text_length rest ≤ k → text_length (line ∷ rest) ≤ m + 1 + k
unfolding text_length
of_line line rest m k here there =
    omega (arith, here, there, length-append (ended_line line) (flat_map ended_line rest), length-append line (10 ∷ []))

of_both : (xs ys : List (List ℕ)) (m k : ℕ) → text_length xs ≤ m → text_length ys ≤ k → text_length (xs ++ ys) ≤ m + k
unfolding text_length
of_both xs ys m k here there =
    omega (arith, here, there, ap length (flat_map-append ended_line xs ys), length-append (flat_map ended_line xs) (flat_map ended_line ys))

three_digits : (n : ℕ) → n < 1000 → length (decimal n) ≤ 3
three_digits n small = length-decimal-le 3 n (omega arith) (omega (arith, small)) (omega (arith, small))

numbered_last : (front : List ℕ) (n m : ℕ) → n < 1000 → length front ≤ m → length (front ++ decimal n) ≤ m + 3
numbered_last front n m small here = omega (arith, here, three_digits n small, length-append front (decimal n))

numbered : (front back : List ℕ) (n m k : ℕ) → n < 1000 → length front ≤ m → length back ≤ k → length (front ++ decimal n ++ back) ≤ m + 3 + k
numbered front back n m k small here there =
    omega (arith, numbered_last front n m small here, there, length-append (front ++ decimal n) back)

viewed_length : (first second : ℕ) → first < 1000 → second < 1000 → text_length (viewed_lines first second) ≤ 79
viewed_length first second small below =
    of_line _ _ 7 71 (omega arith)
    (of_line _ _ 21 49 (numbered (codes "get h") (codes " None:None:-1") first 5 13 small (omega arith) (omega arith))
    (of_line _ _ 10 38 (numbered_last (codes "bytes h") second 7 below (omega arith))
    (of_line _ _ 11 26 (omega arith)
    (of_line _ _ 12 13 (numbered_last (codes "release h") first 9 small (omega arith))
    (of_line _ _ 12 0 (numbered_last (codes "release h") second 9 below (omega arith)) of_none)))))

pop_length : (here : Bool) → text_length (cond here (codes "pop h0 0" ∷ []) []) ≤ 9
pop_length true = of_line _ _ 8 0 (omega arith) of_none
pop_length false = omega (arith, of_none)

view_length : (here : Bool) (first second : ℕ) → first < 1000 → second < 1000 → text_length (cond here (viewed_lines first second) []) ≤ 79
view_length true first second small below = viewed_length first second small below
view_length false first second small below = omega (arith, of_none)

round_length : (k : ℕ) → k < 4096 → text_length (round_lines k) ≤ 102
round_length k below =
    let n = (7 * k + 3) % 256 in
    let small : n < 1000 = omega arith in
    let time : k / 16 < 256 = omega (arith, below) in
    of_line _ _ 13 88 (numbered_last (codes "append h0 ") n 10 small (omega arith))
    (of_both _ _ 9 79 (pop_length (k % 4 == 3))
    (view_length (k % 16 == 15) (2 * (k / 16) + 1) (2 * (k / 16) + 2) (omega (arith, time)) (omega (arith, time))))

rounds_length : (k n : ℕ) → k + n ≤ 4096 → text_length (flat_map round_lines (range_with_len k n)) ≤ 102 * n
rounds_length k zero within = omega (arith, of_none)
rounds_length k (suc n) within =
    let both = of_both (round_lines k) (flat_map round_lines (range_with_len (k + 1) n)) 102 (102 * n) (round_length k (omega (arith, within)))
    (rounds_length (k + 1) n (omega (arith, within))) in
    omega (arith, both)

script_length : (n : ℕ) → n ≤ 4096 → text_length (script_lines n) ≤ 1048576
script_length n within =
    let all = of_line (codes "new bytearray x") (flat_map round_lines (range_with_len 0 n) ++ codes "bytes h0" ∷ []) 15 (102 * n + 9) (omega arith)
    (of_both _ _ (102 * n) 9 (rounds_length 0 n (omega (arith, within))) (of_line _ _ 8 0 (omega arith) of_none)) in
    omega (arith, all, within)

not_too_long : (n : ℕ) → n ≤ 4096 → nat_lt most (length (script_text n)) ≡ false
unfolding text_length
not_too_long n within = let short = script_length n within in grind (arith, tests)

pub scripts_run : ScriptsAreSpelled → ScriptsAreRun
scripts_run spelled n within =
    let read = spelled n within in (
      ap (λ long. cond long [] (due_for (commands_in handle_in (script_text n)))) (not_too_long n within) ∙ ap due_for read,
      ap (λ long. cond long status.TooLong (ending_for (commands_in handle_in (script_text n)))) (not_too_long n within) ∙ ap ending_for read,
    )
