-- Runs of commands, one after the other.
use Rattle.std.proofs.Common.{◌≡◌, ℕ, suc, ◌+◌, Bool, cond, List, [], ◌∷◌, ◌++◌, length, count_by, sym, ◌∙◌, ap, subst, arith}
use Rattle.std.specs.Prelude.{None}
use Rattle.std.specs.List.{flat_map, range_with_len}
use Rattle.std.proofs.lemmas.List.Sums.{sum_by-append}
use Rattle.std.proofs.lemmas.Grind.{flat_map-append}
use Rattle.std.proofs.lemmas.List.{length-append, append-nil}
use Rattle.pybuf_lemmas.proofs.Numbers.{range_with_one_more}
use Rattle.pybuf_world.specs.Facts.{after_both, replies_of_both}
use Rattle.pybuf_command.specs.declared.worlds.Command.{Command}
use Rattle.pybuf_command.specs.declared.worlds.Reply.{Reply}
use Rattle.pybuf_world.specs.World.{World, empty_world, world_after_all, replies_of}
use Rattle.pybuf_make.specs.declared.counting.Counted.{Counted}
use Rattle.pybuf_command.specs.declared.commands.Verb.TheVariants as verb
use Rattle.pybuf_make.specs.Script.{new_bytearray, of_first, round}
use Rattle.pybuf_make.specs.Summary.{is_refusal, told, summary_of, summary}
use Rattle.pybuf_make.specs.Counting.{HasRun}

count_both : (p : Reply → Bool) (xs ys : List Reply) → count_by p (xs ++ ys) ≡ count_by p xs + count_by p ys
count_both p xs ys = sum_by-append (λ x. cond (p x) 1 0) xs ys

-- One run follows another.
pub runs_on : (a b c : Counted) (xs ys : List Command) → HasRun a xs b → HasRun b ys c → HasRun a (xs ++ ys) c
runs_on a b c xs ys first then = record {
  world = then.world ∙ (ap (λ (w : World). world_after_all w ys) first.world ∙ sym (after_both a.world xs ys));
  lines = omega (arith, then.lines, first.lines, length-append xs ys);
  refused = omega (
    arith,
    then.refused,
    first.refused,
    ap (λ (w : World). count_by is_refusal (replies_of w ys)) first.world,
    ap (count_by is_refusal) (replies_of_both a.world xs ys),
    count_both is_refusal (replies_of a.world xs) (replies_of (world_after_all a.world xs) ys),
  );
}

-- one more round
rounds_more : (f : ℕ → List Command) (n : ℕ) → flat_map f (range_with_len 0 (n + 1)) ≡ flat_map f (range_with_len 0 n) ++ f n
rounds_more f n =
    let one : n + 1 ≡ suc n = omega arith in
    let last : 0 + n ≡ n = omega arith in
    ap (λ k. flat_map f (range_with_len 0 k)) one
    ∙ (ap (flat_map f) (range_with_one_more 0 n)
    ∙ (ap (λ k. flat_map f (range_with_len 0 n ++ k ∷ [])) last
    ∙ (flat_map-append f (range_with_len 0 n) (n ∷ []) ∙ ap (λ xs. flat_map f (range_with_len 0 n) ++ xs) (append-nil (f n)))))

-- the rounds up to a number, and then the round that has this number
pub one_more : (old mid new : Counted) (n : ℕ) → HasRun old (flat_map round (range_with_len 0 n)) mid → HasRun mid (round n) new →
    HasRun old (flat_map round (range_with_len 0 (n + 1))) new
one_more old mid new n first then =
    subst (λ (cs : List Command). HasRun old cs new) (sym (rounds_more round n)) (runs_on old mid new (flat_map round (range_with_len 0 n)) (round n) first then)

-- What is counted of a whole run is its summary.
pub counts_of : (run : Counted) (commands : List Command) (begun : Counted) → HasRun begun commands run → begun.world ≡ empty_world →
    begun.lines ≡ 0 → begun.refused ≡ 0 → told run.lines run.refused run.world ≡ summary_of commands
counts_of run commands begun ran empty none zero_refused =
    let lines : run.lines ≡ length commands = omega (arith, ran.lines, none) in
    let refused : run.refused ≡ count_by is_refusal (replies_of empty_world commands) =
    omega (arith, ran.refused, zero_refused, ap (λ (w : World). count_by is_refusal (replies_of w commands)) empty) in
    let world : run.world ≡ world_after_all empty_world commands = ran.world ∙ ap (λ (w : World). world_after_all w commands) empty in
    ap (λ n. told n run.refused run.world) lines
    ∙ (ap (λ n. told (length commands) n run.world) refused
    ∙ ap (λ (w : World). told (length commands) (count_by is_refusal (replies_of empty_world commands)) w) world)

pub whole_run : (n : ℕ) (begun first then run : Counted) (made last : Command) → made ≡ new_bytearray → last ≡ of_first (verb.ToBytes None) →
    HasRun begun (made ∷ []) first → HasRun first (flat_map round (range_with_len 0 n)) then → HasRun then (last ∷ []) run →
    begun.world ≡ empty_world → begun.lines ≡ 0 → begun.refused ≡ 0 → told run.lines run.refused run.world ≡ summary n
unfolding summary
whole_run n begun first then run made last new_is last_is a b c empty none zero_refused =
    let rounds : List Command = flat_map round (range_with_len 0 n) in
    let all : HasRun begun (made ∷ rounds ++ last ∷ []) run =
    runs_on begun first run (made ∷ []) (rounds ++ last ∷ []) a (runs_on first then run rounds (last ∷ []) b c) in
    counts_of run (made ∷ rounds ++ last ∷ []) begun all empty none zero_refused
    ∙ (ap (λ x. summary_of (x ∷ rounds ++ last ∷ [])) new_is ∙ ap (λ x. summary_of (new_bytearray ∷ rounds ++ x ∷ [])) last_is)
