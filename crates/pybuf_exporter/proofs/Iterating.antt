-- An iterator over bytes gives each of them once, and then it stops for ever.
use Rattle.std.proofs.Common.{◌≡◌, ℕ, zero, suc, ◌+◌, ◌-◌, ◌<◌, ◌≤◌, List, [], ◌∷◌, ◌++◌, length, take, drop, map, Bool, true, false, ap, ap₂, sym, ◌∙◌, refl, arith, take-append-drop, append_assoc}
use Rattle.std.specs.Prelude.{replicate, Option, Some, None, Ok, slice_get, nat_lt}
use Rattle.std.specs.Option.{ok_or, option_map}
use Rattle.std.proofs.lemmas.Grind.{common_steps}
use Rattle.std.proofs.lemmas.Bool.{ltb-true, ltb-false}
use Rattle.std.proofs.lemmas.Option.{slice_get_past}
use Rattle.std.proofs.Math.ListN.{drop_of_length-le}
use Rattle.pybuf_lemmas.proofs.Lists.{element_after_set}
use Rattle.pybuf_value.specs.declared.faults.Fault.TheVariants as fault
use Rattle.pybuf_value.specs.declared.values.Item.{Item}
use Rattle.pybuf_value.specs.Refusing.{◌>>=◌}
use Rattle.pybuf_command.specs.declared.kinds.Subject.{Subject}
use Rattle.pybuf_command.specs.declared.kinds.Subject.TheVariants as subject
use Rattle.pybuf_command.specs.declared.commands.Verb.TheVariants as verb
use Rattle.pybuf_command.specs.declared.commands.LocalReply.{LocalReply}
use Rattle.pybuf_command.specs.declared.commands.LocalReply.TheVariants as reply
use Rattle.pybuf_memoryview.specs.Items.{byte_item}
use Rattle.pybuf_state.specs.Exporter.{Exporter, Iterator, iterator_put}
use Rattle.pybuf_verbs_iters.specs.Iterators.{item_over, moved_on, next_unless}
use Rattle.pybuf_exporter.specs.Step.{settled_answer, estep}
use Rattle.pybuf_exporter.specs.Laws.{nexts, IteratorsGiveTheBytes}

-- ---- lists

pub get-middle : {X : Type 0} (before : List X) (x : X) (after : List X) → slice_get (before ++ x ∷ after) (length before) ≡ Some x
get-middle [] x after = refl
get-middle (y ∷ before) x after = get-middle before x after

-- ---- one `next`

abbrev pub after_next : Exporter → ℕ → Exporter × LocalReply
after_next e k = estep e (subject.Iter k) verb.Next []

abbrev pub by_iterator : Exporter → ℕ → Option Iterator → Exporter × LocalReply
by_iterator e k o = settled_answer e (ok_or o fault.UnknownName >>= λ it. next_unless it.exhausted e k it)

next_exhausted : (e : Exporter) (k : ℕ) (it : Iterator) → slice_get e.iterators k ≡ Some it → it.exhausted ≡ true → after_next e k ≡ (e, reply.Stop)
next_exhausted e k it given is = ap (by_iterator e k) given ∙ ap (λ (b : Bool). settled_answer e (next_unless b e k it)) is

next_over_bytes : (e : Exporter) (k : ℕ) (it : Iterator) (x : Option Item) → slice_get e.iterators k ≡ Some it → it.subject ≡ subject.Own → it.exhausted ≡ false → option_map byte_item (slice_get e.bytes it.position) ≡ x
    → after_next e k ≡ moved_on e k it x
next_over_bytes e k it x given own goes found =
    ap (by_iterator e k) given ∙ ap (λ (b : Bool). settled_answer e (next_unless b e k it)) goes
    ∙ ap (λ (s : Subject). settled_answer e (item_over e s it.position >>= λ y. Ok (moved_on e k it y))) own
    ∙ ap (moved_on e k it) found

-- ---- more than one `next`

pub stops : (more : ℕ) (e : Exporter) (k : ℕ) (it : Iterator) → slice_get e.iterators k ≡ Some it → it.exhausted ≡ true → nexts e k more ≡ replicate more reply.Stop
stops zero e k it given is = refl
stops (suc more) e k it given is =
    ap (λ (after : Exporter × LocalReply). after.1 ∷ nexts after.0 k more) (next_exhausted e k it given is)
    ∙ ap (λ (rest : List LocalReply). reply.Stop ∷ rest) (stops more e k it given is)

ends : (more : ℕ) (e : Exporter) (k : ℕ) (it : Iterator) → slice_get e.iterators k ≡ Some it → it.subject ≡ subject.Own → it.exhausted ≡ false → length e.bytes ≤ it.position → nexts e k more ≡ replicate more reply.Stop
ends zero e k it given own goes past = refl
ends (suc more) e k it given own goes past =
    let ended : Iterator = record it { exhausted = true } in
    ap (λ (after : Exporter × LocalReply). after.1 ∷ nexts after.0 k more)
    (next_over_bytes e k it None given own goes (ap (option_map byte_item) (slice_get_past e.bytes it.position past)))
    ∙ ap (λ (rest : List LocalReply). reply.Stop ∷ rest) (stops more (iterator_put e k ended) k ended (element_after_set e.iterators k it ended given) refl)

abbrev item_reply : ℕ → LocalReply
item_reply b = reply.Item (byte_item b)

gives : (rest before : List ℕ) (e : Exporter) (k : ℕ) (it : Iterator) (more n : ℕ) → n ≡ length rest + more → e.bytes ≡ before ++ rest → it.position ≡ length before → slice_get e.iterators k ≡ Some it → it.subject ≡ subject.Own
    → it.exhausted ≡ false → nexts e k n ≡ map item_reply rest ++ replicate more reply.Stop
gives [] before e k it more n count bytes at given own goes =
    let same : n ≡ more = omega (arith, count) in
    ap (nexts e k) same ∙ ends more e k it given own goes (let all : length e.bytes ≡ length before = ap (λ (xs : List ℕ). length xs) bytes ∙ grind (arith, common_steps) in let past : length e.bytes ≤ it.position = omega (arith, all, at) in past)
gives (b ∷ rest) before e k it more n count bytes at given own goes =
    let moved : Iterator = record it { position = it.position + 1 } in
    let left : ℕ = length rest + more in
    let one_more : n ≡ suc left = omega (arith, count) in
    let found : slice_get e.bytes it.position ≡ Some b = ap₂ (λ (xs : List ℕ) (m : ℕ). slice_get xs m) bytes at ∙ get-middle before b rest in
    ap (nexts e k) one_more
    ∙ ap (λ (after : Exporter × LocalReply). after.1 ∷ nexts after.0 k left) (next_over_bytes e k it (Some (byte_item b)) given own goes (ap (option_map byte_item) found))
    ∙ ap (λ (replies : List LocalReply). item_reply b ∷ replies)
    (gives rest (before ++ b ∷ []) (iterator_put e k moved) k moved more left refl (bytes ∙ sym (append_assoc before (b ∷ []) rest)) (grind (arith, common_steps, at)) (element_after_set e.iterators k it moved given) own goes)

-- If the position is past the end, no byte is given.
by_place : (e : Exporter) (k : ℕ) (it : Iterator) (more : ℕ) (b : Bool) → nat_lt (length e.bytes) it.position ≡ b → slice_get e.iterators k ≡ Some it → it.subject ≡ subject.Own → it.exhausted ≡ false
    → nexts e k (length e.bytes - it.position + more) ≡ map item_reply (drop it.position e.bytes) ++ replicate more reply.Stop
by_place e k it more true is given own goes =
    let past : length e.bytes < it.position = ltb-true (length e.bytes) it.position is in
    let none : length e.bytes - it.position + more ≡ more = omega (arith, past) in
    let empty : drop it.position e.bytes ≡ [] = drop_of_length-le e.bytes (let less : length e.bytes ≤ it.position = omega (arith, past) in less) in
    ap (nexts e k) none ∙ ends more e k it given own goes (let less : length e.bytes ≤ it.position = omega (arith, past) in less)
    ∙ sym (ap (λ (xs : List ℕ). map item_reply xs ++ replicate more reply.Stop) empty)
by_place e k it more false is given own goes =
    let inside : it.position ≤ length e.bytes = ltb-false (length e.bytes) it.position is in
    let counted : length e.bytes - it.position + more ≡ length (drop it.position e.bytes) + more = grind (arith, common_steps) in
    let placed : it.position ≡ length (take it.position e.bytes) = grind (arith, common_steps, inside) in
    gives (drop it.position e.bytes) (take it.position e.bytes) e k it more (length e.bytes - it.position + more) counted (sym (take-append-drop it.position e.bytes)) placed given own goes

pub gives_the_bytes : IteratorsGiveTheBytes
gives_the_bytes e k it more given own goes = by_place e k it more (nat_lt (length e.bytes) it.position) refl given own goes
