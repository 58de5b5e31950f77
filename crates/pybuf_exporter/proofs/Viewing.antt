-- An iterator over a view gives its items in order and each once, or is refused, or stops.
use Rattle.std.proofs.Common.{◌≡◌, ◌⊎◌, inl, inr, ℕ, zero, suc, ◌+◌, ◌-◌, ◌<◌, ◌≤◌, List, [], ◌∷◌, ◌++◌, length, take, drop, map, Bool, true, false, ap, ap₂, sym, ◌∙◌, refl, arith, take-append-drop, append_assoc}
use Rattle.std.specs.Prelude.{◌≢◌, ◌==◌, not, replicate, Option, Some, None, Result, Ok, Err, slice_get, slice_index, nat_lt, if◌then◌else◌}
use Rattle.std.specs.Option.{ok_or}
use Rattle.std.proofs.lemmas.Grind.{common_steps}
use Rattle.std.proofs.lemmas.Bool.{ltb-true, ltb-false, lt-ltb, le-ltb, eq-eqb}
use Rattle.std.proofs.lemmas.Bool.Decides.{eqb_tells}
use Rattle.std.proofs.lemmas.List.{drop-map}
use Rattle.std.proofs.lemmas.Simd.{map-map}
use Rattle.std.proofs.lemmas.Option.{get_or_from_slice_get}
use Rattle.std.proofs.Math.ListN.{drop_of_length-le}
use Rattle.pybuf_lemmas.proofs.Lists.{element_after_set}
use Rattle.pybuf_value.specs.declared.faults.Fault.{Fault}
use Rattle.pybuf_value.specs.declared.faults.Fault.TheVariants as fault
use Rattle.pybuf_value.specs.declared.values.Item.{Item}
use Rattle.pybuf_value.specs.Refusing.{◌>>=◌, unless}
use Rattle.pybuf_desc.specs.Layouts.{Layout, product}
use Rattle.pybuf_desc.specs.Items.{bytes_at}
use Rattle.pybuf_desc.specs.Slices.{first_entry}
use Rattle.pybuf_command.specs.declared.kinds.Subject.{Subject}
use Rattle.pybuf_command.specs.declared.kinds.Subject.TheVariants as subject
use Rattle.pybuf_command.specs.declared.commands.LocalReply.{LocalReply}
use Rattle.pybuf_command.specs.declared.commands.LocalReply.TheVariants as reply
use Rattle.pybuf_memoryview.specs.Items.{item_by}
use Rattle.pybuf_memoryview.specs.Lists.{items_of_layout}
use Rattle.pybuf_state.specs.Exporter.{Exporter, View, Iterator, live_layout, iterator_put}
use Rattle.pybuf_state.specs.Laws.{LiveLayoutsAreSound}
use Rattle.pybuf_verbs_iters.specs.Iterators.{item_at, entry_at, item_over, moved_on, next_unless}
use Rattle.pybuf_exporter.specs.Step.{settled_answer}
use Rattle.pybuf_exporter.specs.Laws.{nexts}
use Rattle.pybuf_exporter.specs.Iterating.{IteratorsGiveTheItems, ReleasedViewsAreNotIterated, OtherShapesAreNotIterated, IteratorsStopPastTheEntries, ExhaustedIteratorsStop}
use Rattle.pybuf_exporter.proofs.Iterating.{get-middle, after_next, by_iterator, stops}

-- ---- one `next`

abbrev entry_of : Exporter → Result Layout Fault → ℕ → Result (Option Item) Fault
entry_of e o position = o >>= λ layout. entry_at e layout position

next_over_view : (e : Exporter) (k n : ℕ) (it : Iterator) (o : Result Layout Fault) (x : Result (Option Item) Fault) → slice_get e.iterators k ≡ Some it → it.subject ≡ subject.View n → it.exhausted ≡ false
    → live_layout e n ≡ o → entry_of e o it.position ≡ x → after_next e k ≡ settled_answer e (x >>= λ y. Ok (moved_on e k it y))
next_over_view e k n it o x given own goes live entry =
    ap (by_iterator e k) given ∙ ap (λ (b : Bool). settled_answer e (next_unless b e k it)) goes
    ∙ ap (λ (s : Subject). settled_answer e (item_over e s it.position >>= λ y. Ok (moved_on e k it y))) own
    ∙ ap (λ (r : Result Layout Fault). settled_answer e (entry_of e r it.position >>= λ y. Ok (moved_on e k it y))) live
    ∙ ap (λ (r : Result (Option Item) Fault). settled_answer e (r >>= λ y. Ok (moved_on e k it y))) entry

-- ---- entries

abbrev item_from : List ℕ → Layout → ℕ → Item
item_from bytes layout start = item_by layout.format (bytes_at bytes layout.itemsize start)

one_entry : (e : Exporter) (layout : Layout) (position : ℕ) → position < first_entry layout.shape → length layout.shape ≡ 1
    → entry_at e layout position ≡ Ok (Some (item_from e.bytes layout (slice_index layout.starts position)))
one_entry e layout position inside one =
    ap (λ (b : Bool). if b then item_at e layout position else Ok None) (lt-ltb position (first_entry layout.shape) inside)
    ∙ ap (λ (b : Bool). unless (not b) fault.NotImplemented >>= λ _. Ok (Some (item_from e.bytes layout (slice_index layout.starts position)))) (eq-eqb (length layout.shape) 1 one)

no_entry : (e : Exporter) (layout : Layout) (position : ℕ) → first_entry layout.shape ≤ position → entry_at e layout position ≡ Ok None
no_entry e layout position past = ap (λ (b : Bool). if b then item_at e layout position else Ok None) (le-ltb position (first_entry layout.shape) past)

not_one : (n : ℕ) → ((n == 1) ≡ true) × (n ≡ 1) ⊎ ((n == 1) ≡ false) × (n ≢ 1) → n ≢ 1 → (n == 1) ≡ false
not_one n (inl same) differs = absurd (differs same.1)
not_one n (inr other) differs = other.0

other_entry : (e : Exporter) (layout : Layout) (position : ℕ) → position < first_entry layout.shape → length layout.shape ≢ 1 → entry_at e layout position ≡ Err fault.NotImplemented
other_entry e layout position inside differs =
    ap (λ (b : Bool). if b then item_at e layout position else Ok None) (lt-ltb position (first_entry layout.shape) inside)
    ∙ ap (λ (b : Bool). unless (not b) fault.NotImplemented >>= λ _. Ok (Some (item_from e.bytes layout (slice_index layout.starts position))))
    (not_one (length layout.shape) (eqb_tells (length layout.shape) 1) differs)

-- ---- more than one `next`

refused : (more : ℕ) (e : Exporter) (k n : ℕ) (it : Iterator) (o : Result Layout Fault) (f : Fault) → slice_get e.iterators k ≡ Some it → it.subject ≡ subject.View n → it.exhausted ≡ false → live_layout e n ≡ o
    → entry_of e o it.position ≡ Err f → nexts e k more ≡ replicate more (reply.Refused f)
refused zero e k n it o f given own goes live entry = refl
refused (suc more) e k n it o f given own goes live entry =
    ap (λ (after : Exporter × LocalReply). after.1 ∷ nexts after.0 k more) (next_over_view e k n it o (Err f) given own goes live entry)
    ∙ ap (λ (rest : List LocalReply). reply.Refused f ∷ rest) (refused more e k n it o f given own goes live entry)

ends : (more : ℕ) (e : Exporter) (k n : ℕ) (it : Iterator) (layout : Layout) → slice_get e.iterators k ≡ Some it → it.subject ≡ subject.View n → it.exhausted ≡ false → live_layout e n ≡ Ok layout
    → first_entry layout.shape ≤ it.position → nexts e k more ≡ replicate more reply.Stop
ends zero e k n it layout given own goes live past = refl
ends (suc more) e k n it layout given own goes live past =
    let ended : Iterator = record it { exhausted = true } in
    ap (λ (after : Exporter × LocalReply). after.1 ∷ nexts after.0 k more) (next_over_view e k n it (Ok layout) (Ok None) given own goes live (no_entry e layout it.position past))
    ∙ ap (λ (rest : List LocalReply). reply.Stop ∷ rest) (stops more (iterator_put e k ended) k ended (element_after_set e.iterators k it ended given) refl)

abbrev item_reply : List ℕ → Layout → ℕ → LocalReply
item_reply bytes layout start = reply.Item (item_from bytes layout start)

gives : (rest before : List ℕ) (e : Exporter) (k n : ℕ) (it : Iterator) (layout : Layout) (more m : ℕ) → m ≡ length rest + more → layout.starts ≡ before ++ rest → it.position ≡ length before → slice_get e.iterators k ≡ Some it
    → it.subject ≡ subject.View n → it.exhausted ≡ false → live_layout e n ≡ Ok layout → length layout.shape ≡ 1 → first_entry layout.shape ≡ length layout.starts
    → nexts e k m ≡ map (item_reply e.bytes layout) rest ++ replicate more reply.Stop
gives [] before e k n it layout more m count starts at given own goes live one entries =
    let same : m ≡ more = omega (arith, count) in
    let all : length layout.starts ≡ length before = ap (λ (xs : List ℕ). length xs) starts ∙ grind (arith, common_steps) in
    ap (nexts e k) same ∙ ends more e k n it layout given own goes live (let past : first_entry layout.shape ≤ it.position = omega (arith, entries, all, at) in past)
gives (s ∷ rest) before e k n it layout more m count starts at given own goes live one entries =
    let moved : Iterator = record it { position = it.position + 1 } in
    let left : ℕ = length rest + more in
    let one_more : m ≡ suc left = omega (arith, count) in
    let found : slice_get layout.starts it.position ≡ Some s = ap₂ (λ (xs : List ℕ) (i : ℕ). slice_get xs i) starts at ∙ get-middle before s rest in
    let start : slice_index layout.starts it.position ≡ s = get_or_from_slice_get layout.starts it.position s 0 found in
    let all : length layout.starts ≡ length before + suc (length rest) = ap (λ (xs : List ℕ). length xs) starts ∙ grind (arith, common_steps) in
    let inside : it.position < first_entry layout.shape = omega (arith, entries, all, at) in
    ap (nexts e k) one_more
    ∙ ap (λ (after : Exporter × LocalReply). after.1 ∷ nexts after.0 k left)
    (next_over_view e k n it (Ok layout) (Ok (Some (item_from e.bytes layout s))) given own goes live
    (one_entry e layout it.position inside one ∙ ap (λ (i : ℕ). let read : Result (Option Item) Fault = Ok (Some (item_from e.bytes layout i)) in read) start))
    ∙ ap (λ (replies : List LocalReply). item_reply e.bytes layout s ∷ replies)
    (gives rest (before ++ s ∷ []) (iterator_put e k moved) k n moved layout more left refl (starts ∙ sym (append_assoc before (s ∷ []) rest)) (grind (arith, common_steps, at)) (element_after_set e.iterators k it moved given) own goes live one entries)

-- ---- the laws

first_is_all : (shape : List ℕ) → length shape ≡ 1 → first_entry shape ≡ product shape
first_is_all [] one = absurd (omega (arith, one))
first_is_all (n ∷ []) one = omega arith
first_is_all (n ∷ (m ∷ shape)) one = absurd (omega (arith, one))

replied_items : (bytes : List ℕ) (layout : Layout) (position : ℕ) → map (λ x. reply.Item x) (drop position (items_of_layout bytes layout)) ≡ map (item_reply bytes layout) (drop position layout.starts)
replied_items bytes layout position =
    ap (λ (xs : List Item). map (λ x. reply.Item x) xs) (drop-map (item_from bytes layout) position layout.starts) ∙ map-map (λ x. reply.Item x) (item_from bytes layout) (drop position layout.starts)

by_place : (e : Exporter) (k n : ℕ) (it : Iterator) (layout : Layout) (more : ℕ) (b : Bool) → nat_lt (length layout.starts) it.position ≡ b → slice_get e.iterators k ≡ Some it → it.subject ≡ subject.View n → it.exhausted ≡ false
    → live_layout e n ≡ Ok layout → length layout.shape ≡ 1 → first_entry layout.shape ≡ length layout.starts
    → nexts e k (length layout.starts - it.position + more) ≡ map (item_reply e.bytes layout) (drop it.position layout.starts) ++ replicate more reply.Stop
by_place e k n it layout more true is given own goes live one entries =
    let past : length layout.starts < it.position = ltb-true (length layout.starts) it.position is in
    let none : length layout.starts - it.position + more ≡ more = omega (arith, past) in
    let empty : drop it.position layout.starts ≡ [] = drop_of_length-le layout.starts (let less : length layout.starts ≤ it.position = omega (arith, past) in less) in
    ap (nexts e k) none ∙ ends more e k n it layout given own goes live (let less : first_entry layout.shape ≤ it.position = omega (arith, past, entries) in less)
    ∙ sym (ap (λ (xs : List ℕ). map (item_reply e.bytes layout) xs ++ replicate more reply.Stop) empty)
by_place e k n it layout more false is given own goes live one entries =
    let inside : it.position ≤ length layout.starts = ltb-false (length layout.starts) it.position is in
    let counted : length layout.starts - it.position + more ≡ length (drop it.position layout.starts) + more = grind (arith, common_steps) in
    let placed : it.position ≡ length (take it.position layout.starts) = grind (arith, common_steps, inside) in
    gives (drop it.position layout.starts) (take it.position layout.starts) e k n it layout more (length layout.starts - it.position + more) counted (sym (take-append-drop it.position layout.starts)) placed given own goes live one entries

pub gives_the_items : LiveLayoutsAreSound → IteratorsGiveTheItems
gives_the_items sound_live e k n it layout more sound given own goes live one =
    let entries : first_entry layout.shape ≡ length layout.starts = first_is_all layout.shape one ∙ sym (sound_live e n layout sound live).formed.counted in
    by_place e k n it layout more (nat_lt (length layout.starts) it.position) refl given own goes live one entries
    ∙ sym (ap (λ (xs : List LocalReply). xs ++ replicate more reply.Stop) (replied_items e.bytes layout it.position))

released_layout : (e : Exporter) (n : ℕ) (v : View) → slice_get e.views n ≡ Some v → v.released ≡ true → live_layout e n ≡ Err fault.Value
released_layout e n v given is =
    ap (λ (o : Option View). ok_or o fault.UnknownName >>= λ w. unless w.released fault.Value >>= λ _. Ok w.layout) given ∙ ap (λ (b : Bool). unless b fault.Value >>= λ _. Ok v.layout) is

pub released_refuse : ReleasedViewsAreNotIterated
released_refuse e k n it v more given own goes found is = refused more e k n it (Err fault.Value) fault.Value given own goes (released_layout e n v found is) refl

pub others_refuse : OtherShapesAreNotIterated
others_refuse e k n it layout more given own goes live differs inside = refused more e k n it (Ok layout) fault.NotImplemented given own goes live (other_entry e layout it.position inside differs)

pub past_stops : IteratorsStopPastTheEntries
past_stops e k n it layout more given own goes live past = ends more e k n it layout given own goes live past

pub exhausted_stop : ExhaustedIteratorsStop
exhausted_stop e k it more given is = stops more e k it given is
