-- If as many elements replace those of a slice, the length stays.
use Rattle.std.proofs.Common.{◌≡◌, ℕ, ◌-◌, ◌≤◌, Bool, true, false, true≢false, List, [], ◌∷◌, ◌++◌, length, take, drop, refl, ap, sym, ◌∙◌, arith, ℤ, pos, negsuc, length-take, length-drop, length-set, length-append}
use Rattle.std.specs.Prelude.{slice_set, if◌then◌else◌}
use Rattle.std.proofs.lemmas.Bool.{eqb-true}
use Rattle.pybuf_index.specs.Parts.{SliceParts, picks_of}
use Rattle.pybuf_index.specs.Runs.{span_start, span_end}
use Rattle.pybuf_index.specs.Laws.{EachSpan, SpanPicksAre, SlicesHaveSpans}
use Rattle.pybuf_slice.specs.Edits.{replaced_range, set_at, is_one}
use Rattle.pybuf_slice.specs.EditLaws.{AsManyKeepTheLength}
use Rattle.pybuf_slice.proofs.ReadLemmas.{up_moves, length_by_one}

length_set_at : {X : Type 0} (indices : List ℕ) (items others : List X) → length (set_at items indices others) ≡ length items
length_set_at [] items others = refl
length_set_at (i ∷ indices) items [] = refl
length_set_at (i ∷ indices) items (x ∷ others) = length_set_at indices (slice_set items i x) others ∙ length-set items i x

length_replaced : {X : Type 0} (items others : List X) (low high : ℕ) → low ≤ high → high ≤ length items → high - low ≡ length others → length (replaced_range items low high others) ≡ length items
length_replaced items others low high ordered inside count =
    length-append (take low items) (others ++ drop high items)
    ∙ omega (arith, length-take low items, length-append others (drop high items), length-drop high items, count, ordered, inside)

pub one_is : (step : ℤ) → is_one step ≡ true → step ≡ pos 1
one_is (pos n) is = ap pos (eqb-true n 1 is)
one_is (negsuc n) is = absurd (true≢false (sym is))

length_of_one : {X : Type 0} (spans : EachSpan SpanPicksAre) (slices : SlicesHaveSpans) (items others : List X) (parts : SliceParts) → parts.step ≡ pos 1 → length (picks_of (length items) parts) ≡ length others
    → length (replaced_range items (span_start (length items) parts) (span_end (length items) parts) others) ≡ length items
length_of_one spans slices items others parts one count =
    let low : ℕ = span_start (length items) parts in
    let high : ℕ = span_end (length items) parts in
    let span = slices (length items) parts (λ none. up_moves 0 (sym one ∙ none)) in
    length_replaced items others low high span.ordered span.inside
    (sym (length_by_one spans low high parts.step one) ∙ ap length span.same ∙ count)

either_length : {X : Type 0} (n : ℕ) (b : Bool) (xs ys : List X) → (b ≡ true → length xs ≡ n) → length ys ≡ n → length (if b then xs else ys) ≡ n
either_length n true xs ys first second = first refl
either_length n false xs ys first second = second

pub as_many : {X : Type 0} (spans : EachSpan SpanPicksAre) (slices : SlicesHaveSpans) (items : List X) (parts : SliceParts) (others : List X) → AsManyKeepTheLength items parts others
as_many spans slices items parts others count =
    either_length (length items) (is_one parts.step) (replaced_range items (span_start (length items) parts) (span_end (length items) parts) others) (set_at items (picks_of (length items) parts) others)
    (λ one. length_of_one spans slices items others parts (one_is parts.step one) count)
    (length_set_at (picks_of (length items) parts) items others)
