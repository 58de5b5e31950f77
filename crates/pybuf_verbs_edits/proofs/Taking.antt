-- The checks of its effect tell what an edit takes out at the front.
use Rattle.std.proofs.Common.{◌≡◌, ◌≢◌, ℕ, zero, suc, ◌+◌, ◌-◌, ◌<◌, ◌≤◌, ℤ, pos, negsuc, List, [], ◌∷◌, length, true, false, Bool, sym, subst, ap, ◌∙◌, refl, arith}
use Rattle.std.specs.Prelude.{nat_abs, Result, Ok, Err}
use Rattle.pybuf_index.specs.Facts.{how_many_one, run_length}
use Rattle.pybuf_value.specs.declared.faults.Fault.{Fault}
use Rattle.pybuf_value.specs.declared.values.PySlice.{PySlice}
use Rattle.pybuf_value.specs.Refusing.{◌>>=◌}
use Rattle.pybuf_index.specs.Picks.{is_negative}
use Rattle.pybuf_index.specs.Parts.{SliceParts, saturated_parts_of, picks_of}
use Rattle.pybuf_index.specs.Runs.{run_of, run_low, how_many, picks_in_span}
use Rattle.pybuf_index.specs.Laws.{EachSpan, SpanPicksAre}
use Rattle.pybuf_slice.specs.Edits.{replaced_range, elements_off}
use Rattle.pybuf_command.specs.declared.commands.LocalReply.{LocalReply}
use Rattle.pybuf_command.specs.declared.commands.LocalReply.TheVariants as reply
use Rattle.pybuf_state.specs.Exporter.{Exporter, resized}
use Rattle.pybuf_state.specs.Resizing.{resizable}
use Rattle.pybuf_verbs_edits.specs.Common.{with_bytes}
use Rattle.pybuf_verbs_edits.specs.Shrinking.{slice_deleted}
use Rattle.pybuf_verbs_edits.specs.Counting.{AreFirst, TakesFirst}
use Rattle.pybuf_verbs_edits.proofs.Fronts.{first_alone, first_low, first_stride, run_is_first, without_first}

-- ---- one byte

last_place : (r : Result ℕ Fault) (place n : ℕ) → r ≡ Ok place → TakesFirst (r >>= λ p. Ok (p ∷ [])) n → AreFirst n (place ∷ [])
last_place (Ok p) place n is first =
    let same : p ≡ place = cc in
    subst (λ (q : ℕ). AreFirst n (q ∷ [])) same first
last_place (Err f) place n is first = absurd (cc)

named_place : (r : Result ℤ Fault) (f : ℤ → Result ℕ Fault) (number : ℤ) (place n : ℕ) → r ≡ Ok number → f number ≡ Ok place → TakesFirst (r >>= λ k. (f k >>= λ p. Ok (p ∷ []))) n → AreFirst n (place ∷ [])
named_place (Ok k) f number place n is found first =
    let same : k ≡ number = cc in
    last_place (f k) place n (ap f same ∙ found) first
named_place (Err g) f number place n is found first = absurd (cc)

-- The byte is the one at a place that a number names.
pub named_room : (r : Result ℤ Fault) (f : ℤ → Result ℕ Fault) (number : ℤ) (place n old new : ℕ) → r ≡ Ok number → f number ≡ Ok place → TakesFirst (r >>= λ k. (f k >>= λ p. Ok (p ∷ []))) n
    → (place ≡ 0 → new ≡ old + (place + 1)) → new ≡ old + n
named_room r f number place n old new is found first room =
    let alone = first_alone n place (named_place r f number place n is found first) in
    omega (arith, alone.0, alone.1, room alone.0)

pub named_counter : (r : Result ℤ Fault) (f : ℤ → Result ℕ Fault) (number : ℤ) (place n old new : ℕ) → r ≡ Ok number → f number ≡ Ok place → TakesFirst (r >>= λ k. (f k >>= λ p. Ok (p ∷ []))) n
    → (place ≡ 0 → new ≡ old) → new ≡ old
named_counter r f number place n old new is found first counter = counter (first_alone n place (named_place r f number place n is found first)).0

-- The byte is the first of its value.
valued_place : (r : Result ℕ Fault) (f : ℕ → ℕ) (byte place n : ℕ) → r ≡ Ok byte → f byte ≡ place → TakesFirst (r >>= λ b. Ok (f b ∷ [])) n → AreFirst n (place ∷ [])
valued_place (Ok b) f byte place n is found first =
    let same : b ≡ byte = cc in
    subst (λ (q : ℕ). AreFirst n (q ∷ [])) (ap f same ∙ found) first
valued_place (Err g) f byte place n is found first = absurd (cc)

pub valued_room : (r : Result ℕ Fault) (f : ℕ → ℕ) (byte place n old new : ℕ) → r ≡ Ok byte → f byte ≡ place → TakesFirst (r >>= λ b. Ok (f b ∷ [])) n → (place ≡ 0 → new ≡ old + (place + 1)) → new ≡ old + n
valued_room r f byte place n old new is found first room =
    let alone = first_alone n place (valued_place r f byte place n is found first) in
    omega (arith, alone.0, alone.1, room alone.0)

pub valued_counter : (r : Result ℕ Fault) (f : ℕ → ℕ) (byte place n old new : ℕ) → r ≡ Ok byte → f byte ≡ place → TakesFirst (r >>= λ b. Ok (f b ∷ [])) n → (place ≡ 0 → new ≡ old) → new ≡ old
valued_counter r f byte place n old new is found first counter = counter (first_alone n place (valued_place r f byte place n is found first)).0

-- ---- the bytes that a slice picks

pub sliced_first : (len : ℕ) (r : Result SliceParts Fault) (parts : SliceParts) (n : ℕ) → r ≡ Ok parts → TakesFirst (r >>= λ p. Ok (picks_of len p)) n → AreFirst n (picks_of len parts)
sliced_first len (Ok p) parts n is first =
    let same : p ≡ parts = cc in
    subst (λ (q : SliceParts). AreFirst n (picks_of len q)) same first
sliced_first len (Err f) parts n is first = absurd (cc)

-- If just the first places go, the rest is left.
pub front_gone : (bytes places : List ℕ) (n : ℕ) → AreFirst n places → elements_off bytes places ≡ replaced_range bytes 0 n []
front_gone bytes places n first = without_first n bytes places first

-- ---- spans whose indices are the first places

run_least : (falls : Bool) (low high k : ℕ) → k ≡ high - low → 0 < k → run_low falls low high 1 k ≡ low
run_least false low high k counted some = refl
run_least true low high k counted some = omega (arith, counted, some)

some_size : (step : ℤ) → step ≢ pos 0 → 0 < nat_abs step
some_size (pos zero) moves = absurd (moves refl)
some_size (pos (suc n)) moves = omega arith
some_size (negsuc n) moves = omega arith

-- A span with several indices picks the first places if it begins at 0 and its step is 1, up or down.
pub several_first : (spans : EachSpan SpanPicksAre) (low high : ℕ) (step : ℤ) → step ≢ pos 0 → 1 < length (picks_in_span low high step) → low ≡ 0 → nat_abs step ≡ 1 → AreFirst (length (picks_in_span low high step)) (picks_in_span low high step)
several_first spans low high step moves some none stride =
    let falls : Bool = is_negative step in
    let s : ℕ = nat_abs step in
    let k : ℕ = how_many low high s in
    let run : picks_in_span low high step ≡ run_of falls (run_low falls low high s k) s k = (spans low high step moves).run in
    let long : length (picks_in_span low high step) ≡ k = ap length run ∙ run_length falls (run_low falls low high s k) s k in
    let counted : k ≡ high - low = ap (how_many low high) stride ∙ how_many_one low high in
    let least : run_low falls low high s k ≡ 0 = ap (λ (t : ℕ). run_low falls low high t k) stride ∙ run_least falls low high k counted (omega (arith, some, long)) ∙ none in
    let same : picks_in_span low high step ≡ run_of falls 0 1 k = run ∙ ap (λ (x : ℕ). run_of falls x s k) least ∙ ap (λ (t : ℕ). run_of falls 0 t k) stride in
    subst (λ (m : ℕ). AreFirst m (picks_in_span low high step)) (sym long) (subst (AreFirst k) (sym same) (run_is_first falls k))

-- No other span with several indices picks the first places.
pub several_only : (spans : EachSpan SpanPicksAre) (low high : ℕ) (step : ℤ) (n : ℕ) → step ≢ pos 0 → 1 < length (picks_in_span low high step) → AreFirst n (picks_in_span low high step) → (low ≡ 0) × (nat_abs step ≡ 1)
several_only spans low high step n moves some first =
    let falls : Bool = is_negative step in
    let s : ℕ = nat_abs step in
    let k : ℕ = how_many low high s in
    let run : picks_in_span low high step ≡ run_of falls (run_low falls low high s k) s k = (spans low high step moves).run in
    let long : length (picks_in_span low high step) ≡ k = ap length run ∙ run_length falls (run_low falls low high s k) s k in
    let on_run : AreFirst n (run_of falls (run_low falls low high s k) s k) = subst (AreFirst n) run first in
    let stride : s ≡ 1 = first_stride n falls (run_low falls low high s k) s k (omega (arith, some, long)) (some_size step moves) on_run in
    let least : run_low falls low high s k ≡ 0 = first_low n falls (run_low falls low high s k) s k (omega (arith, some, long)) on_run in
    let counted : k ≡ high - low = ap (how_many low high) stride ∙ how_many_one low high in
    (sym (run_least falls low high k counted (omega (arith, some, long))) ∙ sym (ap (λ (t : ℕ). run_low falls low high t k) stride) ∙ least, stride)

pub head_alone : (xs rest : List ℕ) (place n : ℕ) → xs ≡ place ∷ rest → length xs ≤ 1 → AreFirst n xs → place ≡ 0
head_alone xs [] place n is few first = (first_alone n place (subst (AreFirst n) is first)).0
head_alone xs (r ∷ rest) place n is few first = absurd (omega (arith, few, ap length is))

-- ---- a deletion by a slice

abbrev done : Exporter × LocalReply → Result (Exporter × LocalReply) Fault
done after = Ok after

pub sliced_gone : (e new : Exporter) (slice : PySlice) (parts : SliceParts) (count : ℕ) → saturated_parts_of slice ≡ Ok parts → resizable e ≡ Ok true → count ≡ length (picks_of (length e.bytes) parts)
    → AreFirst (length (picks_of (length e.bytes) parts)) (picks_of (length e.bytes) parts) → new ≡ resized e 0 count [] → slice_deleted e slice ≡ Ok (new, reply.Ok)
sliced_gone e new slice parts count parsed free counted first same =
    let places : List ℕ = picks_of (length e.bytes) parts in
    let gone : elements_off e.bytes places ≡ replaced_range e.bytes 0 count [] = front_gone e.bytes places (length places) first ∙ ap (λ (n : ℕ). replaced_range e.bytes 0 n []) (sym counted) in
    rw (parsed, free) (ap (λ (bytes : List ℕ). done (with_bytes e bytes)) gone ∙ ap (λ (x : Exporter). done (x, reply.Ok)) (sym same))
