-- Runs of bytes that close up, and what is left without the bytes at the indices between the runs.
use Rattle.std.proofs.Common.{◌≡◌, ◌≢◌, ℕ, zero, suc, ◌+◌, ◌-◌, ◌*◌, ◌/◌, ◌%◌, ◌<◌, ◌≤◌, true, false, List, [], ◌∷◌, ◌++◌, length, refl, ap, ap₂, sym, ◌∙◌, arith, inl, inr, ℤ, pos, take, drop, get_or, append-nil, append_assoc, take-append-drop}
use Rattle.std.specs.Prelude.{Bool, reverse, if◌then◌else◌, nat_abs}
use Rattle.std.proofs.Math.Nat.{zero-mul, mul-le-mul_right}
use Rattle.std.proofs.Math.Seq.{drop-append-add, drop-cons}
use Rattle.std.proofs.lemmas.Bool.{cases_lt}
use Rattle.std.proofs.lemmas.Nat.{div-add-mod'}
use Rattle.std.proofs.lemmas.List.{length-append, length-take-le, take_at, drop-drop}
use Rattle.pybuf_lemmas.proofs.Lists.{length_of_part}
use Rattle.pybuf_strided.specs.Facts.{piece_after}
use Rattle.pybuf_slice.specs.Facts.{has_head, has_other, has_reverse}
use Rattle.pybuf_index.specs.Facts.{run_length, how_many_none, how_many_some}
use Rattle.pybuf_strided.specs.Apart.{with_piece, pieces_at}
use Rattle.pybuf_index.specs.Picks.{is_negative}
use Rattle.pybuf_index.specs.Runs.{rising, run_of, run_low, how_many, picks_in_span}
use Rattle.pybuf_index.specs.Laws.{EachSpan, SpanPicksAre}
use Rattle.pybuf_slice.specs.Edits.{has, off_from, elements_off, replaced_range}
use Rattle.pybuf_byte_slices.specs.Closing.{run_place, closed_runs}

-- ---- places of runs

-- Each run lies among the bytes.
pub run_inside : (low size n k len : ℕ) → low + n * suc size < len → k < n → run_place low size k + size < len
run_inside low size n k len inside less =
    let up : suc k ≤ n = omega (arith, less) in
    let more : suc k * suc size ≤ n * suc size = mul-le-mul_right (suc size) up in
    let sum : suc k * suc size ≡ k * suc size + suc size = grind arith in
    omega (arith, inside, more, sum)

-- the place of a run, as the code computes it
pub place_is : (low size k : ℕ) → low + 1 + k * (size + 1) ≡ run_place low size k
place_is low size k =
    let one : size + 1 ≡ suc size = omega arith in
    rw one (omega arith)

-- A run moves to a place before its own.
run_down : (low size k : ℕ) → low + k * size ≤ run_place low size k
run_down low size k =
    let sum : k * suc size ≡ k * size + k = grind arith in
    omega (arith, sum)

length-pieces : (bytes : List ℕ) (from : ℕ → ℕ) (size n : ℕ) → ((k : ℕ) → k < n → from k + size ≤ length bytes) → length (pieces_at bytes from size n) ≡ n * size
length-pieces bytes from size zero all = sym (zero-mul size)
length-pieces bytes from size (suc n) all =
    let before = length-pieces bytes from size n (λ k less. all k (omega (arith, less))) in
    let last = length_of_part bytes (from n) size (all n (omega arith)) in
    let whole : suc n * size ≡ n * size + size = grind arith in
    length-append (pieces_at bytes from size n) (take size (drop (from n) bytes)) ∙ ap₂ (λ (x y : ℕ). x + y) before last ∙ sym whole

-- what stands before the place of the next run
abbrev front : List ℕ → ℕ → ℕ → ℕ → List ℕ
front bytes low size k = take low bytes ++ pieces_at bytes (run_place low size) size k

length-front : (bytes : List ℕ) (low size k : ℕ) → low + k * suc size < length bytes → length (front bytes low size k) ≡ low + k * size
length-front bytes low size k inside =
    let first : length (take low bytes) ≡ low = length-take-le low bytes (omega (arith, inside)) in
    let pieces = length-pieces bytes (run_place low size) size k (λ i less. let here = run_inside low size k i (length bytes) inside less in omega (arith, here)) in
    length-append (take low bytes) (pieces_at bytes (run_place low size) size k) ∙ ap₂ (λ (x y : ℕ). x + y) first pieces

closed_front : (bytes : List ℕ) (low size k : ℕ) → closed_runs bytes low size k ≡ front bytes low size k ++ drop (low + k * size) bytes
closed_front bytes low size k = sym (append_assoc (take low bytes) (pieces_at bytes (run_place low size) size k) (drop (low + k * size) bytes))

-- What lies further on is as it was.
beyond : (before bytes : List ℕ) (a e : ℕ) → length before ≡ a → a ≤ e → drop e (before ++ drop a bytes) ≡ drop e bytes
beyond before bytes a e long further =
    let n : ℕ = e - a in
    let there : length before + n ≡ e = omega (arith, long, further) in
    let here : a + n ≡ e = omega (arith, further) in
    ap (λ (k : ℕ). drop k (before ++ drop a bytes)) (sym there) ∙ drop-append-add before (drop a bytes) n ∙ drop-drop n a bytes ∙ ap (λ (k : ℕ). drop k bytes) here

-- ---- the loops

-- One more run moves.
pub next_closed : (bytes now more : List ℕ) (low size k n to from : ℕ) → low + n * suc size < length bytes → k < n → to ≡ low + k * size → from ≡ run_place low size k
    → now ≡ closed_runs bytes low size k → more ≡ with_piece now to (take size (drop from now)) → more ≡ closed_runs bytes low size (k + 1)
next_closed bytes now more low size k n to from inside less to_is from_is so_far step =
    let next : suc k ≡ k + 1 = omega arith in
    let a : ℕ = low + k * size in
    let p : ℕ = run_place low size k in
    let fits : p + size < length bytes = run_inside low size n k (length bytes) inside less in
    let down : a ≤ p = run_down low size k in
    let before : List ℕ = front bytes low size k in
    let long : length before ≡ a = length-front bytes low size k (omega (arith, fits)) in
    let split : now ≡ before ++ drop a bytes = so_far ∙ closed_front bytes low size k in
    let item : List ℕ = take size (drop p bytes) in
    let same : take size (drop from now) ≡ item =
    ap₂ (λ (q : ℕ) (xs : List ℕ). take size (drop q xs)) from_is split ∙ ap (take size) (beyond before bytes a p long down) in
    let sum : a + length item ≡ low + suc k * size = ap (λ (m : ℕ). a + m) (length_of_part bytes p size (omega (arith, fits))) ∙ (let whole : low + k * size + size ≡ low + suc k * size = grind arith in whole) in
    step
    ∙ ap (with_piece now to) same
    ∙ ap₂ (λ (xs : List ℕ) (q : ℕ). with_piece xs q item) split to_is
    ∙ piece_after before item bytes a long
    ∙ ap₂ (λ (xs : List ℕ) (m : ℕ). xs ++ drop m bytes) (append_assoc (take low bytes) (pieces_at bytes (run_place low size) size k) item) sum
    ∙ append_assoc (take low bytes) (pieces_at bytes (run_place low size) size (suc k)) (drop (low + suc k * size) bytes)
    ∙ ap (closed_runs bytes low size) next

-- Runs without bytes, put end to end, are no bytes.
no_pieces : (bytes : List ℕ) (from : ℕ → ℕ) (n : ℕ) → pieces_at bytes from 0 n ≡ []
no_pieces bytes from zero = refl
no_pieces bytes from (suc n) = append-nil (pieces_at bytes from 0 n) ∙ no_pieces bytes from n

pub empty_closed : (bytes : List ℕ) (low size n : ℕ) → size ≡ 0 → bytes ≡ closed_runs bytes low size n
empty_closed bytes low size n none =
    let here : low + n * 0 ≡ low = omega arith in
    sym (
    ap (λ (s : ℕ). closed_runs bytes low s n) none
    ∙ ap₂ (λ (xs : List ℕ) (k : ℕ). take low bytes ++ (xs ++ drop k bytes)) (no_pieces bytes (run_place low 0) n) here
    ∙ take-append-drop low bytes)

-- ---- index lists

has_low : (n low stride q : ℕ) → q < low → has (rising low stride n) q ≡ false
has_low zero low stride q under = refl
has_low (suc n) low stride q under =
    let other : low ≢ q = omega arith in
    has_other low (rising (low + stride) stride n) q other ∙ has_low n (low + stride) stride q (omega arith)

-- ---- what is left without the indices of a list

off_none : (items : List ℕ) (place : ℕ) (indices : List ℕ) → ((q : ℕ) → place ≤ q → q < place + length items → has indices q ≡ false) → off_from place items indices ≡ items
off_none [] place indices none = refl
off_none (x ∷ items) place indices none =
    rw (none place (omega arith) (omega arith))
    (ap (λ (rest : List ℕ). x ∷ rest) (off_none items (suc place) indices (λ q low high. none q (omega arith) (omega arith))))

choice_append : (b : Bool) (x : ℕ) (us vs : List ℕ) → (if b then us else x ∷ us) ++ vs ≡ (if b then us ++ vs else x ∷ (us ++ vs))
choice_append true x us vs = refl
choice_append false x us vs = refl

off_append : (xs ys : List ℕ) (place : ℕ) (indices : List ℕ) → off_from place (xs ++ ys) indices ≡ off_from place xs indices ++ off_from (place + length xs) ys indices
off_append [] ys place indices =
    let same : place + 0 ≡ place = omega arith in rw same refl
off_append (x ∷ xs) ys place indices =
    let same : place + suc (length xs) ≡ suc place + length xs = omega arith in
    rw (same, off_append xs ys (suc place) indices)
    (sym (choice_append (has indices place) x (off_from (suc place) xs indices) (off_from (suc place + length xs) ys indices)))

off_same : (items : List ℕ) (place : ℕ) (one other : List ℕ) → ((q : ℕ) → place ≤ q → has one q ≡ has other q) → off_from place items one ≡ off_from place items other
off_same [] place one other same = refl
off_same (x ∷ items) place one other same = rw (same place (omega arith), off_same items (suc place) one other (λ q over. same q (omega arith))) refl

-- The byte at the least index is left out.
off_first : (bytes : List ℕ) (p stride n : ℕ) → p < length bytes → off_from p (drop p bytes) (rising p stride (suc n)) ≡ off_from (suc p) (drop (suc p) bytes) (rising (p + stride) stride n)
off_first bytes p stride n inside =
    let rest : List ℕ = rising (p + stride) stride n in
    let on : has (p ∷ rest) p ≡ true = has_head p rest p refl in
    let here : off_from p (get_or bytes p 0 ∷ drop (suc p) bytes) (p ∷ rest) ≡ off_from (suc p) (drop (suc p) bytes) (p ∷ rest) = rw on refl in
    ap (λ (xs : List ℕ). off_from p xs (p ∷ rest)) (drop-cons bytes p 0 inside)
    ∙ here
    ∙ off_same (drop (suc p) bytes) (suc p) (p ∷ rest) rest (λ q over. let other : p ≢ q = omega (arith, over) in has_other p rest q other)

-- What stands before the least index stays.
off_before : (items bytes : List ℕ) (start p stride n : ℕ) → start + length items ≡ p → off_from start (items ++ bytes) (rising p stride n) ≡ items ++ off_from p bytes (rising p stride n)
off_before items bytes start p stride n long =
    off_append items bytes start (rising p stride n)
    ∙ ap₂ (λ (xs : List ℕ) (k : ℕ). xs ++ off_from k bytes (rising p stride n))
    (off_none items start (rising p stride n) (λ q over under. has_low n p stride q (omega (arith, long, under)))) long

-- ---- pieces from the first on

pieces_first : (bytes : List ℕ) (from : ℕ → ℕ) (size n : ℕ) → pieces_at bytes from size (suc n) ≡ take size (drop (from 0) bytes) ++ pieces_at bytes (λ k. from (suc k)) size n
pieces_first bytes from size zero = sym (append-nil (take size (drop (from 0) bytes)))
pieces_first bytes from size (suc n) =
    ap (λ (xs : List ℕ). xs ++ take size (drop (from (suc n)) bytes)) (pieces_first bytes from size n)
    ∙ append_assoc (take size (drop (from 0) bytes)) (pieces_at bytes (λ k. from (suc k)) size n) (take size (drop (from (suc n)) bytes))

pieces_same : (bytes : List ℕ) (from there : ℕ → ℕ) (size n : ℕ) → ((k : ℕ) → from k ≡ there k) → pieces_at bytes from size n ≡ pieces_at bytes there size n
pieces_same bytes from there size zero same = refl
pieces_same bytes from there size (suc n) same =
    ap₂ (λ (xs : List ℕ) (p : ℕ). xs ++ take size (drop p bytes)) (pieces_same bytes from there size n same) (same n)

-- the runs behind the next index
pieces_on : (bytes : List ℕ) (low size n : ℕ) → pieces_at bytes (run_place low size) size (suc n) ≡ take size (drop (suc low) bytes) ++ pieces_at bytes (run_place (low + suc size) size) size n
pieces_on bytes low size n =
    let first : run_place low size 0 ≡ suc low = omega (arith, zero-mul (suc size)) in
    pieces_first bytes (run_place low size) size n
    ∙ ap₂ (λ (p : ℕ) (xs : List ℕ). take size (drop p bytes) ++ xs) first
    (pieces_same bytes (λ k. run_place low size (suc k)) (run_place (low + suc size) size) size n
    (λ k. let same : run_place low size (suc k) ≡ run_place (low + suc size) size k = grind arith in same))

-- ---- what is left without a run of indices

off_rest : (bytes : List ℕ) (low size n : ℕ) → low + n * suc size < length bytes
    → off_from (suc low) (drop (suc low) bytes) (rising (low + suc size) (suc size) n) ≡ pieces_at bytes (run_place low size) size n ++ drop (suc (low + n * suc size)) bytes
off_rest bytes low size zero inside =
    let none : low + 0 * suc size ≡ low = omega (arith, zero-mul (suc size)) in
    off_none (drop (suc low) bytes) (suc low) [] (λ q over under. refl)
    ∙ ap (λ (k : ℕ). drop (suc k) bytes) (sym none)
off_rest bytes low size (suc n) inside =
    let p : ℕ = low + suc size in
    let whole : low + suc n * suc size ≡ p + n * suc size = grind arith in
    let further : p + n * suc size < length bytes = omega (arith, whole, inside) in
    let run : List ℕ = take size (drop (suc low) bytes) in
    let rest : List ℕ = rising p (suc size) (suc n) in
    let there : suc low + size ≡ p = omega arith in
    let split : drop (suc low) bytes ≡ run ++ drop p bytes =
    sym (take-append-drop size (drop (suc low) bytes)) ∙ ap (λ (xs : List ℕ). run ++ xs) (drop-drop size (suc low) bytes ∙ ap (λ (k : ℕ). drop k bytes) there) in
    let long : suc low + length run ≡ p = ap (λ (k : ℕ). suc low + k) (length_of_part bytes (suc low) size (omega (arith, further))) ∙ there in
    ap (λ (xs : List ℕ). off_from (suc low) xs rest) split
    ∙ off_before run (drop p bytes) (suc low) p (suc size) (suc n) long
    ∙ ap (λ (xs : List ℕ). run ++ xs) (off_first bytes p (suc size) n (omega (arith, further)) ∙ off_rest bytes p size n further)
    ∙ sym (append_assoc run (pieces_at bytes (run_place p size) size n) (drop (suc (p + n * suc size)) bytes))
    ∙ ap₂ (λ (xs : List ℕ) (k : ℕ). xs ++ drop (suc k) bytes) (sym (pieces_on bytes low size n)) (sym whole)

off_run : (bytes : List ℕ) (low size n : ℕ) → low + n * suc size < length bytes
    → elements_off bytes (rising low (suc size) (suc n)) ≡ take low bytes ++ (pieces_at bytes (run_place low size) size n ++ drop (suc (low + n * suc size)) bytes)
off_run bytes low size n inside =
    let short : low ≤ length bytes = omega (arith, inside) in
    let long : 0 + length (take low bytes) ≡ low = omega (arith, length-take-le low bytes short) in
    ap (λ (xs : List ℕ). elements_off xs (rising low (suc size) (suc n))) (sym (take-append-drop low bytes))
    ∙ off_before (take low bytes) (drop low bytes) 0 low (suc size) (suc n) long
    ∙ ap (λ (xs : List ℕ). take low bytes ++ xs) (off_first bytes low (suc size) n (omega (arith, inside)) ∙ off_rest bytes low size n inside)

-- the runs that moved, without what stood between them
closed_off : (bytes : List ℕ) (low size n : ℕ) → low + n * suc size < length bytes
    → replaced_range (closed_runs bytes low size n) (low + n * size) (suc (low + n * suc size)) [] ≡ elements_off bytes (rising low (suc size) (suc n))
closed_off bytes low size n inside =
    let a : ℕ = low + n * size in
    let e : ℕ = suc (low + n * suc size) in
    let further : a ≤ e = (let down = run_down low size n in omega (arith, down)) in
    let before : List ℕ = front bytes low size n in
    let long : length before ≡ a = length-front bytes low size n inside in
    let up_to : take a (closed_runs bytes low size n) ≡ before = ap (take a) (closed_front bytes low size n) ∙ take_at before (drop a bytes) a long in
    let past : drop e (closed_runs bytes low size n) ≡ drop e bytes = ap (drop e) (closed_front bytes low size n) ∙ beyond before bytes a e long further in
    ap₂ (λ (xs ys : List ℕ). xs ++ ys) up_to past
    ∙ append_assoc (take low bytes) (pieces_at bytes (run_place low size) size n) (drop e bytes)
    ∙ sym (off_run bytes low size n inside)

-- the same for what the code computes
pub stride_off : (bytes new : List ℕ) (low stride count : ℕ) → 0 < stride → 0 < count → low + (count - 1) * stride < length bytes → new ≡ closed_runs bytes low (stride - 1) (count - 1)
    → replaced_range new (low + (count - 1) * (stride - 1)) (low + (count - 1) * stride + 1) [] ≡ elements_off bytes (rising low stride count)
stride_off bytes new low zero count moves some inside runs = absurd (omega arith)
stride_off bytes new low (suc size) zero moves some inside runs = absurd (omega arith)
stride_off bytes new low (suc size) (suc n) moves some inside runs =
    let s : suc size - 1 ≡ size = omega arith in
    let m : suc n - 1 ≡ n = omega arith in
    let here : low + n * suc size < length bytes = rw m at inside in
    let end : low + n * suc size + 1 ≡ suc (low + n * suc size) = omega arith in
    rw (runs, s, m, end) (closed_off bytes low size n here)

-- ---- the indices of a span

off_falls : (bytes : List ℕ) (falls : Bool) (low stride n : ℕ) → elements_off bytes (run_of falls low stride n) ≡ elements_off bytes (rising low stride n)
off_falls bytes false low stride n = refl
off_falls bytes true low stride n = off_same bytes 0 (reverse (rising low stride n)) (rising low stride n) (λ q over. has_reverse (rising low stride n) q)

-- There are as many indices as this.
count_is : (spans : EachSpan SpanPicksAre) (low high : ℕ) (step : ℤ) (count : ℕ) → step ≢ pos 0 → count ≡ length (picks_in_span low high step) → count ≡ how_many low high (nat_abs step)
count_is spans low high step count moves same_count =
    let many : ℕ = how_many low high (nat_abs step) in
    same_count
    ∙ ap length (spans low high step moves).run
    ∙ run_length (is_negative step) (run_low (is_negative step) low high (nat_abs step) many) (nat_abs step) many

-- The last of them is still below the end.
last_below : (low high stride k : ℕ) → suc k ≡ how_many low high stride → low + k * stride < high
last_below low high stride k h =
    elim (cases_lt low high) [
      | inl under ↦
          let e : k ≡ (high - low - 1) / stride = omega (arith, h ∙ how_many_some low high stride under) in
          let d : (high - low - 1) / stride * stride + (high - low - 1) % stride ≡ high - low - 1 = div-add-mod' (high - low - 1) stride in
          rw e (omega (arith, d))
      | inr over ↦ absurd (omega (arith, h ∙ how_many_none low high stride over))
    ]

less_one_below : (low high stride count : ℕ) → 0 < count → count ≡ how_many low high stride → low + (count - 1) * stride < high
less_one_below low high stride zero some h = absurd (omega arith)
less_one_below low high stride (suc k) some h =
    let one : suc k - 1 ≡ k = omega arith in rw one (last_below low high stride k h)

-- The last of the indices lies in the span.
pub last_in_span : (spans : EachSpan SpanPicksAre) (low high : ℕ) (step : ℤ) (count : ℕ) → step ≢ pos 0 → 0 < count → count ≡ length (picks_in_span low high step) → low + (count - 1) * nat_abs step < high
last_in_span spans low high step count moves some same_count = less_one_below low high (nat_abs step) count some (count_is spans low high step count moves same_count)

-- What is left without these indices is what is left without the run that goes up from the least of them.
pub off_picks : (spans : EachSpan SpanPicksAre) (bytes : List ℕ) (low high : ℕ) (step : ℤ) (count least : ℕ) → step ≢ pos 0 → count ≡ length (picks_in_span low high step) → least ≡ run_low (is_negative step) low high (nat_abs step) count
    → elements_off bytes (rising least (nat_abs step) count) ≡ elements_off bytes (picks_in_span low high step)
off_picks spans bytes low high step count least moves same_count first =
    let stride : ℕ = nat_abs step in
    let falls : Bool = is_negative step in
    ap (λ (n : ℕ). elements_off bytes (rising n stride count)) first
    ∙ sym (off_falls bytes falls (run_low falls low high stride count) stride count)
    ∙ ap (λ (n : ℕ). elements_off bytes (run_of falls (run_low falls low high stride n) stride n)) (count_is spans low high step count moves same_count)
    ∙ ap (elements_off bytes) (sym (spans low high step moves).run)

-- Without indices, all bytes stay.
pub off_no_picks : (bytes indices : List ℕ) (place : ℕ) → 0 ≡ length indices → replaced_range bytes place place [] ≡ elements_off bytes indices
off_no_picks bytes [] place none = take-append-drop place bytes ∙ sym (off_none bytes 0 [] (λ q over under. refl))
off_no_picks bytes (i ∷ indices) place none = absurd (omega arith)
