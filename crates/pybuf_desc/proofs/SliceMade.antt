-- What `sliced` makes, from what `adjust_indices` says.
use Rattle.std.proofs.Common.{◌≡◌, ◌≢◌, ℕ, ◌-◌, ◌*◌, ◌^◌, ◌<◌, ◌≤◌, ℤ, pos, negsuc, ◌+ℤ◌, ◌-ℤ◌, ◌*ℤ◌, ◌≤ℤ◌, ◌<ℤ◌, List, [], ◌∷◌, length, drop, drop-cons, refl, ap, sym, ◌∙◌, subst, arith, SFits, w64, All, slice_set}
use Rattle.std.proofs.lemmas.Int.{ints}
use Rattle.std.specs.List.{AllByRecursion}
use Rattle.std.proofs.lemmas.List.Elements.{recursion_from_All}
use Rattle.pybuf_lemmas.proofs.Lists.{Walks}
use Rattle.pybuf_lemmas.proofs.Integers.{product_is_nonzero}
use Rattle.pybuf_index.specs.Facts.{length-steps, walks_span}
use Rattle.pybuf_index.specs.Parts.{SliceParts, IsSaturated, picks_of, nearest_word}
use Rattle.pybuf_index.specs.Runs.{picks_in_span}
use Rattle.pybuf_desc.specs.Layouts.{Layout, product}
use Rattle.pybuf_desc.specs.Descriptor.{Descriptor, shape_of, strides_of}
use Rattle.pybuf_desc.specs.Places.{places, Stands}
use Rattle.pybuf_desc.specs.Valid.{IsInside, IsValid, IsPlaced}
use Rattle.pybuf_desc.specs.Slices.{first_entry, first_stride, slice_at, slice_of}
use Rattle.pybuf_desc.proofs.Moves.{dim_at}
use Rattle.pybuf_desc.proofs.Products.{AreNonzero, AreNonzero-from_All}
use Rattle.pybuf_desc.proofs.Track.{here, inside_entry, difference_fits, entries_fit}
use Rattle.pybuf_desc.proofs.Cuts.{span_first}
use Rattle.pybuf_desc.proofs.SliceFacts.{IsCut, cut_of, stands_cut}
use Rattle.pybuf_desc.proofs.SliceValidity.{valid_cut, stride_shown}

-- the dimensions are the first and the others
pub dims_are : (d : Descriptor) → 0 < length d.dims → d.dims ≡ dim_at d.dims 0 ∷ drop 1 d.dims
dims_are d h = drop-cons d.dims 0 (0, pos 0, pos 0) h

-- ---- how many indices a span has at most

pub length-span : (low high : ℕ) (step : ℤ) → length (picks_in_span low high step) ≤ high - low
unfolding picks_in_span
length-span low high (pos s) = length-steps (high - low) (pos low) (pos high) (pos s)
length-span low high (negsuc s) = length-steps (high - low) (pos high +ℤ negsuc 0) (pos low +ℤ negsuc 0) (negsuc s)

-- ---- the facts of one call

pub record IsCall (d : Descriptor) (start : ℕ) (parts : SliceParts) (low high count : ℕ) : Type 0 where
  pub placed : IsPlaced d start
  pub some : 0 < length d.dims
  pub saturated : IsSaturated parts
  pub picks : picks_in_span low high parts.step ≡ picks_of (dim_at d.dims 0).0 parts
  pub count_is : count ≡ length (picks_of (dim_at d.dims 0).0 parts)
  pub within : high ≤ (dim_at d.dims 0).0

pub entry_fits : (d : Descriptor) (start : ℕ) → IsPlaced d start → 0 < length d.dims → (dim_at d.dims 0).0 < 2 ^ 63
entry_fits d start placed some =
    (subst (AllByRecursion (λ (dim : ℕ × ℤ × ℤ). dim.0 < 2 ^ 63)) (dims_are d some) (entries_fit d.itemsize d.dims placed.valid.some_size placed.valid.extent_fits)).0

all_inside : (d : Descriptor) (start : ℕ) (placed : IsPlaced d start) → 0 < length d.dims → AllByRecursion (IsInside d.itemsize placed.room) (places (dim_at d.dims 0 ∷ drop 1 d.dims) (pos start))
all_inside d start placed some =
    recursion_from_All (IsInside d.itemsize placed.room) (places (dim_at d.dims 0 ∷ drop 1 d.dims) (pos start))
    (subst (λ ds. All (IsInside d.itemsize placed.room) (places ds (pos start))) (dims_are d some) placed.valid.inside)

later : (d : Descriptor) (start : ℕ) → IsPlaced d start → AreNonzero (drop 1 d.dims)
later d start placed = AreNonzero-from_All (drop 1 d.dims) placed.valid.later_entries

pub count_few : (d : Descriptor) (start : ℕ) (parts : SliceParts) (low high count : ℕ) → IsCall d start parts low high count → count ≤ high - low
count_few d start parts low high count c =
    subst (λ n. n ≤ high - low) (ap (λ (xs : List ℕ). length xs) c.picks ∙ sym c.count_is) (length-span low high parts.step)

walks : (d : Descriptor) (start : ℕ) (parts : SliceParts) (low high count : ℕ) → IsCall d start parts low high count
    → Walks (dim_at d.dims 0).0 parts.step (span_first low high parts.step -ℤ parts.step) (picks_of (dim_at d.dims 0).0 parts)
walks d start parts low high count c =
    subst (Walks (dim_at d.dims 0).0 parts.step (span_first low high parts.step -ℤ parts.step)) c.picks (walks_span (dim_at d.dims 0).0 low high parts.step c.within)

first_pick : (n : ℕ) (step before : ℤ) (picks : List ℕ) (first : ℕ) → Walks n step before picks → 0 < length picks → pos first ≡ before +ℤ step → first < n
first_pick n step before [] first w h e = absurd (omega arith)
first_pick n step before (x ∷ picks) first w h e = let at : pos x ≡ before +ℤ step = w.1 in let low : x < n = w.0 in omega (arith, ints, e, at, low)

below_room : (z : ℤ) (room : ℕ) → z ≤ℤ pos room → room < 2 ^ 63 → z <ℤ pos (2 ^ 63)
below_room z room h g = omega (arith, ints)

there_and_back : (a b : ℤ) → a ≡ a -ℤ b +ℤ b
there_and_back a b = omega (arith, ints)

-- what the place of the first entry has to satisfy
pub record Entry (d : Descriptor) (start first : ℕ) : Type 0 where
  pub index_fits : first < 2 ^ 63
  pub start_fits : start < 2 ^ 63
  pub product_fits : SFits w64 (pos first *ℤ (dim_at d.dims 0).1)
  pub low : pos 0 ≤ℤ (pos start +ℤ pos first *ℤ (dim_at d.dims 0).1)
  pub high : (pos start +ℤ pos first *ℤ (dim_at d.dims 0).1) <ℤ pos (2 ^ 63)

pub entry : (d : Descriptor) (start : ℕ) (parts : SliceParts) (low high count first : ℕ) → IsCall d start parts low high count → 0 < count → pos first ≡ span_first low high parts.step → Entry d start first
entry d start parts low high count first c h e =
    let below : first < (dim_at d.dims 0).0 = first_pick (dim_at d.dims 0).0 parts.step (span_first low high parts.step -ℤ parts.step) (picks_of (dim_at d.dims 0).0 parts) first (walks d start parts low high count c)
    (subst (λ n. 0 < n) c.count_is h) (e ∙ there_and_back (span_first low high parts.step) parts.step) in
    let fits = entry_fits d start c.placed c.some in
    let all = all_inside d start c.placed c.some in
    let a = here d.itemsize c.placed.room (dim_at d.dims 0 ∷ drop 1 d.dims) (pos start) ((let low' : 0 < (dim_at d.dims 0).0 = omega (arith, below) in low'), later d start c.placed) all in
    let b = here d.itemsize c.placed.room (drop 1 d.dims) (pos start +ℤ pos first *ℤ (dim_at d.dims 0).1) (later d start c.placed) (inside_entry d.itemsize c.placed.room (dim_at d.dims 0) (drop 1 d.dims) (pos start) first below all) in
    let room = c.placed.room_fits in
    record {
      index_fits = omega (arith, below, fits);
      start_fits = (let top = a.1 in omega (arith, ints, top, room));
      product_fits = difference_fits (pos start) (pos start +ℤ pos first *ℤ (dim_at d.dims 0).1) (pos first *ℤ (dim_at d.dims 0).1) c.placed.room c.placed.room_fits a.0 a.1 b.0 b.1 refl;
      low = b.0;
      high = below_room (pos start +ℤ pos first *ℤ (dim_at d.dims 0).1) c.placed.room b.1 room;
    }

pub cut_made : (d : Descriptor) (start : ℕ) (parts : SliceParts) (low high count next : ℕ) → IsCall d start parts low high count
    → (0 < count → pos next ≡ pos start +ℤ span_first low high parts.step *ℤ (dim_at d.dims 0).1)
    → IsCut (dim_at d.dims 0) start parts.step (picks_of (dim_at d.dims 0).0 parts) next (nearest_word ((dim_at d.dims 0).1 *ℤ parts.step))
cut_made d start parts low high count next c e =
    let few = count_few d start parts low high count c in
    let within = c.within in
    record {
      before = span_first low high parts.step -ℤ parts.step;
      walks = walks d start parts low high count c;
      few = subst (λ n. n ≤ (dim_at d.dims 0).0) c.count_is (omega (arith, few, within));
      next_is = λ h. e (subst (λ n. 0 < n) (sym c.count_is) h) ∙ ap (λ z. pos start +ℤ z *ℤ (dim_at d.dims 0).1) (there_and_back (span_first low high parts.step) parts.step);
      stride_is = λ h. stride_shown d.itemsize c.placed.room (drop 1 d.dims) (dim_at d.dims 0) (pos start) parts.step (span_first low high parts.step -ℤ parts.step) (picks_of (dim_at d.dims 0).0 parts)
          c.placed.room_fits (later d start c.placed) (walks d start parts low high count c) (all_inside d start c.placed c.some) h;
    }

-- ---- the descriptor that is made

abbrev pub made_of : Descriptor → ℕ → ℕ → ℤ → Descriptor
made_of d len count stride = record d { len = len; dims = slice_set d.dims 0 (count, stride, (dim_at d.dims 0).2) }

made_is : (d : Descriptor) (len count : ℕ) (stride : ℤ) → 0 < length d.dims → made_of d len count stride ≡ cut_of d (drop 1 d.dims) len count stride (dim_at d.dims 0).2
made_is d len count stride h = ap (λ (ds : List (ℕ × ℤ × ℤ)). record d { len = len; dims = slice_set ds 0 (count, stride, (dim_at d.dims 0).2) }) (dims_are d h)

pub made_stands : (d : Descriptor) (start : ℕ) (parts : SliceParts) (low high count next len : ℕ) → IsCall d start parts low high count
    → (0 < count → pos next ≡ pos start +ℤ span_first low high parts.step *ℤ (dim_at d.dims 0).1)
    → (view : Layout) → Stands d start view → Stands (made_of d len count (nearest_word ((dim_at d.dims 0).1 *ℤ parts.step))) next (slice_of view parts)
made_stands d start parts low high count next len c e view stands =
    let dim : ℕ × ℤ × ℤ = dim_at d.dims 0 in
    let picks : List ℕ = picks_of dim.0 parts in
    let first : first_entry view.shape ≡ dim.0 = ap first_entry (sym stands.shape ∙ ap (λ ds. shape_of ds) (dims_are d c.some)) in
    subst (λ n. Stands (made_of d len n (nearest_word (dim.1 *ℤ parts.step))) next (slice_of view parts)) (sym c.count_is)
    (subst (λ x. Stands x next (slice_of view parts)) (sym (made_is d len (length picks) (nearest_word (dim.1 *ℤ parts.step)) c.some))
    (subst (λ n. Stands (cut_of d (drop 1 d.dims) len (length picks) (nearest_word (dim.1 *ℤ parts.step)) dim.2) next (slice_at view (picks_of n parts) parts.step)) (sym first)
    (stands_cut d (drop 1 d.dims) dim start len parts.step picks next dim.2 view (dims_are d c.some) c.saturated.step (cut_made d start parts low high count next c e) stands)))

-- the bytes of the entries that stay
entry_bytes : (size n len rest : ℕ) → size * (n * rest) ≡ len → len ≡ n * (size * rest)
entry_bytes size n len rest e = omega (arith, e)

pub made_valid : (d : Descriptor) (start : ℕ) (parts : SliceParts) (low high count next len : ℕ) → IsCall d start parts low high count
    → (0 < count → pos next ≡ pos start +ℤ span_first low high parts.step *ℤ (dim_at d.dims 0).1)
    → ((entry : ℕ) → d.len ≡ (dim_at d.dims 0).0 * entry → len ≡ count * entry)
    → (room : ℕ) → IsValid d start room → IsValid (made_of d len count (nearest_word ((dim_at d.dims 0).1 *ℤ parts.step))) next room
made_valid d start parts low high count next len c e bytes room valid =
    let dim : ℕ × ℤ × ℤ = dim_at d.dims 0 in
    let picks : List ℕ = picks_of dim.0 parts in
    let rest : ℕ = product (shape_of (drop 1 d.dims)) in
    let whole : d.itemsize * (dim.0 * rest) ≡ d.len = ap (λ ds. d.itemsize * product (shape_of ds)) (sym (dims_are d c.some)) ∙ valid.len in
    let len_is : len ≡ count * (d.itemsize * rest) = bytes (d.itemsize * rest) (entry_bytes d.itemsize dim.0 d.len rest whole) in
    let moves : dim.1 ≢ pos 0 = valid.strides 0 (0, pos 0, pos 0) c.some in
    subst (λ n. IsValid (made_of d len n (nearest_word (dim.1 *ℤ parts.step))) next room) (sym c.count_is)
    (subst (λ x. IsValid x next room) (sym (made_is d len (length picks) (nearest_word (dim.1 *ℤ parts.step)) c.some))
    (valid_cut d (drop 1 d.dims) dim start room len parts.step picks next (dims_are d c.some) c.saturated.moves (product_is_nonzero dim.1 parts.step moves c.saturated.moves)
    (cut_made d start parts low high count next c e)
    (entry_bytes d.itemsize (length picks) (d.itemsize * (length picks * rest)) rest refl ∙ sym (len_is ∙ ap (λ n. n * (d.itemsize * rest)) c.count_is)) valid))

pub made_exact : (d : Descriptor) (start : ℕ) (parts : SliceParts) (low high count next : ℕ) → IsCall d start parts low high count
    → (0 < count → pos next ≡ pos start +ℤ span_first low high parts.step *ℤ (dim_at d.dims 0).1)
    → 1 < count → nearest_word ((dim_at d.dims 0).1 *ℤ parts.step) ≡ (dim_at d.dims 0).1 *ℤ parts.step
made_exact d start parts low high count next c e h =
    (cut_made d start parts low high count next c e).stride_is (subst (λ n. 1 < n) c.count_is h)

-- if there are at least two entries, the stride is exact
pub first_of_made : (d x : Descriptor) (start : ℕ) (parts : SliceParts) (low high count next len : ℕ) → IsCall d start parts low high count
    → (0 < count → pos next ≡ pos start +ℤ span_first low high parts.step *ℤ (dim_at d.dims 0).1)
    → made_of d len count (nearest_word ((dim_at d.dims 0).1 *ℤ parts.step)) ≡ x
    → 1 < first_entry (shape_of x.dims) → first_stride (strides_of x.dims) ≡ first_stride (strides_of d.dims) *ℤ parts.step
first_of_made d x start parts low high count next len c e made h =
    let dim : ℕ × ℤ × ℤ = dim_at d.dims 0 in
    let cut : x ≡ cut_of d (drop 1 d.dims) len count (nearest_word (dim.1 *ℤ parts.step)) dim.2 = sym made ∙ made_is d len count (nearest_word (dim.1 *ℤ parts.step)) c.some in
    let more : 1 < count = subst (λ y. 1 < first_entry (shape_of y.dims)) cut h in
    ap (λ y. first_stride (strides_of y.dims)) cut
    ∙ made_exact d start parts low high count next c e more
    ∙ ap (λ ds. first_stride (strides_of ds) *ℤ parts.step) (sym (dims_are d c.some))
