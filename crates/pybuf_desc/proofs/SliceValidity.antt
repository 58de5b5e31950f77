-- A slice of a valid descriptor is valid, and its strides are exact if two items show them.
use Rattle.std.proofs.Common.{◌≡◌, ◌≢◌, ℕ, zero, suc, ◌*◌, ◌^◌, ◌<◌, ◌≤◌, ℤ, pos, ◌+ℤ◌, ◌*ℤ◌, ◌≤ℤ◌, List, [], ◌∷◌, length, drop, ap, sym, ◌∙◌, subst, arith, SFits, w64, All, flat_map, mul-le-mul_right, mul-le-mul_left, le_refl, le-mul_of_pos_right, lt_of_le_of_lt, zero-lt-suc}
use Rattle.std.proofs.Math.IntN.{*ℤ_comm}
use Rattle.std.proofs.lemmas.Int.{ints}
use Rattle.std.specs.List.{AllByRecursion}
use Rattle.std.proofs.lemmas.List.Elements.{All-from_recursion, recursion_from_All, All-head, All-tail, All-cons}
use Rattle.pybuf_lemmas.proofs.Integers.{sum_times}
use Rattle.pybuf_lemmas.proofs.Lists.{Walks}
use Rattle.pybuf_index.specs.Facts.{nearest_word_fits, nearest_word_nonzero}
use Rattle.pybuf_index.specs.Parts.{nearest_word}
use Rattle.pybuf_desc.specs.Layouts.{product}
use Rattle.pybuf_desc.specs.Descriptor.{Descriptor, shape_of}
use Rattle.pybuf_desc.specs.Places.{places}
use Rattle.pybuf_desc.specs.Valid.{IsInside, IsValid}
use Rattle.pybuf_desc.proofs.Inside.{ByRec-append}
use Rattle.pybuf_desc.proofs.Track.{inside_entry, here, step}
use Rattle.pybuf_desc.proofs.Products.{AreNonzero, extent_of}
use Rattle.pybuf_desc.proofs.SliceFacts.{IsCut, cut_of, places_cut}

inside_picks : (size room n : ℕ) (dims : List (ℕ × ℤ × ℤ)) (dim : ℕ × ℤ × ℤ) (p step before : ℤ) (picks : List ℕ) → Walks dim.0 step before picks
    → AllByRecursion (IsInside size room) (places (dim ∷ dims) p) → AllByRecursion (IsInside size room) (flat_map (λ i. places dims (p +ℤ pos i *ℤ dim.1)) picks)
inside_picks size room n dims dim p step before [] w all = tt
inside_picks size room n dims dim p step before (x ∷ picks) w all =
    ByRec-append (IsInside size room) (places dims (p +ℤ pos x *ℤ dim.1)) (flat_map (λ i. places dims (p +ℤ pos i *ℤ dim.1)) picks)
    (inside_entry size room dim dims p x w.0 all)
    (inside_picks size room n dims dim p step (pos x) picks w.2 all)

extent_less : (k n : ℕ) (a b c e : ℤ) (dims : List (ℕ × ℤ × ℤ)) → k ≤ n → extent_of ((k, a, b) ∷ dims) ≤ extent_of ((n, c, e) ∷ dims)
extent_less zero zero a b c e dims h = le_refl (extent_of dims)
extent_less zero (suc n) a b c e dims h = let more : extent_of dims ≤ extent_of dims * suc n = le-mul_of_pos_right (extent_of dims) (zero-lt-suc n) in omega (arith, more)
extent_less (suc k) zero a b c e dims h = absurd (omega arith)
extent_less (suc k) (suc n) a b c e dims h = mul-le-mul_right (extent_of dims) h

pub valid_cut : (d : Descriptor) (dims : List (ℕ × ℤ × ℤ)) (dim : ℕ × ℤ × ℤ) (start room len : ℕ) (step : ℤ) (picks : List ℕ) (next : ℕ)
    → d.dims ≡ dim ∷ dims → step ≢ pos 0 → dim.1 *ℤ step ≢ pos 0 → IsCut dim start step picks next (nearest_word (dim.1 *ℤ step))
    → d.itemsize * (length picks * product (shape_of dims)) ≡ len
    → IsValid d start room → IsValid (cut_of d dims len (length picks) (nearest_word (dim.1 *ℤ step)) dim.2) next room
valid_cut d dims dim start room len step picks next same moves strides_move cut len_is valid =
    let strides : All (λ x. x.1 ≢ pos 0) (dim ∷ dims) = subst (All (λ (x : ℕ × ℤ × ℤ). x.1 ≢ pos 0)) same valid.strides in
    let suboffsets : All (λ x. x.2 ≡ pos 0) (dim ∷ dims) = subst (All (λ (x : ℕ × ℤ × ℤ). x.2 ≡ pos 0)) same valid.suboffsets in
    let inside : AllByRecursion (IsInside d.itemsize room) (places (dim ∷ dims) (pos start)) =
    recursion_from_All (IsInside d.itemsize room) (places (dim ∷ dims) (pos start)) (subst (λ ds. All (IsInside d.itemsize room) (places ds (pos start))) same valid.inside) in
    record {
      some_size = valid.some_size;
      size_fits = valid.size_fits;
      few_dimensions = subst (λ (ds : List (ℕ × ℤ × ℤ)). length ds ≤ 64) same valid.few_dimensions;
      strides = All-cons (λ x. x.1 ≢ pos 0) (length picks, nearest_word (dim.1 *ℤ step), dim.2) dims (nearest_word_nonzero (dim.1 *ℤ step) strides_move) (All-tail (λ x. x.1 ≢ pos 0) dim dims strides);
      suboffsets = All-cons (λ x. x.2 ≡ pos 0) (length picks, nearest_word (dim.1 *ℤ step), dim.2) dims (All-head (λ x. x.2 ≡ pos 0) dim dims suboffsets) (All-tail (λ x. x.2 ≡ pos 0) dim dims suboffsets);
      later_entries = subst (λ (ds : List (ℕ × ℤ × ℤ)). All (λ x. 0 < x.0) (drop 1 ds)) same valid.later_entries;
      extent_fits = lt_of_le_of_lt (mul-le-mul_left d.itemsize (extent_less (length picks) dim.0 (nearest_word (dim.1 *ℤ step)) dim.2 dim.1 dim.2 dims cut.few)) (subst (λ (ds : List (ℕ × ℤ × ℤ)). d.itemsize * extent_of ds < 2 ^ 63) same valid.extent_fits);
      len = len_is;
      inside = All-from_recursion (IsInside d.itemsize room) (places ((length picks, nearest_word (dim.1 *ℤ step), dim.2) ∷ dims) (pos next))
          (subst (AllByRecursion (IsInside d.itemsize room)) (sym (places_cut dims dim start step picks next (nearest_word (dim.1 *ℤ step)) dim.2 cut))
          (inside_picks d.itemsize room dim.0 dims dim (pos start) step cut.before picks cut.walks inside));
    }

-- ---- two picks show the stride

apart : (p a b s : ℤ) (room : ℕ) → room < 2 ^ 63 → pos 0 ≤ℤ (p +ℤ a) → (p +ℤ a) ≤ℤ pos room → pos 0 ≤ℤ (p +ℤ b) → (p +ℤ b) ≤ℤ pos room → b ≡ a +ℤ s → SFits w64 s
apart p a b s room fits h1 h2 h3 h4 e = omega (arith, ints)

two_picks : (size room : ℕ) (dims : List (ℕ × ℤ × ℤ)) (dim : ℕ × ℤ × ℤ) (p step : ℤ) (x y : ℕ) → room < 2 ^ 63 → AreNonzero dims → x < dim.0 → y < dim.0 → pos y ≡ pos x +ℤ step
    → AllByRecursion (IsInside size room) (places (dim ∷ dims) p) → SFits w64 (dim.1 *ℤ step)
two_picks size room dims dim p step x y fits some hx hy e all =
    let a : (pos 0 ≤ℤ (p +ℤ pos x *ℤ dim.1)) × ((p +ℤ pos x *ℤ dim.1) ≤ℤ pos room) = here size room dims (p +ℤ pos x *ℤ dim.1) some (inside_entry size room dim dims p x hx all) in
    let b : (pos 0 ≤ℤ (p +ℤ pos y *ℤ dim.1)) × ((p +ℤ pos y *ℤ dim.1) ≤ℤ pos room) = here size room dims (p +ℤ pos y *ℤ dim.1) some (inside_entry size room dim dims p y hy all) in
    apart p (pos x *ℤ dim.1) (pos y *ℤ dim.1) (dim.1 *ℤ step) room fits a.0 a.1 b.0 b.1
    (ap (λ z. z *ℤ dim.1) e ∙ sum_times (pos x) step dim.1 ∙ ap (λ z. pos x *ℤ dim.1 +ℤ z) (*ℤ_comm step dim.1))

pub stride_shown : (size room : ℕ) (dims : List (ℕ × ℤ × ℤ)) (dim : ℕ × ℤ × ℤ) (p step before : ℤ) (picks : List ℕ) → room < 2 ^ 63 → AreNonzero dims → Walks dim.0 step before picks
    → AllByRecursion (IsInside size room) (places (dim ∷ dims) p) → 1 < length picks → nearest_word (dim.1 *ℤ step) ≡ dim.1 *ℤ step
stride_shown size room dims dim p step before [] fits some w all h = absurd (omega arith)
stride_shown size room dims dim p step before (x ∷ []) fits some w all h = absurd (omega arith)
stride_shown size room dims dim p step before (x ∷ y ∷ picks) fits some w all h =
    nearest_word_fits (dim.1 *ℤ step) (two_picks size room dims dim p step x y fits some w.0 w.2.0 w.2.1 all)
