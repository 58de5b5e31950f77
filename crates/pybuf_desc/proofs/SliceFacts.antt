-- The slice of a descriptor stands for the slice of its view.
use Rattle.std.proofs.Common.{◌≡◌, ℕ, zero, suc, ◌+◌, ◌*◌, ◌/◌, ◌<◌, ◌≤◌, ℤ, pos, ◌+ℤ◌, ◌*ℤ◌, List, [], ◌∷◌, ◌++◌, length, take, drop, map, refl, ap, ap₂, sym, ◌∙◌, arith, SFits, w64, flat_map, mul-div_cancel, drop-drop, drop_at, take_at, lit≤, lit<, mul_comm}
use Rattle.std.proofs.lemmas.Int.{ints}
use Rattle.std.proofs.Math.IntN.{*ℤ_comm}
use Rattle.pybuf_lemmas.proofs.Integers.{sum_associates, zeroth_place, successor_times, sum_times}
use Rattle.pybuf_lemmas.proofs.Lists.{Walks}
use Rattle.pybuf_index.specs.Facts.{nearest_word_fits}
use Rattle.pybuf_desc.specs.Facts.{length-places}
use Rattle.pybuf_index.specs.Parts.{nearest_word}
use Rattle.pybuf_desc.specs.Layouts.{Layout, product}
use Rattle.pybuf_desc.specs.Descriptor.{Descriptor, shape_of, strides_of}
use Rattle.pybuf_desc.specs.Places.{places, Stands}
use Rattle.pybuf_desc.specs.Slices.{first_entry, first_stride, block_at, slice_at}
use Rattle.pybuf_desc.proofs.Steps.{blocks_apart, places-cons}

-- ---- the blocks at the picks, put down one after the other

next_pick : (p t step before x : ℤ) → x ≡ before +ℤ step → p +ℤ (before +ℤ step) *ℤ t +ℤ t *ℤ step ≡ p +ℤ (x +ℤ step) *ℤ t
next_pick p t step before x e =
    ap₂ (λ y s. p +ℤ y *ℤ t +ℤ s) (sym e) (*ℤ_comm t step) ∙ sum_associates p (x *ℤ t) (step *ℤ t) ∙ ap (λ q. p +ℤ q) (sym (sum_times x step t))

pub blocks_at_picks : (block : ℤ → List ℤ) (n : ℕ) (step before p t : ℤ) (picks : List ℕ) → Walks n step before picks
    → blocks_apart block (length picks) (p +ℤ (before +ℤ step) *ℤ t) (t *ℤ step) ≡ flat_map (λ i. block (p +ℤ pos i *ℤ t)) picks
blocks_at_picks block n step before p t [] w = refl
blocks_at_picks block n step before p t (x ∷ picks) w =
    ap₂ (λ q rest. block q ++ rest) (ap (λ k. p +ℤ k *ℤ t) (sym w.1))
    (ap (λ q. blocks_apart block (length picks) q (t *ℤ step)) (next_pick p t step before (pos x) w.1)
    ∙ blocks_at_picks block n step (pos x) p t picks w.2)

-- if there is at most one block, the stride doesn't matter
blocks_one : (block : ℤ → List ℤ) (n : ℕ) (p t u : ℤ) → n ≤ 1 → blocks_apart block n p t ≡ blocks_apart block n p u
blocks_one block zero p t u h = refl
blocks_one block (suc zero) p t u h = refl
blocks_one block (suc (suc n)) p t u h = absurd (omega arith)

-- ---- block i of the places

block_of_blocks : (block : ℤ → List ℤ) (size : ℕ) → ((q : ℤ) → length (block q) ≡ size) → (n i : ℕ) (p t : ℤ) → i < n → take size (drop (i * size) (blocks_apart block n p t)) ≡ block (p +ℤ pos i *ℤ t)
block_of_blocks block size each zero i p t h = absurd (omega arith)
block_of_blocks block size each (suc n) zero p t h =
    ap (λ k. take size (drop k (blocks_apart block (suc n) p t))) (let e : zero * size ≡ 0 = omega arith in e)
    ∙ take_at (block p) (blocks_apart block n (p +ℤ t) t) size (each p) ∙ ap block (sym (zeroth_place p t))
block_of_blocks block size each (suc n) (suc i) p t h =
    ap (λ k. take size (drop k (blocks_apart block (suc n) p t))) (let e : suc i * size ≡ size + i * size = omega arith in e)
    ∙ ap (take size) (sym (drop-drop (i * size) size (blocks_apart block (suc n) p t)) ∙ ap (drop (i * size)) (drop_at (block p) (blocks_apart block n (p +ℤ t) t) size (each p)))
    ∙ block_of_blocks block size each n i (p +ℤ t) t (omega arith)
    ∙ ap block (let e : p +ℤ t +ℤ pos i *ℤ t ≡ p +ℤ pos (suc i) *ℤ t = omega (arith, ints, successor_times i t) in e)

take-map : (n : ℕ) (xs : List ℕ) → take n (map pos xs) ≡ map pos (take n xs)
take-map zero xs = refl
take-map (suc n) [] = refl
take-map (suc n) (x ∷ xs) = ap (λ (ys : List ℤ). pos x ∷ ys) (take-map n xs)

drop-map : (n : ℕ) (xs : List ℕ) → drop n (map pos xs) ≡ map pos (drop n xs)
drop-map zero xs = refl
drop-map (suc n) [] = refl
drop-map (suc n) (x ∷ xs) = drop-map n xs

map-append : (xs ys : List ℕ) → map pos (xs ++ ys) ≡ map pos xs ++ map pos ys
map-append [] ys = refl
map-append (x ∷ xs) ys = ap (λ (zs : List ℤ). pos x ∷ zs) (map-append xs ys)

pub length-map : (xs : List ℕ) → length (map pos xs) ≡ length xs
length-map [] = refl
length-map (x ∷ xs) = ap suc (length-map xs)

-- the blocks of the view's starts are the blocks of the places
blocks_are : (block : ℤ → List ℤ) (size : ℕ) → ((q : ℤ) → length (block q) ≡ size) → (n : ℕ) (step before p t : ℤ) (starts picks : List ℕ)
    → blocks_apart block n p t ≡ map pos starts → Walks n step before picks
    → flat_map (λ i. block (p +ℤ pos i *ℤ t)) picks ≡ map pos (flat_map (λ i. block_at size starts i) picks)
blocks_are block size each n step before p t starts [] e w = refl
blocks_are block size each n step before p t starts (x ∷ picks) e w =
    ap₂ (λ (xs ys : List ℤ). xs ++ ys)
    (sym (block_of_blocks block size each n x p t w.0) ∙ ap (λ xs. take size (drop (x * size) xs)) e
    ∙ ap (take size) (drop-map (x * size) starts) ∙ take-map size (drop (x * size) starts))
    (blocks_are block size each n step (pos x) p t starts picks e w.2)
    ∙ sym (map-append (block_at size starts x) (flat_map (λ i. block_at size starts i) picks))

-- ---- a cut of the first dimension

pub record IsCut (dim : ℕ × ℤ × ℤ) (start : ℕ) (step : ℤ) (picks : List ℕ) (next : ℕ) (stride : ℤ) : Type 0 where
  pub before : ℤ
  pub walks : Walks dim.0 step before picks
  pub few : length picks ≤ dim.0
  pub next_is : 0 < length picks → pos next ≡ pos start +ℤ (before +ℤ step) *ℤ dim.1
  pub stride_is : 1 < length picks → stride ≡ dim.1 *ℤ step

blocks_cut : (block : ℤ → List ℤ) (dim : ℕ × ℤ × ℤ) (start : ℕ) (step : ℤ) (picks : List ℕ) (next : ℕ) (stride : ℤ) → IsCut dim start step picks next stride
    → blocks_apart block (length picks) (pos next) stride ≡ flat_map (λ i. block (pos start +ℤ pos i *ℤ dim.1)) picks
blocks_cut block dim start step [] next stride cut = refl
blocks_cut block dim start step (x ∷ []) next stride cut =
    blocks_one block 1 (pos next) stride (dim.1 *ℤ step) (lit≤ tt)
    ∙ ap (λ q. blocks_apart block 1 q (dim.1 *ℤ step)) (cut.next_is (lit< tt))
    ∙ blocks_at_picks block dim.0 step cut.before (pos start) dim.1 (x ∷ []) cut.walks
blocks_cut block dim start step (x ∷ y ∷ picks) next stride cut =
    ap₂ (λ q t. blocks_apart block (length (x ∷ y ∷ picks)) q t) (cut.next_is (omega arith)) (cut.stride_is (omega arith))
    ∙ blocks_at_picks block dim.0 step cut.before (pos start) dim.1 (x ∷ y ∷ picks) cut.walks

pub places_cut : (dims : List (ℕ × ℤ × ℤ)) (dim : ℕ × ℤ × ℤ) (start : ℕ) (step : ℤ) (picks : List ℕ) (next : ℕ) (stride u : ℤ) → IsCut dim start step picks next stride
    → places ((length picks, stride, u) ∷ dims) (pos next) ≡ flat_map (λ i. places dims (pos start +ℤ pos i *ℤ dim.1)) picks
places_cut dims dim start step picks next stride u cut =
    places-cons (length picks, stride, u) dims (pos next) ∙ blocks_cut (places dims) dim start step picks next stride cut

-- if there is a pick, the first entry isn't 0, so the blocks have the right size
pub block_size : (n size len : ℕ) → len ≡ n * size → 0 < n → len / n ≡ size
block_size n size len e h = ap (λ k. k / n) (e ∙ mul_comm n size) ∙ mul-div_cancel size h

starts_cut : (dims : List (ℕ × ℤ × ℤ)) (dim : ℕ × ℤ × ℤ) (start : ℕ) (step before : ℤ) (starts picks : List ℕ)
    → places (dim ∷ dims) (pos start) ≡ map pos starts → Walks dim.0 step before picks
    → flat_map (λ i. places dims (pos start +ℤ pos i *ℤ dim.1)) picks ≡ map pos (flat_map (λ i. block_at (length starts / dim.0) starts i) picks)
starts_cut dims dim start step before starts [] e w = refl
starts_cut dims dim start step before starts (x ∷ picks) e w =
    let count : length starts ≡ dim.0 * product (shape_of dims) = sym (length-map starts) ∙ ap (λ (xs : List ℤ). length xs) (sym e) ∙ length-places (dim ∷ dims) (pos start) in
    let some : 0 < dim.0 = (let low = w.0 in omega (arith, low)) in
    let size : length starts / dim.0 ≡ product (shape_of dims) = block_size dim.0 (product (shape_of dims)) (length starts) count some in
    blocks_are (places dims) (product (shape_of dims)) (length-places dims) dim.0 step before (pos start) dim.1 starts (x ∷ picks) (sym (places-cons dim dims (pos start)) ∙ e) w
    ∙ ap (λ n. map pos (flat_map (λ i. block_at n starts i) (x ∷ picks))) (sym size)

-- the descriptor of a cut
abbrev pub cut_of : Descriptor → List (ℕ × ℤ × ℤ) → ℕ → ℕ → ℤ → ℤ → Descriptor
cut_of d dims len count stride suboffset = record d { len = len; dims = (count, stride, suboffset) ∷ dims }

pub stands_cut : (d : Descriptor) (dims : List (ℕ × ℤ × ℤ)) (dim : ℕ × ℤ × ℤ) (start len : ℕ) (step : ℤ) (picks : List ℕ) (next : ℕ) (u : ℤ) (view : Layout)
    → d.dims ≡ dim ∷ dims → SFits w64 step → IsCut dim start step picks next (nearest_word (dim.1 *ℤ step)) → Stands d start view
    → Stands (cut_of d dims len (length picks) (nearest_word (dim.1 *ℤ step)) u) next (slice_at view picks step)
stands_cut d dims dim start len step picks next u view same f cut stands =
    let shape : view.shape ≡ dim.0 ∷ shape_of dims = sym stands.shape ∙ ap (λ ds. shape_of ds) same in
    let strides : view.strides ≡ dim.1 ∷ strides_of dims = sym stands.strides ∙ ap (λ ds. strides_of ds) same in
    let starts : places (dim ∷ dims) (pos start) ≡ map pos view.starts = ap (λ ds. places ds (pos start)) (sym same) ∙ stands.starts in
    record {
      format = stands.format;
      itemsize = stands.itemsize;
      shape = ap (λ (ns : List ℕ). length picks ∷ drop 1 ns) (sym shape);
      strides = ap₂ (λ (s : ℤ) (ss : List ℤ). nearest_word (first_stride ss *ℤ s) ∷ drop 1 ss) (sym (nearest_word_fits step f)) (sym strides);
      readonly = stands.readonly;
      starts = places_cut dims dim start step picks next (nearest_word (dim.1 *ℤ step)) u cut
          ∙ starts_cut dims dim start step cut.before view.starts picks starts cut.walks
          ∙ ap (λ (ns : List ℕ). map pos (flat_map (λ i. block_at (length view.starts / first_entry ns) view.starts i) picks)) (sym shape);
    }
