-- Bytes that are written over items, range by range.
use Rattle.std.proofs.Common.{◌≡◌, ℕ, zero, suc, ◌+◌, ◌*◌, ◌-◌, ◌<◌, ◌≤◌, ℤ, pos, nat_abs, true, List, [], ◌∷◌, ◌++◌, length, map, take, drop, ap, ap₂, sym, ◌∙◌, refl, subst, arith}
use Rattle.std.specs.Prelude.{All, set, slice_index}
use Rattle.std.specs.List.{flat_map, range_with_len}
use Rattle.std.specs.declared.ops.Range.{Range}
use Rattle.std.proofs.lemmas.Grind.{common_steps}
use Rattle.std.proofs.lemmas.List.Elements.{All-head, All-tail}
use Rattle.std.proofs.lemmas.List.FromFn.{length-range_with_len}
use Rattle.std.proofs.lemmas.List.{set_split, length-append, length-take-le, length-drop}
use Rattle.pybuf_memoryview.specs.Facts.{bytes_counted}
use Rattle.pybuf_slice.specs.Reads.{elements_at}
use Rattle.pybuf_desc.specs.Segments.{bytes_of, item_bytes}
use Rattle.pybuf_desc.specs.Descriptor.{Descriptor}
use Rattle.pybuf_desc.specs.Layouts.{Layout, LiesInside, HasItemsOfItsShape}
use Rattle.pybuf_desc.specs.Items.{content_of_layout}
use Rattle.pybuf_desc.specs.Contiguous.{is_contiguous_layout}
use Rattle.pybuf_desc.specs.Places.{Stands}
use Rattle.pybuf_memoryview.specs.Orders.{nbytes_of}
use Rattle.pybuf_memoryview.specs.Laws.{ItemBytesLieInside, ItemBytesAreTheContent, ContiguousItemsAreOneRun}
use Rattle.pybuf_verbs_writes.specs.Laid.{bytes_with, laid}
use Rattle.pybuf_verbs_writes.specs.LaidBytes.{put_at}
use Rattle.pybuf_verbs_writes.proofs.Bytes.{length-bytes_with}

-- No byte is written.
pub bytes_with_none : (bytes : List ℕ) (place : ℕ) → bytes_with bytes place [] ≡ bytes
bytes_with_none bytes place = grind (arith, common_steps)

-- One byte is written, and then the bytes after it.
one_more : (bytes : List ℕ) (place b : ℕ) (piece : List ℕ) → place + suc (length piece) ≤ length bytes → bytes_with (set bytes place b) (place + 1) piece ≡ bytes_with bytes place (b ∷ piece)
one_more bytes place b piece inside = grind (arith, common_steps, set_split, inside)

pub put_run : (bytes : List ℕ) (place : ℕ) (piece : List ℕ) → place + length piece ≤ length bytes → put_at bytes (range_with_len place (length piece)) piece ≡ bytes_with bytes place piece
put_run bytes place [] inside = sym (bytes_with_none bytes place)
put_run bytes place (b ∷ piece) inside =
    let more : place + suc (length piece) ≤ length bytes = omega (arith, inside) in
    let within : (place + 1) + length piece ≤ length (set bytes place b) = grind (arith, common_steps, more) in
    put_run (set bytes place b) (place + 1) piece within ∙ one_more bytes place b piece more

pub put_both : (bytes ps qs xs ys : List ℕ) → length ps ≡ length xs → put_at bytes (ps ++ qs) (xs ++ ys) ≡ put_at (put_at bytes ps xs) qs ys
put_both bytes [] qs [] ys same = refl
put_both bytes [] qs (x ∷ xs) ys same = absurd (omega (arith, same))
put_both bytes (p ∷ ps) qs [] ys same = absurd (omega (arith, same))
put_both bytes (p ∷ ps) qs (x ∷ xs) ys same = put_both (set bytes p x) ps qs xs ys (let fewer : length ps ≡ length xs = omega (arith, same) in fewer)

-- The bytes of a range come first.
pub put_first : (bytes : List ℕ) (place size : ℕ) (qs content : List ℕ) → place + size ≤ length bytes → size ≤ length content
    → put_at bytes (range_with_len place size ++ qs) content ≡ put_at (bytes_with bytes place (take size content)) qs (drop size content)
put_first bytes place size qs content inside enough =
    let long : length (take size content) ≡ size = length-take-le size content enough in
    let fits : place + length (take size content) ≤ length bytes = omega (arith, inside, long) in
    let split : take size content ++ drop size content ≡ content = grind (arith, common_steps) in
    ap (put_at bytes (range_with_len place size ++ qs)) (sym split)
    ∙ put_both bytes (range_with_len place size) qs (take size content) (drop size content) (length-range_with_len place size ∙ sym long)
    ∙ ap (λ (n : ℕ). put_at (put_at bytes (range_with_len place n) (take size content)) qs (drop size content)) (sym long)
    ∙ ap (λ (bs : List ℕ). put_at bs qs (drop size content)) (put_run bytes place (take size content) fits)

-- To write item by item is to write byte by byte.
pub laid_is_put : (bytes : List ℕ) (size : ℕ) (starts content : List ℕ) → length content ≡ size * length starts → All (λ start. start + size ≤ length bytes) starts
    → laid bytes size starts content ≡ put_at bytes (flat_map (λ (start : ℕ). range_with_len start size) starts) content
laid_is_put bytes size [] content long inside = refl
laid_is_put bytes size (start ∷ starts) content long inside =
    let here : start + size ≤ length bytes = All-head (λ s. s + size ≤ length bytes) start starts inside in
    let enough : size ≤ length content = grind (arith, long) in
    let taken : length (take size content) ≡ size = length-take-le size content enough in
    let same : length (bytes_with bytes start (take size content)) ≡ length bytes = length-bytes_with bytes start (take size content) (let fits : start + length (take size content) ≤ length bytes = omega (arith, here, taken) in fits) in
    let rest : length (drop size content) ≡ size * length starts = grind (arith, long, length-drop size content) in
    laid_is_put (bytes_with bytes start (take size content)) size starts (drop size content) rest
    (subst (λ (n : ℕ). All (λ s. s + size ≤ n) starts) (sym same) (All-tail (λ s. s + size ≤ length bytes) start starts inside))
    ∙ sym (put_first bytes start size (flat_map (λ (s : ℕ). range_with_len s size) starts) content here enough)

-- ---- range by range

kept : (bytes : List ℕ) (place size : ℕ) (content : List ℕ) → (0 < size → place + size ≤ length bytes) → size ≤ length content → length (bytes_with bytes place (take size content)) ≡ length bytes
kept bytes place zero content inside enough =
    let none : take 0 content ≡ [] = grind (arith, common_steps) in
    ap length (ap (bytes_with bytes place) none ∙ bytes_with_none bytes place)
kept bytes place (suc size) content inside enough =
    let here : place + suc size ≤ length bytes = inside (let some : 0 < suc size = omega arith in some) in
    length-bytes_with bytes place (take (suc size) content) (let fits : place + length (take (suc size) content) ≤ length bytes = omega (arith, here, length-take-le (suc size) content enough) in fits)

-- ---- whole views

length-places : (size : ℕ) (starts : List ℕ) → length (flat_map (λ (s : ℕ). range_with_len s size) starts) ≡ size * length starts
length-places size [] = let none : 0 ≡ size * 0 = omega arith in none
length-places size (s ∷ starts) =
    length-append (range_with_len s size) (flat_map (λ (x : ℕ). range_with_len x size) starts)
    ∙ ap₂ (λ (m n : ℕ). m + n) (length-range_with_len s size) (length-places size starts) ∙ grind arith

by_starts : (size : ℕ) (starts : List ℕ) → flat_map (λ place. range_with_len (nat_abs place) size) (map (λ x. pos x) starts) ≡ flat_map (λ (s : ℕ). range_with_len s size) starts
by_starts size [] = refl
by_starts size (s ∷ starts) = ap (λ (xs : List ℕ). range_with_len s size ++ xs) (by_starts size starts)

-- The places of a view's bytes by its descriptor are those by its starts.
pub places_of_layout : (d : Descriptor) (start : ℕ) (layout : Layout) → Stands d start layout → item_bytes d (pos start) ≡ flat_map (λ (s : ℕ). range_with_len s layout.itemsize) layout.starts
places_of_layout d start layout stands =
    ap₂ (λ (size : ℕ) (ps : List ℤ). flat_map (λ place. range_with_len (nat_abs place) size) ps) stands.itemsize stands.starts ∙ by_starts layout.itemsize layout.starts

pub as_many_places : (d : Descriptor) (start : ℕ) (layout : Layout) (ranges : List (Range ℕ)) → Stands d start layout → HasItemsOfItsShape layout → flat_map bytes_of ranges ≡ item_bytes d (pos start)
    → length (flat_map bytes_of ranges) ≡ nbytes_of layout
as_many_places d start layout ranges stands counted same =
    ap length (same ∙ places_of_layout d start layout stands) ∙ length-places layout.itemsize layout.starts ∙ ap (λ (n : ℕ). layout.itemsize * n) counted

pub laid_by_ranges : (bytes content : List ℕ) (d : Descriptor) (start : ℕ) (layout : Layout) (ranges : List (Range ℕ)) → Stands d start layout → HasItemsOfItsShape layout
    → flat_map bytes_of ranges ≡ item_bytes d (pos start) → LiesInside (length bytes) layout → length content ≡ nbytes_of layout
    → put_at bytes (flat_map bytes_of ranges) content ≡ laid bytes layout.itemsize layout.starts content
laid_by_ranges bytes content d start layout ranges stands counted same inside long =
    ap (λ (ps : List ℕ). put_at bytes ps content) (same ∙ places_of_layout d start layout stands)
    ∙ sym (laid_is_put bytes layout.itemsize layout.starts content (long ∙ ap (λ (n : ℕ). layout.itemsize * n) (sym counted)) inside)

-- Each byte of the ranges of a walk over the items lies inside.
pub places_inside : ItemBytesLieInside → (bytes : List ℕ) (d : Descriptor) (start : ℕ) (layout : Layout) (ranges : List (Range ℕ)) → Stands d start layout → flat_map bytes_of ranges ≡ item_bytes d (pos start)
    → LiesInside (length bytes) layout → All (λ place. place < length bytes) (flat_map bytes_of ranges)
places_inside lie_inside bytes d start layout ranges stands same held = subst (All (λ place. place < length bytes)) (sym same) (lie_inside d start layout (length bytes) stands held)

-- These ranges have the bytes of the view.
pub content_of_ranges : ItemBytesAreTheContent → (bytes : List ℕ) (d : Descriptor) (start : ℕ) (layout : Layout) (ranges : List (Range ℕ)) → Stands d start layout → flat_map bytes_of ranges ≡ item_bytes d (pos start)
    → elements_at bytes (flat_map bytes_of ranges) ≡ content_of_layout bytes layout
content_of_ranges are_content bytes d start layout ranges stands same = ap (elements_at bytes) same ∙ are_content bytes d start layout stands

-- ---- items one after the other

-- Items that lie one after the other are written in one go.
laid_at_once : (bytes : List ℕ) (size : ℕ) (starts content : List ℕ) → flat_map (λ (s : ℕ). range_with_len s size) starts ≡ range_with_len (slice_index starts 0) (size * length starts)
    → length content ≡ size * length starts → All (λ start. start + size ≤ length bytes) starts → slice_index starts 0 + size * length starts ≤ length bytes
    → laid bytes size starts content ≡ bytes_with bytes (slice_index starts 0) content
laid_at_once bytes size starts content one_run long inside room =
    let fits : slice_index starts 0 + length content ≤ length bytes = omega (arith, long, room) in
    laid_is_put bytes size starts content long inside
    ∙ ap (λ (ps : List ℕ). put_at bytes ps content) (one_run ∙ ap (range_with_len (slice_index starts 0)) (sym long))
    ∙ put_run bytes (slice_index starts 0) content fits

pub laid_from : ContiguousItemsAreOneRun → (bytes content : List ℕ) (layout : Layout) (place : ℕ) → HasItemsOfItsShape layout → is_contiguous_layout layout ≡ true → place ≡ slice_index layout.starts 0
    → LiesInside (length bytes) layout → place + nbytes_of layout ≤ length bytes → length content ≡ nbytes_of layout → bytes_with bytes place content ≡ laid bytes layout.itemsize layout.starts content
laid_from one_run bytes content layout place counted flat at held ends long =
    let room : slice_index layout.starts 0 + layout.itemsize * length layout.starts ≤ length bytes = omega (arith, at, bytes_counted layout counted, ends) in
    ap (λ (k : ℕ). bytes_with bytes k content) at
    ∙ sym (laid_at_once bytes layout.itemsize layout.starts content (one_run layout flat) (long ∙ bytes_counted layout counted) held room)
