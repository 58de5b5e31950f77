-- The ranges of a walk and the view that it goes over.
use Rattle.std.proofs.Common.{◌≡◌, ℕ, zero, suc, ◌+◌, ◌-◌, ◌*◌, ◌<◌, ◌≤◌, ℤ, pos, nat_abs, cond, List, [], ◌∷◌, ◌++◌, length, map, take, drop, flat_map, refl, ap, ap₂, sym, ◌∙◌, subst, arith, mul-pos, slice_get, eqb}
use Rattle.std.specs.Prelude.{All}
use Rattle.std.specs.List.{range_with_len, cons_option, filter_map}
use Rattle.std.specs.declared.ops.Range.{Range}
use Rattle.std.proofs.lemmas.List.Elements.{filter_map-append, All-nil, All-cons}
use Rattle.std.proofs.lemmas.List.FromFn.{length-range_with_len, get_or-range_with_len}
use Rattle.pybuf_lemmas.proofs.Lists.{first_then_taken, items_inside, numbers_left, numbers_right}
use Rattle.pybuf_desc.specs.Layouts.{product}
use Rattle.pybuf_desc.specs.Items.{bytes_of_items}
use Rattle.pybuf_desc.specs.Descriptor.{shape_of}
use Rattle.pybuf_desc.specs.Places.{places}
use Rattle.pybuf_desc.specs.Segments.{range_at, ranges_of, joined_dims, outer_dims, bytes_of, bytes_in, item_bytes}
use Rattle.pybuf_desc.specs.Laws.{RangesHaveTheContent, RangesStayInside}
use Rattle.pybuf_desc.proofs.Products.{AreNonzero, product-pos}
use Rattle.pybuf_desc.proofs.Strides.{some_entries}
use Rattle.pybuf_desc.proofs.DescribedLayouts.{starts_of_stands}
use Rattle.pybuf_desc.proofs.SegmentFacts.{not_none, range_bytes}

-- ---- so the bytes of the items are inside

-- the bytes at places
abbrev pub bytes_at_places : List ℕ → List ℕ → List ℕ
bytes_at_places bytes places = filter_map (slice_get bytes) places

run_of_bytes : (bytes : List ℕ) (start n : ℕ) → bytes_at_places bytes (range_with_len start n) ≡ take n (drop start bytes)
run_of_bytes bytes start zero = refl
run_of_bytes bytes start (suc n) =
    let next : start + 1 ≡ suc start = omega arith in
    ap (cons_option (slice_get bytes start)) (run_of_bytes bytes (start + 1) n ∙ ap (λ (k : ℕ). take n (drop k bytes)) next) ∙ first_then_taken bytes start n

pub bytes_of_ranges : (bytes : List ℕ) (ranges : List (Range ℕ)) → flat_map (λ range. bytes_in bytes range) ranges ≡ bytes_at_places bytes (flat_map bytes_of ranges)
bytes_of_ranges bytes [] = refl
bytes_of_ranges bytes (range ∷ ranges) =
    ap₂ (λ (xs ys : List ℕ). xs ++ ys) (sym (run_of_bytes bytes range.start (range.end - range.start))) (bytes_of_ranges bytes ranges)
    ∙ sym (filter_map-append (slice_get bytes) (bytes_of range) (flat_map bytes_of ranges))

pub bytes_of_places : (bytes : List ℕ) (size : ℕ) (ps : List ℤ) → bytes_at_places bytes (flat_map (λ place. range_with_len (nat_abs place) size) ps) ≡ bytes_of_items bytes size (map nat_abs ps)
bytes_of_places bytes size [] = refl
bytes_of_places bytes size (p ∷ ps) =
    filter_map-append (slice_get bytes) (range_with_len (nat_abs p) size) (flat_map (λ place. range_with_len (nat_abs place) size) ps)
    ∙ ap₂ (λ (xs ys : List ℕ). xs ++ ys) (run_of_bytes bytes (nat_abs p) size) (bytes_of_places bytes size ps)

pub ranges_content : RangesHaveTheContent
ranges_content d start joined view bytes placed few stands =
    bytes_of_ranges bytes (ranges_of d (pos start) joined)
    ∙ ap (bytes_at_places bytes) (range_bytes d start joined placed few) ∙ bytes_of_places bytes d.itemsize (places d.dims (pos start))
    ∙ ap₂ (λ (size : ℕ) (starts : List ℕ). bytes_of_items bytes size starts) stands.itemsize (starts_of_stands d start view stands)

-- ---- inside

-- a range with bytes ends inside if each of its bytes lies inside
range_ends : (room size : ℕ) (p : ℤ) → 0 < size → All (λ place. place < room) (bytes_of (range_at size p)) → nat_abs p + size ≤ room
range_ends room size p some all =
    let n : ℕ = nat_abs p + size - nat_abs p in
    let last : size - 1 < n = omega (arith, some) in
    let within : size - 1 < length (range_with_len (nat_abs p) n) = omega (arith, last, length-range_with_len (nat_abs p) n) in
    omega (arith, some, all (size - 1) 0 within, get_or-range_with_len (nat_abs p) n (size - 1) 0 last)

ends_inside : (room size : ℕ) (ps : List ℤ) → 0 < size → All (λ place. place < room) (flat_map bytes_of (map (range_at size) ps)) → All (λ (range : Range ℕ). range.end ≤ room) (map (range_at size) ps)
ends_inside room size [] some all = All-nil (λ (range : Range ℕ). range.end ≤ room)
ends_inside room size (p ∷ ps) some all =
    All-cons (λ (range : Range ℕ). range.end ≤ room) (range_at size p) (map (range_at size) ps)
    (range_ends room size p some (numbers_left (λ place. place < room) (bytes_of (range_at size p)) (flat_map bytes_of (map (range_at size) ps)) all))
    (ends_inside room size ps some (numbers_right (λ place. place < room) (bytes_of (range_at size p)) (flat_map bytes_of (map (range_at size) ps)) all))

by_items : (n room size : ℕ) (ps : List ℤ) → (0 < n → 0 < size) → All (λ place. place < room) (flat_map bytes_of (cond (eqb n 0) [] (map (range_at size) ps)))
    → All (λ (range : Range ℕ). range.end ≤ room) (cond (eqb n 0) [] (map (range_at size) ps))
by_items zero room size ps sized all = All-nil (λ (range : Range ℕ). range.end ≤ room)
by_items (suc n) room size ps sized all =
    let some : 0 < suc n = omega arith in
    let same = not_none (suc n) (map (range_at size) ps) some in
    subst (All (λ (range : Range ℕ). range.end ≤ room)) (sym same)
    (ends_inside room size ps (sized some) (subst (λ (rs : List (Range ℕ)). All (λ place. place < room) (flat_map bytes_of rs)) same all))

some_drop : (k : ℕ) (dims : List (ℕ × ℤ × ℤ)) → AreNonzero dims → AreNonzero (drop k dims)
some_drop zero dims some = some
some_drop (suc k) [] some = tt
some_drop (suc k) (dim ∷ dims) some = some_drop k dims some.1

pub ranges_inside : RangesStayInside
ranges_inside d start joined view room placed few stands inside =
    let places_are : item_bytes d (pos start) ≡ flat_map (λ place. range_with_len (nat_abs place) view.itemsize) (map (λ x. pos x) view.starts) =
    ap₂ (λ (size : ℕ) (ps : List ℤ). flat_map (λ place. range_with_len (nat_abs place) size) ps) stands.itemsize stands.starts in
    by_items (product (shape_of d.dims)) room (product (shape_of (joined_dims joined d.dims)) * d.itemsize) (places (outer_dims joined d.dims) (pos start))
    (λ some. mul-pos (product-pos (joined_dims joined d.dims) (some_drop (length d.dims - joined) d.dims (some_entries d.dims some))) placed.valid.some_size)
    (subst (All (λ place. place < room)) (sym (range_bytes d start joined placed few ∙ places_are)) (items_inside room view.itemsize view.starts inside))
