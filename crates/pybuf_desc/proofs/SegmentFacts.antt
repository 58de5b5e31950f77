-- What the ranges of a walk are. They are blocks of items, and have the bytes of the items in order.
use Rattle.std.proofs.Common.{◌≡◌, ℕ, zero, suc, ◌+◌, ◌-◌, ◌*◌, ◌^◌, ◌<◌, ◌≤◌, ℤ, pos, negsuc, ◌+ℤ◌, ◌≤ℤ◌, nat_abs, cond, eqb, List, [], ◌∷◌, ◌++◌, length, take-append-drop, map, flat_map, refl, ap, ap₂, sym, ◌∙◌, subst, arith, length-append, mul_comm}
use Rattle.std.proofs.lemmas.Int.{ints}
use Rattle.std.proofs.lemmas.Grind.{flat_map-append}
use Rattle.std.proofs.lemmas.List.Elements.{recursion_from_All}
use Rattle.std.specs.List.{AllByRecursion, range_with_len}
use Rattle.std.specs.declared.ops.Range.{Range}
use Rattle.pybuf_lemmas.proofs.Numbers.{range_of_sum}
use Rattle.pybuf_lemmas.proofs.Recursion.{left_by_recursion, right_by_recursion}
use Rattle.pybuf_desc.specs.Facts.{length-places}
use Rattle.pybuf_desc.specs.Layouts.{product}
use Rattle.pybuf_desc.specs.Descriptor.{Descriptor, shape_of}
use Rattle.pybuf_desc.specs.Places.{places}
use Rattle.pybuf_desc.specs.Valid.{IsInside, IsPlaced}
use Rattle.pybuf_desc.specs.Tails.{tail_of}
use Rattle.pybuf_desc.specs.Segments.{line, range_at, HasPlaces, AreRows, row_places, ranges_of, joined_dims, outer_dims, bytes_of, item_bytes}
use Rattle.pybuf_desc.proofs.Products.{AreNonzero, product-pos}
use Rattle.pybuf_desc.proofs.Track.{entries_fit}
use Rattle.pybuf_desc.proofs.Strides.{bytes_fit, size_below, some_entries, All-from_AreNonzero}
use Rattle.pybuf_desc.proofs.Lines.{places-rows, places-packed}
use Rattle.pybuf_desc.proofs.Tails.{joined_packed}

-- the most that a place and its bytes can reach
abbrev pub top : ℕ
top = 9223372036854775807

pub inside_more : (size room : ℕ) (xs : List ℤ) → room < 2 ^ 63 → AllByRecursion (IsInside size room) xs → AllByRecursion (IsInside size top) xs
inside_more size room [] h all = tt
inside_more size room (x ∷ xs) h all = ((let i = all.0 in let high = i.high in record { low = i.low; high = omega (arith, ints, high, h) }), inside_more size room xs h all.1)

-- the first item of each row
row_starts : (size n : ℕ) (t : ℤ) (ps : List ℤ) → 0 < n → AllByRecursion (IsInside size top) (flat_map (λ p. line p t n) ps) → AllByRecursion (IsInside 0 top) ps
row_starts size n t [] h all = tt
row_starts size zero t (p ∷ ps) h all = absurd (omega arith)
row_starts size (suc n) t (p ∷ ps) h all = (
  (let i = all.0 in let low = i.low in let high = i.high in record { low = low; high = omega (arith, ints, high) }),
  row_starts size (suc n) t ps h (right_by_recursion (IsInside size top) (line p t (suc n)) (flat_map (λ q. line q t (suc n)) ps) all),
)

-- a row without gaps lies inside as one piece
row_whole : (size n : ℕ) (p : ℤ) → AllByRecursion (IsInside size top) (line p (pos size) (suc n)) → IsInside (suc n * size) top p
row_whole size zero p all = (let i = all.0 in let high = i.high in record { low = i.low; high = omega (arith, ints, high) })
row_whole size (suc n) p all =
    (let i = all.0 in let r = row_whole size n (p +ℤ pos size) all.1 in let high = r.high in record { low = i.low; high = omega (arith, ints, high) })

rows_whole : (size n : ℕ) (ps : List ℤ) → 0 < n → AllByRecursion (IsInside size top) (flat_map (λ p. line p (pos size) n) ps) → AllByRecursion (IsInside (n * size) top) ps
rows_whole size zero ps h all = absurd (omega arith)
rows_whole size (suc n) [] h all = tt
rows_whole size (suc n) (p ∷ ps) h all = (
  row_whole size n p (left_by_recursion (IsInside size top) (line p (pos size) (suc n)) (flat_map (λ q. line q (pos size) (suc n)) ps) all),
  rows_whole size (suc n) ps h (right_by_recursion (IsInside size top) (line p (pos size) (suc n)) (flat_map (λ q. line q (pos size) (suc n)) ps) all),
)

-- ---- dimensions from which the last ones are split off

split_all : {X : Type 0} (P : X → Type 0) (xs ys : List X) → AllByRecursion P (xs ++ ys) → AllByRecursion P xs × AllByRecursion P ys
split_all P xs ys all = (left_by_recursion P xs ys all, right_by_recursion P xs ys all)

pub both : (dims : List (ℕ × ℤ × ℤ)) → AreNonzero dims → AllByRecursion (λ (dim : ℕ × ℤ × ℤ). dim.0 < 2 ^ 63) dims → AllByRecursion (λ dim. (0 < dim.0) × (dim.0 < 2 ^ 63)) dims
both [] h g = tt
both (dim ∷ dims) h g = ((h.0, g.0), both dims h.1 g.1)

some_append : (xs ys : List (ℕ × ℤ × ℤ)) → AreNonzero (xs ++ ys) → AreNonzero xs × AreNonzero ys
some_append [] ys h = (tt, h)
some_append (x ∷ xs) ys h = let rest = some_append xs ys h.1 in ((h.0, rest.0), rest.1)

-- ---- rows of blocks

ones : (t : ℤ) (ps : List ℤ) → flat_map (λ p. line p t 1) ps ≡ ps
ones t [] = refl
ones t (p ∷ ps) = ap (λ (xs : List ℤ). p ∷ xs) (ones t ps)

-- blocks that lie inside can be walked row by row
pub walk_by_rows : (rows : List (ℕ × ℤ × ℤ)) (last : ℕ × ℤ × ℤ) (outer : List (ℕ × ℤ × ℤ)) (start size : ℕ) (stride : ℤ) → outer ≡ rows ++ last ∷ [] → stride ≡ last.1 → length outer ≤ 64 → HasPlaces outer (pos start)
    → AllByRecursion (IsInside size top) (places outer (pos start)) → AreRows rows start stride last.0 size
walk_by_rows rows last outer start size stride is st few placed inside =
    let all : length (rows ++ last ∷ []) ≤ 64 = subst (λ (ds : List (ℕ × ℤ × ℤ)). length ds ≤ 64) is few in
    let long = length-append rows (last ∷ []) in
    let entries = split_all (λ (dim : ℕ × ℤ × ℤ). (0 < dim.0) × (dim.0 < 2 ^ 63)) rows (last ∷ []) (subst (AllByRecursion (λ (dim : ℕ × ℤ × ℤ). (0 < dim.0) × (dim.0 < 2 ^ 63))) is placed.entries) in
    let some : 0 < last.0 = entries.1.0.0 in
    let lines : AllByRecursion (IsInside size top) (flat_map (λ p. line p last.1 last.0) (places rows (pos start))) =
    subst (AllByRecursion (IsInside size top)) (ap (λ (ds : List (ℕ × ℤ × ℤ)). places ds (pos start)) is ∙ places-rows rows last (pos start)) inside in
    record {
      few = omega (arith, all, long);
      placed = record { entries = entries.0; inside = row_starts size last.0 last.1 (places rows (pos start)) some lines };
      row_some = some;
      inside = subst (λ (t : ℤ). AllByRecursion (IsInside size top) (flat_map (λ p. line p t last.0) (places rows (pos start)))) (sym st) lines;
    }

pub ranges_by_rows : (rows : List (ℕ × ℤ × ℤ)) (last : ℕ × ℤ × ℤ) (outer : List (ℕ × ℤ × ℤ)) (start size : ℕ) (stride : ℤ) → outer ≡ rows ++ last ∷ [] → stride ≡ last.1
    → map (range_at size) (row_places rows start stride last.0) ≡ map (range_at size) (places outer (pos start))
ranges_by_rows rows last outer start size stride is st =
    ap (λ (t : ℤ). map (range_at size) (row_places rows start t last.0)) st
    ∙ ap (λ (ps : List ℤ). map (range_at size) ps) (sym (ap (λ (ds : List (ℕ × ℤ × ℤ)). places ds (pos start)) is ∙ places-rows rows last (pos start)))

-- ---- a descriptor of which so many last dimensions are joined

pub record IsJoined (d : Descriptor) (start joined : ℕ) : Type 0 where
  pub placed : IsPlaced d start
  pub few : joined ≤ tail_of d
  pub some : AreNonzero d.dims

-- how many items a block has
abbrev pub block_count : Descriptor → ℕ → ℕ
block_count d joined = product (shape_of (joined_dims joined d.dims))

outer_and_joined : (joined : ℕ) (dims : List (ℕ × ℤ × ℤ)) → dims ≡ outer_dims joined dims ++ joined_dims joined dims
outer_and_joined joined dims = sym (take-append-drop (length dims - joined) dims)

pub joined_places : (d : Descriptor) (joined : ℕ) (start : ℤ) → joined ≤ tail_of d
    → places d.dims start ≡ flat_map (λ p. line p (pos d.itemsize) (block_count d joined)) (places (outer_dims joined d.dims) start)
joined_places d joined start few =
    ap (λ (ds : List (ℕ × ℤ × ℤ)). places ds start) (outer_and_joined joined d.dims)
    ∙ places-packed d.itemsize (outer_dims joined d.dims) (joined_dims joined d.dims) start (joined_packed d.itemsize d.dims joined few)

some_block : (d : Descriptor) (start joined : ℕ) → IsJoined d start joined → AreNonzero (outer_dims joined d.dims) × AreNonzero (joined_dims joined d.dims)
some_block d start joined r = some_append (outer_dims joined d.dims) (joined_dims joined d.dims) (subst AreNonzero (outer_and_joined joined d.dims) r.some)

lines_inside : (d : Descriptor) (start joined : ℕ) → IsJoined d start joined
    → AllByRecursion (IsInside d.itemsize top) (flat_map (λ p. line p (pos d.itemsize) (block_count d joined)) (places (outer_dims joined d.dims) (pos start)))
lines_inside d start joined r =
    subst (AllByRecursion (IsInside d.itemsize top)) (joined_places d joined (pos start) r.few)
    (inside_more d.itemsize r.placed.room (places d.dims (pos start)) r.placed.room_fits (recursion_from_All (IsInside d.itemsize r.placed.room) (places d.dims (pos start)) r.placed.valid.inside))

block_some : (d : Descriptor) (start joined : ℕ) → IsJoined d start joined → 0 < block_count d joined
block_some d start joined r = product-pos (joined_dims joined d.dims) (some_block d start joined r).1

pub blocks_placed : (d : Descriptor) (start joined : ℕ) → IsJoined d start joined → HasPlaces (outer_dims joined d.dims) (pos start)
blocks_placed d start joined r =
    record {
      entries = both (outer_dims joined d.dims) (some_block d start joined r).0
          (split_all (λ (dim : ℕ × ℤ × ℤ). dim.0 < 2 ^ 63) (outer_dims joined d.dims) (joined_dims joined d.dims)
          (subst (AllByRecursion (λ (dim : ℕ × ℤ × ℤ). dim.0 < 2 ^ 63)) (outer_and_joined joined d.dims) (entries_fit d.itemsize d.dims r.placed.valid.some_size r.placed.valid.extent_fits))).0;
      inside = row_starts d.itemsize (block_count d joined) (pos d.itemsize) (places (outer_dims joined d.dims) (pos start)) (block_some d start joined r) (lines_inside d start joined r);
    }

pub blocks_inside : (d : Descriptor) (start joined size : ℕ) → IsJoined d start joined → size ≡ d.itemsize * block_count d joined → AllByRecursion (IsInside size top) (places (outer_dims joined d.dims) (pos start))
blocks_inside d start joined size r is =
    subst (λ (n : ℕ). AllByRecursion (IsInside n top) (places (outer_dims joined d.dims) (pos start))) (mul_comm (block_count d joined) d.itemsize ∙ sym is)
    (rows_whole d.itemsize (block_count d joined) (places (outer_dims joined d.dims) (pos start)) (block_some d start joined r) (lines_inside d start joined r))

pub block_fits : (d : Descriptor) (start joined : ℕ) → IsJoined d start joined → d.itemsize * block_count d joined < 2 ^ 63
block_fits d start joined r =
    size_below d.itemsize (length d.dims - joined) d.dims (All-from_AreNonzero d.dims r.some) (bytes_fit d (record { start = start; placed = r.placed }) r.some)

-- ---- the ranges

pub not_none : (n : ℕ) (xs : List (Range ℕ)) → 0 < n → cond (eqb n 0) [] xs ≡ xs
not_none zero xs h = absurd (omega arith)
not_none (suc n) xs h = grind arith

pub ranges_are_blocks : (d : Descriptor) (start joined size : ℕ) → IsJoined d start joined → size ≡ d.itemsize * block_count d joined
    → map (range_at size) (places (outer_dims joined d.dims) (pos start)) ≡ ranges_of d (pos start) joined
ranges_are_blocks d start joined size r is =
    ap (λ (n : ℕ). map (range_at n) (places (outer_dims joined d.dims) (pos start))) (is ∙ mul_comm d.itemsize (block_count d joined))
    ∙ sym (not_none (product (shape_of d.dims)) (map (range_at (block_count d joined * d.itemsize)) (places (outer_dims joined d.dims) (pos start))) (product-pos d.dims r.some))

-- if there is no item, there is no range
pub asked_none : (d : Descriptor) (start : ℤ) (joined : ℕ) → product (shape_of d.dims) ≡ 0 → ranges_of d start joined ≡ []
asked_none d start joined e =
    ap (λ n. cond (eqb n 0) [] (map (range_at (product (shape_of (joined_dims joined d.dims)) * d.itemsize)) (places (outer_dims joined d.dims) start))) e

no_byte : (size : ℕ) (xs : List ℤ) → length xs ≡ 0 → [] ≡ flat_map (λ place. range_with_len (nat_abs place) size) xs
no_byte size [] e = refl
no_byte size (x ∷ xs) e = absurd (let wrong : suc (length xs) ≡ 0 = e in omega arith)

pub bytes_none : (d : Descriptor) (start : ℤ) → product (shape_of d.dims) ≡ 0 → [] ≡ item_bytes d start
bytes_none d start e = no_byte d.itemsize (places d.dims start) (length-places d.dims start ∙ e)

-- two walks have the same ranges if they join as many dimensions, or if there are no items
pub asked : (n : ℕ) (d : Descriptor) (start : ℤ) (joined asked_for : ℕ) → product (shape_of d.dims) ≡ n → (0 < n → joined ≡ asked_for) → ranges_of d start joined ≡ ranges_of d start asked_for
asked zero d start joined asked_for none same = asked_none d start joined none ∙ sym (asked_none d start asked_for none)
asked (suc n) d start joined asked_for some same = ap (ranges_of d start) (same (omega arith))

-- ---- the bytes of the ranges are those of the items

bytes_at : (size : ℕ) (p : ℤ) → bytes_of (range_at size p) ≡ range_with_len (nat_abs p) size
bytes_at size p = ap (λ n. range_with_len (nat_abs p) n) (let e : nat_abs p + size - nat_abs p ≡ size = omega arith in e)

row_bytes : (size n a : ℕ) → range_with_len a (n * size) ≡ flat_map (λ p. range_with_len (nat_abs p) size) (line (pos a) (pos size) n)
row_bytes size zero a = ap (λ k. range_with_len a k) (let e : zero * size ≡ 0 = omega arith in e)
row_bytes size (suc n) a =
    ap (λ k. range_with_len a k) (let e : suc n * size ≡ size + n * size = omega arith in e)
    ∙ range_of_sum a size (n * size) ∙ ap (λ (xs : List ℕ). range_with_len a size ++ xs) (row_bytes size n (a + size))

row_bytes_from : (size n : ℕ) (p : ℤ) → pos 0 ≤ℤ p → range_with_len (nat_abs p) (n * size) ≡ flat_map (λ q. range_with_len (nat_abs q) size) (line p (pos size) n)
row_bytes_from size n (pos a) h = row_bytes size n a
row_bytes_from size n (negsuc a) h = absurd (omega (arith, ints))

rows_bytes : (size n : ℕ) (ps : List ℤ) → AllByRecursion (IsInside 0 top) ps
    → flat_map bytes_of (map (range_at (n * size)) ps) ≡ flat_map (λ q. range_with_len (nat_abs q) size) (flat_map (λ p. line p (pos size) n) ps)
rows_bytes size n [] all = refl
rows_bytes size n (p ∷ ps) all =
    ap₂ (λ (xs ys : List ℕ). xs ++ ys) (bytes_at (n * size) p ∙ row_bytes_from size n p (let i = all.0 in i.low)) (rows_bytes size n ps all.1)
    ∙ sym (flat_map-append (λ q. range_with_len (nat_abs q) size) (line p (pos size) n) (flat_map (λ q. line q (pos size) n) ps))

joined_bytes : (n : ℕ) (d : Descriptor) (start joined : ℕ) → product (shape_of d.dims) ≡ n → IsPlaced d start → joined ≤ tail_of d
    → flat_map bytes_of (ranges_of d (pos start) joined) ≡ item_bytes d (pos start)
joined_bytes zero d start joined none placed few = ap (λ (rs : List (Range ℕ)). flat_map bytes_of rs) (asked_none d (pos start) joined none) ∙ bytes_none d (pos start) none
joined_bytes (suc n) d start joined count placed few =
    let some : 0 < product (shape_of d.dims) = omega (arith, count) in
    let r : IsJoined d start joined = record { placed = placed; few = few; some = some_entries d.dims some } in
    ap (λ (rs : List (Range ℕ)). flat_map bytes_of rs) (not_none (product (shape_of d.dims)) (map (range_at (block_count d joined * d.itemsize)) (places (outer_dims joined d.dims) (pos start))) some)
    ∙ rows_bytes d.itemsize (block_count d joined) (places (outer_dims joined d.dims) (pos start)) (blocks_placed d start joined r).inside
    ∙ ap (flat_map (λ q. range_with_len (nat_abs q) d.itemsize)) (sym (joined_places d joined (pos start) few))

pub range_bytes : (d : Descriptor) (start joined : ℕ) → IsPlaced d start → joined ≤ tail_of d → flat_map bytes_of (ranges_of d (pos start) joined) ≡ item_bytes d (pos start)
range_bytes d start joined placed few = joined_bytes (product (shape_of d.dims)) d start joined refl placed few
