-- Two walks side by side.
use Rattle.std.proofs.Common.{◌≡◌, ℕ, zero, suc, ◌+◌, ◌-◌, ◌*◌, ◌<◌, ◌≤◌, ℤ, pos, nat_abs, Bool, true, false, cond, eqb, List, [], ◌∷◌, ◌++◌, length, map, take, drop, flat_map, refl, ap, ap₂, sym, ◌∙◌, subst, arith, Option, Some, None, Some, None}
use Rattle.std.specs.Iterator.{YieldsFirst}
use Rattle.std.specs.List.{zip}
use Rattle.std.specs.declared.ops.Range.{Range}
use Rattle.std.proofs.lemmas.List.{length-map}
use Rattle.std.proofs.lemmas.List.FromFn.{length-range_with_len}
use Rattle.pybuf_desc.specs.Facts.{length-places}
use Rattle.pybuf_desc.specs.Layouts.{product}
use Rattle.pybuf_desc.specs.Descriptor.{Descriptor, shape_of}
use Rattle.pybuf_desc.specs.Places.{places}
use Rattle.pybuf_desc.specs.Valid.{IsPlaced}
use Rattle.pybuf_desc.specs.Tails.{tail_of}
use Rattle.pybuf_desc.specs.Segments.{range_at, ranges_of, joined_dims, outer_dims, bytes_of, item_bytes}
use Rattle.pybuf_desc.specs.Pairs.{joined_count_of_both, pairs_of}
use Rattle.pybuf_desc.proofs.SegmentFacts.{asked, range_bytes}

-- ---- as many ranges on both sides

-- so many ranges of one size, or none if there are no items
abbrev pub ranges_in : ℕ → ℕ → List ℤ → List (Range ℕ)
ranges_in items size ps = cond (eqb items 0) [] (map (range_at size) ps)

length-choice : (b : Bool) (xs ys : List (Range ℕ)) → length xs ≡ length ys → length (cond b [] xs) ≡ length (cond b [] ys)
length-choice true xs ys e = refl
length-choice false xs ys e = e

same_length : (items size other_size : ℕ) (ps qs : List ℤ) → length ps ≡ length qs → length (ranges_in items size ps) ≡ length (ranges_in items other_size qs)
same_length items size other_size ps qs e =
    length-choice (eqb items 0) (map (range_at size) ps) (map (range_at other_size) qs) (length-map ps (range_at size) ∙ e ∙ sym (length-map qs (range_at other_size)))

drop-shape : (k : ℕ) (dims : List (ℕ × ℤ × ℤ)) → shape_of (drop k dims) ≡ drop k (shape_of dims)
drop-shape zero dims = refl
drop-shape (suc k) [] = refl
drop-shape (suc k) (dim ∷ dims) = drop-shape k dims

take-shape : (k : ℕ) (dims : List (ℕ × ℤ × ℤ)) → shape_of (take k dims) ≡ take k (shape_of dims)
take-shape zero dims = refl
take-shape (suc k) [] = refl
take-shape (suc k) (dim ∷ dims) = ap (λ (ns : List ℕ). dim.0 ∷ ns) (take-shape k dims)

length-shape : (dims : List (ℕ × ℤ × ℤ)) → length dims ≡ length (shape_of dims)
length-shape dims = sym (length-map dims (λ dim. dim.0))

outer_shape : (j : ℕ) (dims : List (ℕ × ℤ × ℤ)) → shape_of (outer_dims j dims) ≡ take (length (shape_of dims) - j) (shape_of dims)
outer_shape j dims = take-shape (length dims - j) dims ∙ ap (λ (n : ℕ). take (n - j) (shape_of dims)) (length-shape dims)

joined_shape : (j : ℕ) (dims : List (ℕ × ℤ × ℤ)) → shape_of (joined_dims j dims) ≡ drop (length (shape_of dims) - j) (shape_of dims)
joined_shape j dims = drop-shape (length dims - j) dims ∙ ap (λ (n : ℕ). drop (n - j) (shape_of dims)) (length-shape dims)

as_many : (j : ℕ) (dims others : List (ℕ × ℤ × ℤ)) (start other_start : ℤ) → shape_of dims ≡ shape_of others → length (places (outer_dims j dims) start) ≡ length (places (outer_dims j others) other_start)
as_many j dims others start other_start same =
    length-places (outer_dims j dims) start
    ∙ ap product (outer_shape j dims ∙ ap (λ (ns : List ℕ). take (length ns - j) ns) same ∙ sym (outer_shape j others))
    ∙ sym (length-places (outer_dims j others) other_start)

pub same_number : (d other : Descriptor) (start other_start : ℤ) (j : ℕ) → shape_of d.dims ≡ shape_of other.dims → length (ranges_of d start j) ≡ length (ranges_of other other_start j)
same_number d other start other_start j same =
    same_length (product (shape_of d.dims)) (product (shape_of (joined_dims j d.dims)) * d.itemsize) (product (shape_of (joined_dims j other.dims)) * other.itemsize)
    (places (outer_dims j d.dims) start) (places (outer_dims j other.dims) other_start) (as_many j d.dims other.dims start other_start same)
    ∙ ap (λ (n : ℕ). length (ranges_in n (product (shape_of (joined_dims j other.dims)) * other.itemsize) (places (outer_dims j other.dims) other_start))) (ap product same)

pub zip_firsts : (xs ys : List (Range ℕ)) → length xs ≡ length ys → map (λ (pair : Range ℕ × Range ℕ). pair.0) (zip xs ys) ≡ xs
zip_firsts [] ys e = refl
zip_firsts (x ∷ xs) [] e = absurd (let wrong : suc (length xs) ≡ 0 = e in omega (arith, wrong))
zip_firsts (x ∷ xs) (y ∷ ys) e = ap (λ (zs : List (Range ℕ)). x ∷ zs) (zip_firsts xs ys (let less : suc (length xs) ≡ suc (length ys) = e in omega (arith, less)))

pub zip_seconds : (xs ys : List (Range ℕ)) → length xs ≡ length ys → map (λ (pair : Range ℕ × Range ℕ). pair.1) (zip xs ys) ≡ ys
zip_seconds [] [] e = refl
zip_seconds [] (y ∷ ys) e = absurd (let wrong : 0 ≡ suc (length ys) = e in omega (arith, wrong))
zip_seconds (x ∷ xs) [] e = absurd (let wrong : suc (length xs) ≡ 0 = e in omega (arith, wrong))
zip_seconds (x ∷ xs) (y ∷ ys) e = ap (λ (zs : List (Range ℕ)). y ∷ zs) (zip_seconds xs ys (let less : suc (length xs) ≡ suc (length ys) = e in omega (arith, less)))

-- ---- byte by byte

zip-append : (xs ys : List ℕ) (us vs : List ℕ) → length xs ≡ length ys → zip (xs ++ us) (ys ++ vs) ≡ zip xs ys ++ zip us vs
zip-append [] [] us vs e = refl
zip-append [] (y ∷ ys) us vs e = absurd (let wrong : 0 ≡ suc (length ys) = e in omega (arith, wrong))
zip-append (x ∷ xs) [] us vs e = absurd (let wrong : suc (length xs) ≡ 0 = e in omega (arith, wrong))
zip-append (x ∷ xs) (y ∷ ys) us vs e =
    ap (λ (zs : List (ℕ × ℕ)). (x, y) ∷ zs) (zip-append xs ys us vs (let less : suc (length xs) ≡ suc (length ys) = e in omega (arith, less)))

abbrev pub byte_pairs : Range ℕ × Range ℕ → List (ℕ × ℕ)
byte_pairs pair = zip (bytes_of pair.0) (bytes_of pair.1)

length-range : (size : ℕ) (p : ℤ) → length (bytes_of (range_at size p)) ≡ size
length-range size p = length-range_with_len (nat_abs p) (nat_abs p + size - nat_abs p) ∙ (let same : nat_abs p + size - nat_abs p ≡ size = omega arith in same)

byte_pairs-run : (size : ℕ) (ps qs : List ℤ) → length ps ≡ length qs
    → flat_map byte_pairs (zip (map (range_at size) ps) (map (range_at size) qs)) ≡ zip (flat_map bytes_of (map (range_at size) ps)) (flat_map bytes_of (map (range_at size) qs))
byte_pairs-run size [] qs e = refl
byte_pairs-run size (p ∷ ps) [] e = absurd (let wrong : suc (length ps) ≡ 0 = e in omega (arith, wrong))
byte_pairs-run size (p ∷ ps) (q ∷ qs) e =
    ap (λ (zs : List (ℕ × ℕ)). byte_pairs (range_at size p, range_at size q) ++ zs) (byte_pairs-run size ps qs (let less : suc (length ps) ≡ suc (length qs) = e in omega (arith, less)))
    ∙ sym (zip-append (bytes_of (range_at size p)) (bytes_of (range_at size q)) (flat_map bytes_of (map (range_at size) ps)) (flat_map bytes_of (map (range_at size) qs)) (length-range size p ∙ sym (length-range size q)))

byte_pairs-choice : (b : Bool) (size : ℕ) (ps qs : List ℤ) → length ps ≡ length qs
    → flat_map byte_pairs (zip (cond b [] (map (range_at size) ps)) (cond b [] (map (range_at size) qs))) ≡ zip (flat_map bytes_of (cond b [] (map (range_at size) ps))) (flat_map bytes_of (cond b [] (map (range_at size) qs)))
byte_pairs-choice true size ps qs e = refl
byte_pairs-choice false size ps qs e = byte_pairs-run size ps qs e

byte_pairs-ranges : (d other : Descriptor) (start other_start : ℤ) (j : ℕ) → shape_of d.dims ≡ shape_of other.dims → d.itemsize ≡ other.itemsize
    → flat_map byte_pairs (zip (ranges_of d start j) (ranges_of other other_start j)) ≡ zip (flat_map bytes_of (ranges_of d start j)) (flat_map bytes_of (ranges_of other other_start j))
byte_pairs-ranges d other start other_start j same sized =
    let size : ℕ = product (shape_of (joined_dims j d.dims)) * d.itemsize in
    let qs : List ℤ = places (outer_dims j other.dims) other_start in
    let size_is : size ≡ product (shape_of (joined_dims j other.dims)) * other.itemsize =
    ap₂ (λ (n k : ℕ). n * k) (ap product (joined_shape j d.dims ∙ ap (λ (ns : List ℕ). drop (length ns - j) ns) same ∙ sym (joined_shape j other.dims))) sized in
    let ranges_are : ranges_in (product (shape_of d.dims)) size qs ≡ ranges_of other other_start j = ap₂ (λ (n k : ℕ). ranges_in n k qs) (ap product same) size_is in
    subst (λ (rs : List (Range ℕ)). flat_map byte_pairs (zip (ranges_of d start j) rs) ≡ zip (flat_map bytes_of (ranges_of d start j)) (flat_map bytes_of rs)) ranges_are
    (byte_pairs-choice (eqb (product (shape_of d.dims)) 0) size (places (outer_dims j d.dims) start) qs (as_many j d.dims other.dims start other_start same))

-- ---- what a walk over both gives

pub record ArePairs (d other : Descriptor) (start other_start : ℕ) (join : Bool) (pairs : List (Range ℕ × Range ℕ)) : Type 0 where
  pub pairs_are : pairs ≡ pairs_of d (pos start) other (pos other_start) join
  pub first : map (λ pair. pair.0) pairs ≡ ranges_of d (pos start) (joined_count_of_both d other join)
  pub second : map (λ pair. pair.1) pairs ≡ ranges_of other (pos other_start) (joined_count_of_both d other join)
  pub bytes : flat_map bytes_of (map (λ pair. pair.0) pairs) ≡ item_bytes d (pos start)
  pub other_bytes : flat_map bytes_of (map (λ pair. pair.1) pairs) ≡ item_bytes other (pos other_start)
  pub byte_by_byte : d.itemsize ≡ other.itemsize → flat_map (λ pair. zip (bytes_of pair.0) (bytes_of pair.1)) pairs ≡ zip (item_bytes d (pos start)) (item_bytes other (pos other_start))

pub pairs_from : (d other : Descriptor) (start other_start found : ℕ) (join : Bool) (pairs : List (Range ℕ × Range ℕ)) → IsPlaced d start → IsPlaced other other_start → shape_of d.dims ≡ shape_of other.dims
    → found ≤ tail_of d → found ≤ tail_of other → (0 < product (shape_of d.dims) → 0 < product (shape_of other.dims) → found ≡ joined_count_of_both d other join)
    → pairs ≡ zip (ranges_of d (pos start) found) (ranges_of other (pos other_start) found)
    → ArePairs d other start other_start join pairs
pairs_from d other start other_start found join pairs placed other_placed same few other_few told made =
    let j : ℕ = joined_count_of_both d other join in
    let one : ranges_of d (pos start) found ≡ ranges_of d (pos start) j = asked (product (shape_of d.dims)) d (pos start) found j refl (λ some. told some (subst (λ (n : ℕ). 0 < n) (ap product same) some)) in
    let two : ranges_of other (pos other_start) found ≡ ranges_of other (pos other_start) j =
    asked (product (shape_of other.dims)) other (pos other_start) found j refl (λ some. told (subst (λ (n : ℕ). 0 < n) (sym (ap product same)) some) some) in
    let xs : List (Range ℕ) = ranges_of d (pos start) j in
    let ys : List (Range ℕ) = ranges_of other (pos other_start) j in
    let are : pairs ≡ zip xs ys = made ∙ ap₂ (λ (ms ns : List (Range ℕ)). zip ms ns) one two in
    let many : length xs ≡ length ys = same_number d other (pos start) (pos other_start) j same in
    let firsts : map (λ pair. pair.0) pairs ≡ xs = ap (map (λ (pair : Range ℕ × Range ℕ). pair.0)) are ∙ zip_firsts xs ys many in
    let seconds : map (λ pair. pair.1) pairs ≡ ys = ap (map (λ (pair : Range ℕ × Range ℕ). pair.1)) are ∙ zip_seconds xs ys many in
    let bytes : flat_map bytes_of xs ≡ item_bytes d (pos start) = ap (λ (rs : List (Range ℕ)). flat_map bytes_of rs) (sym one) ∙ range_bytes d start found placed few in
    let other_bytes : flat_map bytes_of ys ≡ item_bytes other (pos other_start) = ap (λ (rs : List (Range ℕ)). flat_map bytes_of rs) (sym two) ∙ range_bytes other other_start found other_placed other_few in
    record {
      pairs_are = are;
      first = firsts;
      second = seconds;
      bytes = ap (λ (rs : List (Range ℕ)). flat_map bytes_of rs) firsts ∙ bytes;
      other_bytes = ap (λ (rs : List (Range ℕ)). flat_map bytes_of rs) seconds ∙ other_bytes;
      byte_by_byte = λ sized. ap (flat_map byte_pairs) are ∙ byte_pairs-ranges d other (pos start) (pos other_start) j same sized ∙ ap₂ (λ (us vs : List ℕ). zip us vs) bytes other_bytes;
    }

-- ---- one step of it

pub zip_none : (xs ys : List (Range ℕ)) → ys ≡ [] → zip xs ys ≡ []
zip_none [] ys e = refl
zip_none (x ∷ xs) [] e = refl
zip_none (x ∷ xs) (y ∷ ys) e = absurd (let wrong : suc (length ys) ≡ 0 = ap (λ (zs : List (Range ℕ)). length zs) e in omega (arith, wrong))

pub none_left : (before after : List (Range ℕ × Range ℕ)) (given : Option (Range ℕ × Range ℕ)) → given ≡ None → before ≡ [] → after ≡ [] → YieldsFirst (λ (s : List (Range ℕ × Range ℕ)). s) before given after
none_left before after None e f g = (f, g)
none_left before after (Some pair) e f g = absurd (cc)
