-- Tables of all bytes, and bytes that are mapped by them.
use Rattle.std.proofs.Common.{◌≡◌, ℕ, ◌+◌, ◌<◌, ◌==◌, Bool, true, false, not, cond, Ok, Err, List, [], ◌∷◌, ◌++◌, length, map, slice_index, get_or, set, take, drop, refl, ap, sym, ◌∙◌, arith}
use Rattle.std.specs.List.{All, range_with_len, filter}
use Rattle.std.specs.Prelude.{IfOk}
use Rattle.std.proofs.lemmas.List.{map-id, map_more, length-map, length-take-le, drop_all, drop_more, get_or_at, set_at, append_assoc}
use Rattle.std.proofs.lemmas.List.FromFn.{fill_by_all, get_or-range_with_len, get_or-map-range_with_len, length-range_with_len, map-range_with_len_more}
use Rattle.std.proofs.lemmas.List.Elements.{All-head, All-tail}
use Rattle.pybuf_shaping.specs.Tables.{all_bytes, counterpart, is_among, translated}
use Rattle.pybuf_value.specs.declared.faults.Fault.TheVariants as fault
use Rattle.pybuf_shaping.specs.Laws.{ByIdentity, EachOnce}

pub length-all_bytes : length all_bytes ≡ 256
unfolding all_bytes
length-all_bytes = length-range_with_len 0 256

pub all_bytes-at : (b : ℕ) → b < 256 → get_or all_bytes b 0 ≡ b
unfolding all_bytes
all_bytes-at b small = get_or-range_with_len 0 256 b 0 small ∙ omega arith

pub all_bytes-is : all_bytes ≡ range_with_len 0 256
unfolding all_bytes
all_bytes-is = refl

pub mapped-at : (f : ℕ → ℕ) (b : ℕ) → b < 256 → get_or (map f all_bytes) b 0 ≡ f b
unfolding all_bytes
mapped-at f b small = get_or-map-range_with_len f 0 256 b b 0 small (omega arith)

pub mapped_from : (f : ℕ → ℕ) (table : List ℕ) → length table ≡ 256 → ((b : ℕ) → b < 256 → get_or table b 0 ≡ f b) → table ≡ map f all_bytes
unfolding all_bytes
mapped_from f table full each = fill_by_all f table 256 0 full each

-- a table that maps each byte as a function does
pub by_function : (table : List ℕ) (f : ℕ → ℕ) → ((b : ℕ) → b < 256 → get_or table b 0 ≡ f b) → (bytes : List ℕ) → All (λ b. b < 256) bytes → map (slice_index table) bytes ≡ map f bytes
by_function table f each [] all = refl
by_function table f each (b ∷ bytes) all =
    let here : get_or table b 0 ≡ f b = each b (All-head (λ b. b < 256) b bytes all) in
    let rest = by_function table f each bytes (All-tail (λ b. b < 256) b bytes all) in
    cc

pub range_more : (n : ℕ) → range_with_len 0 (n + 1) ≡ range_with_len 0 n ++ n ∷ []
range_more n =
    sym (map-id (range_with_len 0 (n + 1))) ∙ (map-range_with_len_more (λ x. x) 0 n n (omega arith)
    ∙ ap (λ t. t ++ n ∷ []) (map-id (range_with_len 0 n)))

-- Behind the ends of both strings, each byte is its own counterpart.
pub own_counterpart : (from to : List ℕ) (b : ℕ) → counterpart (drop (length from) from) to b ≡ b
own_counterpart from to b = ap (λ t. counterpart t to b) (drop_all (length from) from (omega arith))

-- If nothing is to be dropped, nothing is left out.
pub none_dropped : (bytes : List ℕ) → filter (λ b. not (is_among [] b)) bytes ≡ bytes
none_dropped [] = refl
none_dropped (b ∷ bytes) = ap (λ t. b ∷ t) (none_dropped bytes)

pub by_identity : (bytes : List ℕ) → ByIdentity bytes
by_identity bytes all =
    ap (map (slice_index all_bytes)) (none_dropped bytes)
    ∙ (by_function all_bytes (λ b. b) all_bytes-at bytes all ∙ map-id bytes)

by_test : (equal : Bool) (from to bytes : List ℕ) → All (λ b. b < 256) bytes →
    IfOk (cond equal (Ok (map (counterpart from to) all_bytes)) (Err fault.Value)) (λ table. translated table [] bytes ≡ map (counterpart from to) bytes)
by_test true from to bytes all =
    ap (map (slice_index (map (counterpart from to) all_bytes))) (none_dropped bytes)
    ∙ by_function (map (counterpart from to) all_bytes) (counterpart from to) (mapped-at (counterpart from to)) bytes all
by_test false from to bytes all = tt

pub each_once : (from to bytes : List ℕ) → EachOnce from to bytes
each_once from to bytes all = by_test (length from == length to) from to bytes all

-- One more byte is mapped in its place.
pub one_mapped : (f : ℕ → ℕ) (old now : List ℕ) (i : ℕ) → i < length old → now ≡ map f (take i old) ++ drop i old →
    set now i (f (get_or now i 0)) ≡ map f (take (i + 1) old) ++ drop (i + 1) old
one_mapped f old now i inside is =
    let x : ℕ = get_or old i 0 in
    let front : List ℕ = map f (take i old) in
    let back : List ℕ = drop (i + 1) old in
    let parts : now ≡ front ++ x ∷ back = is ∙ ap (λ rest. front ++ rest) (drop_more old i 0 inside) in
    let long : length front ≡ i = length-map (take i old) f ∙ length-take-le i old (omega (arith, inside)) in
    let read : get_or now i 0 ≡ x = ap (λ xs. get_or xs i 0) parts ∙ get_or_at front x back 0 i long in
    ap (λ y. set now i (f y)) read ∙ ap (λ xs. set xs i (f x)) parts ∙ set_at front x back (f x) i long
    ∙ sym (ap (λ xs. xs ++ back) (map_more f old i 0 inside) ∙ append_assoc front (f x ∷ []) back)
