-- Items that are copied one after the other.
use Rattle.std.proofs.Common.{◌≡◌, ℕ, zero, suc, ◌+◌, ◌-◌, ◌*◌, ◌<◌, ◌≤◌, false, true, List, [], ◌∷◌, ◌++◌, length, take, drop, reverse, get_or, ap, ap₂, sym, ◌∙◌, refl, arith}
use Rattle.std.proofs.Math.Nat.{zero-mul, mul-le-mul_right}
use Rattle.std.proofs.lemmas.Grind.{common_steps}
use Rattle.std.proofs.lemmas.List.{length-append, length-take-le, length-drop, length-reverse, reverse-append, append-nil, append_assoc, take_at, take_rest, take-append-drop, drop-drop, drop_more, get_or-drop}
use borrow.Rule.Slice.PartMut.{put_mid}
use Rattle.std.proofs.Math.Seq.{drop-append-add}
use Rattle.pybuf_lanes.specs.Gathers.{every}
use Rattle.pybuf_lemmas.proofs.Lists.{length_of_piece}
use Rattle.pybuf_strided.specs.Facts.{piece_after}
use Rattle.pybuf_strided.specs.Apart.{AreInside, place_of, with_piece, moved_at, pieces_at}

-- One more item is copied.
pub next_moved : (bytes : List ℕ) (to : ℕ → ℕ) (source : List ℕ) (from : ℕ → ℕ) (size k : ℕ) (now more : List ℕ) → now ≡ moved_at bytes to source from size k
    → more ≡ with_piece now (to k) (take size (drop (from k) source)) → more ≡ moved_at bytes to source from size (k + 1)
next_moved bytes to source from size k now more so_far copied =
    let next : suc k ≡ k + 1 = omega arith in
    copied ∙ ap (λ (xs : List ℕ). with_piece xs (to k) (take size (drop (from k) source))) so_far ∙ ap (moved_at bytes to source from size) next

-- the places of the item, as the code computed them
pub next_place : (bytes source : List ℕ) (size at there a t : ℕ) → at ≡ a → there ≡ t → with_piece bytes at (take size (drop there source)) ≡ with_piece bytes a (take size (drop t source))
next_place bytes source size at there a t here from = ap₂ (λ (p q : ℕ). with_piece bytes p (take size (drop q source))) here from

-- ---- items without bytes

nothing_put : (bytes source : List ℕ) (place there : ℕ) → with_piece bytes place (take 0 (drop there source)) ≡ bytes
nothing_put bytes source place there = grind (arith, common_steps)

pub none_moved : (bytes : List ℕ) (to : ℕ → ℕ) (source : List ℕ) (from : ℕ → ℕ) (size n : ℕ) → size ≡ 0 → bytes ≡ moved_at bytes to source from size n
none_moved bytes to source from size zero none = refl
none_moved bytes to source from size (suc n) none =
    sym (nothing_put bytes source (to n) (from n))
    ∙ ap₂ (λ (xs : List ℕ) (k : ℕ). with_piece xs (to n) (take k (drop (from n) source))) (none_moved bytes to source from size n none) (sym none)

-- ---- items one after the other

-- Each of the first items lies inside the source.
abbrev pub Lie : List ℕ → (ℕ → ℕ) → ℕ → ℕ → Type 0
Lie source from size n = 0 < size → (k : ℕ) → k < n → from k + size ≤ length source

fewer : (source : List ℕ) (from : ℕ → ℕ) (size n : ℕ) → Lie source from size (suc n) → Lie source from size n
fewer source from size n all = λ some k less. all some k (let more : k < suc n = omega (arith, less) in more)

last_long : (source : List ℕ) (from : ℕ → ℕ) (size n : ℕ) → Lie source from size (suc n) → length (take size (drop (from n) source)) ≡ size
last_long source from size n all = length_of_piece source (from n) size (λ some. all some n (let last : n < suc n = omega arith in last))

pub length-pieces : (source : List ℕ) (from : ℕ → ℕ) (size n : ℕ) → Lie source from size n → length (pieces_at source from size n) ≡ n * size
length-pieces source from size zero all = sym (zero-mul size)
length-pieces source from size (suc n) all =
    let before = length-pieces source from size n (fewer source from size n all) in
    let last = last_long source from size n all in
    let whole : suc n * size ≡ n * size + size = grind arith in
    length-append (pieces_at source from size n) (take size (drop (from n) source)) ∙ ap₂ (λ (x y : ℕ). x + y) before last ∙ sym whole

-- The first items are in the room, and the rest of the room is as it was.
pub room_filled : (room source : List ℕ) (from : ℕ → ℕ) (size n : ℕ) → Lie source from size n
    → moved_at room (place_of false 0 size) source from size n ≡ pieces_at source from size n ++ drop (n * size) room
room_filled room source from size zero all = let none : 0 * size ≡ 0 = zero-mul size in sym (ap (λ (k : ℕ). drop k room) none)
room_filled room source from size (suc n) all =
    let item : List ℕ = take size (drop (from n) source) in
    let pieces : List ℕ = pieces_at source from size n in
    let at : 0 + n * size ≡ n * size = omega arith in
    let whole : n * size + length item ≡ suc n * size = ap (λ (k : ℕ). n * size + k) (last_long source from size n all) ∙ (let sum : n * size + size ≡ suc n * size = grind arith in sum) in
    ap₂ (λ (xs : List ℕ) (k : ℕ). with_piece xs k item) (room_filled room source from size n (fewer source from size n all)) at
    ∙ piece_after pieces item room (n * size) (length-pieces source from size n (fewer source from size n all))
    ∙ ap (λ (k : ℕ). (pieces ++ item) ++ drop k room) whole

-- A room that is as long as the items has just these.
pub all_filled : (room source : List ℕ) (from : ℕ → ℕ) (size n : ℕ) → Lie source from size n → length room ≡ size * n
    → moved_at room (place_of false 0 size) source from size n ≡ pieces_at source from size n
all_filled room source from size n all long =
    let past : length room ≡ n * size = long ∙ (let turned : size * n ≡ n * size = grind arith in turned) in
    let nothing : drop (n * size) room ≡ [] = grind (arith, common_steps, past) in
    room_filled room source from size n all ∙ ap (λ (xs : List ℕ). pieces_at source from size n ++ xs) nothing ∙ append-nil (pieces_at source from size n)

-- The room for each item lies inside the whole room.
pub room_inside : (size count len : ℕ) → len ≡ size * count → 0 < size → (k : ℕ) → k < count → place_of false 0 size k + size ≤ len
room_inside size count len whole some k less =
    let up : suc k ≤ count = omega (arith, less) in
    let more : suc k * size ≤ count * size = mul-le-mul_right size up in
    let sum : suc k * size ≡ k * size + size = grind arith in
    let turned : size * count ≡ count * size = grind arith in
    omega (arith, whole, more, sum, turned)

-- ---- bytes by steps upwards, to where they lie one after the other

length-every : (step n : ℕ) (bytes : List ℕ) → length (every step n bytes) ≡ n
length-every step zero bytes = refl
length-every step (suc n) bytes = omega (arith, length-append (every step n bytes) (get_or bytes (step * n) 0 ∷ []), length-every step n bytes)

byte_at : (source : List ℕ) (place : ℕ) → place < length source → take 1 (drop place source) ≡ get_or source place 0 ∷ []
byte_at source place inside = ap (take 1) (drop_more source place 0 inside)

pub rising_moved : (bytes source : List ℕ) (to from step n : ℕ) → Lie source (place_of false from step) 1 n → to + n ≤ length bytes
    → moved_at bytes (place_of false to 1) source (place_of false from step) 1 n ≡ (take to bytes ++ every step n (drop from source)) ++ drop (to + n) bytes
rising_moved bytes source to from step zero all inside =
    let same : to + 0 ≡ to = omega arith in
    sym (ap₂ (λ (xs : List ℕ) (k : ℕ). xs ++ drop k bytes) (append-nil (take to bytes)) same ∙ take-append-drop to bytes)
rising_moved bytes source to from step (suc n) all inside =
    let front : List ℕ = take to bytes ++ every step n (drop from source) in
    let b : ℕ = get_or (drop from source) (step * n) 0 in
    let room : to + n ≤ length bytes = omega (arith, inside) in
    let whole : to ≤ length bytes = omega (arith, inside) in
    let at : to + n * 1 ≡ to + n = omega arith in
    let next : to + n + 1 ≡ to + suc n = omega arith in
    let place : from + n * step ≡ from + step * n = grind arith in
    let last : from + n * step + 1 ≤ length source = all (omega arith) n (omega arith) in
    let item : take 1 (drop (from + n * step) source) ≡ b ∷ [] =
    byte_at source (from + n * step) (omega (arith, last)) ∙ ap (λ (k : ℕ). get_or source k 0 ∷ []) place ∙ ap (λ (x : ℕ). x ∷ []) (sym (get_or-drop from source (step * n) 0)) in
    let long : length front ≡ to + n = omega (arith, length-append (take to bytes) (every step n (drop from source)), length-take-le to bytes whole, length-every step n (drop from source)) in
    ap₂ (λ (xs : List ℕ) (k : ℕ). with_piece xs k (take 1 (drop (from + n * step) source))) (rising_moved bytes source to from step n (fewer source (place_of false from step) 1 n all) room) at
    ∙ ap (with_piece (front ++ drop (to + n) bytes) (to + n)) item
    ∙ piece_after front (b ∷ []) bytes (to + n) long
    ∙ ap₂ (λ (xs : List ℕ) (k : ℕ). xs ++ drop k bytes) (append_assoc (take to bytes) (every step n (drop from source)) (b ∷ [])) next

-- every so manyth byte, written over so many bytes
pub apart_moved : (step : ℕ) (bytes source written : List ℕ) (to from count : ℕ) → Lie source (place_of false from step) 1 count → to + count ≤ length bytes
    → written ≡ every step (length (take (to + count - to) (drop to bytes))) (take (length source - from) (drop from source))
    → put_mid to (to + count - to) bytes written ≡ moved_at bytes (place_of false to 1) source (place_of false from step) 1 count
apart_moved step bytes source written to from count lie inside is =
    let rest : List ℕ = drop from source in
    let many : to + count - to ≡ count = omega arith in
    let room : length (take (to + count - to) (drop to bytes)) ≡ count = length-take-le (to + count - to) (drop to bytes) (omega (arith, length-drop to bytes, inside)) ∙ many in
    let gathered : written ≡ every step count rest = is ∙ ap₂ (λ (n : ℕ) (xs : List ℕ). every step n xs) room (take_rest source from) in
    ap₂ (λ (k : ℕ) (ys : List ℕ). put_mid to k bytes ys) many gathered
    ∙ ap (λ (xs : List ℕ). take to bytes ++ (every step count rest ++ xs)) (drop-drop count to bytes)
    ∙ sym (append_assoc (take to bytes) (every step count rest) (drop (to + count) bytes))
    ∙ sym (rising_moved bytes source to from step count lie inside)

-- where bytes lie that are copied so
pub ones_inside : (start step count size room : ℕ) → AreInside false start step count size room → 0 < count → size ≡ 1 → step ≡ 1 → start + count ≤ room
ones_inside start step count size room all some one by =
    let last : start + (count - 1) * step + size ≤ room = all.high (omega (arith, one)) (count - 1) (omega (arith, some)) in
    let times : (count - 1) * step ≡ count - 1 = ap (λ (k : ℕ). (count - 1) * k) by ∙ omega arith in
    omega (arith, last, times, one, some)

-- ---- bytes from one to the next below it, to where they lie one after the other

-- the bytes up to a place, as many as a number says
abbrev up_to : List ℕ → ℕ → ℕ → List ℕ
up_to source from n = take n (drop (from + 1 - n) source)

one_below : (source : List ℕ) (from n : ℕ) → suc n ≤ from + 1 → from < length source → reverse (up_to source from (suc n)) ≡ reverse (up_to source from n) ++ get_or source (from - n) 0 ∷ []
one_below source from n enough inside =
    let at : from + 1 - suc n ≡ from - n = omega arith in
    let next : from - n + 1 ≡ from + 1 - n = omega (arith, enough) in
    let b : ℕ = get_or source (from - n) 0 in
    let parts : up_to source from (suc n) ≡ b ∷ up_to source from n =
    ap (λ (k : ℕ). take (suc n) (drop k source)) at
    ∙ ap (take (suc n)) (drop_more source (from - n) 0 (omega (arith, inside)))
    ∙ ap (λ (k : ℕ). b ∷ take n (drop k source)) next in
    ap reverse parts ∙ reverse-append (b ∷ []) (up_to source from n)

falling_moved : (bytes source : List ℕ) (to from n : ℕ) → n ≤ from + 1 → from < length source → to + n ≤ length bytes
    → moved_at bytes (place_of false to 1) source (place_of true from 1) 1 n ≡ (take to bytes ++ reverse (up_to source from n)) ++ drop (to + n) bytes
falling_moved bytes source to from zero enough source_inside inside =
    let same : to + 0 ≡ to = omega arith in
    sym (ap₂ (λ (xs : List ℕ) (k : ℕ). xs ++ drop k bytes) (append-nil (take to bytes)) same ∙ take-append-drop to bytes)
falling_moved bytes source to from (suc n) enough source_inside inside =
    let turned : List ℕ = reverse (up_to source from n) in
    let front : List ℕ = take to bytes ++ turned in
    let b : ℕ = get_or source (from - n) 0 in
    let room : to + n ≤ length bytes = omega (arith, inside) in
    let fewer_below : n ≤ from + 1 = omega (arith, enough) in
    let whole : to ≤ length bytes = omega (arith, inside) in
    let at : to + n * 1 ≡ to + n = omega arith in
    let next : to + n + 1 ≡ to + suc n = omega arith in
    let place : from - n * 1 ≡ from - n = omega arith in
    let item : take 1 (drop (from - n * 1) source) ≡ b ∷ [] = ap (λ (k : ℕ). take 1 (drop k source)) place ∙ byte_at source (from - n) (omega (arith, source_inside)) in
    let many : length turned ≡ n = length-reverse (up_to source from n) ∙ length-take-le n (drop (from + 1 - n) source) (omega (arith, length-drop (from + 1 - n) source, source_inside, enough)) in
    let long : length front ≡ to + n = omega (arith, length-append (take to bytes) turned, length-take-le to bytes whole, many) in
    ap₂ (λ (xs : List ℕ) (k : ℕ). with_piece xs k (take 1 (drop (from - n * 1) source))) (falling_moved bytes source to from n fewer_below source_inside room) at
    ∙ ap (with_piece (front ++ drop (to + n) bytes) (to + n)) item
    ∙ piece_after front (b ∷ []) bytes (to + n) long
    ∙ ap₂ (λ (xs : List ℕ) (k : ℕ). xs ++ drop k bytes) (append_assoc (take to bytes) turned (b ∷ []) ∙ ap (λ (xs : List ℕ). take to bytes ++ xs) (sym (one_below source from n enough source_inside))) next

pub turned_moved : (bytes source written : List ℕ) (to from count : ℕ) → count ≤ from + 1 → from < length source → to + count ≤ length bytes
    → written ≡ reverse (take (from + 1 - (from + 1 - count)) (drop (from + 1 - count) source))
    → put_mid to (to + count - to) bytes written ≡ moved_at bytes (place_of false to 1) source (place_of true from 1) 1 count
turned_moved bytes source written to from count enough source_inside inside is =
    let many : to + count - to ≡ count = omega arith in
    let size : from + 1 - (from + 1 - count) ≡ count = omega (arith, enough) in
    let turned : List ℕ = reverse (up_to source from count) in
    let gathered : written ≡ turned = is ∙ ap (λ (k : ℕ). reverse (take k (drop (from + 1 - count) source))) size in
    ap₂ (λ (k : ℕ) (ys : List ℕ). put_mid to k bytes ys) many gathered
    ∙ ap (λ (xs : List ℕ). take to bytes ++ (turned ++ xs)) (drop-drop count to bytes)
    ∙ sym (append_assoc (take to bytes) turned (drop (to + count) bytes))
    ∙ sym (falling_moved bytes source to from count enough source_inside inside)

pub room_as_long : (bytes source : List ℕ) (to from count : ℕ) → count ≤ from + 1 → from < length source → to + count ≤ length bytes
    → length (take (to + count - to) (drop to bytes)) ≡ length (take (from + 1 - (from + 1 - count)) (drop (from + 1 - count) source))
room_as_long bytes source to from count enough source_inside inside =
    length-take-le (to + count - to) (drop to bytes) (omega (arith, length-drop to bytes, inside))
    ∙ (let same : to + count - to ≡ from + 1 - (from + 1 - count) = omega (arith, enough) in same)
    ∙ sym (length-take-le (from + 1 - (from + 1 - count)) (drop (from + 1 - count) source) (omega (arith, length-drop (from + 1 - count) source, source_inside, enough)))

-- where bytes lie that are copied so
pub turned_enough : (start step count size room : ℕ) → AreInside true start step count size room → 0 < count → step ≡ 1 → count ≤ start + 1
turned_enough start step count size room all some by =
    let low : (count - 1) * step ≤ start = all.low (count - 1) (omega (arith, some)) refl in
    let times : (count - 1) * step ≡ count - 1 = ap (λ (k : ℕ). (count - 1) * k) by ∙ omega arith in
    omega (arith, low, times, some)

pub turned_inside : (start step count size room : ℕ) → AreInside true start step count size room → 0 < count → size ≡ 1 → start < room
turned_inside start step count size room all some one =
    let first : start - 0 * step + size ≤ room = all.high (omega (arith, one)) 0 some in
    let none : 0 * step ≡ 0 = zero-mul step in
    omega (arith, first, none, one)
