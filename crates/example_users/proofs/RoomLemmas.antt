-- Bytes that replace others in a room.
use Rattle.std.proofs.Common.{◌≡◌, ℕ, ◌+◌, ◌-◌, ◌≤◌, ◌<◌, List, ◌++◌, length, take, drop, arith, ap, sym, ◌∙◌, append_assoc, length-append, length-drop, slice_range, refl, Some}
use Rattle.std.specs.Char.{to_ascii_uppercase}
use Rattle.std.proofs.lemmas.List.{length-map, drop-drop, take-append-le, drop-append-le, length-take-le, drop-take, length-take, take-append-drop}
use Rattle.std.proofs.Math.Seq.{take-append_seam, take-append-add, drop-append_seam}
use Rattle.std.proofs.lemmas.List.Quantifiers.{position-Some}
use Rattle.std.specs.Prelude.{◌==◌, Option, None}
use Rattle.std.specs.List.{copy_within}
use Rattle.pybuf_state.specs.Exporter.{Exporter}
use Rattle.pybuf_exporter.specs.Lending.{overwritten_exporter}
use Rattle.example_users.specs.Lines.{Lines, overwritten, lines_in, received, answered, answered_at, answer_of, line_len_of, line_at, next_line, sent}

-- the first part, and what stands behind it
split_at : (xs : List ℕ) (i j : ℕ) → i ≤ j → drop i (take j xs) ≡ slice_range xs i j
split_at xs i j ordered = let whole : j ≡ i + (j - i) = omega arith in ap (λ n. drop i (take n xs)) whole ∙ drop-take i (j - i) xs

length-part : (xs : List ℕ) (i j : ℕ) → i ≤ j → j ≤ length xs → length (slice_range xs i j) ≡ j - i
length-part xs i j ordered inside = length-take-le (j - i) (drop i xs) (simp length-drop (omega arith))

-- What stands before the place stays.
pub before_place : (room bytes : List ℕ) (i place : ℕ) → i ≤ place → place ≤ length room → take i (overwritten room place bytes) ≡ take i room
before_place room bytes i place ordered inside =
    let front : length (take place room) ≡ place = length-take-le place room inside in
    take-append-le i (take place room) (bytes ++ drop (place + length bytes) room) (omega arith)
    ∙ (sym (take-append-le i (take place room) (drop place room) (omega arith)) ∙ ap (λ xs. take i xs) (take-append-drop place room))

-- a part that ends with these bytes
pub part_with : (room bytes : List ℕ) (begin place : ℕ) → begin ≤ place → place ≤ length room
    → slice_range (overwritten room place bytes) begin (place + length bytes) ≡ slice_range room begin place ++ bytes
part_with room bytes begin place ordered inside =
    let rest : List ℕ = drop (place + length bytes) room in
    let front : length (take place room) ≡ place = length-take-le place room inside in
    let part : List ℕ = slice_range room begin place in
    let long : place + length bytes - begin ≡ length part + length bytes = omega (arith, length-part room begin place ordered inside) in
    ap (λ xs. take (place + length bytes - begin) xs) (drop-append-le begin (take place room) (bytes ++ rest) (omega arith))
    ∙ (ap (λ xs. take (place + length bytes - begin) (xs ++ (bytes ++ rest))) (split_at room begin place ordered)
    ∙ (ap (λ n. take n (part ++ (bytes ++ rest))) long
    ∙ (take-append-add part (bytes ++ rest) (length bytes)
    ∙ ap (λ xs. part ++ xs) (take-append_seam bytes rest))))

-- There are as many bytes as before.
pub length-overwritten : (room bytes : List ℕ) (place : ℕ) → place + length bytes ≤ length room → length (overwritten room place bytes) ≡ length room
length-overwritten room bytes place inside =
    let front : length (take place room) ≡ place = length-take-le place room (omega arith) in
    simp (length-append, length-drop) (omega arith)

-- A part behind the bytes stays.
pub part_behind : (room bytes : List ℕ) (place begin end : ℕ) → place + length bytes ≡ begin → begin ≤ end → begin ≤ length room
    → slice_range (overwritten room place bytes) begin end ≡ slice_range room begin end
part_behind room bytes place begin end at ordered inside =
    let front : length (take place room) ≡ place = length-take-le place room (omega arith) in
    let before : List ℕ = take place room ++ bytes in
    let long : length before ≡ begin = length-append (take place room) bytes ∙ omega arith in
    let joined : take place room ++ (bytes ++ drop (place + length bytes) room) ≡ before ++ drop (place + length bytes) room = simp append_assoc in
    ap (λ xs. take (end - begin) (drop begin xs)) joined
    ∙ (ap (λ n. take (end - begin) (drop n (before ++ drop (place + length bytes) room))) (sym long)
    ∙ (ap (λ xs. take (end - begin) xs) (drop-append_seam before (drop (place + length bytes) room)) ∙ ap (λ n. take (end - begin) (drop n room)) at))

-- the front that ends with these bytes
pub front_with : (room bytes : List ℕ) (place : ℕ) → place ≤ length room → take (place + length bytes) (overwritten room place bytes) ≡ take place room ++ bytes
front_with room bytes place inside =
    let rest : List ℕ = drop (place + length bytes) room in
    let front : length (take place room) ≡ place = length-take-le place room inside in
    let long : place + length bytes ≡ length (take place room) + length bytes = omega arith in
    ap (λ n. take n (take place room ++ (bytes ++ rest))) long
    ∙ (take-append-add (take place room) (bytes ++ rest) (length bytes)
    ∙ ap (λ xs. take place room ++ xs) (take-append_seam bytes rest))

same_lines : (a b w x : List ℕ) (m n : ℕ) → a ≡ b → w ≡ x → m ≡ n → (let r : Lines = record { answers = a; waiting = w; free = m } in r) ≡ (let r : Lines = record { answers = b; waiting = x; free = n } in r)
same_lines a b w x m n answers waiting free = λ i. record { answers = answers i; waiting = waiting i; free = free i }

pub received_in : (room bytes : List ℕ) (begin end : ℕ) → begin ≤ end → end + length bytes ≤ length room
    → lines_in (overwritten room end bytes) begin (end + length bytes) ≡ received (lines_in room begin end) bytes
received_in room bytes begin end ordered inside =
    same_lines _ _ _ _ _ _ (before_place room bytes begin end ordered (omega arith)) (part_with room bytes begin end ordered (omega arith))
    (omega (arith, length-overwritten room bytes end inside))

shorter : (xs : List ℕ) (m n : ℕ) → m ≤ n → n ≤ length xs → take m (take n xs) ≡ take m xs
shorter xs m n ordered inside =
    let front : length (take n xs) ≡ n = length-take-le n xs inside in
    sym (take-append-le m (take n xs) (drop n xs) (omega arith)) ∙ ap (λ ys. take m ys) (take-append-drop n xs)

-- A part ends here.
part_end : (room : List ℕ) (begin mid end : ℕ) → begin ≤ mid → mid ≤ end → slice_range room mid end ≡ drop (mid - begin) (slice_range room begin end)
part_end room begin mid end first second =
    let whole : end - begin ≡ (mid - begin) + (end - mid) = omega arith in
    let past : begin + (mid - begin) ≡ mid = omega arith in
    sym (ap (λ n. drop (mid - begin) (take n (drop begin room))) whole
    ∙ (drop-take (mid - begin) (end - mid) (drop begin room)
    ∙ (ap (λ xs. take (end - mid) xs) (drop-drop (mid - begin) begin room) ∙ ap (λ n. take (end - mid) (drop n room)) past)))

pub answered_in : (room : List ℕ) (begin end len : ℕ) → begin + len + 1 ≤ end → end ≤ length room
    → lines_in (overwritten room begin (answer_of (slice_range room begin (begin + len + 1)))) (begin + len + 1) end ≡ answered_at (lines_in room begin end) (Some len)
answered_in room begin end len ordered inside =
    let line : List ℕ = slice_range room begin (begin + len + 1) in
    let answer : List ℕ = answer_of line in
    let counted : begin + len + 1 - begin ≡ len + 1 = omega arith in
    let long : length answer ≡ len + 1 = length-map line to_ascii_uppercase ∙ (length-part room begin (begin + len + 1) (omega arith) (omega arith) ∙ counted) in
    let at : begin + length answer ≡ begin + len + 1 = omega arith in
    let rest : length (drop begin room) ≡ length room - begin = length-drop begin room in
    let same : line ≡ take (len + 1) (slice_range room begin end) =
    ap (λ n. take n (drop begin room)) counted ∙ sym (shorter (drop begin room) (len + 1) (end - begin) (omega arith) (omega arith)) in
    same_lines _ _ _ _ _ _
    (ap (λ n. take n (overwritten room begin answer)) (sym at) ∙ (front_with room answer begin (omega arith) ∙ ap (λ xs. take begin room ++ answer_of xs) same))
    (part_behind room answer begin (begin + len + 1) end at ordered (omega arith) ∙ (part_end room begin (begin + len + 1) end (omega arith) ordered ∙ ap (λ n. drop n (slice_range room begin end)) counted))
    (ap (λ n. n - end) (length-overwritten room answer begin (omega arith)))

-- A line and its line feed lie inside the part that is searched.
pub line_inside : (room : List ℕ) (begin end len : ℕ) → line_len_of (slice_range room begin end) ≡ Some len → begin + len + 1 ≤ end
line_inside room begin end len found =
    let at : len < length (slice_range room begin end) = (position-Some (λ byte. byte == 10) (slice_range room begin end) len 0 found).0 in
    let most : length (slice_range room begin end) ≤ end - begin = omega (arith, length-take (end - begin) (drop begin room)) in
    omega arith

found_by : (waiting line : List ℕ) (len : Option ℕ) → line_len_of waiting ≡ len → line_at waiting len ≡ Some line → line_len_of waiting ≡ Some (length line)
found_by waiting line None is found = absurd cc
found_by waiting line (Some len) is found =
    let at : len < length waiting = (position-Some (λ byte. byte == 10) waiting len 0 is).0 in
    let same : take len waiting ≡ line = cc in
    let long : len ≡ length line = sym (length-take-le len waiting (omega (arith, at))) ∙ ap (λ xs. length xs) same in
    is ∙ ap Some long

-- The first line has as many bytes as stand before the first line feed.
pub line_found : (b : Lines) (line : List ℕ) → next_line b ≡ Some line → line_len_of b.waiting ≡ Some (length line)
line_found b line found = found_by b.waiting line (line_len_of b.waiting) refl found

-- As many bytes replace all bytes.
pub kept : (e : Exporter) (new : List ℕ) → length new ≡ length e.bytes → (overwritten_exporter e new).bytes ≡ new
kept e new long = ap (λ n. take n (new ++ drop (length new) e.bytes)) (sym long) ∙ take-append_seam new (drop (length new) e.bytes)

-- a buffer after bytes came in
pub received_now : (e : Exporter) (new bytes : List ℕ) (b : Lines) (begin end count : ℕ) → lines_in e.bytes begin end ≡ b → new ≡ overwritten e.bytes end bytes
    → length bytes ≡ count → begin ≤ end → end + count ≤ length e.bytes
    → lines_in (overwritten_exporter e new).bytes begin (end + count) ≡ received b bytes
received_now e new bytes b begin end count was is many ordered inside =
    let within : end + length bytes ≤ length e.bytes = omega arith in
    let same : (overwritten_exporter e new).bytes ≡ overwritten e.bytes end bytes = kept e new (ap (λ xs. length xs) is ∙ length-overwritten e.bytes bytes end within) ∙ is in
    ap (λ xs. lines_in xs begin (end + count)) same
    ∙ (ap (λ n. lines_in (overwritten e.bytes end bytes) begin (end + n)) (sym many)
    ∙ (received_in e.bytes bytes begin end ordered within ∙ ap (λ l. received l bytes) was))

-- a buffer after its first line was answered
pub answered_now : (e : Exporter) (new : List ℕ) (b : Lines) (begin end len : ℕ) → lines_in e.bytes begin end ≡ b
    → new ≡ overwritten e.bytes begin (answer_of (slice_range e.bytes begin (begin + len + 1)))
    → line_len_of (slice_range e.bytes begin end) ≡ Some len → end ≤ length e.bytes
    → lines_in (overwritten_exporter e new).bytes (begin + len + 1) end ≡ answered b
answered_now e new b begin end len was is found inside =
    let ordered : begin + len + 1 ≤ end = line_inside e.bytes begin end len found in
    let answer : List ℕ = answer_of (slice_range e.bytes begin (begin + len + 1)) in
    let long : length answer ≡ len + 1 = length-map (slice_range e.bytes begin (begin + len + 1)) to_ascii_uppercase ∙ (length-part e.bytes begin (begin + len + 1) (omega arith) (omega arith) ∙ omega arith) in
    let same : (overwritten_exporter e new).bytes ≡ overwritten e.bytes begin answer = kept e new (ap (λ xs. length xs) is ∙ length-overwritten e.bytes answer begin (omega arith)) ∙ is in
    ap (λ xs. lines_in xs (begin + len + 1) end) same
    ∙ (answered_in e.bytes begin end len ordered inside
    ∙ (ap (answered_at (lines_in e.bytes begin end)) (sym found) ∙ ap answered was))

-- Bytes replace a part of the room.
pub part_overwritten : (room seen bytes copied : List ℕ) (from to : ℕ) → seen ≡ room → copied ≡ bytes → from + length bytes ≡ to
    → take from seen ++ (copied ++ drop (to - from) (drop from seen)) ≡ overwritten room from bytes
part_overwritten room seen bytes copied from to same copy ends =
    let behind : from + (to - from) ≡ from + length bytes = omega arith in
    ap (λ xs. take from xs ++ (copied ++ drop (to - from) (drop from xs))) same
    ∙ (ap (λ xs. take from room ++ (xs ++ drop (to - from) (drop from room))) copy
    ∙ ap (λ xs. take from room ++ (bytes ++ xs)) (drop-drop (to - from) from room ∙ ap (λ n. drop n room) behind))

-- An answer is as long as its line.
pub answer_ends : (room : List ℕ) (from to : ℕ) → from ≤ to → to ≤ length room → from + length (answer_of (slice_range room from to)) ≡ to
answer_ends room from to ordered inside =
    let long : length (answer_of (slice_range room from to)) ≡ to - from = length-map (slice_range room from to) to_ascii_uppercase ∙ length-part room from to ordered inside in
    omega arith

-- A part is moved to the front.
pub front_moved : (room seen new : List ℕ) (from to : ℕ) → seen ≡ room → new ≡ copy_within seen from to 0 → from ≤ to → to ≤ length room → new ≡ overwritten room 0 (slice_range room from to)
front_moved room seen new from to same is ordered inside =
    is ∙ (ap (λ xs. copy_within xs from to 0) same ∙ ap (λ n. slice_range room from to ++ drop (0 + n) room) (sym (length-part room from to ordered inside)))

-- a buffer after its answers were sent
pub sent_now : (e : Exporter) (new : List ℕ) (b : Lines) (begin end : ℕ) → lines_in e.bytes begin end ≡ b → new ≡ overwritten e.bytes 0 (slice_range e.bytes begin end)
    → begin ≤ end → end ≤ length e.bytes → lines_in (overwritten_exporter e new).bytes 0 (end - begin) ≡ sent b
sent_now e new b begin end was is ordered inside =
    let part : List ℕ = slice_range e.bytes begin end in
    let long : length part ≡ end - begin = length-part e.bytes begin end ordered inside in
    let within : 0 + length part ≤ length e.bytes = omega arith in
    let ends : end - begin ≡ 0 + length part = omega arith in
    let front : length (take begin e.bytes) ≡ begin = length-take-le begin e.bytes (omega arith) in
    let same : (overwritten_exporter e new).bytes ≡ overwritten e.bytes 0 part = kept e new (ap (λ xs. length xs) is ∙ length-overwritten e.bytes part 0 within) ∙ is in
    ap (λ xs. lines_in xs 0 (end - begin)) same
    ∙ (same_lines _ _ _ _ _ _ refl
    (ap (λ n. slice_range (overwritten e.bytes 0 part) 0 n) ends ∙ part_with e.bytes part 0 0 (omega arith) (omega arith))
    (omega (arith, length-overwritten e.bytes part 0 within, front))
    ∙ ap sent was)
