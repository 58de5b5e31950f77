-- Items that lie one after the other, from the last one on.
use Rattle.std.proofs.Common.{◌≡◌, ℕ, zero, suc, ◌+◌, ◌-◌, ◌*◌, ◌<◌, ◌≤◌, Bool, true, false, List, ◌++◌, length, take, drop, ap, ap₂, sym, ◌∙◌, refl, subst, arith}
use Rattle.std.specs.Prelude.{◌&&◌, bytes_eq}
use Rattle.std.proofs.Math.Seq.{take-add}
use Rattle.std.proofs.Math.Nat.{zero-mul}
use Rattle.std.proofs.lemmas.List.{drop-drop}
use Rattle.pybuf_lemmas.proofs.Numbers.{positive_has_predecessor}
use Rattle.pybuf_desc.specs.Facts.{whole_bytes}
use Rattle.pybuf_strided.specs.Apart.{place_of, AreInside}
use Rattle.pybuf_equality.specs.Tracks.{all_below, same_piece}
use Rattle.pybuf_equality.proofs.Bools.{bytes_both}

either_way : (a b : Bool) → (a && b) ≡ (b && a)
either_way true true = refl
either_way true false = refl
either_way false true = refl
either_way false false = refl

-- the bytes of an item and of the items before it, which lie above it
abbrev run : List ℕ → ℕ → ℕ → ℕ → List ℕ
run bytes start size n = take (n * size + size) (drop (start - n * size) bytes)

one_lower : (bytes : List ℕ) (start size n : ℕ) → suc n * size ≤ start → run bytes start size (suc n) ≡ take size (drop (start - suc n * size) bytes) ++ run bytes start size n
one_lower bytes start size n low =
    let lo : ℕ = start - suc n * size in
    let more : suc n * size ≡ n * size + size = grind arith in
    let whole : suc n * size + size ≡ size + (n * size + size) = omega (arith, more) in
    let next : lo + size ≡ start - n * size = omega (arith, more, low) in
    ap (λ (k : ℕ). take k (drop lo bytes)) whole ∙ take-add size (n * size + size) (drop lo bytes)
    ∙ ap (λ (xs : List ℕ). take size (drop lo bytes) ++ take (n * size + size) xs) (drop-drop size lo bytes ∙ ap (λ (k : ℕ). drop k bytes) next)

piece_is : (bytes : List ℕ) (start size n : ℕ) → suc n * size ≤ start → start + size ≤ length bytes → length (take size (drop (start - suc n * size) bytes)) ≡ size
piece_is bytes start size n low inside = whole_bytes bytes size (start - suc n * size) (let fits : (start - suc n * size) + size ≤ length bytes = omega (arith, low, inside) in fits)

turned : (bytes other : List ℕ) (start other_start size n : ℕ) → n * size ≤ start → n * size ≤ other_start → start + size ≤ length bytes → other_start + size ≤ length other
    → all_below (same_piece bytes (place_of true start size) other (place_of true other_start size) size) (suc n) ≡ bytes_eq (run bytes start size n) (run other other_start size n)
turned bytes other start other_start size zero low other_low inside other_inside =
    let one : size ≡ 0 * size + size = omega (arith, zero-mul size) in
    ap (λ (k : ℕ). bytes_eq (take k (drop (start - 0 * size) bytes)) (take k (drop (other_start - 0 * size) other))) one
turned bytes other start other_start size (suc n) low other_low inside other_inside =
    let more : suc n * size ≡ n * size + size = grind arith in
    let before = turned bytes other start other_start size n (omega (arith, more, low)) (omega (arith, more, other_low)) inside other_inside in
    let piece : List ℕ = take size (drop (start - suc n * size) bytes) in
    let other_piece : List ℕ = take size (drop (other_start - suc n * size) other) in
    ap (λ (b : Bool). b && bytes_eq piece other_piece) before
    ∙ either_way (bytes_eq (run bytes start size n) (run other other_start size n)) (bytes_eq piece other_piece)
    ∙ sym (bytes_both piece (run bytes start size n) other_piece (run other other_start size n) (piece_is bytes start size n low inside ∙ sym (piece_is other other_start size n other_low other_inside)))
    ∙ ap₂ bytes_eq (sym (one_lower bytes start size n low)) (sym (one_lower other other_start size n other_low))

pub lowest : (start size count room : ℕ) → 0 < count → AreInside true start size count size room → (count - 1) * size ≤ start
lowest start size count room some inside = inside.low (count - 1) (let less : count - 1 < count = omega (arith, some) in less) refl

pub highest : (start size count room : ℕ) → 0 < size → 0 < count → AreInside true start size count size room → start + size ≤ room
highest start size count room some_size some inside =
    let first : (start - 0 * size) + size ≤ room = inside.high some_size 0 some in
    omega (arith, zero-mul size, first)

pub turned_run : (bytes other : List ℕ) (start other_start size count : ℕ) → 0 < size → 0 < count → AreInside true start size count size (length bytes) → AreInside true other_start size count size (length other)
    → bytes_eq (take ((count - 1) * size + size) (drop (start - (count - 1) * size) bytes)) (take ((count - 1) * size + size) (drop (other_start - (count - 1) * size) other))
    ≡ all_below (same_piece bytes (place_of true start size) other (place_of true other_start size) size) count
turned_run bytes other start other_start size count some_size some inside other_inside =
    sym (ap (all_below (same_piece bytes (place_of true start size) other (place_of true other_start size) size)) (positive_has_predecessor count some)
    ∙ turned bytes other start other_start size (count - 1) (lowest start size count (length bytes) some inside) (lowest other_start size count (length other) some other_inside)
    (highest start size count (length bytes) some_size some inside) (highest other_start size count (length other) some_size some other_inside))

pub span_inside : (start size count room back : ℕ) → 0 < size → 0 < count → AreInside true start size count size room → back ≡ (count - 1) * size → (start - back) + (back + size) ≤ room
span_inside start size count room back some_size some inside is = omega (arith, lowest start size count room some inside, highest start size count room some_size some inside, is)

-- ---- tracks in the other direction

pub turned_inside : (falls : Bool) (start step size count room : ℕ) → falls ≡ true → step ≡ size → AreInside falls start step count size room → AreInside true start size count size room
turned_inside falls start step size count room down as_wide inside =
    subst (λ (f : Bool). AreInside f start size count size room) down (subst (λ (s : ℕ). AreInside falls start s count size room) as_wide inside)

pub turned_tracks : (bytes other : List ℕ) (falls other_falls : Bool) (start step other_start other_step size count : ℕ) → falls ≡ true → step ≡ size → other_falls ≡ true → other_step ≡ size
    → all_below (same_piece bytes (place_of true start size) other (place_of true other_start size) size) count
    ≡ all_below (same_piece bytes (place_of falls start step) other (place_of other_falls other_start other_step) size) count
turned_tracks bytes other falls other_falls start step other_start other_step size count down as_wide other_down other_as_wide =
    ap₂ (λ (f : Bool) (s : ℕ). all_below (same_piece bytes (place_of f start s) other (place_of true other_start size) size) count) (sym down) (sym as_wide)
    ∙ ap₂ (λ (f : Bool) (s : ℕ). all_below (same_piece bytes (place_of falls start step) other (place_of f other_start s) size) count) (sym other_down) (sym other_as_wide)
