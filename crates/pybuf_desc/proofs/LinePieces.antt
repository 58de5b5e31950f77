-- The bytes of the ranges of a line.
use Rattle.std.proofs.Common.{◌≡◌, ℕ, zero, suc, ◌+◌, ◌-◌, ◌<◌, ◌≤◌, List, [], ◌∷◌, ◌++◌, length, map, flat_map, take, drop, ap, ap₂, ◌∙◌, refl, subst, arith}
use Rattle.std.specs.Prelude.{All}
use Rattle.std.specs.List.{range_with_len}
use Rattle.std.specs.declared.ops.Range.{Range}
use Rattle.std.proofs.lemmas.Grind.{flat_map-append}
use Rattle.std.proofs.lemmas.List.{append-nil, map-append}
use Rattle.std.proofs.lemmas.List.FromFn.{length-range_with_len, get_or-range_with_len}
use Rattle.pybuf_lemmas.proofs.Lists.{numbers_left, numbers_right}
use Rattle.pybuf_lemmas.proofs.Numbers.{range_with_one_more}
use Rattle.pybuf_strided.specs.Apart.{place_of, pieces_at}
use Rattle.pybuf_desc.specs.Segments.{bytes_of, bytes_in}
use Rattle.pybuf_desc.specs.SegmentLines.{range_on}
use Rattle.pybuf_desc.specs.Laws.{LinesLieInside, LinesHaveTheirPieces}

-- what holds of each byte of all ranges holds of each byte of one range
range_all : (P : ℕ → Type 0) (range : ℕ → Range ℕ) (j n k : ℕ) → All P (flat_map bytes_of (map range (range_with_len j n))) → k < n → All P (bytes_of (range (j + k)))
range_all P range j zero k all less = absurd (omega (arith, less))
range_all P range j (suc n) zero all less =
    let same : j ≡ j + 0 = omega arith in
    subst (λ i. All P (bytes_of (range i))) same (numbers_left P (bytes_of (range j)) (flat_map bytes_of (map range (range_with_len (j + 1) n))) all)
range_all P range j (suc n) (suc k) all less =
    let same : (j + 1) + k ≡ j + suc k = omega arith in
    let fewer : k < n = omega (arith, less) in
    subst (λ i. All P (bytes_of (range i))) same
    (range_all P range (j + 1) n k (numbers_right P (bytes_of (range j)) (flat_map bytes_of (map range (range_with_len (j + 1) n))) all) fewer)

-- the last byte of a range is below the room, so its end is at most the room
range_ends : (place size room : ℕ) → 0 < size → All (λ p. p < room) (range_with_len place ((place + size) - place)) → place + size ≤ room
range_ends place size room some all =
    let n : ℕ = (place + size) - place in
    let long : n ≡ size = omega arith in
    let last : n - 1 < n = omega (arith, some, long) in
    let within : n - 1 < length (range_with_len place n) = omega (arith, last, length-range_with_len place n) in
    omega (arith, some, long, all (n - 1) 0 within, get_or-range_with_len place n (n - 1) 0 last)

pub lie_inside : LinesLieInside
lie_inside line room is all =
    let falls = line.track.falls in
    let start : ℕ = line.track.start in
    let step : ℕ = line.track.step in
    record {
      low = is.low;
      high = λ some k less. (
          let at : 0 + k ≡ k = omega arith in
          let here = range_all (λ p. p < room) (range_on falls start step line.size) 0 line.count k all less in
          range_ends (place_of falls start step k) line.size room some (subst (λ i. All (λ p. p < room) (bytes_of (range_on falls start step line.size i))) at here)
          );
    }

-- ---- piece by piece

pieces_by_ranges : (bytes : List ℕ) (from : ℕ → ℕ) (size n : ℕ)
    → flat_map (bytes_in bytes) (map (λ k. record { start = from k; end = from k + size }) (range_with_len 0 n)) ≡ pieces_at bytes from size n
pieces_by_ranges bytes from size zero = refl
pieces_by_ranges bytes from size (suc n) =
    let range : ℕ → Range ℕ = λ k. record { start = from k; end = from k + size } in
    let last : 0 + n ≡ n = omega arith in
    let whole : (from n + size) - from n ≡ size = omega arith in
    ap (λ (ks : List ℕ). flat_map (bytes_in bytes) (map range ks)) (range_with_one_more 0 n ∙ ap (λ (k : ℕ). range_with_len 0 n ++ k ∷ []) last)
    ∙ ap (flat_map (bytes_in bytes)) (map-append range (range_with_len 0 n) (n ∷ []))
    ∙ flat_map-append (bytes_in bytes) (map range (range_with_len 0 n)) (range n ∷ [])
    ∙ ap₂ (λ (xs ys : List ℕ). xs ++ ys) (pieces_by_ranges bytes from size n) (append-nil (bytes_in bytes (range n)) ∙ ap (λ (k : ℕ). take k (drop (from n) bytes)) whole)

pub have_their_pieces : LinesHaveTheirPieces
have_their_pieces line bytes = pieces_by_ranges bytes (place_of line.track.falls line.track.start line.track.step) line.size line.count
