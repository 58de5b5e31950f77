-- Ranges that are copied pair by pair.
use Rattle.std.proofs.Common.{◌≡◌, ℕ, ◌+◌, ◌-◌, ◌<◌, ◌≤◌, List, [], ◌∷◌, ◌++◌, length, map, take, drop, ap, ap₂, sym, ◌∙◌, subst, arith}
use Rattle.std.specs.Prelude.{All}
use Rattle.std.specs.List.{flat_map, range_with_len}
use Rattle.std.specs.declared.ops.Range.{Range}
use Rattle.std.proofs.lemmas.List.Elements.{All-head, All-tail}
use Rattle.std.proofs.lemmas.List.FromFn.{length-range_with_len}
use Rattle.pybuf_lemmas.proofs.Lists.{length_of_piece}
use Rattle.pybuf_slice.specs.Facts.{run_of_bytes, elements_both}
use Rattle.pybuf_slice.specs.Reads.{elements_at}
use Rattle.pybuf_desc.specs.Segments.{bytes_of}
use Rattle.pybuf_verbs_writes.specs.Laid.{bytes_with}
use Rattle.pybuf_verbs_writes.specs.LaidBytes.{put_at}
use Rattle.pybuf_verbs_writes.proofs.Bytes.{length-bytes_with}
use Rattle.pybuf_verbs_writes.proofs.Ranges.{range_inside, rest_inside}
use Rattle.pybuf_verbs_writes.proofs.Laying.{put_run, put_both, bytes_with_none}

abbrev pub firsts : List (Range ℕ × Range ℕ) → List (Range ℕ)
firsts pairs = map (λ pair. pair.0) pairs

abbrev pub seconds : List (Range ℕ × Range ℕ) → List (Range ℕ)
seconds pairs = map (λ pair. pair.1) pairs

-- a copy of one pair
pub record IsCopy (bytes source : List ℕ) (range lender : Range ℕ) : Type 0 where
  pub inside : range.start < range.end → range.end ≤ length bytes
  pub enough : range.start < range.end → lender.start + (range.end - range.start) ≤ length source

pub record IsStep (bytes source total : List ℕ) (pairs : List (Range ℕ × Range ℕ)) : Type 0 where
  pub laid : put_at bytes (flat_map bytes_of (firsts pairs)) (elements_at source (flat_map bytes_of (seconds pairs))) ≡ total
  pub inside : All (λ place. place < length bytes) (flat_map bytes_of (firsts pairs))
  pub source_inside : All (λ place. place < length source) (flat_map bytes_of (seconds pairs))
  pub alike : All (λ pair. pair.0.end - pair.0.start ≡ pair.1.end - pair.1.start) pairs

run_put : (bytes : List ℕ) (place size : ℕ) (piece : List ℕ) → length piece ≡ size → (0 < size → place + size ≤ length bytes) → put_at bytes (range_with_len place size) piece ≡ bytes_with bytes place piece
run_put bytes place size [] long fits = ap (λ (n : ℕ). put_at bytes (range_with_len place n) []) (sym long) ∙ sym (bytes_with_none bytes place)
run_put bytes place size (b ∷ piece) long fits =
    ap (λ (n : ℕ). put_at bytes (range_with_len place n) (b ∷ piece)) (sym long)
    ∙ put_run bytes place (b ∷ piece) (let some : 0 < size = omega (arith, long) in let room = fits some in let within : place + length (b ∷ piece) ≤ length bytes = omega (arith, long, room) in within)

put_piece : (bytes : List ℕ) (place size : ℕ) (qs piece rest : List ℕ) → length piece ≡ size → (0 < size → place + size ≤ length bytes)
    → put_at bytes (range_with_len place size ++ qs) (piece ++ rest) ≡ put_at (bytes_with bytes place piece) qs rest
put_piece bytes place size qs piece rest long fits =
    put_both bytes (range_with_len place size) qs piece rest (length-range_with_len place size ∙ sym long) ∙ ap (λ (bs : List ℕ). put_at bs qs rest) (run_put bytes place size piece long fits)

kept_by_piece : (bytes : List ℕ) (place size : ℕ) (piece : List ℕ) → length piece ≡ size → (0 < size → place + size ≤ length bytes) → length (bytes_with bytes place piece) ≡ length bytes
kept_by_piece bytes place size [] long fits = ap length (bytes_with_none bytes place)
kept_by_piece bytes place size (b ∷ piece) long fits =
    length-bytes_with bytes place (b ∷ piece) (let some : 0 < size = omega (arith, long) in let room = fits some in let within : place + length (b ∷ piece) ≤ length bytes = omega (arith, long, room) in within)

ends_inside : (bytes : List ℕ) (range : Range ℕ) (ranges rest : List (Range ℕ)) → ranges ≡ range ∷ rest → All (λ place. place < length bytes) (flat_map bytes_of ranges)
    → 0 < range.end - range.start → range.start + (range.end - range.start) ≤ length bytes
ends_inside bytes range ranges rest same inside some =
    let ends = range_inside bytes range ranges rest same (let less : range.start < range.end = omega (arith, some) in less) inside in
    omega (arith, some, ends)

head_alike : (range lender : Range ℕ) (pairs rest : List (Range ℕ × Range ℕ)) → pairs ≡ (range, lender) ∷ rest
    → All (λ pair. pair.0.end - pair.0.start ≡ pair.1.end - pair.1.start) pairs → range.end - range.start ≡ lender.end - lender.start
head_alike range lender pairs rest same alike =
    let there = subst (All (λ (pair : Range ℕ × Range ℕ). pair.0.end - pair.0.start ≡ pair.1.end - pair.1.start)) same alike in
    All-head (λ (pair : Range ℕ × Range ℕ). pair.0.end - pair.0.start ≡ pair.1.end - pair.1.start) (range, lender) rest there

pub pair_copies : (bytes source : List ℕ) (pairs rest : List (Range ℕ × Range ℕ)) (range lender : Range ℕ) → pairs ≡ (range, lender) ∷ rest
    → All (λ place. place < length bytes) (flat_map bytes_of (map (λ pair. pair.0) pairs)) → All (λ place. place < length source) (flat_map bytes_of (map (λ pair. pair.1) pairs))
    → All (λ pair. pair.0.end - pair.0.start ≡ pair.1.end - pair.1.start) pairs → IsCopy bytes source range lender
pair_copies bytes source pairs rest range lender same inside source_inside alike = record {
  inside = λ some. range_inside bytes range (firsts pairs) (firsts rest) (ap firsts same) some inside;
  enough = λ some.
      let width : range.end - range.start ≡ lender.end - lender.start = head_alike range lender pairs rest same alike in
      let less : lender.start < lender.end = omega (arith, some, width) in
      let ends = range_inside source lender (seconds pairs) (seconds rest) (ap seconds same) less source_inside in
      omega (arith, width, ends, less, some);
}

pub pair_step : (bytes more source total : List ℕ) (pairs rest : List (Range ℕ × Range ℕ)) (range lender : Range ℕ) → pairs ≡ (range, lender) ∷ rest
    → more ≡ bytes_with bytes range.start (take (range.end - range.start) (drop lender.start source))
    → All (λ place. place < length bytes) (flat_map bytes_of (map (λ pair. pair.0) pairs)) → All (λ place. place < length source) (flat_map bytes_of (map (λ pair. pair.1) pairs))
    → All (λ pair. pair.0.end - pair.0.start ≡ pair.1.end - pair.1.start) pairs
    → put_at bytes (flat_map bytes_of (map (λ pair. pair.0) pairs)) (elements_at source (flat_map bytes_of (map (λ pair. pair.1) pairs))) ≡ total
    → IsStep more source total rest
pair_step bytes more source total pairs rest range lender same copied inside source_inside alike so_far =
    let size : ℕ = range.end - range.start in
    let piece : List ℕ = take size (drop lender.start source) in
    let wide : size ≡ lender.end - lender.start = head_alike range lender pairs rest same alike in
    let lends : 0 < size → lender.start + size ≤ length source = λ some. (let there = ends_inside source lender (seconds pairs) (seconds rest) (ap seconds same) source_inside (let much : 0 < lender.end - lender.start = omega (arith, wide, some) in much) in omega (arith, there, wide)) in
    let long : length piece ≡ size = length_of_piece source lender.start size lends in
    let fits : 0 < size → range.start + size ≤ length bytes = ends_inside bytes range (firsts pairs) (firsts rest) (ap firsts same) inside in
    let read : elements_at source (flat_map bytes_of (seconds pairs)) ≡ piece ++ elements_at source (flat_map bytes_of (seconds rest)) =
    ap (λ (ps : List (Range ℕ × Range ℕ)). elements_at source (flat_map bytes_of (seconds ps))) same
    ∙ elements_both source (bytes_of lender) (flat_map bytes_of (seconds rest))
    ∙ ap (λ (xs : List ℕ). xs ++ elements_at source (flat_map bytes_of (seconds rest))) (run_of_bytes source lender.start (lender.end - lender.start) ∙ ap (λ (n : ℕ). take n (drop lender.start source)) (sym wide)) in
    let now_long : length more ≡ length bytes = ap length copied ∙ kept_by_piece bytes range.start size piece long fits in
    let others = elements_at source (flat_map bytes_of (seconds rest)) in
    record {
      laid =
          ap (λ (bs : List ℕ). put_at bs (flat_map bytes_of (firsts rest)) others) copied
          ∙ sym (put_piece bytes range.start size (flat_map bytes_of (firsts rest)) piece others long fits)
          ∙ sym (ap₂ (λ (ps cs : List ℕ). put_at bytes ps cs) (ap (λ (ps : List (Range ℕ × Range ℕ)). flat_map bytes_of (firsts ps)) same) read)
          ∙ so_far;
      inside = subst (λ (n : ℕ). All (λ place. place < n) (flat_map bytes_of (firsts rest))) (sym now_long) (rest_inside bytes range (firsts pairs) (firsts rest) (ap firsts same) inside);
      source_inside = rest_inside source lender (seconds pairs) (seconds rest) (ap seconds same) source_inside;
      alike = All-tail (λ (pair : Range ℕ × Range ℕ). pair.0.end - pair.0.start ≡ pair.1.end - pair.1.start) (range, lender) rest (subst (All (λ (pair : Range ℕ × Range ℕ). pair.0.end - pair.0.start ≡ pair.1.end - pair.1.start)) same alike);
    }
