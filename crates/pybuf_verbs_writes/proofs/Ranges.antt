-- Ranges of bytes: where they end, and what is read at their places.
use Rattle.std.proofs.Common.{◌≡◌, ℕ, ◌-◌, ◌<◌, ◌≤◌, List, ◌∷◌, length, subst, arith}
use Rattle.std.specs.Prelude.{All}
use Rattle.std.specs.List.{flat_map, range_with_len}
use Rattle.std.specs.declared.ops.Range.{Range}
use Rattle.std.proofs.lemmas.List.FromFn.{length-range_with_len, get_or-range_with_len}
use Rattle.pybuf_lemmas.proofs.Lists.{numbers_left, numbers_right}
use Rattle.pybuf_desc.specs.Segments.{bytes_of}

-- The last byte of a range lies inside.
pub range_inside : (bytes : List ℕ) (range : Range ℕ) (ranges rest : List (Range ℕ)) → ranges ≡ range ∷ rest → range.start < range.end
    → All (λ place. place < length bytes) (flat_map bytes_of ranges) → range.end ≤ length bytes
range_inside bytes range ranges rest same some all =
    let here = numbers_left (λ place. place < length bytes) (bytes_of range) (flat_map bytes_of rest) (subst (λ (rs : List (Range ℕ)). All (λ place. place < length bytes) (flat_map bytes_of rs)) same all) in
    let n : ℕ = range.end - range.start in
    let last : n - 1 < n = omega (arith, some) in
    let within : n - 1 < length (range_with_len range.start n) = omega (arith, last, length-range_with_len range.start n) in
    omega (arith, some, here (n - 1) 0 within, get_or-range_with_len range.start n (n - 1) 0 last)

pub rest_inside : (bytes : List ℕ) (range : Range ℕ) (ranges rest : List (Range ℕ)) → ranges ≡ range ∷ rest
    → All (λ place. place < length bytes) (flat_map bytes_of ranges) → All (λ place. place < length bytes) (flat_map bytes_of rest)
rest_inside bytes range ranges rest same all =
    numbers_right (λ place. place < length bytes) (bytes_of range) (flat_map bytes_of rest) (subst (λ (rs : List (Range ℕ)). All (λ place. place < length bytes) (flat_map bytes_of rs)) same all)
