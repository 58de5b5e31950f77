-- The bytes at places that lie one after the other.
use Rattle.std.proofs.Common.{◌≡◌, ℕ, suc, zero, ◌+◌, List, [], ◌∷◌, ◌++◌, length, take, drop, refl, arith, ap, sym, ◌∙◌}
use Rattle.std.specs.Prelude.{bytes_eq, true, map}
use Rattle.std.proofs.Common.{◌*◌, subst}
use Rattle.std.proofs.lemmas.Cmp.{nat_list_eq_equiv}
use Rattle.std.proofs.lemmas.List.FromFn.{length-range_with_len}
use Rattle.std.specs.List.{range_with_len}
use Rattle.std.proofs.Math.Seq.{take-add}
use Rattle.pybuf_desc.specs.Items.{bytes_of_items}
use Rattle.pybuf_desc.specs.Contiguous.{starts_from}

drop_one : (bytes : List ℕ) (start : ℕ) → drop 1 (drop start bytes) ≡ drop (start + 1) bytes
drop_one [] zero = refl
drop_one [] (suc start) = let more : suc start + 1 ≡ suc (start + 1) = omega arith in rw more refl
drop_one (b ∷ bytes) zero = refl
drop_one (b ∷ bytes) (suc start) = let at : suc start + 1 ≡ suc (start + 1) = omega arith in rw at (drop_one bytes start)

-- The bytes of `count` places from one on are a part of the bytes.
pub bytes_in_row : (bytes : List ℕ) (start count : ℕ) → bytes_of_items bytes 1 (range_with_len start count) ≡ take count (drop start bytes)
bytes_in_row bytes start zero = refl
bytes_in_row bytes start (suc count) =
    let one : suc count ≡ 1 + count = omega arith in
    ap (λ rest. take 1 (drop start bytes) ++ rest) (bytes_in_row bytes (start + 1) count)
    ∙ (ap (λ rest. take 1 (drop start bytes) ++ take count rest) (sym (drop_one bytes start))
    ∙ (sym (take-add 1 count (drop start bytes)) ∙ ap (λ n. take n (drop start bytes)) (sym one)))

shifted : (start j count : ℕ) → map (λ k. start + k * 1) (range_with_len j count) ≡ range_with_len (start + j) count
shifted start j zero = refl
shifted start j (suc count) =
    let first : start + j * 1 ≡ start + j = omega arith in
    let next : start + (j + 1) ≡ start + j + 1 = omega arith in
    (λ i. first i ∷ map (λ k. start + k * 1) (range_with_len (j + 1) count))
    ∙ (ap (λ rest. (start + j) ∷ rest) (shifted start (j + 1) count) ∙ ap (λ n. (start + j) ∷ range_with_len n count) next)

same_bytes : (xs ys : List ℕ) → xs ≡ ys → bytes_eq xs ys ≡ true
same_bytes xs ys same = subst (λ zs. bytes_eq xs zs ≡ true) same (nat_list_eq_equiv.refl xs)

-- Places one after the other lie together.
pub in_row_together : (start count : ℕ) → bytes_eq (range_with_len start count) (starts_from (range_with_len start count) 1 (length (range_with_len start count))) ≡ true
in_row_together start zero = refl
in_row_together start (suc count) =
    let long : length (range_with_len start (suc count)) ≡ suc count = length-range_with_len start (suc count) in
    let from : start + 0 ≡ start = omega arith in
    same_bytes (range_with_len start (suc count)) _
    (sym (ap (λ n. map (λ k. start + k * 1) (range_with_len 0 n)) long ∙ (shifted start 0 (suc count) ∙ ap (λ n. range_with_len n (suc count)) from)))
