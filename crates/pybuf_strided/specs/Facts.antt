-- Facts about the definitions of this crate, with their proofs, for the proofs of the crates above.
use Rattle.std.proofs.Common.{◌≡◌, ℕ, ◌+◌, List, ◌++◌, length, drop, ap, ap₂, sym, ◌∙◌, suc, ◌-◌, ◌*◌, ◌≤◌, false, arith}
use Rattle.std.proofs.lemmas.List.{take_at, drop-drop}
use Rattle.std.proofs.Math.Seq.{drop-append-add}
use Rattle.std.proofs.Math.Nat.{mul-le-mul_right}
use Rattle.pybuf_strided.specs.Apart.{with_piece, AreInside}

pub piece_after : (pieces item room : List ℕ) (a : ℕ) → length pieces ≡ a → with_piece (pieces ++ drop a room) a item ≡ (pieces ++ item) ++ drop (a + length item) room
piece_after pieces item room a long =
    let n : ℕ = length item in
    let rest : drop (a + n) (pieces ++ drop a room) ≡ drop (a + n) room =
    ap (λ (k : ℕ). drop (k + n) (pieces ++ drop a room)) (sym long) ∙ drop-append-add pieces (drop a room) n ∙ drop-drop n a room in
    ap₂ (λ (xs ys : List ℕ). xs ++ item ++ ys) (take_at pieces (drop a room) a long) rest

pub row_inside : (from size count len : ℕ) → from + count * size ≤ len → AreInside false from size count size len
row_inside from size count len enough = record {
  low = λ k less falls. absurd (cc);
  high = λ some k less. (
      let up : suc k ≤ count = omega (arith, less) in
      let more : suc k * size ≤ count * size = mul-le-mul_right size up in
      let sum : suc k * size ≡ k * size + size = grind arith in
      omega (arith, enough, more, sum)
      );
}
