-- Bytes that are written over items: their number stays, and so does all outside the items.
use Rattle.std.proofs.Common.{◌≡◌, ℕ, ◌+◌, ◌≤◌, List, [], ◌∷◌, length, take, drop, sym, ◌∙◌, refl, subst, arith}
use Rattle.std.specs.Prelude.{All}
use Rattle.std.proofs.lemmas.Grind.{common_steps}
use Rattle.std.proofs.lemmas.List.Elements.{All-head, All-tail}
use Rattle.pybuf_verbs_writes.specs.Laid.{bytes_with, laid}
use Rattle.pybuf_verbs_writes.proofs.Bytes.{length-bytes_with}

pub piece_short : (size : ℕ) (content : List ℕ) → length (take size content) ≤ size
piece_short size content = grind (arith, common_steps)

-- A piece is written within an item.
pub length-with_piece : (bytes : List ℕ) (start size : ℕ) (content : List ℕ) → start + size ≤ length bytes → length (bytes_with bytes start (take size content)) ≡ length bytes
length-with_piece bytes start size content inside =
    let short = piece_short size content in
    length-bytes_with bytes start (take size content) (let fits : start + length (take size content) ≤ length bytes = omega (arith, inside, short) in fits)

pub rest_inside : (bytes : List ℕ) (start size : ℕ) (starts content : List ℕ) → All (λ s. s + size ≤ length bytes) (start ∷ starts) → All (λ s. s + size ≤ length (bytes_with bytes start (take size content))) starts
rest_inside bytes start size starts content inside =
    subst (λ (n : ℕ). All (λ s. s + size ≤ n) starts) (sym (length-with_piece bytes start size content (All-head (λ s. s + size ≤ length bytes) start starts inside)))
    (All-tail (λ s. s + size ≤ length bytes) start starts inside)

pub length-laid : (bytes : List ℕ) (size : ℕ) (starts content : List ℕ) → All (λ s. s + size ≤ length bytes) starts → length (laid bytes size starts content) ≡ length bytes
length-laid bytes size [] content inside = refl
length-laid bytes size (start ∷ starts) content inside =
    length-laid (bytes_with bytes start (take size content)) size starts (drop size content) (rest_inside bytes start size starts content inside)
    ∙ length-with_piece bytes start size content (All-head (λ s. s + size ≤ length bytes) start starts inside)
