-- Places that are found by adding the stride once for each index. Inductions can use this form.
use Rattle.std.proofs.Common.{◌≡◌, ℕ, zero, suc, ◌+◌, ◌*◌, ℤ, pos, ◌+ℤ◌, ◌*ℤ◌, List, [], ◌∷◌, ◌++◌, refl, ap, ◌∙◌}
use Rattle.std.specs.List.{flat_map, range_with_len}
use Rattle.pybuf_lemmas.proofs.Integers.{next_place, zeroth_place}
use Rattle.pybuf_desc.specs.Places.{places}

-- `n` blocks, of which the first lies at `p` and each lies `t` after the one before it
abbrev pub blocks_apart : (ℤ → List ℤ) → ℕ → ℤ → ℤ → List ℤ
blocks_apart block zero p t = []
blocks_apart block (suc n) p t = block p ++ blocks_apart block n (p +ℤ t) t

pub flat_map-blocks_apart : (block : ℤ → List ℤ) (n i : ℕ) (p t : ℤ) → flat_map (λ index. block (p +ℤ pos index *ℤ t)) (range_with_len i n) ≡ blocks_apart block n (p +ℤ pos i *ℤ t) t
flat_map-blocks_apart block zero i p t = refl
flat_map-blocks_apart block (suc n) i p t =
    ap (λ rest. block (p +ℤ pos i *ℤ t) ++ rest) (flat_map-blocks_apart block n (i + 1) p t ∙ ap (λ q. blocks_apart block n q t) (next_place p i t))

pub places-cons : (dim : ℕ × ℤ × ℤ) (dims : List (ℕ × ℤ × ℤ)) (p : ℤ) → places (dim ∷ dims) p ≡ blocks_apart (places dims) dim.0 p dim.1
places-cons dim dims p = flat_map-blocks_apart (places dims) dim.0 0 p dim.1 ∙ ap (λ q. blocks_apart (places dims) dim.0 q dim.1) (zeroth_place p dim.1)
