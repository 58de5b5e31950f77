-- Places of rows and the places in them.
use Rattle.std.proofs.Common.{◌≡◌, ℕ, zero, suc, ℤ, pos, ◌+ℤ◌, List, [], ◌∷◌, ◌++◌, flat_map, refl, ap, ap₂, sym, ◌∙◌, append-nil}
use Rattle.std.proofs.lemmas.Grind.{flat_map-append}
use Rattle.pybuf_desc.specs.Places.{places}
use Rattle.pybuf_desc.specs.Segments.{line}
use Rattle.pybuf_desc.specs.Layouts.{product}
use Rattle.pybuf_desc.specs.Descriptor.{shape_of}
use Rattle.pybuf_desc.specs.RowMajor.{AreRowMajorStrides}
use Rattle.pybuf_desc.proofs.Steps.{blocks_apart, places-cons}
use Rattle.pybuf_desc.proofs.Runs.{run, places_from_strides}

-- a last dimension is a line
line-blocks_apart : (n : ℕ) (p t : ℤ) → blocks_apart (λ q. q ∷ []) n p t ≡ line p t n
line-blocks_apart zero p t = refl
line-blocks_apart (suc n) p t = ap (λ (xs : List ℤ). p ∷ xs) (line-blocks_apart n (p +ℤ t) t)

pub places-line : (dim : ℕ × ℤ × ℤ) (p : ℤ) → places (dim ∷ []) p ≡ line p dim.1 dim.0
places-line dim p = places-cons dim [] p ∙ line-blocks_apart dim.0 p dim.1

flat_map-blocks_apart' : (f : ℤ → List ℤ) (block : ℤ → List ℤ) (n : ℕ) (p t : ℤ) → flat_map f (blocks_apart block n p t) ≡ blocks_apart (λ q. flat_map f (block q)) n p t
flat_map-blocks_apart' f block zero p t = refl
flat_map-blocks_apart' f block (suc n) p t =
    flat_map-append f (block p) (blocks_apart block n (p +ℤ t) t) ∙ ap (λ xs. flat_map f (block p) ++ xs) (flat_map-blocks_apart' f block n (p +ℤ t) t)

blocks_apart-same : (f g : ℤ → List ℤ) → ((q : ℤ) → f q ≡ g q) → (n : ℕ) (p t : ℤ) → blocks_apart f n p t ≡ blocks_apart g n p t
blocks_apart-same f g e zero p t = refl
blocks_apart-same f g e (suc n) p t = ap₂ (λ (xs ys : List ℤ). xs ++ ys) (e p) (blocks_apart-same f g e n (p +ℤ t) t)

-- the places are those of the outer dimensions, each with its block
pub places-blocks : (outer block : List (ℕ × ℤ × ℤ)) (p : ℤ) → places (outer ++ block) p ≡ flat_map (places block) (places outer p)
places-blocks [] block p = sym (append-nil (places block p))
places-blocks (dim ∷ outer) block p =
    places-cons dim (outer ++ block) p
    ∙ blocks_apart-same (places (outer ++ block)) (λ q. flat_map (places block) (places outer q)) (places-blocks outer block) dim.0 p dim.1
    ∙ sym (flat_map-blocks_apart' (places block) (places outer) dim.0 p dim.1)
    ∙ ap (flat_map (places block)) (sym (places-cons dim outer p))

pub each_the_same : (f g : ℤ → List ℤ) → ((q : ℤ) → f q ≡ g q) → (ps : List ℤ) → flat_map f ps ≡ flat_map g ps
each_the_same f g e [] = refl
each_the_same f g e (p ∷ ps) = ap₂ (λ (xs ys : List ℤ). xs ++ ys) (e p) (each_the_same f g e ps)

-- the places are those of the rows, each with its line
pub places-rows : (rows : List (ℕ × ℤ × ℤ)) (last : ℕ × ℤ × ℤ) (p : ℤ) → places (rows ++ last ∷ []) p ≡ flat_map (λ q. line q last.1 last.0) (places rows p)
places-rows rows last p = places-blocks rows (last ∷ []) p ∙ each_the_same (places (last ∷ [])) (λ q. line q last.1 last.0) (places-line last) (places rows p)

run-line : (size n : ℕ) (p : ℤ) → run size p n ≡ line p (pos size) n
run-line size zero p = refl
run-line size (suc n) p = ap (λ (xs : List ℤ). p ∷ xs) (run-line size n (p +ℤ pos size))

-- a block whose dimensions are packed is one line of its items
pub places-packed : (size : ℕ) (outer block : List (ℕ × ℤ × ℤ)) (p : ℤ) → AreRowMajorStrides size block
    → places (outer ++ block) p ≡ flat_map (λ q. line q (pos size) (product (shape_of block))) (places outer p)
places-packed size outer block p packed =
    places-blocks outer block p
    ∙ each_the_same (places block) (λ q. line q (pos size) (product (shape_of block))) (λ q. places_from_strides size block packed q ∙ run-line size (product (shape_of block)) q) (places outer p)
