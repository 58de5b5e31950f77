-- If two walks go over one shape, and their items have one size, their ranges are equally long.
use Rattle.std.proofs.Common.{◌≡◌, ℕ, ◌*◌, ◌-◌, ℤ, List, [], ◌∷◌, length, map, drop, ap₂, sym, ◌∙◌, subst}
use Rattle.std.specs.Prelude.{All}
use Rattle.std.specs.declared.ops.Range.{Range}
use Rattle.std.proofs.lemmas.List.Elements.{All-head, All-tail, All-nil, All-cons}
use Rattle.pybuf_desc.specs.Facts.{range_widths}
use Rattle.pybuf_desc.specs.Descriptor.{Descriptor, shape_of}
use Rattle.pybuf_desc.specs.Segments.{ranges_of}
use Rattle.pybuf_desc.specs.Layouts.{product}

abbrev pub width : Range ℕ → ℕ
width range = range.end - range.start

abbrev pub row_width : ℕ → ℕ → List ℕ → ℕ
row_width itemsize joined shape = product (drop (length shape - joined) shape) * itemsize

paired : (w : ℕ) (pairs : List (Range ℕ × Range ℕ)) → All (λ range. width range ≡ w) (map (λ pair. pair.0) pairs) → All (λ range. width range ≡ w) (map (λ pair. pair.1) pairs)
    → All (λ pair. width pair.0 ≡ width pair.1) pairs
paired w [] one other = All-nil (λ pair. width pair.0 ≡ width pair.1)
paired w (pair ∷ pairs) one other =
    All-cons (λ pair. width pair.0 ≡ width pair.1) pair pairs
    (All-head (λ range. width range ≡ w) pair.0 (map (λ pair. pair.0) pairs) one ∙ sym (All-head (λ range. width range ≡ w) pair.1 (map (λ pair. pair.1) pairs) other))
    (paired w pairs (All-tail (λ range. width range ≡ w) pair.0 (map (λ pair. pair.0) pairs) one) (All-tail (λ range. width range ≡ w) pair.1 (map (λ pair. pair.1) pairs) other))

pub pairs_are_alike : (d other : Descriptor) (start other_start : ℤ) (joined : ℕ) (pairs : List (Range ℕ × Range ℕ)) → shape_of d.dims ≡ shape_of other.dims → d.itemsize ≡ other.itemsize
    → map (λ pair. pair.0) pairs ≡ ranges_of d start joined → map (λ pair. pair.1) pairs ≡ ranges_of other other_start joined → All (λ pair. width pair.0 ≡ width pair.1) pairs
pairs_are_alike d other start other_start joined pairs same_shape same_size first second =
    let w : ℕ = row_width d.itemsize joined (shape_of d.dims) in
    let same : row_width other.itemsize joined (shape_of other.dims) ≡ w = ap₂ (λ (size : ℕ) (shape : List ℕ). row_width size joined shape) (sym same_size) (sym same_shape) in
    paired w pairs (subst (All (λ range. width range ≡ w)) (sym first) (range_widths d start joined))
    (subst (All (λ range. width range ≡ w)) (sym second) (subst (λ (k : ℕ). All (λ range. width range ≡ k) (ranges_of other other_start joined)) same (range_widths other other_start joined)))
