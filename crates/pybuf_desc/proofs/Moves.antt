-- The step of the sum in the code goes over bits, and is the step of the definition.
use Rattle.std.proofs.Common.{◌≡◌, ℕ, ◌^◌, ◌<◌, ℤ, pos, ◌+ℤ◌, ◌*ℤ◌, List, length, get_or, drop, drop-cons, suc, ◌+◌, add-one, ap, ap₂, sym, ◌∙◌, subst, arith, SFits, w64, to_z, of_z}
use Rattle.std.proofs.lemmas.Int.{ints, to_z_pos, to_z-of_z}
use Rattle.pybuf_desc.proofs.Track.{Track, Step, step}

-- index times stride, as the code computes it
abbrev pub product_bits : ℕ → ℤ → ℤ
product_bits index stride = to_z w64 index *ℤ to_z w64 (of_z w64 stride)

abbrev pub sum_bits : ℤ → ℕ → ℤ → ℤ
sum_bits offset index stride = offset +ℤ to_z w64 (of_z w64 (product_bits index stride))

pub product_bits_is : (index : ℕ) (stride : ℤ) → index < 2 ^ 63 → SFits w64 stride → product_bits index stride ≡ pos index *ℤ stride
product_bits_is index stride h f = ap₂ (λ x y. x *ℤ y) (to_z_pos w64 index h) (to_z-of_z w64 stride f)

-- the dimension at k
abbrev pub dim_at : List (ℕ × ℤ × ℤ) → ℕ → ℕ × ℤ × ℤ
dim_at dims k = get_or dims k (0, pos 0, pos 0)

pub record Moves (dims : List (ℕ × ℤ × ℤ)) (k : ℕ) (offset : ℤ) (index : ℕ) : Type 0 where
  pub index_fits : index < 2 ^ 63
  pub product_fits : SFits w64 (product_bits index (dim_at dims k).1)
  pub sum_fits : SFits w64 (sum_bits offset index (dim_at dims k).1)
  pub result_is : to_z w64 (of_z w64 (sum_bits offset index (dim_at dims k).1)) ≡ offset +ℤ pos index *ℤ (dim_at dims k).1
  pub track : Track (drop (k + 1) dims) (to_z w64 (of_z w64 (sum_bits offset index (dim_at dims k).1)))

pub moves : (dims : List (ℕ × ℤ × ℤ)) (k : ℕ) (offset : ℤ) (index : ℕ) → k < length dims → SFits w64 (dim_at dims k).1 → index < (dim_at dims k).0 → Track (drop k dims) offset → Moves dims k offset index
moves dims k offset index h f below t =
    let s : Step (dim_at dims k) (drop (k + 1) dims) offset index =
    rw add-one (step (dim_at dims k) (drop (suc k) dims) offset index below (subst (λ ds. Track ds offset) (drop-cons dims k (0, pos 0, pos 0) h) t)) in
    let p : product_bits index (dim_at dims k).1 ≡ pos index *ℤ (dim_at dims k).1 = product_bits_is index (dim_at dims k).1 s.index_fits f in
    let q : SFits w64 (product_bits index (dim_at dims k).1) = subst (SFits w64) (sym p) s.product_fits in
    let e : sum_bits offset index (dim_at dims k).1 ≡ offset +ℤ pos index *ℤ (dim_at dims k).1 = ap (λ x. offset +ℤ x) (to_z-of_z w64 (product_bits index (dim_at dims k).1) q ∙ p) in
    let g : SFits w64 (sum_bits offset index (dim_at dims k).1) = subst (SFits w64) (sym e) s.sum_fits in
    let r : to_z w64 (of_z w64 (sum_bits offset index (dim_at dims k).1)) ≡ offset +ℤ pos index *ℤ (dim_at dims k).1 = to_z-of_z w64 (sum_bits offset index (dim_at dims k).1) g ∙ e in
    record {
      index_fits = s.index_fits;
      product_fits = q;
      sum_fits = g;
      result_is = r;
      track = subst (λ o. Track (drop (k + 1) dims) o) (sym r) s.track;
    }

pub index_fits : (dims : List (ℕ × ℤ × ℤ)) (k : ℕ) (offset : ℤ) (index : ℕ) → k < length dims → index < (dim_at dims k).0 → Track (drop k dims) offset → SFits w64 (pos index)
index_fits dims k offset index h below t =
    let s : Step (dim_at dims k) (drop (suc k) dims) offset index =
    step (dim_at dims k) (drop (suc k) dims) offset index below (subst (λ ds. Track ds offset) (drop-cons dims k (0, pos 0, pos 0) h) t) in
    let low = s.index_fits in omega (arith, ints)
