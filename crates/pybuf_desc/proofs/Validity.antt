-- What the checks of a descriptor prove.
use Rattle.std.proofs.Common.{◌≡◌, ◌≢◌, ℕ, ◌*◌, ◌^◌, ◌<◌, ◌≤◌, ℤ, pos, Bool, List, length, drop, All, Any, ap, sym, ◌∙◌, arith, mul-zero}
use Rattle.pybuf_desc.specs.Facts.{length-places}
use Rattle.pybuf_desc.specs.Layouts.{product}
use Rattle.pybuf_desc.specs.Descriptor.{Descriptor, shape_of}
use Rattle.pybuf_desc.specs.Places.{places}
use Rattle.pybuf_desc.specs.Valid.{IsInside, IsValid}
use Rattle.pybuf_desc.proofs.Products.{extent_of, product-zero, product-extent, AreNonzero-from_All}

-- what the checks say that come before the check of the entries
pub record IsPlain (d : Descriptor) : Type 0 where
  pub some_size : 0 < d.itemsize
  pub size_fits : d.itemsize < 2 ^ 63
  pub few_dimensions : length d.dims ≤ 64
  pub strides : All (λ dim. dim.1 ≢ pos 0) d.dims
  pub suboffsets : All (λ dim. dim.2 ≡ pos 0) d.dims
  pub later_entries : All (λ dim. 0 < dim.0) (drop 1 d.dims)
  pub extent_fits : d.itemsize * extent_of d.dims < 2 ^ 63

pub valid_without_items : (d : Descriptor) (start room : ℕ) → IsPlain d → Any (λ dim. dim.0 ≡ 0) d.dims → d.len ≡ 0 → IsValid d start room
valid_without_items d start room plain none len =
    let no_item : product (shape_of d.dims) ≡ 0 = product-zero d.dims none in
    record {
      some_size = plain.some_size;
      size_fits = plain.size_fits;
      few_dimensions = plain.few_dimensions;
      strides = plain.strides;
      suboffsets = plain.suboffsets;
      later_entries = plain.later_entries;
      extent_fits = plain.extent_fits;
      len = ap (λ (n : ℕ). d.itemsize * n) no_item ∙ mul-zero d.itemsize ∙ sym len;
      inside = λ k e h. absurd (let count : length (places d.dims (pos start)) ≡ 0 = length-places d.dims (pos start) ∙ no_item in omega (arith, h, count));
    }

pub valid_with_items : (d : Descriptor) (start room : ℕ) → IsPlain d → All (λ dim. 0 < dim.0) d.dims → d.len ≡ d.itemsize * extent_of d.dims → All (IsInside d.itemsize room) (places d.dims (pos start)) → IsValid d start room
valid_with_items d start room plain some len inside =
    record {
      some_size = plain.some_size;
      size_fits = plain.size_fits;
      few_dimensions = plain.few_dimensions;
      strides = plain.strides;
      suboffsets = plain.suboffsets;
      later_entries = plain.later_entries;
      extent_fits = plain.extent_fits;
      len = ap (λ (n : ℕ). d.itemsize * n) (product-extent d.dims (AreNonzero-from_All d.dims some)) ∙ sym len;
      inside = inside;
    }

pub len_of_valid : (d : Descriptor) (start room : ℕ) → IsValid d start room → All (λ dim. 0 < dim.0) d.dims → d.len ≡ d.itemsize * extent_of d.dims
len_of_valid d start room valid some =
    sym (ap (λ (n : ℕ). d.itemsize * n) (sym (product-extent d.dims (AreNonzero-from_All d.dims some))) ∙ valid.len)

abbrev pub raw_descriptor : ℕ → Bool → ℕ → List ℕ → List (ℕ × ℤ × ℤ) → Descriptor
raw_descriptor len readonly itemsize format dims = record { len = len; readonly = readonly; itemsize = itemsize; format = format; dims = dims }
