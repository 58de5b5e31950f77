-- When a descriptor describes items that lie inside an exporter's bytes.
use Rattle.std.specs.Prelude.{◌≡◌, ◌≢◌, ℕ, ◌*◌, ◌^◌, ◌<◌, ◌≤◌, ℤ, pos, ◌+ℤ◌, ◌≤ℤ◌, List, [], ◌∷◌, zero, suc, length, drop, All}
use Rattle.pybuf_desc.specs.Layouts.{product}
use Rattle.pybuf_desc.specs.Descriptor.{Descriptor, shape_of}
use Rattle.pybuf_desc.specs.Places.{places}

-- each byte of an item at this place lies from 0 up to the room
pub record IsInside (itemsize room : ℕ) (place : ℤ) : Type 0 where
  pub low : pos 0 ≤ℤ place
  pub high : (place +ℤ pos itemsize) ≤ℤ pos room

-- the entries that are not 0
abbrev pub nonzero_entries : List ℕ → List ℕ
nonzero_entries [] = []
nonzero_entries (zero ∷ shape) = nonzero_entries shape
nonzero_entries (suc n ∷ shape) = suc n ∷ nonzero_entries shape

pub record IsValid (d : Descriptor) (start room : ℕ) : Type 0 where
  pub some_size : 0 < d.itemsize
  pub size_fits : d.itemsize < 2 ^ 63
  pub few_dimensions : length d.dims ≤ 64
  pub strides : All (λ dim. dim.1 ≢ pos 0) d.dims
  pub suboffsets : All (λ dim. dim.2 ≡ pos 0) d.dims
  pub later_entries : All (λ dim. 0 < dim.0) (drop 1 d.dims)
  pub extent_fits : d.itemsize * product (nonzero_entries (shape_of d.dims)) < 2 ^ 63
  pub len : d.itemsize * product (shape_of d.dims) ≡ d.len
  pub inside : All (IsInside d.itemsize room) (places d.dims (pos start))

-- a descriptor is valid from this start, in some room that bytes can have
pub record IsPlaced (d : Descriptor) (start : ℕ) : Type 0 where
  pub room : ℕ
  pub room_fits : room < 2 ^ 63
  pub valid : IsValid d start room

-- a descriptor is valid from some start
pub record IsPlaceable (d : Descriptor) : Type 0 where
  pub start : ℕ
  pub placed : IsPlaced d start

-- the bytes of items of this size, as many as the entries that aren't 0 make
abbrev pub full_size : ℕ → List (ℕ × ℤ × ℤ) → ℕ
full_size itemsize dims = itemsize * product (nonzero_entries (shape_of dims))
