-- How large the parts of a picture are.
use Rattle.std.specs.Prelude.{◌≡◌, ◌<◌, ℕ, length}
use Rattle.example_picture.specs.Pictures.{Picture, part_at}

-- The part that has this number was given, and it has so many rows, columns and channels.
pub record HasSize (p : Picture) (k rows columns channels : ℕ) : Type 0 where
  pub given : k < length p.parts
  pub tall : (part_at p k).rows ≡ rows
  pub wide : (part_at p k).columns ≡ columns
  pub deep : (part_at p k).channels ≡ channels
