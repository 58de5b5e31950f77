-- The places of a record's fields, which are found once for all records.
use Rattle.std.specs.Prelude.{◌≡◌, ◌+◌, ◌≤◌, List, IsTrue}
use Rattle.std.specs.List.{All}
use Rattle.pybuf_struct.specs.Formats.{Format, Field, fields}
use Rattle.pybuf_struct.specs.Values.{is_length}

-- The places of a format's fields, in order. Each lies inside the record, and has a length that fields of its
-- code can have.
pub record ArePlaces (f : Format) (places : List Field) : Type 0 where
  pub same : places ≡ fields f
  pub inside : All (λ place. place.offset + place.length ≤ f.size) places
  pub long : All (λ place. IsTrue (is_length f.order place.code place.length)) places
