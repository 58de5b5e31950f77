-- Two views of one shape that are walked side by side.
use Rattle.std.specs.Prelude.{◌≡◌, ℕ, ◌-◌, ◌≤◌, Bool, false, List, bytes_eq}
use Rattle.std.specs.List.{All, list_all, zip}
use Rattle.std.specs.declared.ops.Range.{Range}
use Rattle.std.specs.Ordering.{int_eq}
use Rattle.pybuf_value.specs.Equality.{same_item}
use Rattle.pybuf_struct.specs.Digits.{number}
use Rattle.pybuf_desc.specs.declared.line.SegmentLine.{SegmentLine}
use Rattle.pybuf_desc.specs.Segments.{bytes_in}
use Rattle.pybuf_desc.specs.SegmentLines.{ranges_of_line}
use Rattle.pybuf_memoryview.specs.Readers.{read_by}
use Rattle.pybuf_memoryview.specs.declared.readers.ItemReader.{ItemReader}

-- a range lies among this many bytes
pub record IsPart (room : ℕ) (range : Range ℕ) : Type 0 where
  pub forward : range.start ≤ range.end
  pub inside : range.end ≤ room

-- each pair has a range of the bytes of one side, and a range of the bytes of the other side
abbrev pub ArePaired : ℕ → ℕ → List (Range ℕ × Range ℕ) → Type 0
ArePaired room other_room pairs = All (λ pair. IsPart room pair.0 × IsPart other_room pair.1) pairs

-- the two ranges of each pair have the same length
abbrev pub AreAsLong : List (Range ℕ × Range ℕ) → Type 0
AreAsLong pairs = All (λ pair. pair.0.end - pair.0.start ≡ pair.1.end - pair.1.start) pairs

-- the two ranges of each pair have these lengths
abbrev pub HaveSizes : ℕ → ℕ → List (Range ℕ × Range ℕ) → Type 0
HaveSizes size other_size pairs = All (λ pair. (pair.0.end - pair.0.start ≡ size) × (pair.1.end - pair.1.start ≡ other_size)) pairs

-- the ranges of two lines, in pairs
abbrev pub pairs_of_lines : SegmentLine → SegmentLine → List (Range ℕ × Range ℕ)
pairs_of_lines line other_line = zip (ranges_of_line line) (ranges_of_line other_line)

-- whether the bytes of both ranges are the same
abbrev pub same_bytes_in : List ℕ → List ℕ → Range ℕ × Range ℕ → Bool
same_bytes_in bytes other pair = bytes_eq (bytes_in bytes pair.0) (bytes_in other pair.1)

abbrev pub same_ranges : List ℕ → List ℕ → List (Range ℕ × Range ℕ) → Bool
same_ranges bytes other pairs = list_all (same_bytes_in bytes other) pairs

-- whether the bytes of both ranges are read as equal items
abbrev pub same_items_in : ItemReader → ItemReader → List ℕ → List ℕ → Range ℕ × Range ℕ → Bool
same_items_in reader other_reader bytes other pair = same_item (read_by reader (bytes_in bytes pair.0)) (read_by other_reader (bytes_in other pair.1))

abbrev pub same_items_of : ItemReader → ItemReader → List ℕ → List ℕ → List (Range ℕ × Range ℕ) → Bool
same_items_of reader other_reader bytes other pairs = list_all (same_items_in reader other_reader bytes other) pairs

-- whether the bytes of both ranges spell one number, with or without a sign on each side; the first byte is worth least
abbrev pub same_numbers_in : Bool → Bool → List ℕ → List ℕ → Range ℕ × Range ℕ → Bool
same_numbers_in signed other_signed bytes other pair = int_eq (number false signed (bytes_in bytes pair.0)) (number false other_signed (bytes_in other pair.1))

abbrev pub same_numbers_of : Bool → Bool → List ℕ → List ℕ → List (Range ℕ × Range ℕ) → Bool
same_numbers_of signed other_signed bytes other pairs = list_all (same_numbers_in signed other_signed bytes other) pairs
