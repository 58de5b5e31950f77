-- The items of two views of one shape, side by side.
use Rattle.std.specs.Prelude.{ℕ, min, Bool, ◌&&◌, ◌==◌, ℤ, List, if◌then◌else◌}
use Rattle.std.specs.List.{zip}
use Rattle.std.specs.declared.ops.Range.{Range}
use Rattle.pybuf_desc.specs.Descriptor.{Descriptor}
use Rattle.pybuf_desc.specs.Tails.{tail_of}
use Rattle.pybuf_desc.specs.Segments.{ranges_of}
use Rattle.pybuf_desc.specs.SegmentLines.{ranges_of_line}
use Rattle.pybuf_desc.specs.declared.line.SegmentLine.{SegmentLine}

-- How many of the last dimensions are joined on both sides. If they are to be joined and the items have one size, these
-- are the dimensions of the lesser of the two tails. Else there are none.
abbrev pub joined_count_of_both : Descriptor → Descriptor → Bool → ℕ
joined_count_of_both d other join =
    if join && d.itemsize == other.itemsize then min (tail_of d) (tail_of other) else 0

-- range k of one walk beside range k of the other
abbrev pub pairs_of : Descriptor → ℤ → Descriptor → ℤ → Bool → List (Range ℕ × Range ℕ)
pairs_of d start other other_start join =
    zip (ranges_of d start (joined_count_of_both d other join)) (ranges_of other other_start (joined_count_of_both d other join))

-- the ranges of the one row with those of the other
abbrev pub pairs_of_rows : SegmentLine × SegmentLine → List (Range ℕ × Range ℕ)
pairs_of_rows lines = zip (ranges_of_line lines.0) (ranges_of_line lines.1)
