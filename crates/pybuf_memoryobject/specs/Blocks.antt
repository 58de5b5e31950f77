-- The view of some of the blocks that cutting a view along its first dimension gives.
use Rattle.std.specs.Prelude.{ℕ, ◌-◌, pos, Some}
use Rattle.std.specs.List.{range_with_len}
use Rattle.std.specs.declared.ops.Range.{Range}
use Rattle.pybuf_index.specs.Parts.{SliceParts, clamped_parts}
use Rattle.pybuf_desc.specs.Layouts.{Layout}
use Rattle.pybuf_desc.specs.Slices.{slice_at}

-- the blocks of a range, in order
abbrev pub blocks_of : Layout → Range ℕ → Layout
blocks_of view range = slice_at view (range_with_len range.start (range.end - range.start)) (pos 1)

-- the slice with these bounds and step 1, and each bound is clamped to `isize`
abbrev pub range_parts : Range ℕ → SliceParts
range_parts range = clamped_parts (record { start = Some (pos range.start); stop = Some (pos range.end); step = pos 1 })
