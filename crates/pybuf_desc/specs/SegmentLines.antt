-- Ranges of bytes in equal steps.
use Rattle.std.specs.Prelude.{◌≡◌, ℕ, ◌+◌, ◌*◌, ◌<◌, ◌≤◌, Bool, true, List, map}
use Rattle.std.specs.List.{range_with_len}
use Rattle.std.specs.declared.ops.Range.{Range}
use Rattle.pybuf_strided.specs.Apart.{place_of}
use Rattle.pybuf_desc.specs.declared.line.SegmentLine.{SegmentLine}

-- range k of a line: it has this many bytes, and lies k steps above the start or below it
abbrev pub range_on : Bool → ℕ → ℕ → ℕ → ℕ → Range ℕ
range_on falls start step size k = record { start = place_of falls start step k; end = place_of falls start step k + size }

abbrev pub ranges_of_line : SegmentLine → List (Range ℕ)
ranges_of_line line = map (range_on line.track.falls line.track.start line.track.step line.size) (range_with_len 0 line.count)

-- a line has a range, and none of its ranges starts below place 0
pub record IsLine (line : SegmentLine) : Type 0 where
  pub some : 0 < line.count
  pub low : (k : ℕ) → k < line.count → line.track.falls ≡ true → k * line.track.step ≤ line.track.start
