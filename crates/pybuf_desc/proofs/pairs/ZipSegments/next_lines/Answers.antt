use Rattle.std.proofs.Common.{◌≡◌, ◌++◌, subst}
use Rattle.std.specs.Prelude.{MatchOption}
use Rattle.std.specs.List.{zip}
use Rattle.pybuf_desc.specs.SegmentLines.{ranges_of_line}
use Rattle.pybuf_desc.proofs.LinePairs.{lines_zipped}
use Rattle.pybuf_desc.proofs.pairs.ZipSegments.next_lines.Goals as goal

pub returns-clause-pairs : goal.returns-clause-pairs
returns-clause-pairs c =
    subst (λ v. MatchOption c.next_rows.result (zip c.next_rows.new.self c.next_rows.new.other ≡ v) (λ lines. v ≡ zip (ranges_of_line lines.0) (ranges_of_line lines.1) ++ zip c.next_rows.new.self c.next_rows.new.other)) c.self.view_is
    (lines_zipped c.next_rows.result c.self.inside.one c.self.inside.other c.next_rows.new.self c.next_rows.new.other c.next_rows.ensures.first c.next_rows.ensures.second c.next_rows.ensures.as_many)
