use Rattle.std.proofs.Common.{List, ℕ, length, ap, ◌∙◌}
use Rattle.std.specs.List.{flat_map}
use Rattle.pybuf_strided.specs.Facts.{row_inside}
use Rattle.pybuf_desc.specs.Segments.{bytes_of}
use Rattle.pybuf_desc.specs.SegmentLines.{ranges_of_line}
use Rattle.pybuf_verbs_writes.specs.LaidBytes.{put_at}
use Rattle.pybuf_verbs_writes.proofs.LineCopies.{row_pieces}
use Rattle.pybuf_verbs_writes.proofs.laid.lay_line.Goals as goal

pub copy_line-requires-clause-source_inside : goal.copy_line-requires-clause-source_inside
copy_line-requires-clause-source_inside c = row_inside c.args.from c.args.line.size c.args.line.count (length c.args.content.now) c.requires.enough

pub returns-clause-copied : goal.returns-clause-copied
returns-clause-copied c =
    c.copy_line.ensures.copied
    ∙ ap (λ (cs : List ℕ). put_at c.args.bytes.now (flat_map bytes_of (ranges_of_line c.args.line)) cs) (row_pieces c.args.content.now c.args.from c.args.line.size c.args.line.count)
