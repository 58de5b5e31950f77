use Rattle.std.proofs.Common.{length, ap, ◌∙◌}
use Rattle.std.specs.List.{flat_map}
use Rattle.pybuf_strided.specs.Apart.{place_of, pieces_at}
use Rattle.pybuf_desc.specs.Segments.{bytes_of}
use Rattle.pybuf_desc.specs.SegmentLines.{ranges_of_line}
use Rattle.pybuf_verbs_writes.proofs.LineCopies.{line_put, length-put}
use Rattle.pybuf_verbs_writes.proofs.laid.copy_line.Goals as goal

pub copy_items-requires-clause-inside : goal.copy_items-requires-clause-inside
copy_items-requires-clause-inside c = c.lines_lie_inside.ensures c.args.line (length c.args.bytes.now) c.requires.line c.requires.inside

pub returns : goal.returns
returns c =
    let inside = c.lines_lie_inside.ensures c.args.line (length c.args.bytes.now) c.requires.line c.requires.inside in
    let put = c.copy_items.ensures ∙ line_put c.args.bytes.now c.args.source.now c.args.line c.args.from.falls c.args.from.start c.args.from.step inside c.requires.source_inside in record {
      copied = put;
      long = ap length put ∙ length-put c.args.bytes.now (flat_map bytes_of (ranges_of_line c.args.line)) (pieces_at c.args.source.now (place_of c.args.from.falls c.args.from.start c.args.from.step) c.args.line.size c.args.line.count);
    }
