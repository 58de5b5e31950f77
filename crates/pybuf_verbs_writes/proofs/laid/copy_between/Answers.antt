use Rattle.std.proofs.Common.{List, ℕ, length, ap, ◌∙◌}
use Rattle.std.specs.List.{flat_map}
use Rattle.pybuf_desc.specs.Segments.{bytes_of}
use Rattle.pybuf_desc.specs.SegmentLines.{ranges_of_line}
use Rattle.pybuf_verbs_writes.specs.LaidBytes.{put_at}
use Rattle.pybuf_verbs_writes.proofs.LineCopies.{lends_inside, lent_pieces, lent_whole}
use Rattle.pybuf_verbs_writes.proofs.laid.copy_between.Goals as goal

pub copy_line-requires-clause-source_inside : goal.copy_line-requires-clause-source_inside
copy_line-requires-clause-source_inside c =
    lends_inside c.args.line c.args.lender (length c.args.source.now) c.requires.as_many c.requires.as_wide (c.lines_lie_inside.ensures c.args.lender (length c.args.source.now) c.requires.lender c.requires.source_inside)

pub returns : goal.returns
returns c = record {
  copied = c.copy_line.ensures.copied
      ∙ ap (λ (cs : List ℕ). put_at c.args.bytes.now (flat_map bytes_of (ranges_of_line c.args.line)) cs)
      (lent_pieces c.lines_have_their_pieces.ensures c.args.source.now c.args.line c.args.lender c.requires.as_many c.requires.as_wide);
  long = c.copy_line.ensures.long;
  whole = lent_whole c.lines_have_their_pieces.ensures c.args.source.now c.args.line c.args.lender c.requires.as_many c.requires.as_wide
      (c.lines_lie_inside.ensures c.args.lender (length c.args.source.now) c.requires.lender c.requires.source_inside);
}
