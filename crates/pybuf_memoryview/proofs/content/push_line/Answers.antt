use Rattle.std.proofs.Common.{ap, sym, ◌∙◌, ◌++◌}
use Rattle.pybuf_desc.specs.SegmentLines.{ranges_of_line}
use Rattle.pybuf_memoryview.proofs.Gathered.{elements_by_range}
use Rattle.pybuf_memoryview.proofs.content.push_line.Goals as goal

pub append_items-requires : goal.append_items-requires
append_items-requires c = record { source_inside = c.lines_lie_inside.ensures c.args.line _ c.requires.line c.requires.inside }

pub returns : goal.returns
returns c = c.in_ok-append_items.ensures.items ∙ ap (λ xs. c.args.gathered.now.items ++ xs) (sym (c.lines_have_their_pieces.ensures c.args.line c.args.bytes.now) ∙ sym (elements_by_range c.args.bytes.now (ranges_of_line c.args.line)))
