-- The copies are reversed as their sources are.
use Rattle.std.proofs.Common.{List, reverse, subst, sym}
use Rattle.std.specs.Prelude.{slice_range}
use Rattle.std.specs.List.{AllZip}
use Rattle.pybuf_slice.proofs.TwinLemmas.{zip_reverse}
use Rattle.pybuf_slice.proofs.slices.do_slice_reverse.Goals as goal

pub returns : goal.returns
returns g c =
    let read = slice_range c.args.items.now c.args.range.start c.args.range.end in
    subst (λ (ys : List g.row.T.Denot). AllZip g.T.Twin.same (reverse read) ys) (sym c.reverse.ensures.items)
    (zip_reverse g.T.Twin.same read c.in_ok-list.list.items c.in_ok-list.ensures)
