use Rattle.std.proofs.Common.{◌≡◌, ◌+◌, subst, arith}
use Rattle.pybuf_struct.specs.Facts.{ok_or_some}
use Rattle.pybuf_struct.specs.Formats.{extent, fields, prefix_of, format_after_prefix}
use Rattle.pybuf_struct.specs.Laws.{Spread}
use Rattle.pybuf_struct.proofs.Whole.{format_fills}
use Rattle.pybuf_struct.proofs.Places.{Spread-fields}
use Rattle.pybuf_struct.proofs.Aligned.{spelled_aligned}
use Rattle.pybuf_struct.proofs.laws.fields_lie_in_order.Goals as goal

pub returns : goal.returns
returns c = λ text f is.
    let whole : 0 + extent f.order f.codes ≡ f.size = omega (arith, format_fills text f is) in
    (subst (Spread 0 (fields f)) whole (Spread-fields f.order 0 f.codes), spelled_aligned (prefix_of text).0 (prefix_of text).1 f (ok_or_some (format_after_prefix (prefix_of text).0 (prefix_of text).1) f is))
