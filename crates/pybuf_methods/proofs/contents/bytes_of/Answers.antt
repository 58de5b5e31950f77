use Rattle.std.proofs.Common.{sym, subst, []}
use Rattle.pybuf_value.specs.declared.values.Value.{Value}
use Rattle.pybuf_value.specs.Snaps.{bytes_in, bytes_in_parts}
use Rattle.pybuf_value.specs.Lent.{Lends}
use Rattle.pybuf_methods.specs.Lent.{Reads}
use Rattle.pybuf_methods.proofs.contents.bytes_of.Goals as goal

-- The parts of a list or a tuple aren't handles, so it doesn't matter what handles name.
pub returns-in-Tuple : goal.returns-in-Tuple
returns-in-Tuple g c =
    subst (λ (v : Value). Lends (bytes_in (g.N.Contents.pairs c.args.names.now) v) c.gathered.result) (sym c.in-Tuple.is)
    (c.gathered.ensures (bytes_in_parts c.in-Tuple.field-0)
    (subst (λ (v : Value). Reads (bytes_in [] v) c.bytes_of_parts.result) c.in-Tuple.is c.bytes_of_parts.ensures))

pub returns-in-List : goal.returns-in-List
returns-in-List g c =
    subst (λ (v : Value). Lends (bytes_in (g.N.Contents.pairs c.args.names.now) v) c.gathered-in-List.result) (sym c.in-List.is)
    (c.gathered-in-List.ensures (bytes_in_parts c.in-List.field-0)
    (subst (λ (v : Value). Reads (bytes_in [] v) c.bytes_of_parts-in-List.result) c.in-List.is c.bytes_of_parts-in-List.ensures))
