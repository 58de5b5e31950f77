use Rattle.std.proofs.Common.{◌≡◌, ap, sym, ◌∙◌, subst, map, slice_index, length, []}
use Rattle.std.specs.Prelude.{IfOk}
use Rattle.std.proofs.lemmas.Bool.{eqb-true}
use Rattle.std.proofs.lemmas.List.{nil_from_length}
use Rattle.pybuf_shaping.specs.Tables.{translated}
use Rattle.pybuf_shaping.proofs.TableLemmas.{none_dropped}
use Rattle.pybuf_shaping.proofs.tables.translate.Goals as goal

pub returns-then-is_empty : goal.returns-then-is_empty
returns-then-is_empty c =
    let none : c.args.dropped.now ≡ [] = nil_from_length c.args.dropped.now (eqb-true (length c.args.dropped.now) 0 (sym c.is_empty.ensures ∙ c.if-is_empty.true)) in
    let same : map (slice_index c.args.table.now) c.args.bytes.now ≡ translated c.args.table.now c.args.dropped.now c.args.bytes.now =
    sym (ap (λ dropped. translated c.args.table.now dropped c.args.bytes.now) none ∙ ap (map (slice_index c.args.table.now)) (none_dropped c.args.bytes.now)) in
    subst (λ wanted. IfOk c.mapped.result (λ list. list ≡ wanted)) same c.mapped.ensures
