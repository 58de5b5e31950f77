-- The elements that the other list gives are its own.
use Rattle.std.proofs.Common.{◌≡◌, List, ap, sym, ◌∙◌}
use Rattle.std.specs.List.{splice}
use Rattle.std.proofs.lemmas.List.{map-id}
use Rattle.std.proofs.lemmas.Iterator.{items_from_drains}
use Rattle.std.proofs.lemmas.Iterator.Adapters.{YieldsList-from_vec}
use Rattle.pybuf_slice.proofs.edits.splice_list.Goals as goal

pub returns-clause-ok : goal.returns-clause-ok
returns-clause-ok g c =
    let given = c.in_ok-splice.ensures.items in
    let others = c.args.others.items in
    let same : given.1 ≡ others = sym (map-id given.1) ∙ items_from_drains given.1 (given.3.1.0, given.3.1.1, λ _. (given.3.0, given.3.1.2)) (YieldsList-from_vec others given.2.0 (given.2.1 ∙ c.args.others.ok.0)) in
    given.4 ∙ ap (λ (xs : List g.row.T.Denot). splice c.args.list.now.items c.args.range.start c.args.range.end xs) same
