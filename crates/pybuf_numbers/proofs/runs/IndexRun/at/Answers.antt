use Rattle.std.proofs.Common.{◌∙◌, ap, sym}
use Rattle.pybuf_numbers.specs.Walks.{place_of}
use Rattle.pybuf_numbers.proofs.Walking.{walk_index}
use Rattle.pybuf_numbers.proofs.runs.IndexRun.at.Goals as goal

pub returns-then-self-clause-index : goal.returns-then-self-clause-index
returns-then-self-clause-index c =
    let r = c.args.self.now in
    ap (λ b. place_of b r.start r.stride c.args.place) (sym c.if-self.true) ∙ walk_index r.falls r.start r.stride r.count c.args.place c.requires.there

pub returns-else-self-clause-index : goal.returns-else-self-clause-index
returns-else-self-clause-index c =
    let r = c.args.self.now in
    ap (λ b. place_of b r.start r.stride c.args.place) (sym c.if-self.false) ∙ walk_index r.falls r.start r.stride r.count c.args.place c.requires.there
