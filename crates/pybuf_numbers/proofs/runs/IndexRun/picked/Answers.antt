use Rattle.std.proofs.Common.{◌∙◌, ap, sym}
use Rattle.pybuf_index.specs.Parts.{picks_of}
use Rattle.pybuf_slice.specs.Reads.{elements_at}
use Rattle.pybuf_numbers.specs.Walks.{indices_of}
use Rattle.pybuf_numbers.proofs.Walking.{length_walk}
use Rattle.pybuf_numbers.proofs.runs.IndexRun.picked.Goals as goal

pub returns-clause-indices : goal.returns-clause-indices
returns-clause-indices c =
    let self = c.args.self.now in
    c.chosen.ensures.indices
    ∙ (ap (elements_at (indices_of self)) c.of_slice-places.ensures.indices
    ∙ ap (λ n. elements_at (indices_of self) (picks_of n c.args.slice.now)) (sym (length_walk self.falls self.start self.stride self.count)))
