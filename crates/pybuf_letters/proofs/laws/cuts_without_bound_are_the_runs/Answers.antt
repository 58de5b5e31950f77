use Rattle.pybuf_letters.proofs.CutLaws.{all_from_either}
use Rattle.pybuf_letters.proofs.laws.cuts_without_bound_are_the_runs.Goals as goal

pub returns : goal.returns
returns c = record {
  left = λ max bytes negative. (all_from_either max bytes negative).0;
  right = λ max bytes negative. (all_from_either max bytes negative).1;
}
