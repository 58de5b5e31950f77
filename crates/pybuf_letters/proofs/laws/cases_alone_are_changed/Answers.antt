use Rattle.pybuf_letters.proofs.CaseLaws.{lower-of_lower, lower-of_upper, lower-of_swapcase, lower-of_capitalize, lower-of_title}
use Rattle.pybuf_letters.proofs.laws.cases_alone_are_changed.Goals as goal

pub returns : goal.returns
returns c = record {
  lower = lower-of_lower;
  upper = lower-of_upper;
  swapcase = lower-of_swapcase;
  capitalize = lower-of_capitalize;
  title = lower-of_title;
}
