use Rattle.pybuf_letters.proofs.RunLaws.{loses_blanks_alone}
use Rattle.pybuf_letters.proofs.laws.cuts_lose_blanks_alone.Goals as goal

pub returns : goal.returns
returns c = loses_blanks_alone
