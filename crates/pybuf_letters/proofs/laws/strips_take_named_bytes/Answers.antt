use Rattle.pybuf_letters.proofs.StripLaws.{goes-named, goes-blanks}
use Rattle.pybuf_letters.proofs.laws.strips_take_named_bytes.Goals as goal

pub returns : goal.returns
returns c = record { named = goes-named; blanks = goes-blanks }
