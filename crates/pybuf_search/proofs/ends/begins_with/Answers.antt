use Rattle.std.proofs.lemmas.Bool.Decides.{same_from_decides}
use Rattle.pybuf_search.proofs.MatchLaws.{Decides-occurs_at}
use Rattle.pybuf_search.proofs.ends.begins_with.Goals as goal

pub returns : goal.returns
returns c = same_from_decides _ _ c.starts_with_str.ensures (Decides-occurs_at c.args.bytes.now c.args.prefix.now 0)
