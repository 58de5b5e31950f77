use Rattle.std.proofs.lemmas.Bool.Decides.{same_from_decides}
use Rattle.pybuf_search.proofs.CutLemmas.{Decides-ends_with}
use Rattle.pybuf_search.proofs.ends.ends_with.Goals as goal

pub returns : goal.returns
returns c = same_from_decides _ _ c.ends_with_str.ensures (Decides-ends_with c.args.bytes.now c.args.suffix.now)
