use Rattle.pybuf_memoryview.proofs.Gathered.{content_is_whole}
use Rattle.pybuf_memoryview.proofs.laws.contents_are_whole.Goals as goal

pub returns : goal.returns
returns c = content_is_whole
