use Rattle.pybuf_shaping.specs.Tabs.{expanded}
use Rattle.pybuf_shaping.proofs.tabs.expand_tabs.Goals as goal

pub returns : goal.returns
returns c = c.tried.ensures (expanded c.args.size c.args.bytes.now) c.with_spaces.ensures
