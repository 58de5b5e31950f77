use Rattle.pybuf_exporter.proofs.Viewing.{gives_the_items}
use Rattle.pybuf_exporter.proofs.laws.iterators_give_the_items.Goals as goal

pub returns : goal.returns
returns c = gives_the_items c.live_layouts_are_sound.ensures
