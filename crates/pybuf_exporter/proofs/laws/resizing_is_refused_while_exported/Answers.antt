use Rattle.pybuf_exporter.proofs.Refusing.{refused_while_exported}
use Rattle.pybuf_exporter.proofs.laws.resizing_is_refused_while_exported.Goals as goal

pub returns : goal.returns
returns c =
    refused_while_exported c.effects_are_safe.ensures c.reading_keeps.ensures c.edits_ask_before_they_resize.ensures c.only_adding_itself_is_refused_earlier.ensures
