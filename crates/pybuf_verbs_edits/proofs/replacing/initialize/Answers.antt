use Rattle.std.proofs.Common.{sym, ◌∙◌}
use Rattle.pybuf_state.specs.Answers.{exporter_of}
use Rattle.pybuf_state.specs.Names.{meant}
use Rattle.pybuf_verbs_edits.proofs.Lending.{by_source}
use Rattle.pybuf_verbs_edits.proofs.replacing.initialize.Goals as goal

pub returns-in-Some-clause-answer : goal.returns-in-Some-clause-answer
returns-in-Some-clause-answer g c =
    by_source (exporter_of c.args.parts.now) c.args.options.now c.in-Some.handle (g.N.Names.named c.args.names.now) (meant c.meaning.result) c.init_by_meaning.result (exporter_of c.init_by_meaning.new.parts)
    (sym c.handle_alone.ensures ∙ c.in-Some.is) c.meaning.ensures.meant c.init_by_meaning.ensures.answer
