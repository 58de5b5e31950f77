use Rattle.std.proofs.Common.{◌≡◌, Ok, sym, ap, ap₂, ◌∙◌}
use Rattle.pybuf_command.specs.declared.kinds.Subject.{Subject}
use Rattle.pybuf_command.specs.declared.kinds.Subject.TheVariants as subjects
use Rattle.pybuf_command.specs.declared.commands.Verb.{Verb}
use Rattle.pybuf_command.specs.declared.commands.Verb.TheVariants as verbs
use Rattle.pybuf_command.specs.declared.commands.LocalReply.{LocalReply}
use Rattle.pybuf_state.specs.Answers.{exporter_of}
use Rattle.pybuf_state.specs.Exporter.{Exporter, iterator_at, iterator_put}
use Rattle.pybuf_exporter.specs.Step.{estep}
use Rattle.pybuf_exporter.specs.Stored.{StoredExporter}
use Rattle.pybuf_exporter.proofs.exporter.ExporterState.next_copied.Goals as goal

pub returns-in-Err-clause-err : goal.returns-in-Err-clause-err
returns-in-Err-clause-err c =
    let e = c.args.self.now.exporter in
    let k = c.args.iterator in
    let loans = c.args.command.now.loans in
    let kept : exporter_of c.self.inside.parts ≡ e = ap (λ (s : StoredExporter). s.exporter) c.self.view_is in
    let found : iterator_at e k ≡ Ok c.in-Ok.before = cc (kept, c.iterator.ensures.value, c.in-Ok.is) in
    let asked = ap₂ (λ (s : Subject) (v : Verb). estep e s v loans) c.requires.subject c.requires.verb in
    let stepped : exporter_of c.self-2.inside.parts ≡ (estep e (subjects.Iter k) verbs.Next loans).0 =
    ap (λ (s : StoredExporter). s.exporter) c.self-2.view_is ∙ sym (ap (λ (x : Exporter × LocalReply). x.0) c.in_ok-reply.ensures.ok) ∙ ap (λ (x : Exporter × LocalReply). x.0) asked in
    c.put_iterator.ensures.same ∙ ap (λ (now : Exporter). iterator_put now k c.in-Ok.before) stepped ∙ (c.next_is_undone.ensures.undone e k c.in-Ok.before loans found).1
