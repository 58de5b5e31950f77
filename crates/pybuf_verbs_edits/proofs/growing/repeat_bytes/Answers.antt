use Rattle.std.proofs.Common.{rules, ◌≡◌, ◌*◌, ◌^◌, ◌∙◌, ap, sym, length, true, List, ℕ}
use Rattle.std.specs.Prelude.{nat_lt, Result, Ok}
use Rattle.pybuf_value.specs.declared.faults.Fault.{Fault}
use Rattle.pybuf_slice.specs.Edits.{repeated_list}
use Rattle.pybuf_command.specs.declared.commands.LocalReply.{LocalReply}
use Rattle.pybuf_command.specs.declared.commands.LocalReply.TheVariants as reply
use Rattle.pybuf_state.specs.Exporter.{Exporter}
use Rattle.pybuf_state.specs.Answers.{exporter_of}
use Rattle.pybuf_verbs_edits.proofs.Repeating.{is_repeated}
use Rattle.pybuf_verbs_edits.proofs.Still.{long_by}
use Rattle.pybuf_verbs_edits.proofs.growing.repeat_bytes.Goals as goal

abbrev done : Exporter → Result (Exporter × LocalReply) Fault
done e = Ok (e, reply.Ok)

pub returns-clause-answer : goal.returns-clause-answer
returns-clause-answer c =
    let e = exporter_of c.args.parts.now in
    let fits : nat_lt (length e.bytes * c.args.times) (2 ^ 63) ≡ true = search rules in
    let copies = c.in_ok-copies.ensures ∙ ap (λ (bytes : List ℕ). repeated_list c.args.times bytes) c.as_slice.ensures in
    is_repeated e c.args.times c.in_ok-copies.copies.items c.in_ok-resizable.ensures fits copies ∙ ap done (sym c.replace_bytes.ensures.same)

pub returns-clause-long : goal.returns-clause-long
returns-clause-long c =
    let e = exporter_of c.args.parts.now in
    let copies = c.in_ok-copies.ensures ∙ ap (λ (bytes : List ℕ). repeated_list c.args.times bytes) c.as_slice.ensures in
    ap (λ (x : Exporter). length x.bytes) c.replace_bytes.ensures.same ∙ long_by e.bytes c.in_ok-copies.copies.items c.args.times copies
