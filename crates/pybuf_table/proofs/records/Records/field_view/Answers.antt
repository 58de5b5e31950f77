use Rattle.std.proofs.Common.{◌≡◌, ◌+◌, ◌%◌, ◌^◌, ◌<◌, ◌≤◌, Some, IsTrue, length, sym, ap, ◌∙◌, rules, arith, ℕ}
use Rattle.std.specs.Prelude.{slice_get}
use Rattle.pybuf_struct.specs.Formats.{fields}
use Rattle.pybuf_struct.specs.Values.{is_length}
use Rattle.pybuf_command.specs.Kinds.{holds_readonly}
use Rattle.pybuf_command.specs.declared.commands.LocalReply.TheVariants as reply
use Rattle.pybuf_table.proofs.FieldViewLemmas.{view_placed, view_sound, view_made}
use Rattle.pybuf_table.proofs.records.Records.field_view.Goals as goal

pub add_view-requires-clause-placed : goal.add_view-requires-clause-placed
add_view-requires-clause-placed c =
    let place = c.in-Some.place in
    let offset : c.place-2.inside.offset ≡ place.offset = search rules in
    let same : c.place.inside.length ≡ place.length = search rules in
    let some : 0 < place.length = omega (arith, same) in
    let whole : length c.bytes-len.result.now % c.size-size.result ≡ 0 = search rules in
    let room : length c.bytes-len.result.now < 2 ^ 63 = search rules in
    let inside : place.offset + place.length ≤ c.args.self.now.format.size = rw c.format.ensures at c.in-Some.ensures.inside in
    view_placed c.args.self.now place c.args.state.now.exporter.bytes (length c.bytes-len.result.now) c.size-size.result c.place-2.inside.offset c.is_readonly-readonly.result c.in_ok-descriptor.descriptor
    (ap length c.bytes-len.ensures) c.size-size.ensures.value c.size-size.ensures.some c.size-size.ensures.small room inside some whole c.in_ok-descriptor.ensures offset

pub add_view-requires-clause-sound : goal.add_view-requires-clause-sound
add_view-requires-clause-sound c =
    let place = c.in-Some.place in
    let offset : c.place-2.inside.offset ≡ place.offset = search rules in
    let same : c.place.inside.length ≡ place.length = search rules in
    let some : 0 < place.length = omega (arith, same) in
    let whole : length c.bytes-len.result.now % c.size-size.result ≡ 0 = search rules in
    let inside : place.offset + place.length ≤ c.args.self.now.format.size = rw c.format.ensures at c.in-Some.ensures.inside in
    let there : Some place ≡ slice_get (fields c.args.self.now.format) c.args.field = rw c.format.ensures at c.in-Some.ensures.value in
    let long : IsTrue (is_length c.args.self.now.format.order place.code place.length) = rw c.format.ensures at c.in-Some.ensures.long in
    let readonly : c.is_readonly-readonly.result ≡ holds_readonly c.args.state.now.exporter.kind = c.is_readonly-readonly.ensures ∙ ap holds_readonly c.kind.ensures in
    view_sound c.formats_read_back.ensures c.args.state.now.exporter c.args.self.now c.args.field place (length c.bytes-len.result.now) c.size-size.result c.place-2.inside.offset c.is_readonly-readonly.result c.in_ok-descriptor.descriptor
    c.text.ensures.spelled there (ap length c.bytes-len.ensures) c.size-size.ensures.value c.size-size.ensures.some c.size-size.ensures.small inside long some whole readonly c.in_ok-descriptor.ensures offset

pub returns-clause-ok : goal.returns-clause-ok
returns-clause-ok c =
    let place = c.in-Some.place in
    let offset : c.place-2.inside.offset ≡ place.offset = search rules in
    let same : c.place.inside.length ≡ place.length = search rules in
    let some : 0 < place.length = omega (arith, same) in
    let whole : length c.bytes-len.result.now % c.size-size.result ≡ 0 = search rules in
    let there : Some place ≡ slice_get (fields c.args.self.now.format) c.args.field = rw c.format.ensures at c.in-Some.ensures.value in
    let readonly : c.is_readonly-readonly.result ≡ holds_readonly c.args.state.now.exporter.kind = c.is_readonly-readonly.ensures ∙ ap holds_readonly c.kind.ensures in
    view_made c.args.state.now.exporter c.add_view.new.self.exporter c.args.self.now c.args.field c.of.result place (length c.bytes-len.result.now) c.size-size.result c.place-2.inside.offset c.is_readonly-readonly.result c.in_ok-descriptor.descriptor
    there (ap length c.bytes-len.ensures) c.size-size.ensures.value some whole readonly c.in_ok-descriptor.ensures offset
    (c.in_ok-view.ensures.ok ∙ ap (λ (k : ℕ). (c.add_view.new.self.exporter, reply.View k)) (sym c.of.ensures))
