use Rattle.std.proofs.Common.{ap, ◌∙◌}
use Rattle.pybuf_state.specs.Exporter.{exports_of}
use Rattle.pybuf_array.proofs.Sound.{exports_are}
use Rattle.pybuf_array.proofs.array.PyArray.exports.Goals as goal

pub returns : goal.returns
returns c =
    let s = c.self.inside in
    c.exports.ensures.count ∙ (ap exports_of c.state.ensures ∙ exports_are s.code s.bytes s.runs.items c.args.self.now c.self.invariant c.self.view_is)
