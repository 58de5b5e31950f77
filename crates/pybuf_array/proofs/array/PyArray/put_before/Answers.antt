use Rattle.pybuf_array.proofs.Sound.{free_of, sound_edited}
use Rattle.pybuf_array.proofs.array.PyArray.put_before.Goals as goal

pub unreachable-requires : goal.unreachable-requires
unreachable-requires c =
    let s = c.self.inside in
    let never = c.in-Err.ensures.exact.1 (free_of s.code s.bytes s.runs.items c.args.self.now c.self.invariant c.self.view_is c.requires.free) in
    cc

pub invariant_of-self : goal.invariant_of-self
invariant_of-self c =
    let s = c.self.inside in
    sound_edited s.code s.bytes s.runs.items c.args.self.now c.self.invariant c.self.view_is c.insert_number.result _ _ c.in-Ok.ensures.value c.requires.free c.insert_number.ensures.whole c.insert_number.ensures.err
