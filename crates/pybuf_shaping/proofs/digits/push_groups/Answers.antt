use Rattle.std.proofs.Common.{◌≡◌, arith, ap, ◌∙◌, ◌++◌, ◌∷◌, [], ◌-◌, ◌+◌, suc, take, length}
use Rattle.std.proofs.lemmas.Grind.{common_steps}
use Rattle.std.proofs.lemmas.List.{length-append}
use Rattle.std.specs.List.{flat_map}
use Rattle.hex.specs.Hex.{encode_lower, lower_digits}
use Rattle.hex.proofs.HexLemmas.{length-encode_with}
use Rattle.pybuf_shaping.specs.Digits.{behind, groups_of}
use Rattle.pybuf_shaping.proofs.GroupLemmas.{one_more}
use Rattle.pybuf_shaping.proofs.digits.push_groups.Goals as goal

pub loop-group-preserved : goal.loop-group-preserved
loop-group-preserved c =
    let out = c.loop-group.out.items in
    let rest = c.loop-group.rest.now in
    let left = c.args.count - (c.loop-group._group + 1) in
    let written : c.push_digits.new.out.items ≡ (out ++ c.args.separator ∷ []) ++ encode_lower (take c.min.result rest) =
    grind (arith, common_steps, c.split_at.ensures.front) in
    let step : c.args.count - c.loop-group._group ≡ suc left = omega (arith, c.loop-group-test.true) in
    let front = length-encode_with lower_digits (take c.min.result rest) in
    let size = ap length written ∙ length-append (out ++ c.args.separator ∷ []) (encode_lower (take c.min.result rest)) in
    record {
      text = ap (λ text. text ++ flat_map (behind c.args.separator) (groups_of c.args.size left c.split_at.result.1.now)) written
          ∙ (ap (λ others. ((out ++ c.args.separator ∷ []) ++ encode_lower (take c.min.result rest)) ++ flat_map (behind c.args.separator) (groups_of c.args.size left others)) c.split_at.ensures.back
          ∙ (one_more c.args.separator c.args.size (c.args.count - c.loop-group._group) left c.min.result rest out step c.min.ensures
          ∙ c.loop-group.invariant.text));
      room = omega (arith, size, front, step, length-append out (c.args.separator ∷ []), ap length c.split_at.ensures.front, c.split_at.ensures.front_len, c.split_at.ensures.back_len, c.loop-group.invariant.room);
    }
