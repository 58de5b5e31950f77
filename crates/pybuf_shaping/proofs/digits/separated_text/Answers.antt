use Rattle.std.proofs.Common.{◌≡◌, arith, ap, sym, subst, take, drop, ◌∷◌, length}
use Rattle.std.specs.Str.{IsUtf8}
use Rattle.std.proofs.lemmas.Grind.{common_steps}
use Rattle.std.proofs.lemmas.Bool.Decides.{nat_tests}
use Rattle.std.proofs.lemmas.List.{length-take}
use Rattle.hex.specs.Hex.{encode_lower, lower_digits}
use Rattle.hex.proofs.HexLemmas.{length-encode_with}
use Rattle.pybuf_shaping.specs.Digits.{groups_of, separated}
use Rattle.pybuf_shaping.proofs.GroupLemmas.{length_of_text, text_utf8}
use Rattle.pybuf_shaping.proofs.digits.separated_text.Goals as goal

pub returns-then-total : goal.returns-then-total
returns-then-total c =
    let long = length_of_text c.args.separator c.args.first c.args.size c.args.count c.args.bytes.now c.requires.whole in
    grind (arith, nat_tests, long, c.if-total.true)

pub push_groups-requires : goal.push_groups-requires
push_groups-requires c =
    let written : c.push_digits.new.out.items ≡ encode_lower (take c.args.first c.args.bytes.now) = grind (arith, common_steps, c.split_at.ensures.front) in
    let front = length-encode_with lower_digits (take c.args.first c.args.bytes.now) in
    omega (arith, ap length written, front, length-take c.args.first c.args.bytes.now, c.split_at.ensures.back_len, c.if-total.false, c.requires.inside)

pub from_utf8-requires : goal.from_utf8-requires
from_utf8-requires c =
    let whole : c.push_groups.new.out.items ≡ separated c.args.separator (take c.args.first c.args.bytes.now ∷ groups_of c.args.size c.args.count (drop c.args.first c.args.bytes.now)) =
    grind (arith, common_steps, c.split_at.ensures.front, c.split_at.ensures.back) in
    subst IsUtf8 (sym whole) (text_utf8 c.args.separator (take c.args.first c.args.bytes.now ∷ groups_of c.args.size c.args.count (drop c.args.first c.args.bytes.now)) c.requires.ascii)
