use Rattle.std.proofs.Common.{◌≡◌, sym, subst, arith}
use Rattle.std.specs.Str.{IsUtf8}
use Rattle.std.proofs.lemmas.Grind.{common_steps}
use Rattle.std.proofs.lemmas.Bool.Decides.{nat_tests}
use Rattle.hex.specs.Hex.{encode_lower, lower_digits}
use Rattle.hex.proofs.HexLemmas.{length-encode_with}
use Rattle.pybuf_shaping.proofs.GroupLemmas.{digits_utf8}
use Rattle.pybuf_shaping.proofs.digits.plain_text.Goals as goal

pub returns-then-bytes : goal.returns-then-bytes
returns-then-bytes c =
    let long = length-encode_with lower_digits c.args.bytes.now in
    grind (arith, nat_tests, long, c.if-bytes.true)

pub from_utf8-requires : goal.from_utf8-requires
from_utf8-requires c =
    let written : c.push_digits.new.out.items ≡ encode_lower c.args.bytes.now = grind (arith, common_steps) in
    subst IsUtf8 (sym written) (digits_utf8 c.args.bytes.now)
