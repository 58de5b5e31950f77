use Rattle.std.proofs.Common.{subst, to_z-of_z}
use Rattle.std.specs.Option.{option_copied}
use Rattle.pybuf_value.specs.Halting.{Gives}
use Rattle.pybuf_shaping.specs.Digits.{hex_text}
use Rattle.pybuf_shaping.proofs.digits.hex_text.Goals as goal

pub returns : goal.returns
returns c =
    c.tried.ensures (hex_text (option_copied c.args.separator) c.args.size c.args.bytes.now)
    (subst (λ n. Gives (hex_text (option_copied c.args.separator) n c.args.bytes.now) c.text_of.result) (to_z-of_z c.ranges.size) c.text_of.ensures)
