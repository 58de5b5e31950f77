use Rattle.std.proofs.Common.{◌≡◌, subst, w64}
use Rattle.std.specs.Option.{option_copied}
use Rattle.std.specs.Prelude.{IfOk}
use Rattle.std.proofs.lemmas.Int.{to_z-of_z}
use Rattle.pybuf_value.specs.Halting.{outcome_of}
use Rattle.pybuf_shaping.specs.Digits.{hex_text}
use Rattle.pybuf_methods.proofs.Stops.{gives}
use Rattle.pybuf_methods.proofs.shaped.digits_of.Goals as goal

pub returns : goal.returns
returns c =
    gives _ _ (hex_text (option_copied c.args.separator) c.args.size c.args.bytes.now)
    (subst (λ size. IfOk c.hex_text.result (λ outcome. outcome ≡ outcome_of (hex_text (option_copied c.args.separator) size c.args.bytes.now))) (to_z-of_z w64 c.args.size c.ranges.size) c.hex_text.ensures)
    c.done.ensures.ok c.done.ensures.stopped
