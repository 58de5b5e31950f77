use Rattle.std.proofs.Common.{◌≡◌, subst}
use Rattle.std.specs.Prelude.{IfOk}
use Rattle.pybuf_value.specs.Halting.{outcome_of}
use Rattle.pybuf_shaping.specs.Digits.{bytes_of_hex}
use Rattle.pybuf_methods.proofs.Stops.{gives}
use Rattle.pybuf_methods.proofs.shaped.bytes_of_digits.Goals as goal

pub returns : goal.returns
returns c =
    gives _ _ (bytes_of_hex c.args.text.now)
    (subst (λ text. IfOk c.bytes_of_hex.result (λ outcome. outcome ≡ outcome_of (bytes_of_hex text))) c.as_slice.ensures c.bytes_of_hex.ensures)
    c.done.ensures.ok c.done.ensures.stopped
