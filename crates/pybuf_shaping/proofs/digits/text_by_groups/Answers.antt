use Rattle.std.proofs.Common.{◌≡◌, subst, ap, sym, ◌∙◌, to_z-of_z, nat_abs, pos, false}
use Rattle.std.specs.Int.Signed.{lt_z}
use Rattle.pybuf_value.specs.Halting.{Gives}
use Rattle.pybuf_shaping.proofs.GroupLemmas.{from_left_text}
use Rattle.pybuf_shaping.proofs.digits.text_by_groups.Goals as goal

pub returns-else-size-gt0 : goal.returns-else-size-gt0
returns-else-size-gt0 c =
    let same = to_z-of_z c.ranges.size in
    subst (λ text. Gives text c.separated_text-else-size-gt0.result)
    (from_left_text c.args.separator.now c.in_ok-byte.byte c.unsigned_abs-width.result c.min.result c.args.size c.args.bytes.now
    c.requires.some_size (subst (λ z. lt_z (pos 0) z ≡ false) same c.if-size-gt0.false) (c.unsigned_abs-width.ensures.value ∙ ap nat_abs same) c.min.ensures (sym c.separator_in.ensures ∙ c.in_ok-byte.was))
    c.separated_text-else-size-gt0.ensures
