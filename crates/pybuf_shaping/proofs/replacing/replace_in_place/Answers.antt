use Rattle.std.proofs.Common.{◌≡◌, ◌<◌, ◌^◌, length, take, subst, sym, ap, ◌∙◌, arith}
use Rattle.std.specs.Prelude.{IfOk}
use Rattle.bstr.specs.Text.{replaced_at}
use Rattle.pybuf_search.specs.Matches.{matches_from_left}
use Rattle.pybuf_shaping.specs.Replacing.{limit_given}
use Rattle.pybuf_shaping.proofs.ReplaceLemmas.{replaced-is}
use Rattle.pybuf_shaping.proofs.replacing.replace_in_place.Goals as goal

pub returns : goal.returns
returns c =
    let small : length c.args.bytes.now < 2 ^ 63 = omega arith in
    let same =
    ap (λ n. replaced_at c.args.bytes.now (length c.args.old.now) c.args.new.now 0 (take n (matches_from_left c.args.bytes.now c.args.old.now))) c.limit_given.ensures
    ∙ sym (replaced-is (limit_given c.args.most) c.args.old.now c.args.new.now c.args.bytes.now small) in
    subst (λ wanted. IfOk c.replaced_by_less.result (λ list. list ≡ wanted)) same c.replaced_by_less.ensures
