use Rattle.std.proofs.Common.{◌≡◌, ◌<◌, ◌^◌, length, take, subst, sym, ap, ◌∙◌, arith, w64}
use Rattle.std.proofs.lemmas.Int.{to_z-of_z}
use Rattle.std.proofs.lemmas.Bool.Decides.{nat_tests}
use Rattle.bstr.specs.Text.{replaced_at}
use Rattle.pybuf_value.specs.Halting.{Gives}
use Rattle.pybuf_value.specs.Texts.{fitted}
use Rattle.pybuf_search.specs.Matches.{matches_from_left}
use Rattle.pybuf_shaping.specs.Replacing.{limit_of, replaced}
use Rattle.pybuf_shaping.proofs.ReplaceLemmas.{replaced-is, no_longer}
use Rattle.pybuf_shaping.proofs.replacing.replacement.Goals as goal

pub returns-then-new-old : goal.returns-then-new-old
returns-then-new-old c =
    let small : length c.args.bytes.now < 2 ^ 63 = omega arith in
    let limit = c.limit_of-limit.ensures ∙ ap limit_of (to_z-of_z w64 c.args.most c.ranges.most) in
    let same : replaced c.args.most c.args.old.now c.args.new.now c.args.bytes.now ≡ c.in_ok-list.list =
    replaced-is c.args.most c.args.old.now c.args.new.now c.args.bytes.now small
    ∙ (ap (λ n. replaced_at c.args.bytes.now (length c.args.old.now) c.args.new.now 0 (take n (matches_from_left c.args.bytes.now c.args.old.now))) (sym limit)
    ∙ sym c.in_ok-list.ensures) in
    let less = no_longer c.limit_of-limit.result c.args.old.now c.args.new.now c.args.bytes.now c.if-new-old.true in
    let fits : length c.in_ok-list.list < 2 ^ 63 = omega (arith, less, small, ap length c.in_ok-list.ensures) in
    ap fitted same ∙ grind (arith, nat_tests, fits)

pub returns : goal.returns
returns c =
    let small : length c.args.bytes.now < 2 ^ 63 = omega arith in
    let limit = c.limit_of-limit.ensures ∙ ap limit_of (to_z-of_z w64 c.args.most c.ranges.most) in
    let same =
    ap (λ n. replaced_at c.args.bytes.now (length c.args.old.now) c.args.new.now 0 (take n (matches_from_left c.args.bytes.now c.args.old.now))) limit
    ∙ sym (replaced-is c.args.most c.args.old.now c.args.new.now c.args.bytes.now small) in
    subst (λ text. Gives (fitted text) c.replaced_by_more.result) same c.replaced_by_more.ensures
