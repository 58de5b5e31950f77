use Rattle.std.proofs.Common.{◌≡◌, ◌*◌, length, take, subst, ap, arith}
use Rattle.std.proofs.lemmas.Grind.{common_steps}
use Rattle.std.proofs.lemmas.Bool.Decides.{nat_tests}
use Rattle.bstr.specs.Text.{MatchList}
use Rattle.pybuf_search.specs.Matches.{matches_from_left}
use Rattle.pybuf_shaping.proofs.ReplaceLemmas.{length-of-replaced, places-fit}
use Rattle.pybuf_shaping.proofs.replacing.replaced_by_more.Goals as goal

pub overflow_sub-total : goal.overflow_sub-total
overflow_sub-total c =
    let count : c.len-count.result ≡ length (take c.args.limit (matches_from_left c.args.bytes.now c.args.old.now)) = grind (arith, common_steps) in
    omega (arith, length-of-replaced c.args.limit c.args.old.now c.args.new.now c.args.bytes.now, ap (λ n. n * length c.args.old.now) count, ap (λ n. n * length c.args.new.now) count)

pub returns-then-total : goal.returns-then-total
returns-then-total c =
    let count : c.len-count.result ≡ length (take c.args.limit (matches_from_left c.args.bytes.now c.args.old.now)) = grind (arith, common_steps) in
    let long = length-of-replaced c.args.limit c.args.old.now c.args.new.now c.args.bytes.now in
    grind (arith, nat_tests, long, ap (λ n. n * length c.args.old.now) count, ap (λ n. n * length c.args.new.now) count, c.if-total.true)

pub push_replaced-requires : goal.push_replaced-requires
push_replaced-requires c =
    let same : take c.args.limit (matches_from_left c.args.bytes.now c.args.old.now) ≡ c.as_slice.result.now = grind (arith, common_steps) in
    subst (MatchList c.args.bytes.now (length c.args.old.now) 0) same (places-fit c.args.limit c.args.old.now c.args.bytes.now)
