use Rattle.std.proofs.Common.{◌≡◌, ℕ, length, List, subst, arith}
use Rattle.std.specs.List.{range_with_len}
use Rattle.golden_nd.proofs.Sorted.{axes_so}
use Rattle.golden_nd.proofs.orders.are_axes.Goals as goal

pub returns : goal.returns
returns c = λ yes.
    let same : c.into_vec-sorted.result.items ≡ c.args.numbers.now = grind (arith, c.into_vec-sorted.ensures, c.in_ok-from_slice.ensures) in
    let long : length c.into_vec-sorted.result.items ≡ c.args.count = omega (arith, c.len.ensures, c.if-len-count.false) in
    let longs : length c.sort_unstable.new.self.items ≡ length c.into_vec-sorted.result.items = omega (arith, c.sort_unstable.ensures.len, c.sort_unstable.new.self.ok, c.into_vec-sorted.result.ok) in
    axes_so c.args.numbers.now c.into_vec-sorted.result.items c.sort_unstable.new.self.items c.args.count same long c.sort_unstable.ensures.permutation longs
    (subst (λ (xs : List ℕ). xs ≡ range_with_len 0 (length xs)) c.as_slice.ensures.value (c.are_their_places.ensures yes))
