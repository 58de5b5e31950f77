use Rattle.std.proofs.Common.{rules, arith, ◌≡◌, ◌+◌, ◌*◌, ◌<◌, ◌≤◌, ◌^◌, pos, ℕ, ℤ, List, SFits, w64, to_z, of_z, length, map, drop, ap, sym, ◌∙◌, subst}
use Rattle.std.specs.Prelude.{nat_abs}
use Rattle.std.proofs.lemmas.Int.{to_z-of_z}
use Rattle.pybuf_desc.specs.Places.{places}
use Rattle.pybuf_verbs_writes.specs.Laid.{laid}
use Rattle.pybuf_nd.proofs.LaidItems.{Inside, first_dim, other_dims, others_entered, fewer_dims, one_row, one_row_count, begun, this_inside, this_fits, that_low, that_high, enough_here, stepped, all_laid, all_counted}
use Rattle.pybuf_nd.proofs.laying.+lay_dims.Goals as goal

pub lay_row-requires-in-len1-clause-inside : goal.lay_row-requires-in-len1-clause-inside
lay_row-requires-in-len1-clause-inside t c =
    let f : SFits w64 (first_dim c.args.dims.now).1 = search rules in
    let same : to_z w64 (of_z w64 (first_dim c.args.dims.now).1) ≡ (first_dim c.args.dims.now).1 = to_z-of_z w64 (first_dim c.args.dims.now).1 f in
    subst (Inside c.args.size (length c.args.bytes.now)) (one_row c.args.dims.now (pos c.args.start) (to_z w64 (of_z w64 (first_dim c.args.dims.now).1)) c.in-len1.len_at_least c.in-len1.len_below same) c.requires.inside

pub lay_row-requires-in-len1-clause-enough : goal.lay_row-requires-in-len1-clause-enough
lay_row-requires-in-len1-clause-enough t c =
    let f : SFits w64 (first_dim c.args.dims.now).1 = search rules in
    let same : to_z w64 (of_z w64 (first_dim c.args.dims.now).1) ≡ (first_dim c.args.dims.now).1 = to_z-of_z w64 (first_dim c.args.dims.now).1 f in
    subst (λ (n : ℕ). c.args.from + n * c.args.size ≤ length c.args.content.now) (one_row_count c.args.dims.now (pos c.args.start) (to_z w64 (of_z w64 (first_dim c.args.dims.now).1)) c.in-len1.len_at_least c.in-len1.len_below same) c.requires.enough

pub loop-left-init : goal.loop-left-init
loop-left-init t c =
    let f : SFits w64 (first_dim c.args.dims.now).1 = search rules in
    let same : to_z w64 (of_z w64 (first_dim c.args.dims.now).1) ≡ (first_dim c.args.dims.now).1 = to_z-of_z w64 (first_dim c.args.dims.now).1 f in
    let many : 1 ≤ length c.args.dims.now = omega (arith, c.in-len1-up.len_at_least) in
    begun c.args.bytes.now c.args.dims.now c.args.start (to_z w64 (of_z w64 (first_dim c.args.dims.now).1)) c.args.size c.args.content.now c.args.from many same c.requires.inside

pub lay_dims-next-requires : goal.lay_dims-next-requires
lay_dims-next-requires t c =
    let f : SFits w64 (first_dim c.args.dims.now).1 = search rules in
    let same : to_z w64 (of_z w64 (first_dim c.args.dims.now).1) ≡ (first_dim c.args.dims.now).1 = to_z-of_z w64 (first_dim c.args.dims.now).1 f in
    let many : 1 ≤ length c.args.dims.now = omega (arith, c.in-len1-up.len_at_least) in
    let fewer = fewer_dims c.args.dims.now many in
    let here : Inside c.args.size (length c.loop-left.bytes) (places (other_dims c.args.dims.now) (pos c.loop-left.place)) =
    subst (λ (n : ℕ). Inside c.args.size n (places (other_dims c.args.dims.now) (pos c.loop-left.place))) (sym c.loop-left.invariant.long)
    (this_inside (other_dims c.args.dims.now) c.loop-left.place (to_z w64 (of_z w64 (first_dim c.args.dims.now).1)) c.loop-left.left c.args.size (length c.args.bytes.now) c.loop-left-test.true c.loop-left.invariant.inside) in
    let room : length c.loop-left.bytes < 2 ^ 63 = subst (λ (n : ℕ). n < 2 ^ 63) (sym c.loop-left.invariant.long) c.requires.room in
    let enough = enough_here c.loop-left.bytes c.args.bytes.now c.args.dims.now c.loop-left.place (to_z w64 (of_z w64 (first_dim c.args.dims.now).1)) c.loop-left.left c.args.start c.args.size c.args.content.now c.loop-left.next c.args.from many same c.loop-left-test.true c.loop-left.invariant c.requires.enough in
    (omega (arith, fewer, c.decreases), ((others_entered c.args.dims.now many c.requires.entries), (here, (room, enough))))

pub next_place-place-requires-clause-fits : goal.next_place-place-requires-clause-fits
next_place-place-requires-clause-fits t c =
    let many : 1 ≤ length c.args.dims.now = omega (arith, c.in-len1-up.len_at_least) in
    this_fits (other_dims c.args.dims.now) c.loop-left.place (to_z w64 (of_z w64 (first_dim c.args.dims.now).1)) c.loop-left.left c.args.size (length c.args.bytes.now) c.loop-left-test.true (others_entered c.args.dims.now many c.requires.entries) c.loop-left.invariant.inside c.requires.room

pub next_place-place-requires-clause-next_low : goal.next_place-place-requires-clause-next_low
next_place-place-requires-clause-next_low t c =
    let many : 1 ≤ length c.args.dims.now = omega (arith, c.in-len1-up.len_at_least) in
    that_low (other_dims c.args.dims.now) c.loop-left.place (to_z w64 (of_z w64 (first_dim c.args.dims.now).1)) c.loop-left.left c.args.size (length c.args.bytes.now) c.loop-left-test.true (others_entered c.args.dims.now many c.requires.entries) c.loop-left.invariant.inside

pub next_place-place-requires-clause-next_high : goal.next_place-place-requires-clause-next_high
next_place-place-requires-clause-next_high t c =
    let many : 1 ≤ length c.args.dims.now = omega (arith, c.in-len1-up.len_at_least) in
    that_high (other_dims c.args.dims.now) c.loop-left.place (to_z w64 (of_z w64 (first_dim c.args.dims.now).1)) c.loop-left.left c.args.size (length c.args.bytes.now) c.loop-left-test.true (others_entered c.args.dims.now many c.requires.entries) c.loop-left.invariant.inside c.requires.room

pub loop-left-preserved : goal.loop-left-preserved
loop-left-preserved t c =
    stepped c.loop-left.bytes c.lay_dims-next.new.bytes c.args.bytes.now (other_dims c.args.dims.now) c.loop-left.place c.next_place-place.result (to_z w64 (of_z w64 (first_dim c.args.dims.now).1)) c.loop-left.left (first_dim c.args.dims.now).0 c.args.start c.args.size c.args.content.now c.loop-left.next c.lay_dims-next.result c.args.from
    c.loop-left-test.true c.loop-left.invariant c.lay_dims-next.ensures.laid c.lay_dims-next.ensures.long c.lay_dims-next.ensures.next c.next_place-place.ensures

pub returns-in-len1-clause-laid : goal.returns-in-len1-clause-laid
returns-in-len1-clause-laid t c =
    let f : SFits w64 (first_dim c.args.dims.now).1 = search rules in
    let same : to_z w64 (of_z w64 (first_dim c.args.dims.now).1) ≡ (first_dim c.args.dims.now).1 = to_z-of_z w64 (first_dim c.args.dims.now).1 f in
    c.lay_row-in-len1.ensures.laid ∙ ap (λ (ps : List ℤ). laid c.args.bytes.now c.args.size (map nat_abs ps) (drop c.args.from c.args.content.now)) (sym (one_row c.args.dims.now (pos c.args.start) (to_z w64 (of_z w64 (first_dim c.args.dims.now).1)) c.in-len1.len_at_least c.in-len1.len_below same))

pub returns-in-len1-clause-next : goal.returns-in-len1-clause-next
returns-in-len1-clause-next t c =
    let f : SFits w64 (first_dim c.args.dims.now).1 = search rules in
    let same : to_z w64 (of_z w64 (first_dim c.args.dims.now).1) ≡ (first_dim c.args.dims.now).1 = to_z-of_z w64 (first_dim c.args.dims.now).1 f in
    c.lay_row-in-len1.ensures.next ∙ ap (λ (n : ℕ). c.args.from + n * c.args.size) (sym (one_row_count c.args.dims.now (pos c.args.start) (to_z w64 (of_z w64 (first_dim c.args.dims.now).1)) c.in-len1.len_at_least c.in-len1.len_below same))

pub returns-after-loop-left-clause-laid : goal.returns-after-loop-left-clause-laid
returns-after-loop-left-clause-laid t c =
    let f : SFits w64 (first_dim c.args.dims.now).1 = search rules in
    let same : to_z w64 (of_z w64 (first_dim c.args.dims.now).1) ≡ (first_dim c.args.dims.now).1 = to_z-of_z w64 (first_dim c.args.dims.now).1 f in
    let many : 1 ≤ length c.args.dims.now = omega (arith, c.in-len1-up.len_at_least) in
    all_laid c.loop-left.bytes c.args.bytes.now c.args.dims.now c.loop-left.place (to_z w64 (of_z w64 (first_dim c.args.dims.now).1)) c.loop-left.left c.args.start c.args.size c.args.content.now c.loop-left.next c.args.from many same (let none : c.loop-left.left ≡ 0 = omega arith in none) c.loop-left.invariant

pub returns-after-loop-left-clause-next : goal.returns-after-loop-left-clause-next
returns-after-loop-left-clause-next t c =
    let f : SFits w64 (first_dim c.args.dims.now).1 = search rules in
    let same : to_z w64 (of_z w64 (first_dim c.args.dims.now).1) ≡ (first_dim c.args.dims.now).1 = to_z-of_z w64 (first_dim c.args.dims.now).1 f in
    let many : 1 ≤ length c.args.dims.now = omega (arith, c.in-len1-up.len_at_least) in
    all_counted c.loop-left.bytes c.args.bytes.now c.args.dims.now c.loop-left.place (to_z w64 (of_z w64 (first_dim c.args.dims.now).1)) c.loop-left.left c.args.start c.args.size c.args.content.now c.loop-left.next c.args.from many same (let none : c.loop-left.left ≡ 0 = omega arith in none) c.loop-left.invariant
