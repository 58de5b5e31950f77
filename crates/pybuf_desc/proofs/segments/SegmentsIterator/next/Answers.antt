use Rattle.std.proofs.Common.{rules, ◌≡◌, ◌<◌, ◌-◌, pos, ◌+ℤ◌, ◌≤ℤ◌, SFits, w64, to_z, of_z, sym, ap, ◌∙◌, subst, pos_of_ne-zero, true}
use Rattle.std.proofs.lemmas.Int.{to_z-of_z}
use Rattle.pybuf_desc.specs.Segments.{rows_left}
use Rattle.pybuf_desc.proofs.WalkLemmas.{within_row, row_begun}
use Rattle.pybuf_desc.proofs.segments.SegmentsIterator.next.Goals as goal

pub next_place-self-inside-requires-clause-next_low : goal.next_place-self-inside-requires-clause-next_low
next_place-self-inside-requires-clause-next_low c =
    let st : SFits w64 c.self.inside.stride = search rules in
    let same : to_z w64 (of_z w64 c.self.inside.stride) ≡ c.self.inside.stride = to_z-of_z w64 c.self.inside.stride st in
    let more : c.self.inside.has_row ≡ true = search rules in
    let b = row_begun c.self.inside.rows.now c.self.inside.indices c.self.inside.row_place c.self.inside.has_row c.self.inside.place c.self.inside.stride c.self.inside.left c.self.inside.row_len c.self.inside.size
    (rows_left c.self.inside.rows.now c.next_row-next.new.indices c.next_row-next.result.0 c.next_row-next.result.1) c.if-self-eq0.true more c.next_row-next.ensures.left c.self.invariant in
    λ h. subst (λ z. pos 0 ≤ℤ (pos c.self.inside.row_place +ℤ z)) (sym same) (b.next_low h)

pub next_place-self-inside-requires-clause-next_high : goal.next_place-self-inside-requires-clause-next_high
next_place-self-inside-requires-clause-next_high c =
    let st : SFits w64 c.self.inside.stride = search rules in
    let same : to_z w64 (of_z w64 c.self.inside.stride) ≡ c.self.inside.stride = to_z-of_z w64 c.self.inside.stride st in
    let more : c.self.inside.has_row ≡ true = search rules in
    let b = row_begun c.self.inside.rows.now c.self.inside.indices c.self.inside.row_place c.self.inside.has_row c.self.inside.place c.self.inside.stride c.self.inside.left c.self.inside.row_len c.self.inside.size
    (rows_left c.self.inside.rows.now c.next_row-next.new.indices c.next_row-next.result.0 c.next_row-next.result.1) c.if-self-eq0.true more c.next_row-next.ensures.left c.self.invariant in
    λ h. subst (λ z. (pos c.self.inside.row_place +ℤ z) ≤ℤ pos 9223372036854775807) (sym same) (b.next_high h)

pub invariant_of-self : goal.invariant_of-self
invariant_of-self c =
    let st : SFits w64 c.self.inside.stride = search rules in
    let same : to_z w64 (of_z w64 c.self.inside.stride) ≡ c.self.inside.stride = to_z-of_z w64 c.self.inside.stride st in
    let more : c.self.inside.has_row ≡ true = search rules in
    let next : 0 < c.self.inside.row_len - 1 → pos c.next_place-self-inside.result ≡ pos c.self.inside.row_place +ℤ c.self.inside.stride = λ h. c.next_place-self-inside.ensures h ∙ ap (λ z. pos c.self.inside.row_place +ℤ z) same in
    let b = row_begun c.self.inside.rows.now c.self.inside.indices c.self.inside.row_place c.self.inside.has_row c.self.inside.place c.self.inside.stride c.self.inside.left c.self.inside.row_len c.self.inside.size
    (rows_left c.self.inside.rows.now c.next_row-next.new.indices c.next_row-next.result.0 c.next_row-next.result.1) c.if-self-eq0.true more c.next_row-next.ensures.left c.self.invariant in
    record {
      row = λ _. c.next_row-next.ensures.row;
      row_some = λ _. c.self.invariant.row_some more;
      inside = b.inside c.next_place-self-inside.result next;
    }

pub next_place-self-inside-requires-2-clause-next_low : goal.next_place-self-inside-requires-2-clause-next_low
next_place-self-inside-requires-2-clause-next_low c =
    let st : SFits w64 c.self.inside.stride = search rules in
    let same : to_z w64 (of_z w64 c.self.inside.stride) ≡ c.self.inside.stride = to_z-of_z w64 c.self.inside.stride st in
    let t = within_row c.self.inside.rows.now c.self.inside.indices c.self.inside.row_place c.self.inside.has_row c.self.inside.place c.self.inside.stride c.self.inside.left c.self.inside.row_len c.self.inside.size (pos_of_ne-zero c.if-self-eq0.false) c.self.invariant in
    λ h. subst (λ z. pos 0 ≤ℤ (pos c.self.inside.place +ℤ z)) (sym same) (t.next_low h)

pub next_place-self-inside-requires-2-clause-next_high : goal.next_place-self-inside-requires-2-clause-next_high
next_place-self-inside-requires-2-clause-next_high c =
    let st : SFits w64 c.self.inside.stride = search rules in
    let same : to_z w64 (of_z w64 c.self.inside.stride) ≡ c.self.inside.stride = to_z-of_z w64 c.self.inside.stride st in
    let t = within_row c.self.inside.rows.now c.self.inside.indices c.self.inside.row_place c.self.inside.has_row c.self.inside.place c.self.inside.stride c.self.inside.left c.self.inside.row_len c.self.inside.size (pos_of_ne-zero c.if-self-eq0.false) c.self.invariant in
    λ h. subst (λ z. (pos c.self.inside.place +ℤ z) ≤ℤ pos 9223372036854775807) (sym same) (t.next_high h)
