-- The searches give lists of matches that are the least and the greatest places, one after another.
use Rattle.std.proofs.Common.{◌≡◌, ℕ, zero, suc, ◌+◌, ◌-◌, ◌≤◌, List, [], ◌∷◌, length, Decides, subst, sym, arith, le_refl, ⊎_elim, ◌∙◌}
use Rattle.std.proofs.lemmas.Bool.{cases_Bool, cases_eq, cases_lt, cond-true, cond-false, false≢true}
use Rattle.memchr.specs.Find.{OccursAt, occurs_at, match_len, matches_from, rmatches_from}
use Rattle.memchr.proofs.lemmas.MatchLemmas.{OccursAt-true, occurs_at-true}
use Rattle.pybuf_search.specs.Matches.{matches_from_left, matches_from_right}
use Rattle.pybuf_search.specs.Laws.{AreFromLeft, AreFromRight}

pub Decides-occurs_at : (bytes needle : List ℕ) (k : ℕ) → Decides (occurs_at bytes needle k) (OccursAt bytes needle k)
Decides-occurs_at bytes needle k = (OccursAt-true bytes needle k, occurs_at-true bytes needle k)

module _ (bytes needle : List ℕ) where
  -- The search begins one place earlier, and the needle doesn't stand there.
  earlier : (from : ℕ) (places : List ℕ) → ¬ OccursAt bytes needle from → AreFromLeft bytes needle (from + 1) places → AreFromLeft bytes needle from places
  unfolding AreFromLeft
  earlier from [] none h = λ k low. ⊎_elim (λ e. subst (λ p. ¬ OccursAt bytes needle p) (sym e) none) (λ ne. h k (omega arith)) (cases_eq k from)
  earlier from (place ∷ places) none h =
      let first = h.0 in
      let reached = first.reached in (
        record {
          reached = omega arith;
          stands = first.stands;
          none_before = λ k low high. ⊎_elim (λ e. subst (λ p. ¬ OccursAt bytes needle p) (sym e) none) (λ ne. first.none_before k (omega arith) high) (cases_eq k from);
        },
        h.1,
      )

  from_left : (n skip i : ℕ) → i + n ≡ length bytes + 1 → AreFromLeft bytes needle (i + skip) (matches_from bytes needle skip i n)
  unfolding AreFromLeft matches_from
  from_left zero skip i fit = λ k low stands. let fits = stands.fits in absurd (omega arith)
  from_left (suc n) zero i fit =
      let here : i + 0 ≡ i = omega arith in
      subst (λ from. AreFromLeft bytes needle from (matches_from bytes needle 0 i (suc n))) (sym here) (⊎_elim
      (λ yes.
      let wide : i + 1 + (match_len needle - 1) ≡ i + match_len needle = omega arith in
      subst (λ l. AreFromLeft bytes needle i l) (sym (cond-true _ _ _ yes)) (
        record { reached = le_refl i; stands = OccursAt-true bytes needle i yes; none_before = λ k low high. absurd (omega arith) },
        subst (λ from. AreFromLeft bytes needle from (matches_from bytes needle (match_len needle - 1) (i + 1) n)) wide (from_left n (match_len needle - 1) (i + 1) (omega arith)),
      ))
      (λ no.
      let next : i + 1 + 0 ≡ i + 1 = omega arith in
      subst (λ l. AreFromLeft bytes needle i l) (sym (cond-false _ _ _ no))
      (earlier i (matches_from bytes needle 0 (i + 1) n) (λ stands. false≢true (sym no ∙ occurs_at-true bytes needle i stands))
      (subst (λ from. AreFromLeft bytes needle from (matches_from bytes needle 0 (i + 1) n)) next (from_left n 0 (i + 1) (omega arith)))))
      (cases_Bool (occurs_at bytes needle i)))
  from_left (suc n) (suc skip) i fit =
      let next : i + 1 + skip ≡ i + suc skip = omega arith in
      subst (λ from. AreFromLeft bytes needle from (matches_from bytes needle skip (i + 1) n)) next (from_left n skip (i + 1) (omega arith))

  pub matches-least : AreFromLeft bytes needle 0 (matches_from_left bytes needle)
  matches-least =
      let zeros : 0 + 0 ≡ 0 = omega arith in
      subst (λ from. AreFromLeft bytes needle from (matches_from_left bytes needle)) zeros (from_left (length bytes + 1 - 0) 0 0 (omega arith))

  -- The search ends later, and the needle stands nowhere from the old end on.
  later : (end end' : ℕ) (places : List ℕ) → end ≤ end' → ((k : ℕ) → end ≤ k → ¬ OccursAt bytes needle k) → AreFromRight bytes needle end places → AreFromRight bytes needle end' places
  unfolding AreFromRight
  later end end' [] le none h = λ k below. ⊎_elim (λ low. h k low) (λ high. none k high) (cases_lt k end)
  later end end' (place ∷ places) le none h =
      let first = h.0 in
      let below = first.below in (
        record {
          below = omega arith;
          stands = first.stands;
          none_after = λ k low high. ⊎_elim (λ under. first.none_after k low under) (λ over. none k over) (cases_lt k end);
        },
        h.1,
      )

  -- the same for an end that is one place later
  one_later : (end : ℕ) (places : List ℕ) → ¬ OccursAt bytes needle end → AreFromRight bytes needle end places → AreFromRight bytes needle (suc end) places
  unfolding AreFromRight
  one_later end [] none h = λ k below. ⊎_elim (λ e. subst (λ p. ¬ OccursAt bytes needle p) (sym e) none) (λ ne. h k (omega arith)) (cases_eq k end)
  one_later end (place ∷ places) none h =
      let first = h.0 in
      let below = first.below in (
        record {
          below = omega arith;
          stands = first.stands;
          none_after = λ k low high. ⊎_elim (λ e. subst (λ p. ¬ OccursAt bytes needle p) (sym e) none) (λ ne. first.none_after k low (omega arith)) (cases_eq k end);
        },
        h.1,
      )

  from_right : (n skip : ℕ) → AreFromRight bytes needle (n - skip) (rmatches_from bytes needle skip n)
  unfolding AreFromRight rmatches_from
  from_right zero skip = λ k below. absurd (omega arith)
  from_right (suc n) zero =
      let here : suc n - 0 ≡ suc n = omega arith in
      subst (λ end. AreFromRight bytes needle end (rmatches_from bytes needle 0 (suc n))) (sym here) (⊎_elim
      (λ yes.
      let wide : n - (match_len needle - 1) ≡ n + 1 - match_len needle = omega arith in
      subst (λ l. AreFromRight bytes needle (suc n) l) (sym (cond-true _ _ _ yes)) (
        record { below = omega arith; stands = OccursAt-true bytes needle n yes; none_after = λ k low high. absurd (omega arith) },
        subst (λ end. AreFromRight bytes needle end (rmatches_from bytes needle (match_len needle - 1) n)) wide (from_right n (match_len needle - 1)),
      ))
      (λ no.
      let next : n - 0 ≡ n = omega arith in
      subst (λ l. AreFromRight bytes needle (suc n) l) (sym (cond-false _ _ _ no))
      (one_later n (rmatches_from bytes needle 0 n) (λ stands. false≢true (sym no ∙ occurs_at-true bytes needle n stands))
      (subst (λ end. AreFromRight bytes needle end (rmatches_from bytes needle 0 n)) next (from_right n 0))))
      (cases_Bool (occurs_at bytes needle n)))
  from_right (suc n) (suc skip) =
      let next : n - skip ≡ suc n - suc skip = omega arith in
      subst (λ end. AreFromRight bytes needle end (rmatches_from bytes needle skip n)) next (from_right n skip)

  pub matches-greatest : AreFromRight bytes needle (length bytes + 1) (matches_from_right bytes needle)
  matches-greatest =
      let top = length bytes + 1 - length needle in
      later (top - 0) (length bytes + 1) (matches_from_right bytes needle) (omega arith)
      (λ k over stands. let fits = stands.fits in absurd (omega arith))
      (from_right top 0)
