-- If the number of parts is limited, the number of cuts is limited to one less.
use Rattle.std.proofs.Common.{◌≡◌, ℕ, zero, suc, ◌+◌, ◌-◌, ◌^◌, ◌<◌, ◌≤◌, List, [], ◌∷◌, length, take, Decides, refl, ap, ◌∙◌, arith, add-one, take_all}
use Rattle.std.proofs.Common.{ℤ, pos, negsuc}
use Rattle.std.proofs.lemmas.Bool.{and_from, and_parts, le-leb, leb-true}
use Rattle.bstr.specs.Text.{part, split_at, rsplit_at, splitn_at, rsplitn_at}
use Rattle.memchr.specs.Find.{OccursAt}
use Rattle.memchr.proofs.lemmas.MatchLemmas.{OccursAt-true, occurs_at-true}
use Rattle.bstr.proofs.lemmas.LengthLemmas.{length-all_matches, length-all_rmatches}
use Rattle.pybuf_search.specs.Matches.{matches_from_left, matches_from_right}
use Rattle.pybuf_search.specs.Parts.{cuts, parts_allowed}
use Rattle.pybuf_search.specs.Ends.{ends_with}

pub Decides-ends_with : (bytes suffix : List ℕ) → Decides (ends_with bytes suffix) ((length suffix ≤ length bytes) × OccursAt bytes suffix (length bytes - length suffix))
Decides-ends_with bytes suffix = (
  λ e. let both = and_parts _ _ e in (leb-true _ _ both.0, OccursAt-true bytes suffix (length bytes - length suffix) both.1),
  λ h. and_from _ _ (le-leb _ _ h.0) (occurs_at-true bytes suffix (length bytes - length suffix) h.1),
)

module _ (bytes : List ℕ) (m : ℕ) where
  splitn_is : (n last : ℕ) (places : List ℕ) → splitn_at bytes m last places (suc n) ≡ split_at bytes m last (take n places)
  unfolding splitn_at split_at
  splitn_is zero last [] = refl
  splitn_is (suc n) last [] = refl
  splitn_is zero last (place ∷ places) = refl
  splitn_is (suc n) last (place ∷ places) = ap (λ later. part last place bytes ∷ later) (splitn_is n (place + m) places)

  rsplitn_is : (n last : ℕ) (places : List ℕ) → rsplitn_at bytes m last places (suc n) ≡ rsplit_at bytes m last (take n places)
  unfolding rsplitn_at rsplit_at
  rsplitn_is zero last [] = refl
  rsplitn_is (suc n) last [] = refl
  rsplitn_is zero last (place ∷ places) = refl
  rsplitn_is (suc n) last (place ∷ places) = ap (λ later. part (place + m) last bytes ∷ later) (rsplitn_is n place places)

  -- as many parts as are allowed, if the number of matches is a machine word
  parts-allowed : (most : ℤ) (last : ℕ) (places : List ℕ) → length places ≤ 2 ^ 64 - 2 → splitn_at bytes m last places (parts_allowed most) ≡ split_at bytes m last (cuts most places)
  parts-allowed (pos n) last places few = ap (splitn_at bytes m last places) (add-one n) ∙ splitn_is n last places
  parts-allowed (negsuc n) last places few = splitn_is (2 ^ 64 - 2) last places ∙ ap (split_at bytes m last) (take_all (2 ^ 64 - 2) places few)

  rparts-allowed : (most : ℤ) (last : ℕ) (places : List ℕ) → length places ≤ 2 ^ 64 - 2 → rsplitn_at bytes m last places (parts_allowed most) ≡ rsplit_at bytes m last (cuts most places)
  rparts-allowed (pos n) last places few = ap (rsplitn_at bytes m last places) (add-one n) ∙ rsplitn_is n last places
  rparts-allowed (negsuc n) last places few = rsplitn_is (2 ^ 64 - 2) last places ∙ ap (rsplit_at bytes m last) (take_all (2 ^ 64 - 2) places few)

pub split-allowed : (most : ℤ) (separator bytes : List ℕ) → length bytes < 2 ^ 63
    → splitn_at bytes (length separator) 0 (matches_from_left bytes separator) (parts_allowed most) ≡ split_at bytes (length separator) 0 (cuts most (matches_from_left bytes separator))
split-allowed most separator bytes small =
    parts-allowed bytes (length separator) most 0 (matches_from_left bytes separator) (omega (arith, length-all_matches bytes separator))

pub rsplit-allowed : (most : ℤ) (separator bytes : List ℕ) → length bytes < 2 ^ 63
    → rsplitn_at bytes (length separator) (length bytes) (matches_from_right bytes separator) (parts_allowed most) ≡ rsplit_at bytes (length separator) (length bytes) (cuts most (matches_from_right bytes separator))
rsplit-allowed most separator bytes small =
    rparts-allowed bytes (length separator) most (length bytes) (matches_from_right bytes separator) (omega (arith, length-all_rmatches bytes separator))
