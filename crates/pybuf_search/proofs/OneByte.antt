-- The matches of one byte are the places of that byte.
use Rattle.std.proofs.Common.{Bool, true, false, drop, count_by, ◌≡◌, ℕ, zero, suc, ◌+◌, ◌-◌, ◌<◌, List, [], ◌∷◌, length, slice_index, Decides, sym, ap, ◌∙◌, arith, ⊎_elim, eq-eqb, eqb-true, cond}
use Rattle.std.proofs.lemmas.List.{drop_all}
use Rattle.std.proofs.lemmas.List.Sums.{sum_by-drop_more}
use Rattle.std.proofs.lemmas.Bool.{cases_Bool, cond-false}
use Rattle.std.proofs.lemmas.Bool.Decides.{same_from_decides}
use Rattle.memchr.specs.Find.{OccursAt, occurs_at, is_byte, places_from, places, matches_from, matches}
use Rattle.pybuf_search.specs.Places.{number_of_matches}
use Rattle.pybuf_search.proofs.MatchLaws.{Decides-occurs_at}

-- A single byte stands at a place if that place has this byte.
stands_by : (bytes : List ℕ) (b i : ℕ) → i < length bytes → slice_index bytes i ≡ b → OccursAt bytes (b ∷ []) i
stands_by bytes b i inside same = record {
  fits = omega arith;
  reads = λ j l. let first : j ≡ 0 = omega arith in let at : i + 0 ≡ i = omega arith in rw first (ap (slice_index bytes) at ∙ same);
}

byte_by : (bytes : List ℕ) (b i : ℕ) → OccursAt bytes (b ∷ []) i → slice_index bytes i ≡ b
byte_by bytes b i stands = let at : i ≡ i + 0 = omega arith in ap (slice_index bytes) at ∙ stands.reads 0 (omega arith)

Decides-is_byte : (bytes : List ℕ) (b i : ℕ) → i < length bytes → Decides (is_byte b (slice_index bytes i)) (OccursAt bytes (b ∷ []) i)
Decides-is_byte bytes b i inside = (
  λ e. stands_by bytes b i inside (eqb-true _ _ e),
  λ stands. eq-eqb _ _ (byte_by bytes b i stands),
)

module _ (bytes : List ℕ) (b : ℕ) where
  tested : (i : ℕ) → i < length bytes → occurs_at bytes (b ∷ []) i ≡ is_byte b (slice_index bytes i)
  tested i inside = same_from_decides _ _ (Decides-occurs_at bytes (b ∷ []) i) (Decides-is_byte bytes b i inside)

  one_from : (n i : ℕ) → i + n ≡ length bytes → matches_from bytes (b ∷ []) 0 i (suc n) ≡ places_from (is_byte b) bytes i n
  unfolding matches_from places_from
  one_from zero i fit = ⊎_elim
      (λ yes. let stands = (Decides-occurs_at bytes (b ∷ []) i).0 yes in let fits = stands.fits in absurd (omega arith))
      (λ no. cond-false _ _ _ no)
      (cases_Bool (occurs_at bytes (b ∷ []) i))
  one_from (suc n) i fit =
      let later = places_from (is_byte b) bytes (i + 1) n in
      ap (λ l. cond (occurs_at bytes (b ∷ []) i) (i ∷ l) l) (one_from n (i + 1) (omega arith))
      ∙ ap (λ t. cond t (i ∷ later) later) (tested i (omega arith))

  matches-one : matches bytes (b ∷ []) 0 ≡ places (is_byte b) bytes
  matches-one =
      let whole : length bytes + 1 - 0 ≡ suc (length bytes) = omega arith in
      let same : length bytes ≡ length bytes - 0 = omega arith in
      ap (matches_from bytes (b ∷ []) 0 0) whole ∙ one_from (length bytes) 0 (omega arith) ∙ ap (places_from (is_byte b) bytes 0) same

  -- there are as many places as there are bytes of the one
  one_place : (test : Bool) (i : ℕ) (later : List ℕ) → length (cond test (i ∷ later) later) ≡ cond test 1 0 + length later
  one_place true i later = omega arith
  one_place false i later = omega arith

  counted_from : (n i : ℕ) → i + n ≡ length bytes → length (places_from (is_byte b) bytes i n) ≡ count_by (is_byte b) (drop i bytes)
  unfolding places_from
  counted_from zero i fit = sym (ap (count_by (is_byte b)) (drop_all i bytes (omega arith)))
  counted_from (suc n) i fit =
      let test = is_byte b (slice_index bytes i) in
      one_place test i (places_from (is_byte b) bytes (i + 1) n)
      ∙ ap (λ count. cond test 1 0 + count) (counted_from n (i + 1) (omega arith))
      ∙ sym (sum_by-drop_more (λ x. cond (is_byte b x) 1 0) bytes i 0 (omega arith))

  matches-counted : length (matches bytes (b ∷ []) 0) ≡ count_by (is_byte b) bytes
  matches-counted =
      let whole : length bytes - 0 ≡ length bytes = omega arith in
      ap length matches-one ∙ ap (λ n. length (places_from (is_byte b) bytes 0 n)) whole ∙ counted_from (length bytes) 0 (omega arith)

pub counted_by_byte : (bytes needle : List ℕ) (b count : ℕ) → length needle ≡ 1 → b ≡ slice_index needle 0 → count ≡ count_by (is_byte b) bytes → count ≡ number_of_matches bytes needle
counted_by_byte bytes [] b count one is counted = absurd (omega arith)
counted_by_byte bytes (first ∷ []) b count one is counted = counted ∙ ap (λ k. count_by (is_byte k) bytes) is ∙ sym (matches-counted bytes first)
counted_by_byte bytes (first ∷ second ∷ more) b count one is counted = absurd (omega arith)
