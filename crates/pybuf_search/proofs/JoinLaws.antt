-- The parts that a cut gives, joined by the separator, make up the bytes.
use Rattle.std.proofs.Common.{◌≡◌, ℕ, zero, suc, ◌+◌, ◌-◌, ◌<◌, ◌≤◌, Bool, true, ℤ, pos, negsuc, List, [], ◌∷◌, ◌++◌, length, take, drop, reverse, All, sym, ap, ◌∙◌, arith, le_refl, take_all, append_assoc, take-append-drop, drop-drop}
use Rattle.std.proofs.lemmas.List.{append-nil, take-take, drop-take, length-reverse, reverse-append}
use Rattle.std.proofs.lemmas.List.Concat.{flat_map-append}
use Rattle.std.proofs.lemmas.List.Elements.{All-head, All-tail}
use Rattle.std.specs.List.{flat_map, concat}
use Rattle.memchr.specs.Find.{OccursAt, first_of, matches, rmatches}
use Rattle.memchr.proofs.lemmas.MatchLemmas.{OccursAt-part, OccursAt-split}
use Rattle.memchr.proofs.lemmas.CallerLemmas.{All-matches, All-rmatches}
use Rattle.bstr.specs.Owned.{joined}
use Rattle.bstr.specs.Text.{part, split_at, rsplit_at, MatchList, RMatchList}
use Rattle.bstr.proofs.lemmas.MatchListLemmas.{matches-list, rmatches-list}
use Rattle.bstr.proofs.lemmas.LengthLemmas.{length-rsplit_at}
use Rattle.pybuf_search.specs.Parts.{split_parts, rsplit_parts, around, around_last, middle, partition_parts, rpartition_parts}

-- a front that is cut in two
take-parts : {X : Type 0} (i j : ℕ) (xs : List X) → i ≤ j → j ≤ length xs → take i xs ++ take (j - i) (drop i xs) ≡ take j xs
take-parts i j xs le fits =
    let shorter : take i (take j xs) ≡ take i xs = take-take i j xs le in
    let back : i + (j - i) ≡ j = omega arith in
    let rest : drop i (take j xs) ≡ take (j - i) (drop i xs) = ap (λ n. drop i (take n xs)) (sym back) ∙ drop-take i (j - i) xs in
    sym (ap (λ l. l ++ take (j - i) (drop i xs)) shorter) ∙ sym (ap (λ l. take i (take j xs) ++ l) rest) ∙ take-append-drop i (take j xs)

module _ (separator : List ℕ) where
  -- the parts after a first part
  joined-cons : (part first : List ℕ) (parts : List (List ℕ)) → joined separator (part ∷ first ∷ parts) ≡ part ++ (separator ++ joined separator (first ∷ parts))
  joined-cons part first parts = ap (λ l. part ++ l) (append_assoc separator first (flat_map (λ it. separator ++ it) parts))

  -- one more part behind the others
  joined-push : (parts : List (List ℕ)) (part : List ℕ) → 0 < length parts → joined separator (parts ++ part ∷ []) ≡ joined separator parts ++ (separator ++ part)
  joined-push [] part some = absurd (omega arith)
  joined-push (first ∷ parts) part some =
      let f = λ (it : List ℕ). separator ++ it in
      let one : flat_map f (part ∷ []) ≡ separator ++ part = append-nil (separator ++ part) in
      ap (λ l. first ++ l) (flat_map-append f parts (part ∷ []) ∙ ap (λ l. flat_map f parts ++ l) one)
      ∙ sym (append_assoc first (flat_map f parts) (separator ++ part))

  reverse-cons-joined : (parts : List (List ℕ)) (part : List ℕ) → 0 < length (reverse parts) → joined separator (reverse (part ∷ parts)) ≡ joined separator (reverse parts) ++ (separator ++ part)
  reverse-cons-joined parts part some = ap (joined separator) (reverse-append (part ∷ []) parts) ∙ joined-push (reverse parts) part some

  module _ (bytes : List ℕ) where
    joined-split_at : (last : ℕ) (place : ℕ) (places : List ℕ) → joined separator (split_at bytes (length separator) last (place ∷ places)) ≡ part last place bytes ++ (separator ++ joined separator (split_at bytes (length separator) (place + length separator) places))
    unfolding split_at
    joined-split_at last place [] = joined-cons (part last place bytes) (drop (place + length separator) bytes) []
    joined-split_at last place (next ∷ places) =
        joined-cons (part last place bytes) (part (place + length separator) next bytes) (split_at bytes (length separator) (next + length separator) places)

    -- the parts that are cut at the first matches of a list
    split-back : (n last : ℕ) (places : List ℕ) → MatchList bytes (length separator) last places → All (OccursAt bytes separator) places
        → joined separator (split_at bytes (length separator) last (take n places)) ≡ drop last bytes
    unfolding split_at MatchList
    split-back zero last places fits stand = append-nil (drop last bytes)
    split-back (suc n) last [] fits stand = append-nil (drop last bytes)
    split-back (suc n) last (place ∷ places) fits stand =
        let here = All-head (OccursAt bytes separator) place places stand in
        let later = split-back n (place + length separator) places fits.2 (All-tail (OccursAt bytes separator) place places stand) in
        let order = fits.0 in
        let back : last + (place - last) ≡ place = omega arith in
        joined-split_at last place (take n places)
        ∙ ap (λ l. part last place bytes ++ (separator ++ l)) later
        ∙ ap (λ l. part last place bytes ++ l) (sym (OccursAt-split bytes separator place here))
        ∙ ap (λ k. part last place bytes ++ drop k bytes) (sym back)
        ∙ ap (λ l. part last place bytes ++ l) (sym (drop-drop (place - last) last bytes))
        ∙ take-append-drop (place - last) (drop last bytes)

    rsplit-back : (n last : ℕ) (places : List ℕ) → last ≤ length bytes → RMatchList (length separator) last places → All (OccursAt bytes separator) places
        → joined separator (reverse (rsplit_at bytes (length separator) last (take n places))) ≡ take last bytes
    unfolding rsplit_at RMatchList
    rsplit-back zero last places le fits stand = append-nil (take last bytes)
    rsplit-back (suc n) last [] le fits stand = append-nil (take last bytes)
    rsplit-back (suc n) last (place ∷ places) le fits stand =
        let m = length separator in
        let here = All-head (OccursAt bytes separator) place places stand in
        let order = fits.0 in
        let inner = rsplit_at bytes m place (take n places) in
        let later = rsplit-back n place places (omega arith) fits.1 (All-tail (OccursAt bytes separator) place places stand) in
        let some : 0 < length (reverse inner) = omega (arith, length-reverse inner, length-rsplit_at bytes m place (take n places)) in
        let behind = part (place + m) last bytes in
        reverse-cons-joined inner behind some
        ∙ ap (λ l. l ++ (separator ++ behind)) later
        ∙ sym (append_assoc (take place bytes) separator behind)
        ∙ ap (λ l. (take place bytes ++ l) ++ behind) (sym (OccursAt-part bytes separator place here) ∙ ap (λ k. take k (drop place bytes)) (omega arith))
        ∙ ap (λ l. l ++ behind) (take-parts place (place + m) bytes (omega arith) (omega arith))
        ∙ take-parts (place + m) last bytes (omega arith) le

pub split-joins-back : (most : ℤ) (separator bytes : List ℕ) → joined separator (split_parts most separator bytes) ≡ bytes
split-joins-back (pos n) separator bytes =
    split-back separator bytes n 0 (matches bytes separator 0) (matches-list bytes separator 0) (All-matches bytes separator 0)
split-joins-back (negsuc n) separator bytes =
    let places = matches bytes separator 0 in
    ap (λ l. joined separator (split_at bytes (length separator) 0 l)) (sym (take_all (length places) places (le_refl (length places))))
    ∙ split-back separator bytes (length places) 0 places (matches-list bytes separator 0) (All-matches bytes separator 0)

pub rsplit-joins-back : (most : ℤ) (separator bytes : List ℕ) → joined separator (rsplit_parts most separator bytes) ≡ bytes
rsplit-joins-back (pos n) separator bytes =
    let end = length bytes in
    rsplit-back separator bytes n end (rmatches bytes separator end) (le_refl end) (rmatches-list bytes separator end) (All-rmatches bytes separator end)
    ∙ take_all end bytes (le_refl end)
rsplit-joins-back (negsuc n) separator bytes =
    let end = length bytes in
    let places = rmatches bytes separator end in
    ap (λ l. joined separator (reverse (rsplit_at bytes (length separator) end l))) (sym (take_all (length places) places (le_refl (length places))))
    ∙ rsplit-back separator bytes (length places) end places (le_refl end) (rmatches-list bytes separator end) (All-rmatches bytes separator end)
    ∙ take_all end bytes (le_refl end)

-- ---- the three parts of a partition

module _ (separator bytes : List ℕ) where
  abbrev in_order : List ℕ → Bool → List ℕ → List ℕ
  in_order front found back = concat (front ∷ middle separator found ∷ back ∷ [])

  -- the three parts at a place where the separator stands
  at_match : (place : ℕ) → OccursAt bytes separator place → in_order (take place bytes) true (drop (place + length separator) bytes) ≡ bytes
  at_match place stands =
      ap (λ l. take place bytes ++ (separator ++ l)) (append-nil (drop (place + length separator) bytes))
      ∙ ap (λ l. take place bytes ++ l) (sym (OccursAt-split bytes separator place stands))
      ∙ take-append-drop place bytes

  front-whole : (places : List ℕ) → All (OccursAt bytes separator) places
      → in_order (around separator bytes (first_of places)).0 (around separator bytes (first_of places)).1 (around separator bytes (first_of places)).2 ≡ bytes
  unfolding first_of
  front-whole [] stand = append-nil bytes
  front-whole (place ∷ places) stand = at_match place (All-head (OccursAt bytes separator) place places stand)

  back-whole : (places : List ℕ) → All (OccursAt bytes separator) places
      → in_order (around_last separator bytes (first_of places)).2 (around_last separator bytes (first_of places)).1 (around_last separator bytes (first_of places)).0 ≡ bytes
  unfolding first_of
  back-whole [] stand = append-nil bytes
  back-whole (place ∷ places) stand = at_match place (All-head (OccursAt bytes separator) place places stand)

pub partition-whole : (separator bytes : List ℕ) → concat (partition_parts separator bytes) ≡ bytes
partition-whole separator bytes = front-whole separator bytes (matches bytes separator 0) (All-matches bytes separator 0)

pub rpartition-whole : (separator bytes : List ℕ) → concat (rpartition_parts separator bytes) ≡ bytes
rpartition-whole separator bytes = back-whole separator bytes (rmatches bytes separator (length bytes)) (All-rmatches bytes separator (length bytes))
