-- Bytes in which matches are replaced: what stands between the matches, joined by the new bytes, and how long
-- that is.
use Rattle.std.proofs.Common.{◌≡◌, ℕ, zero, suc, ◌+◌, ◌-◌, ◌*◌, ◌^◌, ◌<◌, ◌≤◌, ℤ, pos, negsuc, List, [], ◌∷◌, ◌++◌, length, take, drop, get_or, refl, ap, sym, ◌∙◌, arith}
use Rattle.std.specs.List.{flat_map}
use Rattle.std.proofs.Math.Nat.{suc-mul, mul-le-mul_left}
use Rattle.std.proofs.lemmas.List.{append_assoc, append-nil, length-append, length-take, length-drop, take_all, drop_more, drop_all}
use Rattle.bstr.specs.Owned.{joined}
use Rattle.bstr.specs.Text.{part, split_at, replaced_at, MatchList}
use Rattle.bstr.proofs.lemmas.LengthLemmas.{length-all_matches}
use Rattle.bstr.proofs.lemmas.MatchListLemmas.{matches-list, MatchList-head}
use Rattle.bstr.specs.Find.{matches}
use Rattle.pybuf_search.specs.Matches.{matches_from_left}
use Rattle.pybuf_search.specs.Parts.{cuts}
use Rattle.pybuf_shaping.specs.Replacing.{replaced, limit_of}

module _ (bytes new : List ℕ) (width : ℕ) where
  -- what stands between two matches, and the rest behind the other matches
  joined-split_at : (last place : ℕ) (places : List ℕ) →
      joined new (split_at bytes width last (place ∷ places)) ≡ part last place bytes ++ (new ++ joined new (split_at bytes width (place + width) places))
  unfolding split_at
  joined-split_at last place [] = ap (λ l. part last place bytes ++ l) (append_assoc new (drop (place + width) bytes) [])
  joined-split_at last place (next ∷ places) =
      ap (λ l. part last place bytes ++ l)
      (append_assoc new (part (place + width) next bytes) (flat_map (λ it. new ++ it) (split_at bytes width (next + width) places)))

  pub joined-is : (last : ℕ) (places : List ℕ) → joined new (split_at bytes width last places) ≡ replaced_at bytes width new last places
  unfolding replaced_at split_at
  joined-is last [] = append-nil (drop last bytes)
  joined-is last (place ∷ places) =
      joined-split_at last place places ∙ ap (λ l. part last place bytes ++ (new ++ l)) (joined-is (place + width) places)

  pub length-replaced : (last : ℕ) (places : List ℕ) → last ≤ length bytes → MatchList bytes width last places →
      length (replaced_at bytes width new last places) + length places * width + last ≡ length bytes + length places * length new
  unfolding replaced_at MatchList
  length-replaced last [] inside fits = omega (arith, length-drop last bytes, inside)
  length-replaced last (place ∷ places) inside fits =
      let rest = length-replaced (place + width) places fits.1 fits.2 in
      let front : length (part last place bytes) ≡ place - last = omega (arith, length-take (place - last) (drop last bytes), length-drop last bytes, fits.0, fits.1) in
      let whole = length-append (part last place bytes) (new ++ replaced_at bytes width new (place + width) places) in
      let both = length-append new (replaced_at bytes width new (place + width) places) in
      omega (arith, rest, front, whole, both, fits.0, suc-mul (length places) width, suc-mul (length places) (length new))

  -- the first of such places
  pub first_places : (n last : ℕ) (places : List ℕ) → MatchList bytes width last places → MatchList bytes width last (take n places)
  unfolding MatchList
  first_places zero last places fits = tt
  first_places (suc n) last [] fits = tt
  first_places (suc n) last (place ∷ places) fits = (fits.0, fits.1, first_places n (place + width) places fits.2)

  -- the next place, and the text from there on
  pub next_place : (last i : ℕ) (places : List ℕ) → i < length places → MatchList bytes width last (drop i places) →
      (last ≤ get_or places i 0) × (get_or places i 0 + width ≤ length bytes) × MatchList bytes width (get_or places i 0 + width) (drop (i + 1) places)
  next_place last i places inside fits = MatchList-head bytes width last (get_or places i 0) (drop i places) (drop (i + 1) places) (drop_more places i 0 inside) fits

  pub next_text : (last i : ℕ) (places : List ℕ) → i < length places →
      replaced_at bytes width new last (drop i places) ≡ part last (get_or places i 0) bytes ++ (new ++ replaced_at bytes width new (get_or places i 0 + width) (drop (i + 1) places))
  unfolding replaced_at
  next_text last i places inside = ap (replaced_at bytes width new last) (drop_more places i 0 inside)

  pub last_text : (last i : ℕ) (places : List ℕ) → length places ≤ i → replaced_at bytes width new last (drop i places) ≡ drop last bytes
  unfolding replaced_at
  last_text last i places all = ap (replaced_at bytes width new last) (drop_all i places all)

-- as many cuts as a machine word says
cuts-limited : (most : ℤ) (places : List ℕ) → length places ≤ 2 ^ 64 - 1 → cuts most places ≡ take (limit_of most) places
cuts-limited (pos n) places few = refl
cuts-limited (negsuc n) places few = sym (take_all (2 ^ 64 - 1) places few)

pub replaced-is : (most : ℤ) (old new bytes : List ℕ) → length bytes < 2 ^ 63 →
    replaced most old new bytes ≡ replaced_at bytes (length old) new 0 (take (limit_of most) (matches_from_left bytes old))
replaced-is most old new bytes small =
    joined-is bytes new (length old) 0 (cuts most (matches_from_left bytes old))
    ∙ ap (replaced_at bytes (length old) new 0) (cuts-limited most (matches_from_left bytes old) (omega (arith, length-all_matches bytes old)))

pub places-fit : (n : ℕ) (old bytes : List ℕ) → MatchList bytes (length old) 0 (take n (matches_from_left bytes old))
places-fit n old bytes = first_places bytes [] (length old) n 0 (matches bytes old 0) (matches-list bytes old 0)

pub length-of-replaced : (n : ℕ) (old new bytes : List ℕ) →
    length (replaced_at bytes (length old) new 0 (take n (matches_from_left bytes old))) + length (take n (matches_from_left bytes old)) * length old
    ≡ length bytes + length (take n (matches_from_left bytes old)) * length new
length-of-replaced n old new bytes =
    let whole = length-replaced bytes new (length old) 0 (take n (matches_from_left bytes old)) (omega arith) (places-fit n old bytes) in
    omega (arith, whole)

pub no_longer : (n : ℕ) (old new bytes : List ℕ) → length new ≤ length old →
    length (replaced_at bytes (length old) new 0 (take n (matches_from_left bytes old))) ≤ length bytes
no_longer n old new bytes less =
    omega (arith, length-of-replaced n old new bytes, mul-le-mul_left (length (take n (matches_from_left bytes old))) less)
