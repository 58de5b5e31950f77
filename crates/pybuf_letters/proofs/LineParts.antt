-- Where lines end.
use Rattle.std.proofs.Common.{◌≡◌, inl, inr, refl, sym, ap, ◌∙◌, ℕ, zero, suc, ◌+◌, ◌<◌, List, [], ◌∷◌, ◌++◌, Bool, true, false, cond, not, map, length, take, drop, get_or, subst, append_assoc, arith}
use Rattle.std.specs.Prelude.{◌==◌, ◌||◌, ◌&&◌}
use Rattle.std.specs.List.{concat, onto_first, list_any}
use Rattle.std.proofs.lemmas.List.{get_or-map}
use Rattle.std.proofs.lemmas.Bool.{eqb-true}
use Rattle.pybuf_letters.specs.Lines.{is_line_break, begins_with_feed, ends_line, whole_lines, without_end}
use Rattle.pybuf_letters.specs.Laws.{EndsLine, StandsAsLine, LinesEndWhereEndsStand}
use Rattle.pybuf_letters.proofs.LineEnds.{bare-break, bare-other}
use Rattle.pybuf_letters.proofs.LineLaws.{joined}

-- A line stands in front of the bytes behind it.
pub record IsOneLine (line behind : List ℕ) : Type 0 where
  pub ending : List ℕ
  pub whole : line ≡ without_end line ++ ending
  pub unbroken : list_any is_line_break (without_end line) ≡ false
  pub ends : EndsLine (without_end line) ending behind

-- Each of these lines stands in front of the lines after it.
abbrev pub AreLines : List (List ℕ) → Type 0
AreLines [] = Unit {0}
AreLines (line ∷ more) = IsOneLine line (concat more) × AreLines more

-- ---- the text of a line

text-break : (b : ℕ) (line : List ℕ) → is_line_break b ≡ true → without_end (b ∷ line) ≡ []
text-break b line h = ap (λ n. take n (b ∷ line)) (bare-break b line h)

text-other : (b : ℕ) (line : List ℕ) → is_line_break b ≡ false → without_end (b ∷ line) ≡ b ∷ without_end line
text-other b line h = ap (λ n. take n (b ∷ line)) (bare-other b line h)

unbroken-other : (b : ℕ) (text : List ℕ) → is_line_break b ≡ false → list_any is_line_break text ≡ false → list_any is_line_break (b ∷ text) ≡ false
unbroken-other b text h later = by_both (is_line_break b) (list_any is_line_break text) h later
  where
    by_both : (x y : Bool) → x ≡ false → y ≡ false → (x || y) ≡ false
    by_both true y h g = absurd (cc)
    by_both false y h g = g

-- ---- a line that is only its end

only_ending : (b : ℕ) (line behind : List ℕ) → is_line_break b ≡ true → EndsLine [] (b ∷ line) behind → IsOneLine (b ∷ line) behind
only_ending b line behind h ends =
    let none : without_end (b ∷ line) ≡ [] = text-break b line h in
    record {
      ending = b ∷ line;
      whole = ap (λ (t : List ℕ). t ++ b ∷ line) (sym none);
      unbroken = ap (list_any is_line_break) none;
      ends = subst (λ (t : List ℕ). EndsLine t (b ∷ line) behind) (sym none) ends;
    }

-- ---- one more byte of the text

longer : (b : ℕ) (text ending behind : List ℕ) → EndsLine text ending behind → EndsLine (b ∷ text) ending behind
longer b text ending behind (inl feed) = inl feed
longer b text ending behind (inr (inl return)) = inr (inl return)
longer b text ending behind (inr (inr (inl both))) = inr (inr (inl both))
longer b text ending behind (inr (inr (inr last))) = inr (inr (inr (last.0, last.1, omega arith)))

one_more : (b : ℕ) (line behind : List ℕ) → is_line_break b ≡ false → IsOneLine line behind → IsOneLine (b ∷ line) behind
one_more b line behind h is =
    let more : without_end (b ∷ line) ≡ b ∷ without_end line = text-other b line h in
    record {
      ending = is.ending;
      whole = ap (λ (l : List ℕ). b ∷ l) is.whole ∙ ap (λ (t : List ℕ). t ++ is.ending) (sym more);
      unbroken = ap (list_any is_line_break) more ∙ unbroken-other b (without_end line) h is.unbroken;
      ends = subst (λ (t : List ℕ). EndsLine t is.ending behind) (sym more) (longer b (without_end line) is.ending behind is.ends);
    }

-- ---- a carriage return before a line that begins with a line feed

feed_alone : (line behind : List ℕ) → begins_with_feed line ≡ true → IsOneLine line behind → line ≡ 10 ∷ []
feed_alone [] behind feed is = absurd (cc)
feed_alone (c ∷ more) behind feed is = by_ends is.ends
  where
    ten : c ≡ 10
    ten = eqb-true c 10 feed

    none : without_end (c ∷ more) ≡ []
    none = text-break c more (ap is_line_break ten)

    alone : c ∷ more ≡ is.ending
    alone = is.whole ∙ ap (λ (t : List ℕ). t ++ is.ending) none

    by_ends : EndsLine (without_end (c ∷ more)) is.ending behind → c ∷ more ≡ 10 ∷ []
    by_ends (inl feed) = alone ∙ feed
    by_ends (inr (inl return)) = absurd (let first : c ∷ more ≡ 13 ∷ [] = alone ∙ return.0 in cc)
    by_ends (inr (inr (inl both))) = absurd (let first : c ∷ more ≡ 13 ∷ 10 ∷ [] = alone ∙ both in cc)
    by_ends (inr (inr (inr last))) = absurd (let first : c ∷ more ≡ [] = alone ∙ last.0 in cc)

-- ---- all lines

-- what the tests of a byte tell
ends_alone : (b : ℕ) (rest : List ℕ) → ends_line b rest ≡ true → is_line_break b ≡ true
ends_alone b rest h = by_tests (b == 10) (b == 13) (begins_with_feed rest) h
  where
    by_tests : (x y f : Bool) → (x || y && not f) ≡ true → (x || y) ≡ true
    by_tests true y f h = refl
    by_tests false true f h = refl
    by_tests false false f h = cc

which_end : (b : ℕ) (rest : List ℕ) → ends_line b rest ≡ true → EndsLine [] (b ∷ []) rest
which_end b rest h = by_tests (b == 10) (b == 13) (begins_with_feed rest) refl refl refl h
  where
    by_tests : (x y f : Bool) → (b == 10) ≡ x → (b == 13) ≡ y → begins_with_feed rest ≡ f → (x || y && not f) ≡ true → EndsLine [] (b ∷ []) rest
    by_tests true y f first second feed h = inl (ap (λ n. n ∷ []) (eqb-true b 10 first))
    by_tests false true false first second feed h = inr (inl (ap (λ n. n ∷ []) (eqb-true b 13 second), feed))
    by_tests false true true first second feed h = absurd (cc)
    by_tests false false f first second feed h = absurd (cc)

-- If a byte ends no line although it is a line break, it is a carriage return in front of a line feed.
return_before_feed : (b : ℕ) (rest : List ℕ) → ends_line b rest ≡ false → is_line_break b ≡ true → (b ≡ 13) × (begins_with_feed rest ≡ true)
return_before_feed b rest h g = by_tests (b == 10) (b == 13) (begins_with_feed rest) refl refl h g
  where
    by_tests : (x y f : Bool) → (b == 13) ≡ y → begins_with_feed rest ≡ f → (x || y && not f) ≡ false → (x || y) ≡ true → (b ≡ 13) × (begins_with_feed rest ≡ true)
    by_tests true y f second feed h g = absurd (cc)
    by_tests false true true second feed h g = (eqb-true b 13 second, feed)
    by_tests false true false second feed h g = absurd (cc)
    by_tests false false f second feed h g = absurd (cc)

last_byte : (b : ℕ) → is_line_break b ≡ false → IsOneLine (b ∷ []) []
last_byte b h =
    let all : without_end (b ∷ []) ≡ b ∷ [] = text-other b [] h in
    record {
      ending = [];
      whole = ap (λ (t : List ℕ). t ++ []) (sym all);
      unbroken = ap (list_any is_line_break) all ∙ unbroken-other b [] h refl;
      ends = subst (λ (t : List ℕ). EndsLine t [] []) (sym all) (inr (inr (inr (refl, refl, omega arith))));
    }

both : (line behind : List ℕ) → begins_with_feed line ≡ true → IsOneLine line behind → IsOneLine (13 ∷ line) behind
both line behind feed is =
    let ten : line ≡ 10 ∷ [] = feed_alone line behind feed is in
    only_ending 13 line behind refl (inr (inr (inl (ap (λ (l : List ℕ). 13 ∷ l) ten))))

first_feed : (line behind : List ℕ) → 0 < length line → begins_with_feed (line ++ behind) ≡ begins_with_feed line
first_feed [] behind some = absurd (omega arith)
first_feed (c ∷ line) behind some = refl

-- A line has a byte, since nothing else could end it.
some_byte : (line behind : List ℕ) → IsOneLine line behind → 0 < length line
some_byte [] behind is = by_ends is.ends
  where
    by_ends : EndsLine [] is.ending behind → 0 < 0
    by_ends (inl feed) = absurd (let none : [] ≡ 10 ∷ [] = is.whole ∙ feed in cc)
    by_ends (inr (inl return)) = absurd (let none : [] ≡ 13 ∷ [] = is.whole ∙ return.0 in cc)
    by_ends (inr (inr (inl two))) = absurd (let none : [] ≡ 13 ∷ 10 ∷ [] = is.whole ∙ two in cc)
    by_ends (inr (inr (inr last))) = last.2
some_byte (c ∷ line) behind is = omega arith

onto : (b : ℕ) (rest : List ℕ) (lines : List (List ℕ)) → ends_line b rest ≡ false → concat lines ≡ rest → AreLines lines → AreLines (onto_first b lines)
onto b rest [] h whole are = by_break (is_line_break b) refl
  where
    by_break : (test : Bool) → is_line_break b ≡ test → IsOneLine (b ∷ []) [] × Unit {0}
    by_break false g = (last_byte b g, tt)
    by_break true g = absurd (let feed = return_before_feed b rest h g in let no_feed : begins_with_feed [] ≡ true = ap begins_with_feed whole ∙ feed.1 in cc)
onto b rest (line ∷ more) h whole are = by_break (is_line_break b) refl
  where
    by_break : (test : Bool) → is_line_break b ≡ test → IsOneLine (b ∷ line) (concat more) × AreLines more
    by_break false g = (one_more b line (concat more) g are.0, are.1)
    by_break true g =
        let feed = return_before_feed b rest h g in
        let begins : begins_with_feed line ≡ true = sym (first_feed line (concat more) (some_byte line (concat more) are.0)) ∙ ap begins_with_feed whole ∙ feed.1 in
        (subst (λ n. IsOneLine (n ∷ line) (concat more)) (sym feed.0) (both line (concat more) begins are.0), are.1)

lines_are : (bytes : List ℕ) → AreLines (whole_lines bytes)
lines_are [] = tt
lines_are (b ∷ rest) = by_end (lines_are rest) (ends_line b rest) refl
  where
    by_end : AreLines (whole_lines rest) → (test : Bool) → ends_line b rest ≡ test → AreLines (cond test ((b ∷ []) ∷ whole_lines rest) (onto_first b (whole_lines rest)))
    by_end later true h =
        (only_ending b [] (concat (whole_lines rest)) (ends_alone b rest h) (subst (EndsLine [] (b ∷ [])) (sym (joined rest)) (which_end b rest h)), later)
    by_end later false h = onto b rest (whole_lines rest) h (joined rest) later

-- ---- the line that has a number

line_at : (lines : List (List ℕ)) (k : ℕ) → k < length lines → AreLines lines → IsOneLine (get_or lines k []) (concat (drop (suc k) lines))
line_at [] k below are = absurd (omega arith)
line_at (line ∷ more) zero below are = are.0
line_at (line ∷ more) (suc k) below are = line_at more k (omega arith) are.1

place_at : (lines : List (List ℕ)) (k : ℕ) → k < length lines → concat (take k lines) ++ (get_or lines k [] ++ concat (drop (suc k) lines)) ≡ concat lines
place_at [] k below = absurd (omega arith)
place_at (line ∷ more) zero below = refl
place_at (line ∷ more) (suc k) below =
    append_assoc line (concat (take k more)) (get_or more k [] ++ concat (drop (suc k) more)) ∙ ap (λ (bs : List ℕ). line ++ bs) (place_at more k (omega arith))

length_map : (lines : List (List ℕ)) → length (map without_end lines) ≡ length lines
length_map [] = refl
length_map (line ∷ more) = ap suc (length_map more)

stands : (bytes : List ℕ) (k : ℕ) → k < length (whole_lines bytes)
    → StandsAsLine bytes (concat (take k (whole_lines bytes))) (get_or (whole_lines bytes) k []) (without_end (get_or (whole_lines bytes) k [])) (concat (drop (suc k) (whole_lines bytes)))
stands bytes k below =
    let is = line_at (whole_lines bytes) k below (lines_are bytes) in
    record {
      ending = is.ending;
      place = place_at (whole_lines bytes) k below ∙ joined bytes;
      whole = is.whole;
      bare = is.unbroken;
      ends = is.ends;
    }

pub ends_stand : (bytes : List ℕ) → LinesEndWhereEndsStand bytes
ends_stand bytes =
    record {
      count = length_map (whole_lines bytes);
      each = λ k below.
          let text : without_end (get_or (whole_lines bytes) k []) ≡ get_or (map without_end (whole_lines bytes)) k [] = sym (get_or-map without_end (whole_lines bytes) k [] [] below) in
          let next : suc k ≡ k + 1 = omega arith in
          subst (λ (t : List ℕ). StandsAsLine bytes (concat (take k (whole_lines bytes))) (get_or (whole_lines bytes) k []) t (concat (drop (k + 1) (whole_lines bytes)))) text
          (subst (λ n. StandsAsLine bytes (concat (take k (whole_lines bytes))) (get_or (whole_lines bytes) k []) (without_end (get_or (whole_lines bytes) k [])) (concat (drop n (whole_lines bytes)))) next
          (stands bytes k below));
    }
