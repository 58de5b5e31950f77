-- Bytes that are cut into lines, after one more line.
use Rattle.std.proofs.Common.{◌≡◌, refl, sym, ap, ◌∙◌, ℕ, zero, suc, ◌+◌, ◌-◌, ◌<◌, ◌≤◌, List, [], ◌∷◌, Bool, true, false, cond, not, length, take, drop, get_or, subst, Some, None, arith}
use Rattle.std.specs.Prelude.{◌==◌, ◌||◌, ◌&&◌}
use Rattle.std.specs.List.{position_or_len, onto_first}
use Rattle.std.proofs.lemmas.List.{take-take, length-take, get_or-take, take_rest, drop_all}
use Rattle.std.proofs.lemmas.List.Sums.{position_or_len_is, fails_before_first, passes_at_first, prefix_len-le-length}
use Rattle.std.proofs.lemmas.Bool.{false≢true}
use Rattle.std.proofs.lemmas.Bool.Decides.{nat_tests}
use Rattle.pybuf_lemmas.proofs.Booleans.{first_of_both, second_of_both}
use Rattle.pybuf_letters.specs.Lines.{is_line_break, begins_with_feed, ends_line, end_length, whole_lines, without_end}
use Rattle.bstr.specs.Bytes.{is_in}
use Rattle.bstr.specs.Find.{IsFirstByte}
use Rattle.pybuf_letters.proofs.ByteClasses.{is_in-line_breaks}
use Rattle.pybuf_letters.proofs.Places.{Holds, inside, prefix_len-from_none, prefix_len-from_some}

-- where the end of the first line begins
abbrev pub bare : List ℕ → ℕ
bare bytes = position_or_len is_line_break bytes

abbrev pub size : List ℕ → ℕ
size bytes = bare bytes + end_length (drop (bare bytes) bytes)

-- ---- one more byte

pub bare-break : (b : ℕ) (rest : List ℕ) → is_line_break b ≡ true → bare (b ∷ rest) ≡ 0
bare-break b rest h = ap (λ (t : Bool). cond (not t) (1 + bare rest) 0) h

pub bare-other : (b : ℕ) (rest : List ℕ) → is_line_break b ≡ false → bare (b ∷ rest) ≡ suc (bare rest)
bare-other b rest h = ap (λ (t : Bool). cond (not t) (1 + bare rest) 0) h ∙ omega arith

size-break : (b : ℕ) (rest : List ℕ) → is_line_break b ≡ true → size (b ∷ rest) ≡ end_length (b ∷ rest)
size-break b rest h = ap (λ n. n + end_length (drop n (b ∷ rest))) (bare-break b rest h) ∙ omega arith

size-other : (b : ℕ) (rest : List ℕ) → is_line_break b ≡ false → size (b ∷ rest) ≡ suc (size rest)
size-other b rest h = ap (λ n. n + end_length (drop n (b ∷ rest))) (bare-other b rest h) ∙ omega arith

-- ---- where a line ends

ends : (x y f : Bool) → (y && f) ≡ false → (x || y) ≡ true → (x || y && not f) ≡ true
ends true y f h g = refl
ends false true true h g = absurd (cc)
ends false true false h g = refl
ends false false f h g = g

goes_on : (x y f : Bool) → (y && f) ≡ true → x ≡ false → (x || y && not f) ≡ false
goes_on true y f h g = absurd (cc)
goes_on false true true h g = refl
goes_on false true false h g = absurd (cc)
goes_on false false f h g = refl

other : (x y f : Bool) → (x || y) ≡ false → (x || y && not f) ≡ false
other true y f h = h
other false true f h = absurd (cc)
other false false f h = refl

-- ---- the first line

pub record IsLine (bytes : List ℕ) (n : ℕ) : Type 0 where
  pub line : whole_lines bytes ≡ take n bytes ∷ whole_lines (drop n bytes)

-- the lines, by what the first byte is
lines-cons : (b : ℕ) (rest : List ℕ) (test : Bool) → ends_line b rest ≡ test → whole_lines (b ∷ rest) ≡ cond test ((b ∷ []) ∷ whole_lines rest) (onto_first b (whole_lines rest))
lines-cons b rest test h = ap (λ (t : Bool). cond t ((b ∷ []) ∷ whole_lines rest) (onto_first b (whole_lines rest))) h

-- a carriage return and a line feed
line-both : (b : ℕ) (rest : List ℕ) → (b == 13 && begins_with_feed rest) ≡ true → IsLine (b ∷ rest) 2
line-both b [] h = absurd (false≢true (second_of_both (b == 13) false h))
line-both b (c ∷ more) h = record {
  line =
      lines-cons b (c ∷ more) false (goes_on (b == 10) (b == 13) (c == 10) h no_feed)
      ∙ ap (onto_first b) (lines-cons c more true (feed_ends (c == 10) (c == 13) (begins_with_feed more) (second_of_both (b == 13) (c == 10) h)));
}
  where
    no_feed : (b == 10) ≡ false
    no_feed = let thirteen : (b == 13) ≡ true = first_of_both (b == 13) (c == 10) h in grind (arith, nat_tests)

    feed_ends : (x y f : Bool) → x ≡ true → (x || y && not f) ≡ true
    feed_ends true y f g = refl
    feed_ends false y f g = absurd (cc)

-- one of the two alone
line-one : (b : ℕ) (rest : List ℕ) → (b == 13 && begins_with_feed rest) ≡ false → is_line_break b ≡ true → IsLine (b ∷ rest) 1
line-one b rest h g = record { line = lines-cons b rest true (ends (b == 10) (b == 13) (begins_with_feed rest) h g) }

line-break : (b : ℕ) (rest : List ℕ) → is_line_break b ≡ true → IsLine (b ∷ rest) (end_length (b ∷ rest))
line-break b rest g = by_both (b == 13 && begins_with_feed rest) refl
  where
    by_both : (both : Bool) → (b == 13 && begins_with_feed rest) ≡ both → IsLine (b ∷ rest) (cond both 2 1)
    by_both true h = line-both b rest h
    by_both false h = line-one b rest h g

-- a byte of the line itself
line-other : (b : ℕ) (rest : List ℕ) (n : ℕ) → is_line_break b ≡ false → IsLine rest n → IsLine (b ∷ rest) (suc n)
line-other b rest n h later = record {
  line = lines-cons b rest false (other (b == 10) (b == 13) (begins_with_feed rest) h) ∙ ap (onto_first b) later.line;
}

-- the last byte of a last line that has no end
line-last : (b : ℕ) → is_line_break b ≡ false → IsLine (b ∷ []) 1
line-last b h = record { line = lines-cons b [] false (other (b == 10) (b == 13) false h) }

pub line-first : (bytes : List ℕ) → 0 < length bytes → IsLine bytes (size bytes)
line-first [] some = absurd (omega arith)
line-first (b ∷ []) some = by_break (is_line_break b) refl
  where
    by_break : (test : Bool) → is_line_break b ≡ test → IsLine (b ∷ []) (size (b ∷ []))
    by_break true h = subst (λ n. IsLine (b ∷ []) n) (sym (size-break b [] h)) (line-break b [] h)
    by_break false h = subst (λ n. IsLine (b ∷ []) n) (sym (size-other b [] h)) (line-last b h)
line-first (b ∷ (c ∷ more)) some = by_break (line-first (c ∷ more) (omega arith)) (is_line_break b) refl
  where
    by_break : IsLine (c ∷ more) (size (c ∷ more)) → (test : Bool) → is_line_break b ≡ test → IsLine (b ∷ (c ∷ more)) (size (b ∷ (c ∷ more)))
    by_break later true h = subst (λ n. IsLine (b ∷ (c ∷ more)) n) (sym (size-break b (c ∷ more) h)) (line-break b (c ∷ more) h)
    by_break later false h = subst (λ n. IsLine (b ∷ (c ∷ more)) n) (sym (size-other b (c ∷ more) h)) (line-other b (c ∷ more) (size (c ∷ more)) h later)

-- ---- the first line without its end

bare_of_first : (bytes : List ℕ) (n : ℕ) → bare bytes ≤ n → bare (take n bytes) ≡ bare bytes
bare_of_first bytes n inside =
    position_or_len_is is_line_break (take n bytes) (bare bytes) 0
    (omega (arith, length-take n bytes, prefix_len-le-length (λ b. not (is_line_break b)) bytes))
    (λ k below. get_or-take n bytes k 0 (omega arith) ⊳ fails_before_first is_line_break bytes k 0 below)
    (λ below. get_or-take n bytes (bare bytes) 0 (omega (arith, length-take n bytes)) ⊳ passes_at_first is_line_break bytes 0 (omega (arith, length-take n bytes)))
  where
    infixr 5 ◌⊳◌
    ◌⊳◌ : {x y : ℕ} {t : Bool} → x ≡ y → is_line_break y ≡ t → is_line_break x ≡ t
    ◌⊳◌ e h = ap is_line_break e ∙ h

pub line-bare : (bytes : List ℕ) (n : ℕ) → bare bytes ≤ n → without_end (take n bytes) ≡ take (bare bytes) bytes
line-bare bytes n inside = ap (λ m. take m (take n bytes)) (bare_of_first bytes n inside) ∙ take-take (bare bytes) n bytes inside

-- ---- the same, by the place of the first line break

breaks : Holds (10 ∷ 13 ∷ []) is_line_break
breaks = record { holds = is_in-line_breaks }

pub line-from_none : (bytes : List ℕ) → 0 < length bytes → IsFirstByte (is_in (10 ∷ 13 ∷ [])) bytes None → IsLine bytes (length bytes) × (without_end (take (length bytes) bytes) ≡ take (length bytes) bytes)
line-from_none bytes some none =
    let whole : bare bytes ≡ length bytes = prefix_len-from_none (is_in (10 ∷ 13 ∷ [])) (λ b. not (is_line_break b)) bytes (inside breaks) none in
    let no_end : end_length (drop (bare bytes) bytes) ≡ 0 = ap (λ n. end_length (drop n bytes)) whole ∙ ap end_length (drop_all (length bytes) bytes (omega arith)) in
    let all : size bytes ≡ length bytes = omega arith in
    (subst (λ n. IsLine bytes n) all (line-first bytes some), line-bare bytes (length bytes) (omega arith) ∙ ap (λ n. take n bytes) whole)

pub line-from_some : (bytes : List ℕ) (e k : ℕ) → IsFirstByte (is_in (10 ∷ 13 ∷ [])) bytes (Some e) → k ≡ end_length (take (length bytes - e) (drop e bytes)) → IsLine bytes (e + k) × (without_end (take (e + k) bytes) ≡ take e bytes)
line-from_some bytes e k found is =
    let high : e < length bytes = found.0.high in
    let here : bare bytes ≡ e = prefix_len-from_some (is_in (10 ∷ 13 ∷ [])) (λ b. not (is_line_break b)) bytes e (inside breaks) found in
    let both : size bytes ≡ e + k =
    ap (λ n. n + end_length (drop n bytes)) here ∙ ap (λ n. e + n) (sym (is ∙ ap end_length (take_rest bytes e))) in
    (subst (λ n. IsLine bytes n) both (line-first bytes (omega arith)), line-bare bytes (e + k) (omega arith) ∙ ap (λ n. take n bytes) here)
