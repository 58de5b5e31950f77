-- Lanes that differ make hashes that differ.
use Rattle.std.proofs.Common.{◌≡◌, ◌≢◌, ◌⊎◌, inl, inr, refl, sym, ap, ◌∙◌, ℕ, ◌+◌, ◌-◌, ◌*◌, ◌/◌, ◌%◌, ◌^◌, ◌<◌, ℤ, pos, negsuc, Bool, true, false, cond, subst, mul_assoc, arith}
use Rattle.std.specs.Prelude.{◌==◌}
use Rattle.std.specs.Int.{w64, rotate_left, cast_signed, cast_unsigned}
use Rattle.std.specs.Int.Bits.{bit_or}
use Rattle.std.proofs.lemmas.Nat.{or_shifted, mul-mod_first}
use Rattle.std.proofs.Math.Nat.{add-mul-mod_self_right}
use Rattle.std.proofs.lemmas.Int.{of_z-to_z, to_z_pos}
use Rattle.std.proofs.Math.Facts.{to_z-neg}
use Rattle.std.proofs.lemmas.Bool.{eqb-true, eq-eqb, false≢true}
use Rattle.pybuf_index.specs.Lanes.{wrapped, minus_one, mixed, other_than_minus_one, hash_of}
use Rattle.pybuf_index.specs.LaneLaws.{IsWord, IsLane, DifferButForOne, EachLaneCounts, MixingLosesNothing, NoHashWhereALaneIsNone}

-- ---- numbers that wrap around

word : (n : ℕ) → IsWord (wrapped n)
word n = omega arith

stays : (n : ℕ) → IsWord n → wrapped n ≡ n
stays n small = omega arith

-- If a number is multiplied by one that has an inverse, it can be found again.
back : (factor inverse m n : ℕ) → factor * inverse ≡ m * 2 ^ 64 + 1 → IsWord n → wrapped (wrapped (n * factor) * inverse) ≡ n
back factor inverse m n one small =
    let apart : n * (m * 2 ^ 64 + 1) ≡ n + n * m * 2 ^ 64 = distribute n m (2 ^ 64) in
    mul-mod_first (n * factor) inverse (2 ^ 64)
    ∙ ap wrapped (mul_assoc n factor inverse ∙ ap (λ k. n * k) one ∙ apart)
    ∙ add-mul-mod_self_right n (n * m) (2 ^ 64)
    ∙ stays n small
  where
    distribute : (a b c : ℕ) → a * (b * c + 1) ≡ a + a * b * c
    distribute a b c = grind arith

same_factor : (factor inverse m n other : ℕ) → factor * inverse ≡ m * 2 ^ 64 + 1 → IsWord n → IsWord other → wrapped (n * factor) ≡ wrapped (other * factor) → n ≡ other
same_factor factor inverse m n other one small less same =
    sym (back factor inverse m n one small) ∙ ap (λ k. wrapped (k * inverse)) same ∙ back factor inverse m other one less

same_sum : (n other more : ℕ) → IsWord n → IsWord other → IsWord more → wrapped (n + more) ≡ wrapped (other + more) → n ≡ other
same_sum n other more small less fits same = omega arith

same_addend : (n more other : ℕ) → IsWord n → IsWord more → IsWord other → wrapped (n + more) ≡ wrapped (n + other) → more ≡ other
same_addend n more other small less fits same = omega arith

-- ---- bits that rotate

turned : (n : ℕ) → IsWord n → rotate_left w64 n 31 ≡ n % 2 ^ 33 * 2 ^ 31 + n / 2 ^ 33
turned n small =
    let high : (n * 2 ^ 31) % 2 ^ 64 ≡ n % 2 ^ 33 * 2 ^ 31 = omega arith in
    let low : n / 2 ^ 33 < 2 ^ 31 = omega arith in
    ap (λ k. bit_or k (n / 2 ^ 33)) high ∙ or_shifted (n % 2 ^ 33) 31 (n / 2 ^ 33) low

turned_word : (n : ℕ) → IsWord n → IsWord (rotate_left w64 n 31)
turned_word n small = subst IsWord (sym (turned n small)) (omega arith)

same_turned : (n other : ℕ) → IsWord n → IsWord other → rotate_left w64 n 31 ≡ rotate_left w64 other 31 → n ≡ other
same_turned n other small less same =
    let sums : n % 2 ^ 33 * 2 ^ 31 + n / 2 ^ 33 ≡ other % 2 ^ 33 * 2 ^ 31 + other / 2 ^ 33 = sym (turned n small) ∙ same ∙ turned other less in
    omega arith

-- ---- a step of mixing

mixed_word : (hash lane : ℕ) → IsWord (mixed hash lane)
mixed_word hash lane = word (rotate_left w64 (wrapped (hash + wrapped (lane * 14029467366897019727))) 31 * 11400714785074694791)

-- The sums before a step are the same if the numbers after it are.
same_sums : (n other : ℕ) → IsWord n → IsWord other → wrapped (rotate_left w64 n 31 * 11400714785074694791) ≡ wrapped (rotate_left w64 other 31 * 11400714785074694791) → n ≡ other
same_sums n other small less same =
    same_turned n other small less
    (same_factor 11400714785074694791 614540362697595703 379806830464837242 (rotate_left w64 n 31) (rotate_left w64 other 31) refl (turned_word n small) (turned_word other less) same)

same_lane : (hash lane other : ℕ) → IsWord hash → IsWord lane → IsWord other → mixed hash lane ≡ mixed hash other → lane ≡ other
same_lane hash lane other fits small less same =
    let one : ℕ = wrapped (lane * 14029467366897019727) in
    let two : ℕ = wrapped (other * 14029467366897019727) in
    same_factor 14029467366897019727 839798700976720815 638699622168397319 lane other refl small less
    (same_addend hash one two fits (word (lane * 14029467366897019727)) (word (other * 14029467366897019727))
    (same_sums (wrapped (hash + one)) (wrapped (hash + two)) (word (hash + one)) (word (hash + two)) same))

same_hash : (hash other lane : ℕ) → IsWord hash → IsWord other → IsWord lane → mixed hash lane ≡ mixed other lane → hash ≡ other
same_hash hash other lane small less fits same =
    let more : ℕ = wrapped (lane * 14029467366897019727) in
    same_sum hash other more small less (word (lane * 14029467366897019727))
    (same_sums (wrapped (hash + more)) (wrapped (other + more)) (word (hash + more)) (word (other + more)) same)

pub mixing : MixingLosesNothing
mixing = record { lane = same_lane; hash = same_hash }

-- ---- the hash

signed_stand_in : cast_signed w64 1546275796 ≡ pos 1546275796
signed_stand_in = to_z_pos w64 1546275796 (omega arith)

signed_minus_one : cast_signed w64 minus_one ≡ negsuc 0
signed_minus_one = to_z-neg w64 0 (omega arith)

same_signed : (n other : ℕ) → IsWord n → IsWord other → cast_signed w64 n ≡ cast_signed w64 other → n ≡ other
same_signed n other small less same = sym (of_z-to_z w64 n small) ∙ ap (cast_unsigned w64) same ∙ of_z-to_z w64 other less

other_word : (n : ℕ) → IsWord n → IsWord (other_than_minus_one n)
other_word n small = by_test (n == minus_one)
  where
    by_test : (test : Bool) → IsWord (cond test 1546275796 n)
    by_test true = omega arith
    by_test false = small

never_minus_one : (n : ℕ) → other_than_minus_one n ≢ minus_one
never_minus_one n = by_test (n == minus_one) refl
  where
    by_test : (test : Bool) → (n == minus_one) ≡ test → cond test 1546275796 n ≢ minus_one
    by_test true h e = absurd (omega arith)
    by_test false h e = absurd (false≢true (sym h ∙ eq-eqb n minus_one e))

-- the hash of the number after the last step
abbrev pub signed : ℕ → ℤ
signed n = cast_signed w64 (other_than_minus_one n)

apart : (n other : ℕ) → IsWord n → IsWord other → n ≢ other → DifferButForOne (signed n) (signed other)
apart n other small less differ same = by_tests (n == minus_one) (other == minus_one) refl refl
  where
    equal : other_than_minus_one n ≡ other_than_minus_one other
    equal = same_signed (other_than_minus_one n) (other_than_minus_one other) (other_word n small) (other_word other less) same

    by_tests : (first second : Bool) → (n == minus_one) ≡ first → (other == minus_one) ≡ second → signed n ≡ pos 1546275796
    by_tests true second h g = ap (λ (t : Bool). cast_signed w64 (cond t 1546275796 n)) h ∙ signed_stand_in
    by_tests false true h g = same ∙ ap (λ (t : Bool). cast_signed w64 (cond t 1546275796 other)) g ∙ signed_stand_in
    by_tests false false h g =
        absurd (differ (sym (ap (λ (t : Bool). cond t 1546275796 n) h) ∙ equal ∙ ap (λ (t : Bool). cond t 1546275796 other) g))

is_no_lane : (lane : ℕ) → IsLane lane → (lane == minus_one) ≡ false
is_no_lane lane small = by_test (lane == minus_one) refl
  where
    by_test : (test : Bool) → (lane == minus_one) ≡ test → test ≡ false
    by_test true h = absurd (let same : lane ≡ minus_one = eqb-true lane minus_one h in omega arith)
    by_test false h = refl

-- the number after the last step
abbrev pub all_mixed : ℕ → ℕ → ℕ → ℕ
all_mixed start stop step = mixed (mixed (mixed 2870177450012600261 start) stop) step

-- whether lanes are -1, as tests
abbrev pub by_lanes : Bool → Bool → Bool → ℤ → ℤ
by_lanes first second third hash = cond first (negsuc 0) (cond second (negsuc 0) (cond third (negsuc 0) hash))

of_lanes : (start stop step : ℕ) → IsLane start → IsLane stop → IsLane step → hash_of start stop step ≡ signed (all_mixed start stop step)
of_lanes start stop step first second third =
    ap (λ (t : Bool). by_lanes t (stop == minus_one) (step == minus_one) (signed (all_mixed start stop step))) (is_no_lane start first)
    ∙ ap (λ (t : Bool). by_lanes false t (step == minus_one) (signed (all_mixed start stop step))) (is_no_lane stop second)
    ∙ ap (λ (t : Bool). by_lanes false false t (signed (all_mixed start stop step))) (is_no_lane step third)

fits : (lane : ℕ) → IsLane lane → IsWord lane
fits lane small = omega arith

seed : IsWord 2870177450012600261
seed = omega arith

-- The numbers after the last step tell the hashes of lanes apart.
told_apart : (a b c x y z : ℕ) → IsLane a → IsLane b → IsLane c → IsLane x → IsLane y → IsLane z → all_mixed a b c ≢ all_mixed x y z → DifferButForOne (hash_of a b c) (hash_of x y z)
told_apart a b c x y z la lb lc lx ly lz differ same =
    let one = of_lanes a b c la lb lc in
    let two = of_lanes x y z lx ly lz in
    one ∙ apart (all_mixed a b c) (all_mixed x y z) (mixed_word (mixed (mixed 2870177450012600261 a) b) c) (mixed_word (mixed (mixed 2870177450012600261 x) y) z) differ (sym one ∙ same ∙ two)

pub counts : (lane other : ℕ) → IsLane lane → IsLane other → lane ≢ other → EachLaneCounts lane other
counts lane other small less differ =
    record {
      start = λ stop step second third.
          told_apart lane stop step other stop step small second third less second third
          (λ same. differ (same_lane 2870177450012600261 lane other seed (fits lane small) (fits other less)
          (same_hash (mixed 2870177450012600261 lane) (mixed 2870177450012600261 other) stop (mixed_word 2870177450012600261 lane) (mixed_word 2870177450012600261 other) (fits stop second)
          (same_hash (mixed (mixed 2870177450012600261 lane) stop) (mixed (mixed 2870177450012600261 other) stop) step (mixed_word (mixed 2870177450012600261 lane) stop) (mixed_word (mixed 2870177450012600261 other) stop) (fits step third) same))));
      stop = λ start step first third.
          told_apart start lane step start other step first small third first less third
          (λ same. differ (same_lane (mixed 2870177450012600261 start) lane other (mixed_word 2870177450012600261 start) (fits lane small) (fits other less)
          (same_hash (mixed (mixed 2870177450012600261 start) lane) (mixed (mixed 2870177450012600261 start) other) step (mixed_word (mixed 2870177450012600261 start) lane) (mixed_word (mixed 2870177450012600261 start) other) (fits step third) same)));
      step = λ start stop first second.
          told_apart start stop lane start stop other first second small first second less
          (λ same. differ (same_lane (mixed (mixed 2870177450012600261 start) stop) lane other (mixed_word (mixed 2870177450012600261 start) stop) (fits lane small) (fits other less) same));
    }

-- ---- when there is no hash

no_hash : (start stop step : ℕ) → (hash_of start stop step ≡ negsuc 0) → (start ≡ minus_one) ⊎ (stop ≡ minus_one) ⊎ (step ≡ minus_one)
no_hash start stop step none = by_tests (start == minus_one) (stop == minus_one) (step == minus_one) refl refl refl none
  where
    by_tests : (first second third : Bool) → (start == minus_one) ≡ first → (stop == minus_one) ≡ second → (step == minus_one) ≡ third
        → by_lanes first second third (signed (all_mixed start stop step)) ≡ negsuc 0 → (start ≡ minus_one) ⊎ (stop ≡ minus_one) ⊎ (step ≡ minus_one)
    by_tests true second third h g k e = inl (eqb-true start minus_one h)
    by_tests false true third h g k e = inr (inl (eqb-true stop minus_one g))
    by_tests false false true h g k e = inr (inr (eqb-true step minus_one k))
    by_tests false false false h g k e =
        let n : ℕ = all_mixed start stop step in
        let small : IsWord n = mixed_word (mixed (mixed 2870177450012600261 start) stop) step in
        absurd (never_minus_one n (same_signed (other_than_minus_one n) minus_one (other_word n small) (omega arith) (e ∙ sym signed_minus_one)))

where_none : (first second third : Bool) (hash : ℤ) → ((first ≡ true) ⊎ (second ≡ true) ⊎ (third ≡ true)) → by_lanes first second third hash ≡ negsuc 0
where_none true second third hash some = refl
where_none false true third hash some = refl
where_none false false true hash some = refl
where_none false false false hash (inl some) = absurd (cc)
where_none false false false hash (inr (inl some)) = absurd (cc)
where_none false false false hash (inr (inr some)) = absurd (cc)

is_minus_one : (lane : ℕ) → lane ≡ minus_one → (lane == minus_one) ≡ true
is_minus_one lane same = ap (λ n. n == minus_one) same

pub none : NoHashWhereALaneIsNone
none start stop step first second third = (
  no_hash start stop step,
  λ some. where_none (start == minus_one) (stop == minus_one) (step == minus_one) (signed (all_mixed start stop step)) (tests some),
)
  where
    tests : ((start ≡ minus_one) ⊎ (stop ≡ minus_one) ⊎ (step ≡ minus_one)) → (((start == minus_one) ≡ true) ⊎ ((stop == minus_one) ≡ true) ⊎ ((step == minus_one) ≡ true))
    tests (inl same) = inl (is_minus_one start same)
    tests (inr (inl same)) = inr (inl (is_minus_one stop same))
    tests (inr (inr same)) = inr (inr (is_minus_one step same))
