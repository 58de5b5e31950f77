-- The first handle that names an exporter stays the first when more are given.
use Rattle.std.proofs.Common.{◌≡◌, ℕ, ◌+◌, ◌<◌, ◌≤◌, ◌⊎◌, inl, inr, Bool, true, false, true≢false, cond, List, [], ◌∷◌, ◌++◌, length, get_or, ap, sym, ◌∙◌, refl, subst, arith, le_refl}
use Rattle.std.specs.Prelude.{Some, ◌==◌, slice_get, slice_index}
use Rattle.std.specs.List.{All, position_or_len}
use Rattle.std.proofs.lemmas.Bool.{eq-eqb, ne_eqb, cases_lt}
use Rattle.std.proofs.lemmas.Option.{slice_get_within}
use Rattle.std.proofs.lemmas.List.{get_or_push}
use Rattle.std.proofs.lemmas.List.Folds.{position_or_len_push}
use Rattle.std.proofs.lemmas.List.Sums.{position_or_len_is}
use Rattle.std.proofs.Math.ListN.{get_or-append}
use Rattle.pybuf_lemmas.proofs.Lists.{get-left}
use Rattle.pybuf_world.specs.declared.named.Named.{Named}
use Rattle.pybuf_world.specs.declared.named.Named.TheVariants as named
use Rattle.pybuf_world.specs.World.{exporter_of, is_name_of}
use Rattle.pybuf_world.proofs.Lists.{slice_get-push}

-- the first handle that names an exporter, or the number of handles if none does
abbrev pub first : List Named → ℕ → ℕ
first handles i = position_or_len (is_name_of i) handles

abbrev pub NameExporters : ℕ → List Named → Type 0
NameExporters n handles = All (λ name. exporter_of name < n) handles

abbrev pub AreNamed : ℕ → List Named → Type 0
AreNamed n handles = (i : ℕ) → i < n → slice_get handles (first handles i) ≡ Some (named.Exporter i)

abbrev pub AreFirst : ℕ → List Named → List ℕ → Type 0
AreFirst n handles owners = (i : ℕ) → i < n → slice_index owners i ≡ first handles i

-- One more handle leaves the first one.
first_stays : (handles : List Named) (name : Named) (i : ℕ) → slice_get handles (first handles i) ≡ Some (named.Exporter i) → first (handles ++ name ∷ []) i ≡ first handles i
first_stays handles name i at =
    let below = slice_get_within handles (first handles i) (named.Exporter i) at in
    position_or_len_push (is_name_of i) handles name
    ∙ ap (λ (b : Bool). cond b (length handles + cond (is_name_of i name) 0 1) (first handles i))
    (ne_eqb (first handles i) (length handles) (λ same. omega (arith, same, below)))

one_stays_named : (handles : List Named) (name : Named) (i : ℕ) → slice_get handles (first handles i) ≡ Some (named.Exporter i)
    → slice_get (handles ++ name ∷ []) (first (handles ++ name ∷ []) i) ≡ Some (named.Exporter i)
one_stays_named handles name i at =
    ap (slice_get (handles ++ name ∷ [])) (first_stays handles name i at)
    ∙ get-left handles (name ∷ []) (first handles i) (slice_get_within handles (first handles i) (named.Exporter i) at) ∙ at

pub stay_named : (n : ℕ) (handles : List Named) (name : Named) → AreNamed n handles → AreNamed n (handles ++ name ∷ [])
stay_named n handles name names i below = one_stays_named handles name i (names i below)

pub stay_first : (n : ℕ) (handles : List Named) (name : Named) (owners : List ℕ) → AreNamed n handles → AreFirst n handles owners → AreFirst n (handles ++ name ∷ []) owners
stay_first n handles name owners names firsts i below = firsts i below ∙ sym (first_stays handles name i (names i below))

-- ---- a new exporter and its handle

names_no_other : (n : ℕ) (name : Named) → exporter_of name < n → is_name_of n name ≡ false
names_no_other n (named.Exporter i) below = ne_eqb i n (λ same. omega (arith, same, below))
names_no_other n (named.View i k) below = refl
names_no_other n (named.Iterator i k) below = refl

none_before : (n : ℕ) (handles : List Named) → NameExporters n handles → first handles n ≡ length handles
none_before n handles names =
    position_or_len_is (is_name_of n) handles (length handles) (named.Exporter n) (le_refl _)
    (λ k below. names_no_other n (get_or handles k (named.Exporter n)) (names k (named.Exporter n) below))
    (λ less. absurd (omega (arith, less)))

either_end : (b c : Bool) (n : ℕ) → c ≡ true → cond b (n + cond c 0 1) n ≡ n
either_end true true n is = omega arith
either_end true false n is = absurd (true≢false (sym is))
either_end false c n is = refl

new_is_first : (n : ℕ) (handles : List Named) → NameExporters n handles → first (handles ++ named.Exporter n ∷ []) n ≡ length handles
new_is_first n handles names =
    position_or_len_push (is_name_of n) handles (named.Exporter n)
    ∙ ap (λ (k : ℕ). cond (k == length handles) (length handles + cond (n == n) 0 1) k) (none_before n handles names)
    ∙ either_end (length handles == length handles) (n == n) (length handles) (eq-eqb n n refl)

one_is_named : (n i : ℕ) (handles : List Named) → NameExporters n handles → AreNamed n handles → (i < n) ⊎ (n ≤ i) → i < n + 1
    → slice_get (handles ++ named.Exporter n ∷ []) (first (handles ++ named.Exporter n ∷ []) i) ≡ Some (named.Exporter i)
one_is_named n i handles there names (inl below) less = one_stays_named handles (named.Exporter n) i (names i below)
one_is_named n i handles there names (inr from) less =
    let same : n ≡ i = omega arith in
    subst (λ (k : ℕ). slice_get (handles ++ named.Exporter n ∷ []) (first (handles ++ named.Exporter n ∷ []) k) ≡ Some (named.Exporter k)) same
    (ap (slice_get (handles ++ named.Exporter n ∷ [])) (new_is_first n handles there) ∙ slice_get-push handles (named.Exporter n))

pub named_with_new : (n : ℕ) (handles : List Named) → NameExporters n handles → AreNamed n handles → AreNamed (n + 1) (handles ++ named.Exporter n ∷ [])
named_with_new n handles there names i less = one_is_named n i handles there names (cases_lt i n) less

one_is_first : (n i : ℕ) (handles : List Named) (owners : List ℕ) → NameExporters n handles → AreNamed n handles → length owners ≡ n → AreFirst n handles owners → (i < n) ⊎ (n ≤ i) → i < n + 1
    → slice_index (owners ++ length handles ∷ []) i ≡ first (handles ++ named.Exporter n ∷ []) i
one_is_first n i handles owners there names counted firsts (inl below) less =
    get_or-append owners (length handles ∷ []) 0 i (omega (arith, counted, below))
    ∙ firsts i below ∙ sym (first_stays handles (named.Exporter n) i (names i below))
one_is_first n i handles owners there names counted firsts (inr from) less =
    let same : n ≡ i = omega arith in
    get_or_push owners (length handles) 0 i (counted ∙ same)
    ∙ sym (new_is_first n handles there) ∙ ap (first (handles ++ named.Exporter n ∷ [])) same

pub first_with_new : (n : ℕ) (handles : List Named) (owners : List ℕ) → NameExporters n handles → AreNamed n handles → length owners ≡ n → AreFirst n handles owners
    → AreFirst (n + 1) (handles ++ named.Exporter n ∷ []) (owners ++ length handles ∷ [])
first_with_new n handles owners there names counted firsts i less = one_is_first n i handles owners there names counted firsts (cases_lt i n) less
