-- A word is looked for among the words of its length, and so is a method.
use Rattle.std.proofs.Common.{◌≡◌, ◌≢◌, ℕ, List, [], ◌∷◌, length, Bool, true, false, cond, ◌==◌, ◌||◌, refl, sym, ◌∙◌, ap, arith, tests}
use Rattle.std.specs.Prelude.{Option, Some, None}
use Rattle.std.specs.Str.{bytes_eq}
use Rattle.std.specs.List.{find, list_all}
use Rattle.std.proofs.lemmas.Slice.Eq.{bytes_eq-Decides}
use Rattle.pybuf_lemmas.proofs.Numbers.{equal_numbers_pass}
use Rattle.pybuf_lemmas.proofs.Booleans.{both_of}
use Rattle.pybuf_line.specs.Words.{named_in, written_word, every_word, of_length, words_of_length, word_in}
use Rattle.pybuf_line.specs.Methods.{written_method, every_method, method_in}

same_length : (text word : List ℕ) → bytes_eq text word ≡ true → length word ≡ length text
same_length text word h = sym (ap length ((bytes_eq-Decides text word).0 h))

unequal : (n m : ℕ) → m ≢ n → (n == m) ≡ false
unequal n m h = grind (arith, tests)

-- A text of another length isn't the word.
other_length : (passes : Bool) (text word : List ℕ) → bytes_eq text word ≡ passes → (length word == length text) ≡ false → passes ≡ false
other_length false text word e h = refl
other_length true text word e h =
    let yes = equal_numbers_pass (length word) (length text) (same_length text word e) in
    let no : ⊥ = cc in
    absurd no

one_more : {A : Type 0} (name : A → List ℕ) (first : A) (more kept : List A) (text : List ℕ) (fits : Bool) → (length (name first) == length text) ≡ fits →
    named_in name more text ≡ named_in name kept text → named_in name (first ∷ more) text ≡ named_in name (cond fits (first ∷ kept) kept) text
one_more name first more kept text true e h = ap (cond (bytes_eq text (name first)) (Some first)) h
one_more name first more kept text false e h =
    ap (λ passes. cond passes (Some first) (named_in name more text)) (other_length (bytes_eq text (name first)) text (name first) refl e) ∙ h

named_by_length : {A : Type 0} (name : A → List ℕ) (table : List A) (text : List ℕ) → named_in name table text ≡ named_in name (of_length (length text) name table) text
named_by_length name [] text = refl
named_by_length name (first ∷ more) text =
    one_more name first more (of_length (length text) name more) text (length (name first) == length text) refl (named_by_length name more text)

pub words_by_length : (n : ℕ) (text : List ℕ) → length text ≡ n → named_in written_word (words_of_length n) text ≡ word_in text
unfolding word_in
words_by_length n text h = sym (named_by_length written_word every_word text ∙ ap (λ k. named_in written_word (words_of_length k) text) h)

none_of_length : (n : ℕ) (text : List ℕ) → (3 == n) ≡ false → (4 == n) ≡ false → (5 == n) ≡ false → (6 == n) ≡ false → (7 == n) ≡ false →
    (8 == n) ≡ false → (10 == n) ≡ false → named_in written_word (words_of_length n) text ≡ None
none_of_length n text h3 h4 h5 h6 h7 h8 h10 = rw (h3, h4, h5, h6, h7, h8, h10) refl

-- No word has another length.
pub no_word : (text : List ℕ) → length text ≢ 3 → length text ≢ 4 → length text ≢ 5 → length text ≢ 6 → length text ≢ 7 → length text ≢ 8 →
    length text ≢ 10 → None ≡ word_in text
no_word text n3 n4 n5 n6 n7 n8 n10 =
    let n = length text in
    sym
    (sym (words_by_length n text refl)
    ∙ none_of_length n text (unequal 3 n n3) (unequal 4 n n4) (unequal 5 n n5) (unequal 6 n n6) (unequal 7 n n7) (unequal 8 n n8) (unequal 10 n n10))

-- ---- methods

pub methods_by_length : (n : ℕ) (text : List ℕ) → length text ≡ n → named_in written_method (of_length n written_method every_method) text ≡ method_in text
unfolding method_in
methods_by_length n text h = sym (named_by_length written_method every_method text ∙ ap (λ k. named_in written_method (of_length k written_method every_method) text) h)

-- the lengths that methods have
abbrev is_length : ℕ → Bool
is_length k = (k == 3) || ((k == 4) || ((k == 5) || ((k == 6) || ((k == 7) || ((k == 8) || ((k == 9) || ((k == 10) || (k == 12))))))))

other_than : (k n : ℕ) (same : Bool) → (k == n) ≡ same → is_length k ≡ true → is_length n ≡ false → same ≡ false
other_than k n false e p q = refl
other_than k n true e p q =
    let is : k ≡ n = grind (arith, tests) in
    let both : is_length k ≡ is_length n = ap is_length is in
    let no : ⊥ = cc in
    absurd no

none_left : {A : Type 0} (name : A → List ℕ) (first : A) (more : List A) (n : ℕ) (fits : Bool) → (length (name first) == n) ≡ fits → fits ≡ false →
    of_length n name more ≡ [] → of_length n name (first ∷ more) ≡ []
none_left name first more n fits e misses h = ap (λ fits. cond fits (first ∷ of_length n name more) (of_length n name more)) (e ∙ misses) ∙ h

none_of_lengths : {A : Type 0} (name : A → List ℕ) (table : List A) (n : ℕ) → list_all (λ one. is_length (length (name one))) table ≡ true →
    is_length n ≡ false → of_length n name table ≡ []
none_of_lengths name [] n all other = refl
none_of_lengths name (first ∷ more) n all other =
    let each = both_of (is_length (length (name first))) (list_all (λ one. is_length (length (name one))) more) all in
    none_left name first more n (length (name first) == n) refl (other_than (length (name first)) n (length (name first) == n) refl each.0 other)
    (none_of_lengths name more n each.1 other)

no_length : (n : ℕ) → n ≢ 3 → n ≢ 4 → n ≢ 5 → n ≢ 6 → n ≢ 7 → n ≢ 8 → n ≢ 9 → n ≢ 10 → n ≢ 12 → is_length n ≡ false
no_length n n3 n4 n5 n6 n7 n8 n9 n10 n12 = rw (unequal n 3 (λ e. n3 (sym e)), unequal n 4 (λ e. n4 (sym e)), unequal n 5 (λ e. n5 (sym e)), unequal n 6 (λ e. n6 (sym e)), unequal n 7 (λ e. n7 (sym e)), unequal n 8 (λ e. n8 (sym e)), unequal n 9 (λ e. n9 (sym e)), unequal n 10 (λ e. n10 (sym e)), unequal n 12 (λ e. n12 (sym e))) refl

-- No method has another length.
pub no_method : (text : List ℕ) → length text ≢ 3 → length text ≢ 4 → length text ≢ 5 → length text ≢ 6 → length text ≢ 7 → length text ≢ 8 → length text ≢ 9 → length text ≢ 10 → length text ≢ 12 → None ≡ method_in text
no_method text n3 n4 n5 n6 n7 n8 n9 n10 n12 =
    let n = length text in
    let other : is_length n ≡ false = no_length n n3 n4 n5 n6 n7 n8 n9 n10 n12 in
    sym
    (sym (methods_by_length n text refl)
    ∙ ap (λ table. named_in written_method table text) (none_of_lengths written_method every_method n refl other))
