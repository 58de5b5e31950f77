-- Texts that are put end to end.
use Rattle.std.proofs.Common.{◌≡◌, ℕ, List, [], ◌∷◌, ◌++◌, ap, sym}
use Rattle.std.proofs.lemmas.List.{append_assoc, append-nil}
use Rattle.std.specs.List.{flat_map, join_with_byte}
use Rattle.pybuf_line.specs.Spellings.{written_parts}
use Rattle.pybuf_histories.specs.Words.{after_commas, after_blanks}

pub five_parts : (o o1 o2 o3 o4 o5 a b c d e : List ℕ) → o1 ≡ o ++ a → o2 ≡ o1 ++ b → o3 ≡ o2 ++ c → o4 ≡ o3 ++ d → o5 ≡ o4 ++ e →
    o5 ≡ o ++ (a ++ b ++ c ++ d ++ e)
five_parts o o1 o2 o3 o4 o5 a b c d e h1 h2 h3 h4 h5 = rw (h5, h4, h3, h2, h1) (simp append_assoc)

pub seven_parts : (o o1 o2 o3 o4 o5 o6 o7 a b c d e f g : List ℕ) → o1 ≡ o ++ a → o2 ≡ o1 ++ b → o3 ≡ o2 ++ c → o4 ≡ o3 ++ d → o5 ≡ o4 ++ e →
    o6 ≡ o5 ++ f → o7 ≡ o6 ++ g → o7 ≡ o ++ (a ++ b ++ c ++ d ++ e ++ f ++ g)
seven_parts o o1 o2 o3 o4 o5 o6 o7 a b c d e f g h1 h2 h3 h4 h5 h6 h7 = rw (h7, h6, h5, h4, h3, h2, h1) (simp append_assoc)

-- Words with a byte between each two are the first word, and then each other word behind that byte.
pub first_and_others : (c : ℕ) (word : List ℕ) (more : List (List ℕ)) → join_with_byte c (word ∷ more) ≡ word ++ flat_map (λ w. c ∷ w) more
first_and_others c word [] = sym (append-nil word)
first_and_others c word (next ∷ more) = ap (λ text. word ++ c ∷ text) (first_and_others c next more)

-- the same for parts
pub first_and_parts : {A : Type 0} (text : A → List ℕ) (part : A) (more : List A) → written_parts text (part ∷ more) ≡ text part ++ after_commas text more
first_and_parts text part [] = sym (append-nil (text part))
first_and_parts text part (next ∷ more) = ap (λ others. text part ++ 44 ∷ others) (first_and_parts text next more)

pub parts_joined : {A : Type 0} (text : A → List ℕ) (part : A) (more : List A) (o o1 o2 : List ℕ) → o1 ≡ o ++ text part → o2 ≡ o1 ++ after_commas text more →
    o2 ≡ o ++ written_parts text (part ∷ more)
parts_joined text part more o o1 o2 h1 h2 = rw (h2, h1, first_and_parts text part more) (append_assoc o (text part) (after_commas text more))

-- the text of a command
pub command_parts : (o o1 o2 o3 o4 word subject : List ℕ) (arguments : List (List ℕ)) → o1 ≡ o ++ word → o2 ≡ o1 ++ 32 ∷ [] → o3 ≡ o2 ++ subject →
    o4 ≡ o3 ++ after_blanks arguments → o4 ≡ o ++ join_with_byte 32 (word ∷ subject ∷ arguments)
command_parts o o1 o2 o3 o4 word subject arguments h1 h2 h3 h4 =
    rw (h4, h3, h2, h1, first_and_others 32 word (subject ∷ arguments)) (simp append_assoc)
