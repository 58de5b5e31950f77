-- Scripts that grow by one command.
use Rattle.std.proofs.Common.{◌≡◌, ◌≢◌, ℕ, zero, suc, ◌+◌, ◌<◌, ◌≤◌, max, Bool, true, false, cond, ◌==◌, List, [], ◌∷◌, ◌++◌, length, map, set, slice_index_or, refl, sym, ◌∙◌, ap, arith, tests}
use Rattle.std.proofs.lemmas.List.{append-nil}
use Rattle.pybuf_lemmas.proofs.Numbers.{number_equals_itself}
use Rattle.pybuf_command.specs.declared.commands.LocalCommand.{LocalCommand}
use Rattle.pybuf_share.specs.Finishing.{numbers_from}
use Rattle.pybuf_sessions.specs.declared.asks.Ask.{Ask}
use Rattle.pybuf_sessions.specs.Scripts.{session_count, script_of, scripts_of, added}

-- ---- one more ask

count_more : (asks : List Ask) (a : Ask) → session_count (asks ++ a ∷ []) ≡ max (session_count asks) (a.session + 1)
count_more [] a = omega arith
count_more (ask ∷ more) a = let rest = count_more more a in omega (arith, rest)

-- what the script of a session gets
abbrev got : Bool → LocalCommand → List LocalCommand
got is c = cond is (c ∷ []) []

onto_if : (is : Bool) (c : LocalCommand) (xs ys zs : List LocalCommand) → xs ≡ ys ++ zs → cond is (c ∷ xs) xs ≡ cond is (c ∷ ys) ys ++ zs
onto_if true c xs ys zs e = ap (λ l. c ∷ l) e
onto_if false c xs ys zs e = e

script_more : (asks : List Ask) (a : Ask) (k : ℕ) → script_of (asks ++ a ∷ []) k ≡ script_of asks k ++ got (a.session == k) a.command
script_more [] a k = refl
script_more (ask ∷ more) a k =
    onto_if (ask.session == k) ask.command (script_of (more ++ a ∷ []) k) (script_of more k) (got (a.session == k) a.command) (script_more more a k)

is_other : (n k : ℕ) → n ≢ k → (n == k) ≡ false
is_other n k h = grind (arith, tests)

script_none : (asks : List Ask) (k : ℕ) → session_count asks ≤ k → script_of asks k ≡ []
script_none [] k h = refl
script_none (ask ∷ more) k h =
    let other : ask.session ≢ k = λ e. absurd (omega (arith, h, e)) in
    ap (λ is. cond is (ask.command ∷ script_of more k) (script_of more k)) (is_other ask.session k other) ∙ script_none more k (omega (arith, h))

-- ---- scripts of numbers

same_scripts : (f g : ℕ → List LocalCommand) (p : ℕ) → ((k : ℕ) → k ≢ p → g k ≡ f k) → (j n : ℕ) → p < j →
    map f (numbers_from j n) ≡ map g (numbers_from j n)
same_scripts f g p same j zero h = refl
same_scripts f g p same j (suc n) h =
    let first : f j ≡ g j = sym (same j (λ e. absurd (omega (arith, h, e)))) in
    let rest : map f (numbers_from (suc j) n) ≡ map g (numbers_from (suc j) n) = same_scripts f g p same (suc j) n (omega (arith, h)) in
    ap (λ x. x ∷ map f (numbers_from (suc j) n)) first ∙ ap (λ xs. g j ∷ xs) rest

-- The script of session p gets a command, and those from q on were empty before.
pub record Gets (f g : ℕ → List LocalCommand) (c : LocalCommand) (p q : ℕ) : Type 0 where
  pub same : (k : ℕ) → k ≢ p → g k ≡ f k
  pub here : g p ≡ f p ++ c ∷ []
  pub none : (k : ℕ) → q ≤ k → f k ≡ []

scripts_grow : (f g : ℕ → List LocalCommand) (c : LocalCommand) (p q : ℕ) → Gets f g c p q → (j s n m : ℕ) → p ≡ j + s → q ≤ j + n → m ≡ max n (s + 1) →
    added s c (map f (numbers_from j n)) ≡ map g (numbers_from j m)
scripts_grow f g c p q gets j s n zero at within e = absurd (omega (arith, e))
scripts_grow f g c p q gets j zero zero (suc m) at within e =
    let none : m ≡ 0 = omega (arith, e) in
    let here : j ≡ p = omega (arith, at) in
    let first : c ∷ [] ≡ g j = sym (ap g here ∙ (gets.here ∙ ap (λ l. l ++ c ∷ []) (gets.none p (omega (arith, within, at))))) in
    ap (λ l. l ∷ []) first ∙ ap (λ k. g j ∷ map g (numbers_from (suc j) k)) (sym none)
scripts_grow f g c p q gets j zero (suc n) (suc m) at within e =
    let many : m ≡ n = omega (arith, e) in
    let here : j ≡ p = omega (arith, at) in
    let first : f j ++ c ∷ [] ≡ g j = ap (λ k. f k ++ c ∷ []) here ∙ (sym gets.here ∙ ap g (sym here)) in
    let rest : map f (numbers_from (suc j) n) ≡ map g (numbers_from (suc j) n) = same_scripts f g p gets.same (suc j) n (omega (arith, at)) in
    ap (λ x. x ∷ map f (numbers_from (suc j) n)) first ∙ (ap (λ xs. g j ∷ xs) rest ∙ ap (λ k. g j ∷ map g (numbers_from (suc j) k)) (sym many))
scripts_grow f g c p q gets j (suc s) zero (suc m) at within e =
    let first : [] ≡ g j = sym (gets.same j (λ x. absurd (omega (arith, at, x))) ∙ gets.none j (omega (arith, within))) in
    let rest : added s c [] ≡ map g (numbers_from (suc j) m) = scripts_grow f g c p q gets (suc j) s 0 m (omega (arith, at)) (omega (arith, within)) (omega (arith, e)) in
    ap (λ x. x ∷ added s c []) first ∙ ap (λ xs. g j ∷ xs) rest
scripts_grow f g c p q gets j (suc s) (suc n) (suc m) at within e =
    let first : f j ≡ g j = sym (gets.same j (λ x. absurd (omega (arith, at, x)))) in
    let rest : added s c (map f (numbers_from (suc j) n)) ≡ map g (numbers_from (suc j) m) =
    scripts_grow f g c p q gets (suc j) s n m (omega (arith, at)) (omega (arith, within)) (omega (arith, e)) in
    ap (λ x. x ∷ added s c (map f (numbers_from (suc j) n))) first ∙ ap (λ xs. g j ∷ xs) rest

gets_one : (asks : List Ask) (a : Ask) → Gets (script_of asks) (script_of (asks ++ a ∷ [])) a.command a.session (session_count asks)
gets_one asks a = record {
  same = λ k other. script_more asks a k
      ∙ (ap (λ is. script_of asks k ++ got is a.command) (is_other a.session k (λ e. other (sym e))) ∙ append-nil (script_of asks k));
  here = script_more asks a a.session ∙ ap (λ is. script_of asks a.session ++ got is a.command) (number_equals_itself a.session);
  none = λ k h. script_none asks k h;
}

-- After one more ask, the scripts are those of the others with its command added.
pub one_ask_more : (asks : List Ask) (a : Ask) → scripts_of (asks ++ a ∷ []) ≡ added a.session a.command (scripts_of asks)
one_ask_more asks a =
    sym
    (scripts_grow (script_of asks) (script_of (asks ++ a ∷ [])) a.command a.session (session_count asks) (gets_one asks a) 0 a.session (session_count asks)
    (session_count (asks ++ a ∷ [])) (omega arith) (omega arith) (count_more asks a))

-- ---- room for a script

pub empty_more : (scripts : List (List LocalCommand)) (s : ℕ) (c : LocalCommand) → length scripts ≤ s → added s c (scripts ++ [] ∷ []) ≡ added s c scripts
empty_more [] zero c h = refl
empty_more [] (suc s) c h = refl
empty_more (script ∷ more) zero c h = absurd (omega (arith, h))
empty_more (script ∷ more) (suc s) c h = ap (λ rest. script ∷ rest) (empty_more more s c (omega (arith, h)))

-- ---- a command that is put into a script

pub put_there : (scripts : List (List LocalCommand)) (s : ℕ) (c : LocalCommand) (old new : List LocalCommand) → s < length scripts →
    old ≡ slice_index_or scripts s old → new ≡ old ++ c ∷ [] → set scripts s new ≡ added s c scripts
put_there [] s c old new h is grown = absurd (omega (arith, h))
put_there (script ∷ more) zero c old new h is grown = ap (λ x. x ∷ more) (grown ∙ ap (λ x. x ++ c ∷ []) is)
put_there (script ∷ more) (suc s) c old new h is grown = ap (λ rest. script ∷ rest) (put_there more s c old new (omega (arith, h)) is grown)
