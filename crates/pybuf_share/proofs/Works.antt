-- Workers that are made one after the other, and what their sessions have to show.
use Rattle.std.proofs.Common.{◌≡◌, ◌⊎◌, ℕ, zero, suc, ◌+◌, ◌<◌, ◌≤◌, true, List, [], ◌∷◌, ◌++◌, length, map, take, drop, get_or, refl, ap, ap₂, sym, ◌∙◌, arith, subst, inl, inr}
use denote.Ref.{MutBor}
use denote.Param.Members.{Shared}
use Rattle.std.specs.List.{All}
use Rattle.std.specs.Fork.{ChangesEach}
use Rattle.std.proofs.lemmas.Bool.{cases_lt}
use Rattle.std.proofs.lemmas.List.{map_push, take_more, drop_more, length-take-le, length-drop}
use Rattle.pybuf_command.specs.declared.commands.LocalCommand.{LocalCommand}
use Rattle.pybuf_share.specs.Sessions.{Asker, new_session, sessions_from}
use Rattle.pybuf_share.specs.Working.{Work, HasDone, HaveDone, Post, post_of, works_from, new_work}

-- One more session has carried out its script.
have_done_more : (scripts : List (List LocalCommand)) (ss : List Asker) (script : List LocalCommand) (s : Asker) → HaveDone scripts ss → HasDone script s → HaveDone (scripts ++ script ∷ []) (ss ++ s ∷ [])
have_done_more [] [] script s all one = (one, tt)
have_done_more [] (t ∷ ss) script s all one = absurd all
have_done_more (x ∷ scripts) [] script s all one = absurd all
have_done_more (x ∷ scripts) (t ∷ ss) script s all one = (all.0, have_done_more scripts ss script s all.1 one)

pub sessions_next : (ws : List Work) (w : Work) (ss new : List Asker) (s : Asker) → new ≡ ss ++ s ∷ [] → s ≡ w.asker → HasDone w.script s → (ss ≡ map (λ x. x.asker) ws) × HaveDone (map (λ x. x.script) ws) ss
    → (new ≡ map (λ x. x.asker) (ws ++ w ∷ [])) × HaveDone (map (λ x. x.script) (ws ++ w ∷ [])) new
sessions_next ws w ss new s more is one all = (
  more ∙ ap₂ (λ (l : List Asker) (t : Asker). l ++ t ∷ []) all.0 is ∙ sym (map_push (λ (x : Work). x.asker) ws w),
  subst (λ (l : List (List LocalCommand)). HaveDone l new) (sym (map_push (λ (x : Work). x.script) ws w))
      (subst (λ (l : List Asker). HaveDone (map (λ (x : Work). x.script) ws ++ w.script ∷ []) l) (sym more) (have_done_more (map (λ (x : Work). x.script) ws) ss w.script s all.1 one)),
)

-- Workers stay at their posts if each of them does.
pub posts_stay : (xs ys : List Work) → length ys ≡ length xs → ((i : ℕ) (d : Work) → i < length xs → post_of (get_or ys i d) ≡ post_of (get_or xs i d)) → map post_of ys ≡ map post_of xs
posts_stay [] [] len each = refl
posts_stay [] (y ∷ ys) len each = absurd (omega (arith, len))
posts_stay (x ∷ xs) [] len each = absurd (omega (arith, len))
posts_stay (x ∷ xs) (y ∷ ys) len each = ap₂ (λ p ps. p ∷ ps) (each 0 x (omega arith)) (posts_stay xs ys (omega (arith, len)) (λ i d within. each (suc i) d (omega (arith, within))))

-- The same holds if each worker is handed to a call that keeps it at its post.
pub calls_keep_posts : {F : Type 0} (g : Shared F (ℕ × (MutBor Work × Unit {0})) ((Unit {0}) × (MutBor Work × Unit {0}))) (f : F) (xs ys : List Work) → length ys ≡ length xs
    → ((i : ℕ) (before after : MutBor Work) → g.post f (i, (before, tt)) (tt, (after, tt)) → post_of after.now ≡ post_of before.now)
    → ChangesEach g f xs ys → map post_of ys ≡ map post_of xs
calls_keep_posts g f xs ys len one all =
    posts_stay xs ys len (λ i d within. (let at = (all i d within).1 in ap post_of (sym at.left) ∙ one i at.argument at.after_call at.call ∙ ap post_of at.argument_is))

-- what was written back of a whole list
taken : (ys zs : List Work) → take (length ys) (ys ++ zs) ≡ ys
taken [] zs = refl
taken (y ∷ ys) zs = ap (λ l. y ∷ l) (taken ys zs)

pub all_taken : (ys zs : List Work) (n : ℕ) → n ≡ length ys → take n (ys ++ zs) ≡ ys
all_taken ys zs n is = ap (λ (k : ℕ). take k (ys ++ zs)) is ∙ taken ys zs

first_of : {X : Type 0} (x y : X) (xs ys : List X) → x ∷ xs ≡ y ∷ ys → x ≡ y
first_of x y xs ys e = ap (λ l. get_or l 0 x) e

rest_of : {X : Type 0} (x y : X) (xs ys : List X) → x ∷ xs ≡ y ∷ ys → xs ≡ ys
rest_of x y xs ys e = ap (λ l. drop 1 l) e

-- x stands at a place of the list, and the rest is what is left behind it.
pub record IsHere {X : Type 0} (xs : List X) (i : ℕ) (x : X) (rest : List X) : Type 0 where
  pub within : i < length xs
  pub read : x ≡ get_or xs i x
  pub rest_is : rest ≡ drop (i + 1) xs

here_by : {X : Type 0} (xs : List X) (i : ℕ) (x : X) (rest : List X) → drop i xs ≡ x ∷ rest → (i < length xs) ⊎ (length xs ≤ i) → IsHere xs i x rest
here_by xs i x rest is (inl within) =
    let both = sym is ∙ drop_more xs i x within in
    record { within = within; read = first_of x (get_or xs i x) rest (drop (i + 1) xs) both; rest_is = rest_of x (get_or xs i x) rest (drop (i + 1) xs) both }
here_by xs i x rest is (inr past) =
    let none = length-drop i xs in
    let some = ap length is in
    absurd (omega (arith, none, some, past))

pub here : {X : Type 0} (xs left : List X) (i : ℕ) (x : X) (rest : List X) → left ≡ drop i xs → left ≡ x ∷ rest → IsHere xs i x rest
here xs left i x rest left_is first = here_by xs i x rest (sym left_is ∙ first) (cases_lt i (length xs))

-- If nothing is left from a place on, the list has ended.
pub no_more : {X : Type 0} (xs left : List X) (i : ℕ) → left ≡ drop i xs → length left ≡ 0 → length xs ≤ i
no_more xs left i left_is none =
    let many = length-drop i xs in
    let left_many = ap length left_is in
    omega (arith, many, left_many, none)

pub many_sessions : (k n : ℕ) → length (sessions_from k n) ≡ n
many_sessions k zero = refl
many_sessions k (suc n) = let rest = many_sessions (suc k) n in omega (arith, rest)

session_at : (k n i : ℕ) (d : Asker) → i < n → get_or (sessions_from k n) i d ≡ new_session (k + i)
session_at k zero i d within = absurd (omega (arith, within))
session_at k (suc n) zero d within = let same : k ≡ k + 0 = omega arith in ap new_session same
session_at k (suc n) (suc i) d within = let same : suc k + i ≡ k + suc i = omega arith in session_at (suc k) n i d (omega (arith, within)) ∙ ap new_session same

-- The session at a place is new, and its number is the place.
pub session_here : (ss : List Asker) (n i : ℕ) (s : Asker) → ss ≡ sessions_from 0 n → i < length ss → s ≡ get_or ss i s → s ≡ new_session i
session_here ss n i s are low read =
    let within : i < n = let len = ap length are ∙ many_sessions 0 n in omega (arith, len, low) in
    let same : 0 + i ≡ i = omega arith in
    read ∙ ap (λ (l : List Asker). get_or l i s) are ∙ session_at 0 n i s within ∙ ap new_session same

pub many_works : (k : ℕ) (scripts : List (List LocalCommand)) → length (works_from k scripts) ≡ length scripts
many_works k [] = refl
many_works k (script ∷ scripts) = let rest = many_works (suc k) scripts in omega (arith, rest)

works_behind : (k : ℕ) (scripts : List (List LocalCommand)) (script : List LocalCommand) → works_from k (scripts ++ script ∷ []) ≡ works_from k scripts ++ new_work (k + length scripts) script ∷ []
works_behind k [] script = let same : k ≡ k + 0 = omega arith in ap (λ (n : ℕ). new_work n script ∷ []) same
works_behind k (x ∷ scripts) script =
    let same : suc k + length scripts ≡ k + suc (length scripts) = omega arith in
    ap (λ (l : List Work). new_work k x ∷ l) (works_behind (suc k) scripts script ∙ ap (λ (n : ℕ). works_from (suc k) scripts ++ new_work n script ∷ []) same)

-- One more worker is made.
pub works_next : (scripts : List (List LocalCommand)) (i : ℕ) (script : List LocalCommand) (s : Asker) (ws new : List Work) → i < length scripts → script ≡ get_or scripts i script → s ≡ new_session i → ws ≡ works_from 0 (take i scripts)
    → new ≡ ws ++ new_work s.number script ∷ [] → new ≡ works_from 0 (take (i + 1) scripts)
works_next scripts i script s ws new within read is so_far more =
    let many : 0 + length (take i scripts) ≡ i = let len = length-take-le i scripts (omega (arith, within)) in omega (arith, len) in
    let all : take (i + 1) scripts ≡ take i scripts ++ script ∷ [] = take_more scripts i script within ∙ ap (λ (x : List LocalCommand). take i scripts ++ x ∷ []) (sym read) in
    more
    ∙ ap₂ (λ (l : List Work) (n : ℕ). l ++ new_work n script ∷ []) so_far (ap (λ (t : Asker). t.number) is ∙ sym many)
    ∙ sym (works_behind 0 (take i scripts) script)
    ∙ ap (λ (l : List (List LocalCommand)). works_from 0 l) (sym all)
