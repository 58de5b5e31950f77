-- A session gets one more receipt.
use Rattle.std.proofs.Common.{◌≡◌, ℕ, zero, suc, arith, ◌+◌, List, [], ◌∷◌, ◌++◌, length, ap, sym, ◌∙◌, append_assoc, length-append}
use Rattle.std.proofs.lemmas.List.{append-nil}
use Rattle.pybuf_share.specs.declared.entries.Receipt.{Receipt}
use Rattle.pybuf_share.specs.Sessions.{Asker, new_session, sessions_from, view_given, iterator_given, views_given, iterators_given}

pub views_more : (rs : List Receipt) (r : Receipt) → views_given (rs ++ r ∷ []) ≡ views_given rs ++ view_given r.entry.reply
views_more [] r = append-nil (view_given r.entry.reply)
views_more (x ∷ rs) r = ap (λ ks. view_given x.entry.reply ++ ks) (views_more rs r) ∙ sym (append_assoc (view_given x.entry.reply) (views_given rs) (view_given r.entry.reply))

pub iterators_more : (rs : List Receipt) (r : Receipt) → iterators_given (rs ++ r ∷ []) ≡ iterators_given rs ++ iterator_given r.entry.reply
iterators_more [] r = append-nil (iterator_given r.entry.reply)
iterators_more (x ∷ rs) r =
    ap (λ ks. iterator_given x.entry.reply ++ ks) (iterators_more rs r) ∙ sym (append_assoc (iterator_given x.entry.reply) (iterators_given rs) (iterator_given r.entry.reply))

-- The views and iterators that are kept stay those that the receipts give.
pub views_kept : (rs new_rs : List Receipt) (r : Receipt) (ks new_ks : List ℕ) → new_rs ≡ rs ++ r ∷ [] → new_ks ≡ ks ++ view_given r.entry.reply → ks ≡ views_given rs → new_ks ≡ views_given new_rs
views_kept rs new_rs r ks new_ks more view kept = view ∙ ap (λ (l : List ℕ). l ++ view_given r.entry.reply) kept ∙ sym (views_more rs r) ∙ ap views_given (sym more)

pub iterators_kept : (rs new_rs : List Receipt) (r : Receipt) (ks new_ks : List ℕ) → new_rs ≡ rs ++ r ∷ [] → new_ks ≡ ks ++ iterator_given r.entry.reply → ks ≡ iterators_given rs → new_ks ≡ iterators_given new_rs
iterators_kept rs new_rs r ks new_ks more iterator kept = iterator ∙ ap (λ (l : List ℕ). l ++ iterator_given r.entry.reply) kept ∙ sym (iterators_more rs r) ∙ ap iterators_given (sym more)

pub one_more : (rs new_rs : List Receipt) (r : Receipt) → new_rs ≡ rs ++ r ∷ [] → length new_rs ≡ length rs + 1
one_more rs new_rs r more = ap length more ∙ length-append rs (r ∷ [])

-- One more session is made behind the others.
sessions_behind : (k n : ℕ) → sessions_from k (suc n) ≡ sessions_from k n ++ new_session (k + n) ∷ []
sessions_behind k zero = let same : k ≡ k + zero = omega arith in ap (λ (m : ℕ). new_session m ∷ []) same
sessions_behind k (suc n) =
    let same : suc k + n ≡ k + suc n = omega arith in
    ap (λ (l : List Asker). new_session k ∷ l) (sessions_behind (suc k) n ∙ ap (λ (m : ℕ). sessions_from (suc k) n ++ new_session m ∷ []) same)

pub sessions_more : (n : ℕ) → sessions_from 0 (n + 1) ≡ sessions_from 0 n ++ new_session n ∷ []
sessions_more n = let next : n + 1 ≡ suc n = omega arith in let same : 0 + n ≡ n = omega arith in ap (λ (m : ℕ). sessions_from 0 m) next ∙ sessions_behind 0 n ∙ ap (λ (m : ℕ). sessions_from 0 n ++ new_session m ∷ []) same
