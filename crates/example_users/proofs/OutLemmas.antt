-- Views that are out, by their numbers.
use Rattle.std.proofs.Common.{◌≡◌, ℕ, suc, zero, ◌+◌, ◌<◌, ◌≤◌, Bool, true, false, cond, List, [], ◌∷◌, length, map, refl, ap, arith, sym, ◌∙◌, subst, set}
use Rattle.std.specs.Prelude.{Contains, count_by, slice_get, Result, Ok, Err, MatchResult, OnErr}
use Rattle.std.proofs.lemmas.List.Sums.{sum_by-cons}
use Rattle.std.proofs.lemmas.List.{map-set, set_past, length-map}
use Rattle.std.specs.Option.{ok_or}
use Rattle.pybuf_value.specs.declared.faults.Fault.{Fault}
use Rattle.pybuf_value.specs.Refusing.{◌>>=◌}
use Rattle.pybuf_state.specs.Exporter.{Exporter, View, exports_of, is_exported, view_at, released_at, released_in}
use Rattle.example_users.specs.Numbers.{Numbers, numbers_in, IsLent}
use Rattle.pybuf_exporter.specs.Stored.{StoredExporter}

found_first : (b : Bool) (bs : List Bool) (n : ℕ) → 0 < cond b 1 0 + n → (0 < n → Contains bs true) → Contains (b ∷ bs) true
found_first true bs n some rest = (0, omega arith, refl)
found_first false bs n some rest = let (k, inside, is) = rest (omega arith) in (suc k, omega arith, is)

-- If the count of elements that pass a test isn't 0, one of them passes it.
pub some_pass : {X : Type 0} (p : X → Bool) (xs : List X) → 0 < count_by p xs → Contains (map p xs) true
some_pass p [] some = absurd (omega arith)
some_pass p (x ∷ xs) some = found_first (p x) (map p xs) (count_by p xs) (rw sum_by-cons at some) (some_pass p xs)

not_first : (b : Bool) (bs : List Bool) (n : ℕ) → cond b 1 0 + n ≡ 0 → (n ≡ 0 → Contains bs true → ⊥) → Contains (b ∷ bs) true → ⊥
not_first true bs n none rest found = absurd (omega arith)
not_first false bs n none rest (zero, inside, is) = cc
not_first false bs n none rest (suc k, inside, is) = rest (omega arith) (k, omega arith, is)

-- If that count is 0, none passes it.
pub none_pass : {X : Type 0} (p : X → Bool) (xs : List X) → count_by p xs ≡ 0 → Contains (map p xs) true → ⊥
none_pass p [] none (k, inside, is) = absurd (omega arith)
none_pass p (x ∷ xs) none found = not_first (p x) (map p xs) (count_by p xs) (rw sum_by-cons at none) (none_pass p xs) found

-- An array is lent exactly if one of its views is out.
pub lent_by : (a : Numbers) (e : Exporter) → numbers_in e ≡ a → (exports_of e ≡ 0 → ⊥) → IsLent a
lent_by a e is some = subst IsLent is (some_pass is_exported e.views (omega arith))

pub lent_none : (a : Numbers) (e : Exporter) → numbers_in e ≡ a → exports_of e ≡ 0 → IsLent a → ⊥
lent_none a e is none lent = none_pass is_exported e.views none (subst IsLent (sym is) lent)

past_end : {X : Type 0} (xs : List X) (k : ℕ) (f g : Fault) → Err f ≡ ok_or (slice_get xs k) g → length xs ≤ k
past_end [] k f g none = omega arith
past_end (x ∷ xs) zero f g none = absurd cc
past_end (x ∷ xs) (suc k) f g none = let rest : length xs ≤ k = past_end xs k f g none in omega arith

given_back_by : (e new : Exporter) (k : ℕ) (view : Result View Fault) (r : Result Unit Fault) → view ≡ view_at e k
    → MatchResult r (λ _. (view >>= (λ v. Ok (released_at e k v))) ≡ Ok new) (λ f. (view >>= (λ v. Ok (released_at e k v))) ≡ Err f) → OnErr r (new ≡ e)
    → numbers_in new ≡ record (numbers_in e) { out = set (map is_exported e.views) k false }
given_back_by e new k (Ok v) (Ok done) at exact err =
    let same : new ≡ released_at e k v = cc in
    ap numbers_in same ∙ ap (λ out. record (numbers_in e) { out = out }) (map-set is_exported e.views k (record v { released = true }))
given_back_by e new k (Ok v) (Err f) at exact err = absurd cc
given_back_by e new k (Err f) (Ok done) at exact err = absurd cc
given_back_by e new k (Err f) (Err g) at exact err =
    let past : length (map is_exported e.views) ≤ k = omega (arith, length-map e.views is_exported, past_end e.views k f _ at) in
    ap numbers_in err ∙ ap (λ out. record (numbers_in e) { out = out }) (sym (set_past (map is_exported e.views) k false past))

-- A view that was given back is no longer out.
pub given_back : (a : Numbers) (e new : Exporter) (k : ℕ) (r : Result Unit Fault) → numbers_in e ≡ a
    → MatchResult r (λ _. released_in e k ≡ Ok new) (λ f. released_in e k ≡ Err f) → OnErr r (new ≡ e)
    → numbers_in new ≡ record a { out = set a.out k false }
given_back a e new k r is exact err = given_back_by e new k (view_at e k) r refl exact err ∙ ap {B = Numbers} (λ b. record b { out = set b.out k false }) is

-- If an exporter that is lent on stays, so does the array's.
pub stays_on_err : (r : Result Unit Fault) (old new : StoredExporter) (e : Exporter) → old.exporter ≡ e → OnErr r (new ≡ old) → OnErr r (new.exporter ≡ e)
stays_on_err (Ok done) old new e at same = same
stays_on_err (Err f) old new e at same = ap (λ (s : StoredExporter). s.exporter) same ∙ at
