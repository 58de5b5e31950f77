-- Sessions that keep their numbers and their parts of the ledger.
use Rattle.std.proofs.Common.{◌≡◌, ℕ, suc, ◌<◌, List, [], ◌∷◌, ◌++◌, length, map, take, get_or, refl, ap, ap₂, sym, ◌∙◌, arith}
use Rattle.std.specs.List.{sum}
use Rattle.std.proofs.lemmas.List.Sums.{sum-map}
use Rattle.pybuf_share.specs.Sessions.{Asker}
use Rattle.pybuf_share.specs.Finishing.{numbers_from, AreAll}

-- what f tells of sessions, if it tells the same at each place
map_kept : (f : Asker → ℕ) (xs ys : List Asker) → length ys ≡ length xs → ((i : ℕ) (d : Asker) → i < length xs → f (get_or ys i d) ≡ f (get_or xs i d)) → map f ys ≡ map f xs
map_kept f [] [] len each = refl
map_kept f [] (y ∷ ys) len each = absurd (omega (arith, len))
map_kept f (x ∷ xs) [] len each = absurd (omega (arith, len))
map_kept f (x ∷ xs) (y ∷ ys) len each = ap₂ (λ n ns. n ∷ ns) (each 0 x (omega arith)) (map_kept f xs ys (omega (arith, len)) (λ i d within. each (suc i) d (omega (arith, within))))

-- If each session keeps its number and its parts, they are all sessions afterwards too.
pub all_kept : (parts : ℕ) (xs ys : List Asker) → length ys ≡ length xs → ((i : ℕ) (d : Asker) → i < length xs → (get_or ys i d).number ≡ (get_or xs i d).number)
    → ((i : ℕ) (d : Asker) → i < length xs → (get_or ys i d).parts ≡ (get_or xs i d).parts) → AreAll parts xs → AreAll parts ys
all_kept parts xs ys len numbers shares all = record {
  numbers = map_kept (λ s. s.number) xs ys len numbers ∙ all.numbers ∙ ap (λ n. numbers_from 0 n) (sym len);
  whole = sym (sum-map (λ s. s.parts) ys) ∙ ap sum (map_kept (λ s. s.parts) xs ys len shares) ∙ sum-map (λ s. s.parts) xs ∙ all.whole;
}

-- what was written back of a whole list
taken : (ys zs : List Asker) → take (length ys) (ys ++ zs) ≡ ys
taken [] zs = refl
taken (y ∷ ys) zs = ap (λ l. y ∷ l) (taken ys zs)

pub all_taken : (ys zs : List Asker) (n : ℕ) → n ≡ length ys → take n (ys ++ zs) ≡ ys
all_taken ys zs n is = ap (λ (k : ℕ). take k (ys ++ zs)) is ∙ taken ys zs
