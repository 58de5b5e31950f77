-- The entries of a shape, read one after the other.
use Rattle.std.proofs.Common.{◌≡◌, ℕ, suc, ◌+◌, ◌*◌, ◌<◌, List, [], ◌∷◌, ◌++◌, length, get_or, drop, drop-cons, ap, ap₂, sym, ◌∙◌, refl, arith, append_assoc}
use Rattle.std.specs.Prelude.{Result, Ok, Err}
use Rattle.pybuf_desc.specs.Facts.{product-push}
use Rattle.pybuf_value.specs.declared.faults.Fault.{Fault}
use Rattle.pybuf_value.specs.declared.values.Scalar.{Scalar}
use Rattle.pybuf_value.specs.Refusing.{◌>>=◌}
use Rattle.pybuf_desc.specs.Layouts.{product}
use Rattle.pybuf_verbs_views.specs.Cast.{entry_of, entries_of}

-- entries in front of others, if these are not refused
abbrev pub joined : List ℕ → Result (List ℕ) Fault → Result (List ℕ) Fault
joined made (Ok later) = Ok (made ++ later)
joined made (Err f) = Err f

join_next : (made : List ℕ) (entry : ℕ) (later : Result (List ℕ) Fault) → joined made (later >>= (λ es. Ok (entry ∷ es))) ≡ joined (made ++ entry ∷ []) later
join_next made entry (Ok es) = ap (λ (xs : List ℕ). Ok xs) (sym (append_assoc made (entry ∷ []) es))
join_next made entry (Err f) = refl

entries_at : (size i : ℕ) (parts : List Scalar) (part d : Scalar) → i < length parts → part ≡ get_or parts i d → entries_of size (drop i parts) ≡ (entry_of size part >>= λ entry. entries_of (size * entry) (drop (i + 1) parts) >>= λ es. Ok (entry ∷ es))
entries_at size i parts part d below here =
    let up : suc i ≡ i + 1 = omega arith in
    ap (entries_of size) (drop-cons parts i d below ∙ ap₂ (λ (x : Scalar) (k : ℕ). x ∷ drop k parts) (sym here) up)

pub entry_next : (wanted : Result (List ℕ) Fault) (made more : List ℕ) (size entry i : ℕ) (parts : List Scalar) (part d : Scalar) → i < length parts → part ≡ get_or parts i d
    → wanted ≡ joined made (entries_of size (drop i parts)) → Ok entry ≡ entry_of size part → more ≡ made ++ entry ∷ []
    → wanted ≡ joined more (entries_of (size * entry) (drop (i + 1) parts))
entry_next wanted made more size entry i parts part d below here so_far given pushed =
    so_far ∙ ap (joined made) (entries_at size i parts part d below here ∙ ap (λ (r : Result ℕ Fault). r >>= λ x. entries_of (size * x) (drop (i + 1) parts) >>= λ es. Ok (x ∷ es)) (sym given))
    ∙ join_next made entry (entries_of (size * entry) (drop (i + 1) parts))
    ∙ ap (λ (xs : List ℕ). joined xs (entries_of (size * entry) (drop (i + 1) parts))) (sym pushed)

pub product_next : (made more : List ℕ) (first size entry : ℕ) → size ≡ first * product made → more ≡ made ++ entry ∷ [] → size * entry ≡ first * product more
product_next made more first size entry so_far pushed =
    ap (λ (n : ℕ). n * entry) so_far ∙ (let e : first * product made * entry ≡ first * (product made * entry) = omega arith in e)
    ∙ ap (λ (n : ℕ). first * n) (sym (product-push made entry)) ∙ ap (λ (xs : List ℕ). first * product xs) (sym pushed)
