-- Facts about the definitions of this crate, with their proofs, for the proofs of the crates above.
use Rattle.std.proofs.Common.{◌≡◌, ℕ, true, List, ◌∷◌, arith, ◌≢◌, ◌+◌, [], ◌++◌, false, Bool, refl, ◌-◌, ap, ◌∙◌, zero, suc, take, drop}
use Rattle.std.proofs.lemmas.Bool.Decides.{nat_tests}
use Rattle.std.specs.Prelude.{◌==◌, if◌then◌else◌, reverse, slice_get}
use Rattle.std.proofs.lemmas.List.{reverse-append}
use Rattle.std.specs.List.{range_with_len, cons_option}
use Rattle.std.proofs.lemmas.List.Elements.{filter_map-append}
use Rattle.pybuf_lemmas.proofs.Lists.{first_then_taken}
use Rattle.pybuf_slice.specs.Edits.{has}
use Rattle.pybuf_slice.specs.Reads.{elements_at}

pub has_head : (i : ℕ) (r : List ℕ) (q : ℕ) → i ≡ q → has (i ∷ r) q ≡ true
has_head i r q e = grind (arith, nat_tests)

pub has_other : (i : ℕ) (r : List ℕ) (q : ℕ) → i ≢ q → has (i ∷ r) q ≡ has r q
has_other i r q e = grind (arith, nat_tests)

pub has_append : (xs ys : List ℕ) (q : ℕ) → has (xs ++ ys) q ≡ (if has xs q then true else has ys q)
has_append [] ys q = refl
has_append (x ∷ xs) ys q = append_if (x == q) xs ys q (has_append xs ys q)
  where
    append_if : (b : Bool) (xs ys : List ℕ) (q : ℕ) → has (xs ++ ys) q ≡ (if has xs q then true else has ys q) → (if b then true else has (xs ++ ys) q) ≡ (if (if b then true else has xs q) then true else has ys q)
    append_if true xs ys q same = refl
    append_if false xs ys q same = same

pub either_way : (b c : Bool) → (if c then true else if b then true else false) ≡ (if b then true else c)
either_way true true = refl
either_way true false = refl
either_way false true = refl
either_way false false = refl

pub has_reverse : (xs : List ℕ) (q : ℕ) → has (reverse xs) q ≡ has xs q
has_reverse [] q = refl
has_reverse (x ∷ xs) q =
    ap (λ (us : List ℕ). has us q) (reverse-append (x ∷ []) xs)
    ∙ has_append (reverse xs) (x ∷ []) q
    ∙ ap (λ (b : Bool). if b then true else has (x ∷ []) q) (has_reverse xs q)
    ∙ either_way (x == q) (has xs q)

-- the bytes at places one after the other
pub run_of_bytes : (bytes : List ℕ) (start n : ℕ) → elements_at bytes (range_with_len start n) ≡ take n (drop start bytes)
run_of_bytes bytes start zero = refl
run_of_bytes bytes start (suc n) =
    let next : start + 1 ≡ suc start = omega arith in
    ap (cons_option (slice_get bytes start)) (run_of_bytes bytes (start + 1) n ∙ ap (λ (k : ℕ). take n (drop k bytes)) next) ∙ first_then_taken bytes start n

pub elements_both : (bytes : List ℕ) (xs ys : List ℕ) → elements_at bytes (xs ++ ys) ≡ elements_at bytes xs ++ elements_at bytes ys
elements_both bytes xs ys = filter_map-append (slice_get bytes) xs ys
