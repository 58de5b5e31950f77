-- Lists that are repeated n times.
use Rattle.std.proofs.Common.{◌≡◌, ℕ, zero, suc, ◌+◌, List, ◌++◌, ap, sym, ◌∙◌, refl, arith, append_assoc, append-nil}
use Rattle.std.specs.Prelude.{◌*◌, ◌^◌, length, nat_lt, true, Ok}
use Rattle.pybuf_slice.specs.Edits.{repeated_list}
use Rattle.pybuf_state.specs.Exporter.{Exporter}
use Rattle.pybuf_state.specs.Resizing.{resizable}
use Rattle.pybuf_verbs_edits.specs.Common.{with_bytes}
use Rattle.pybuf_verbs_edits.specs.Growing.{repeated}

-- One more list at the end is one more at the front.
more_behind : {X : Type 0} (n : ℕ) (xs : List X) → repeated_list n xs ++ xs ≡ repeated_list (suc n) xs
more_behind zero xs = sym (append-nil xs)
more_behind {X} (suc n) xs = append_assoc xs (repeated_list n xs) xs ∙ ap (λ (rest : List X). xs ++ rest) (more_behind n xs)

pub once_more : {X : Type 0} (n : ℕ) (xs list : List X) → list ≡ repeated_list n xs → list ++ xs ≡ repeated_list (n + 1) xs
once_more {X} n xs list is =
    let next : suc n ≡ n + 1 = omega arith in
    ap (λ (ys : List X). ys ++ xs) is ∙ more_behind n xs ∙ ap (λ (k : ℕ). repeated_list k xs) next

pub is_repeated : (e : Exporter) (n : ℕ) (bytes : List ℕ) → resizable e ≡ Ok true → nat_lt (length e.bytes * n) (2 ^ 63) ≡ true → bytes ≡ repeated_list n e.bytes → repeated e n ≡ Ok (with_bytes e bytes)
is_repeated e n bytes free fits is = rw (free, fits, is) refl
