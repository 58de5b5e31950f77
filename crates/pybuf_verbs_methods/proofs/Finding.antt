-- What a handle names is found among the pairs of some handles.
use Rattle.std.proofs.Common.{◌≡◌, ℕ, List, [], ◌∷◌, ◌++◌, Bool, true, false, refl, ap, sym, subst, ◌∙◌}
use Rattle.std.specs.Prelude.{◌==◌, ◌||◌, Option, Some, None, map, if◌then◌else◌}
use Rattle.std.specs.List.{flat_map, list_any}
use Rattle.std.proofs.lemmas.Bool.{eqb-true}
use Rattle.pybuf_value.specs.declared.snaps.Snap.{Snap}
use Rattle.pybuf_value.specs.Snaps.{snap_of}
use Rattle.pybuf_command.specs.declared.kinds.Subject.{Subject}
use Rattle.pybuf_command.specs.declared.loans.Loan.{Loan}
use Rattle.pybuf_state.specs.Exporter.{Exporter}
use Rattle.pybuf_state.specs.Loans.{Lent, lent_as, lents_by, snap_in, snaps_of, subject_in}
use Rattle.pybuf_verbs_methods.specs.Laws.{NamesAreFound}
use Rattle.pybuf_verbs_methods.specs.Names.{paired, all_paired, named_among}

-- If a handle names nothing, or isn't the one that is sought, the search goes on among the others.
past : (x : ℕ) (s : Option Snap) (rest : List (ℕ × Snap)) (h : ℕ) → (x == h) ≡ false → snap_of (paired x s ++ rest) h ≡ snap_of rest h
past x None rest h other = refl
past x (Some s) rest h other = ap (λ (b : Bool). if b then Some s else snap_of rest h) other

either : (named : ℕ → Option Snap) (o : Option Snap) (rest : List (ℕ × Snap)) (x : ℕ) (b : Bool) →
    snap_of rest x ≡ (if b then o else None) → (x == x) ≡ true → snap_of (paired x o ++ rest) x ≡ o
either named None rest x true again same = again
either named None rest x false again same = again
either named (Some s) rest x b again same = ap (λ (t : Bool). if t then Some s else snap_of rest x) same

one_of : (named : ℕ → Option Snap) (x : ℕ) (rest : List (ℕ × Snap)) (h : ℕ) (b more : Bool) → (x == h) ≡ b →
    snap_of rest h ≡ (if more then named h else None) → snap_of (paired x (named x) ++ rest) h ≡ (if b || more then named h else None)
one_of named x rest h false more is again = past x (named x) rest h is ∙ again
one_of named x rest h true more is again =
    subst (λ (y : ℕ). snap_of (paired y (named y) ++ rest) h ≡ named h) (sym (eqb-true x h is))
    (either named (named h) rest h more again (subst (λ (y : ℕ). (y == h) ≡ true) (eqb-true x h is) is))

pub names_found : NamesAreFound
names_found named [] h = refl
names_found named (x ∷ xs) h = one_of named x (all_paired named xs) h (x == h) (list_any (λ other. other == h) xs) refl (names_found named xs h)

-- The pairs of what is lent are those of what each handle names.
one_lent : (x : ℕ) (s : Option Subject) (o : Option Snap) (rest : List Lent) → snaps_of (lent_as x s o ++ rest) ≡ paired x o ++ snaps_of rest
one_lent x s None rest = refl
one_lent x s (Some snap) rest = refl

pub lents_paired : (e : Exporter) (named : ℕ → Option Loan) (handles : List ℕ) → snaps_of (lents_by e named handles) ≡ all_paired (λ h. snap_in e (named h)) handles
lents_paired e named [] = refl
lents_paired e named (x ∷ xs) =
    one_lent x (subject_in (named x)) (snap_in e (named x)) (lents_by e named xs)
    ∙ ap (λ (rest : List (ℕ × Snap)). paired x (snap_in e (named x)) ++ rest) (lents_paired e named xs)

pub found_among : (e : Exporter) (named : ℕ → Option Loan) (handles : List ℕ) (h : ℕ) →
    snap_of (snaps_of (lents_by e named handles)) h ≡ named_among (λ x. snap_in e (named x)) handles h
found_among e named handles h =
    ap (λ (pairs : List (ℕ × Snap)). snap_of pairs h) (lents_paired e named handles)
    ∙ names_found (λ x. snap_in e (named x)) handles h
