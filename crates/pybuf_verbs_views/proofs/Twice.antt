-- A view that is released twice is as if it were released once.
use Rattle.std.proofs.Common.{◌≡◌, ℕ, List, true, ap, sym, ◌∙◌, refl, subst}
use Rattle.std.specs.Prelude.{Option, Result, Ok, Err, slice_get}
use Rattle.std.specs.Option.{ok_or}
use Rattle.pybuf_lemmas.proofs.Lists.{element_after_set, set_twice}
use Rattle.pybuf_state.specs.Facts.{view_given}
use Rattle.pybuf_value.specs.declared.faults.Fault.{Fault}
use Rattle.pybuf_value.specs.declared.faults.Fault.TheVariants as fault
use Rattle.pybuf_value.specs.Refusing.{◌>>=◌}
use Rattle.pybuf_state.specs.Exporter.{Exporter, View, view_at, released_at, released_in}
use Rattle.pybuf_verbs_views.specs.Laws.{ReleasingTwiceIsOnce}

released_again : (e once : Exporter) (k : ℕ) (r : Result View Fault) → r ≡ view_at e k → (r >>= (λ v. Ok (released_at e k v))) ≡ Ok once → released_in once k ≡ Ok once
released_again e once k (Ok v) at is =
    let same : released_at e k v ≡ once = cc in
    let found = element_after_set e.views k v (record v { released = true }) (view_given (slice_get e.views k) v (sym at)) in
    let again : released_in (released_at e k v) k ≡ Ok (released_at e k v) =
    ap (λ (o : Option View). ok_or o fault.UnknownName >>= (λ w. Ok (released_at (released_at e k v) k w))) found
    ∙ ap (λ (vs : List View). Ok (record e { views = vs })) (set_twice e.views k (record v { released = true }) (record v { released = true })) in
    subst (λ (x : Exporter). released_in x k ≡ Ok x) same again
released_again e once k (Err f) at is = absurd (cc)

pub released_twice : ReleasingTwiceIsOnce
released_twice e once k is = released_again e once k (view_at e k) refl is
