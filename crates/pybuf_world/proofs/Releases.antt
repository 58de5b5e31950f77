-- A second release by a handle changes nothing, and when a release by a handle is refused.
use Rattle.std.proofs.Common.{◌≡◌, ℕ, ◌<◌, true, false, true≢false, List, [], ◌∷◌, length, set, get_or, ap, sym, ◌∙◌, refl, subst, arith}
use Rattle.std.specs.Prelude.{Option, Some, None, Result, Ok, Err, slice_get}
use Rattle.std.proofs.lemmas.Option.{slice_get-get_or}
use Rattle.pybuf_value.specs.declared.faults.Fault.{Fault}
use Rattle.pybuf_value.specs.declared.faults.Fault.TheVariants as fault
use Rattle.std.specs.Option.{ok_or}
use Rattle.pybuf_lemmas.proofs.Lists.{element_after_set, set_twice, element_holds}
use Rattle.pybuf_value.specs.Refusing.{◌>>=◌}
use Rattle.pybuf_command.specs.declared.kinds.Subject.TheVariants as subject
use Rattle.pybuf_state.specs.Exporter.{Exporter, View, has_subject, released_at, released_in}
use Rattle.pybuf_verbs_views.specs.Laws.{ReleasingTwiceIsOnce}
use Rattle.pybuf_world.specs.declared.named.Named.{Named}
use Rattle.pybuf_world.specs.declared.named.Named.TheVariants as named
use Rattle.pybuf_world.specs.World.{World, world_with_released, released_in_exporter, released_by_name, released_by, is_name_of_view}
use Rattle.pybuf_world.specs.Sound.{IsGiven, IsSoundWorld}
use Rattle.pybuf_world.specs.Laws.{ReleasingByHandleTwiceIsOnce, ReleasesAreRefusedByName}

-- The world with the released exporter stays the same when the view is released again.
world_again : ReleasingTwiceIsOnce → (w once : World) (i k : ℕ) (e : Exporter) (r : Result Exporter Fault) → slice_get w.exporters i ≡ Some e → r ≡ released_in e k → world_with_released w i r ≡ Ok once → released_in_exporter once i k (slice_get once.exporters i) ≡ Ok once
world_again twice w once i k e (Ok after) at was is =
    let same : record w { exporters = set w.exporters i after } ≡ once = cc in
    let found = element_after_set w.exporters i e after at in
    let again : released_in_exporter (record w { exporters = set w.exporters i after }) i k (slice_get (set w.exporters i after) i) ≡ Ok (record w { exporters = set w.exporters i after }) =
    ap (released_in_exporter (record w { exporters = set w.exporters i after }) i k) found
    ∙ ap (world_with_released (record w { exporters = set w.exporters i after }) i) (twice e after k (sym was))
    ∙ ap (λ (xs : List Exporter). Ok (record w { exporters = xs })) (set_twice w.exporters i after after) in
    subst (λ (x : World). released_in_exporter x i k (slice_get x.exporters i) ≡ Ok x) same again
world_again twice w once i k e (Err f) at was is = absurd (cc)

exporter_again : ReleasingTwiceIsOnce → (w once : World) (i k : ℕ) (o : Option Exporter) → slice_get w.exporters i ≡ o → released_in_exporter w i k o ≡ Ok once → released_in_exporter once i k (slice_get once.exporters i) ≡ Ok once
exporter_again twice w once i k (Some e) at is = world_again twice w once i k e (released_in e k) at refl is
exporter_again twice w once i k None at is = absurd (cc)

world_handles : (w once : World) (i : ℕ) (r : Result Exporter Fault) → world_with_released w i r ≡ Ok once → once.handles ≡ w.handles
world_handles w once i (Ok e) is = let same : record w { exporters = set w.exporters i e } ≡ once = cc in ap (λ (x : World). x.handles) (sym same)
world_handles w once i (Err f) is = absurd (cc)

exporter_handles : (w once : World) (i k : ℕ) (o : Option Exporter) → released_in_exporter w i k o ≡ Ok once → once.handles ≡ w.handles
exporter_handles w once i k (Some e) is = world_handles w once i (released_in e k) is
exporter_handles w once i k None is = absurd (cc)

name_again : ReleasingTwiceIsOnce → (w once : World) (handle : ℕ) (o : Option Named) → slice_get w.handles handle ≡ o → released_by_name w o ≡ Ok once → released_by once handle ≡ Ok once
name_again twice w once handle (Some (named.View i k)) at is =
    ap (λ (hs : List Named). released_by_name once (slice_get hs handle)) (exporter_handles w once i k (slice_get w.exporters i) is)
    ∙ ap (released_by_name once) at ∙ exporter_again twice w once i k (slice_get w.exporters i) refl is
name_again twice w once handle (Some (named.Exporter i)) at is = absurd (cc)
name_again twice w once handle (Some (named.Iterator i k)) at is = absurd (cc)
name_again twice w once handle None at is = absurd (cc)

pub by_handle_twice : ReleasingTwiceIsOnce → ReleasingByHandleTwiceIsOnce
by_handle_twice twice w once handle is = name_again twice w once handle (slice_get w.handles handle) refl is

-- ---- when it is refused

-- A view that an exporter has is found.
found : (views : List View) (k : ℕ) → k < length views → (v : View) × (slice_get views k ≡ Some v)
found [] k below = absurd (omega (arith, below))
found (v ∷ views) k below = (get_or (v ∷ views) k v, slice_get-get_or (v ∷ views) k v below)

there_released : (e : Exporter) (k : ℕ) → has_subject e (subject.View k) ≡ true → (new : Exporter) × (released_in e k ≡ Ok new)
there_released e k has =
    let below : k < length e.views = grind (arith, has) in
    let at = found e.views k below in
    (released_at e k at.0, ap (λ (o : Option View). ok_or o fault.UnknownName >>= (λ v. Ok (released_at e k v))) at.1)

-- The view that a handle names is released.
view_released : (w : World) (i k : ℕ) → IsGiven w.exporters (named.View i k) → (new : World) × (released_in_exporter w i k (slice_get w.exporters i) ≡ Ok new)
view_released w i k given =
    let after = there_released given.exporter k given.has in
    (record w { exporters = set w.exporters i after.0 }, ap (released_in_exporter w i k) given.there ∙ ap (world_with_released w i) after.1)

no_refusal : (r : Result World Fault) (new : World) (f : Fault) → r ≡ Ok new → r ≡ Err f → ⊥
no_refusal (Ok w) new f done is = cc
no_refusal (Err g) new f done is = cc

only_by_name : (w : World) (handle : ℕ) (o : Option Named) (f : Fault) → slice_get w.handles handle ≡ o → IsSoundWorld w → released_by_name w o ≡ Err f → (f ≡ fault.UnknownName) × (is_name_of_view o ≡ false)
only_by_name w handle (Some (named.View i k)) f at sound is =
    let after = view_released w i k (element_holds (IsGiven w.exporters) w.handles handle (named.View i k) sound.names_are_given at) in
    absurd (no_refusal (released_in_exporter w i k (slice_get w.exporters i)) after.0 f after.1 is)
only_by_name w handle (Some (named.Exporter i)) f at sound is = let same : f ≡ fault.UnknownName = cc in (same, refl)
only_by_name w handle (Some (named.Iterator i k)) f at sound is = let same : f ≡ fault.UnknownName = cc in (same, refl)
only_by_name w handle None f at sound is = let same : f ≡ fault.UnknownName = cc in (same, refl)

unknown_refused : (w : World) (o : Option Named) → is_name_of_view o ≡ false → released_by_name w o ≡ Err fault.UnknownName
unknown_refused w (Some (named.View i k)) is = absurd (true≢false is)
unknown_refused w (Some (named.Exporter i)) is = refl
unknown_refused w (Some (named.Iterator i k)) is = refl
unknown_refused w None is = refl

pub refused_by_name : ReleasesAreRefusedByName
refused_by_name w handle sound = record {
  refused = unknown_refused w (slice_get w.handles handle);
  only = λ f is. only_by_name w handle (slice_get w.handles handle) f refl sound is;
}
