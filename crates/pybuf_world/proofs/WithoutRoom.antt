-- The exporters of a list, without their room.
use Rattle.std.proofs.Common.{◌≡◌, ℕ, ◌<◌, List, length, set, get_or, ap, sym, ◌∙◌}
use Rattle.std.specs.Prelude.{slice_get, Option, Some, Result, Ok, Err, MatchResult}
use Rattle.std.specs.Option.{option_map}
use Rattle.std.proofs.lemmas.List.{map-set, length-map}
use Rattle.std.proofs.lemmas.Option.{slice_get-map, slice_get-get_or}
use Rattle.pybuf_value.specs.declared.faults.Fault.{Fault}
use Rattle.pybuf_state.specs.Exporter.{Exporter, released_in}
use Rattle.pybuf_exporter.specs.Stored.{StoredExporter}
use Rattle.pybuf_world.specs.World.{World, world_with_released}
use Rattle.pybuf_world.specs.Listing.{exporters_of, with_released, released_among}

abbrev seen : StoredExporter → Exporter
seen s = s.exporter

pub inside : (ss : List StoredExporter) (i : ℕ) → i < length (exporters_of ss) → i < length ss
inside ss i below = rw (← length-map ss seen) below

pub found : (ss : List StoredExporter) (i : ℕ) (s d : StoredExporter) → i < length ss → s ≡ get_or ss i d → slice_get (exporters_of ss) i ≡ Some s.exporter
found ss i s d below is = slice_get-map seen ss i ∙ ap (option_map seen) (slice_get-get_or ss i d below ∙ ap (λ (x : StoredExporter). let one : Option StoredExporter = Some x in one) (sym is))

pub put_at : (ss : List StoredExporter) (i : ℕ) (s : StoredExporter) → exporters_of (set ss i s) ≡ set (exporters_of ss) i s.exporter
put_at ss i s = map-set seen ss i s

pub released_ok : (es : List Exporter) (i k : ℕ) (e new : Exporter) → slice_get es i ≡ Some e → released_in e k ≡ Ok new → released_among es i k (slice_get es i) ≡ Ok (set es i new)
released_ok es i k e new at is = ap (released_among es i k) at ∙ ap (with_released es i) is

pub released_err : (es : List Exporter) (i k : ℕ) (e : Exporter) (f : Fault) → slice_get es i ≡ Some e → released_in e k ≡ Err f → released_among es i k (slice_get es i) ≡ Err f
released_err es i k e f at is = ap (released_among es i k) at ∙ ap (with_released es i) is

world_after : (w : World) (i k : ℕ) (r : Result Exporter Fault) (es : List Exporter) → with_released w.exporters i r ≡ Ok es → world_with_released w i r ≡ Ok (record w { exporters = es })
world_after w i k (Ok e) es is = let same : set w.exporters i e ≡ es = cc in ap (λ (xs : List Exporter). let after : Result World Fault = Ok (record w { exporters = xs }) in after) same
world_after w i k (Err f) es is = absurd (cc)

-- an exporter of the list, whose view was released or wasn't
pub released_listed : {A : Type 0} (ss : List StoredExporter) (es : List Exporter) (i k : ℕ) (s new : StoredExporter) (r : Result A Fault) → exporters_of ss ≡ es → slice_get (exporters_of ss) i ≡ Some s.exporter
    → MatchResult r (λ x. released_in s.exporter k ≡ Ok new.exporter) (λ f. released_in s.exporter k ≡ Err f)
    → MatchResult r (λ x. released_among es i k (slice_get es i) ≡ Ok (exporters_of (set ss i new))) (λ f. released_among es i k (slice_get es i) ≡ Err f)
released_listed ss es i k s new (Ok x) shown at is =
    let there : slice_get es i ≡ Some s.exporter = ap (λ (xs : List Exporter). slice_get xs i) (sym shown) ∙ at in
    let after : exporters_of (set ss i new) ≡ set es i new.exporter = put_at ss i new ∙ ap (λ (xs : List Exporter). set xs i new.exporter) shown in
    released_ok es i k s.exporter new.exporter there is ∙ ap (λ (xs : List Exporter). let listed : Result (List Exporter) Fault = Ok xs in listed) (sym after)
released_listed ss es i k s new (Err f) shown at is =
    let there : slice_get es i ≡ Some s.exporter = ap (λ (xs : List Exporter). slice_get xs i) (sym shown) ∙ at in
    released_err es i k s.exporter f there is
