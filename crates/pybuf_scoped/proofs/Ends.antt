-- The end of a view's scope.
use Rattle.std.proofs.Common.{◌≡◌, ℕ, zero, suc, ◌+◌, List, [], ◌∷◌, ◌++◌, length, refl, ap, sym, ◌∙◌, arith}
use Rattle.std.specs.Prelude.{slice_get, Some, count_by, cond, true, false}
use Rattle.std.proofs.Math.Seq.{set-append_seam}
use Rattle.std.proofs.lemmas.List.Sums.{sum_by-append}
use Rattle.std.proofs.lemmas.List.{append-nil, length-append, append_assoc}
use Rattle.pybuf_state.specs.Exporter.{Exporter, View, is_exported, exports_of}
use Rattle.pybuf_scoped.specs.Views.{after_scope, released_run}
use Rattle.pybuf_scoped.specs.Laws.{ScopesLeaveNoExport, GroupsLeaveNoExport}

middle : (views behind : List View) (v : View) → slice_get (views ++ v ∷ behind) (length views) ≡ Some v
middle [] behind v = refl
middle (w ∷ views) behind v = middle views behind v

last_there : (views : List View) (v : View) → slice_get (views ++ v ∷ []) (length views) ≡ Some v
last_there [] v = refl
last_there (w ∷ views) v = last_there views v

-- a released view at the end counts for nothing
counted : (views : List View) (v : View) → v.released ≡ true → count_by is_exported (views ++ v ∷ []) ≡ count_by is_exported views
counted views v released = sum_by-append (λ (w : View). cond (is_exported w) 1 0) views (v ∷ []) ∙ grind (arith, released)

pub ends : ScopesLeaveNoExport
ends e layout bytes =
    let v : View = record { made_at = length e.bytes; layout = layout; released = false } in
    rw (last_there e.views v)
    (rw (set-append_seam e.views v [] (record v { released = true })) (counted e.views (record v { released = true }) refl))

-- ---- the end of a group

-- the exporter with other bytes and views
abbrev pub holding : Exporter → List ℕ → List View → Exporter
holding e bytes views = record e { bytes = bytes; views = views }

-- a run can begin with its first view
first_of_run : (e : Exporter) (first n : ℕ) → released_run e first (suc n) ≡ released_run (after_scope e first) (suc first) n
first_of_run e first zero = let here : first + 0 ≡ first = omega arith in ap (after_scope e) here
first_of_run e first (suc n) =
    let here : first + suc n ≡ suc first + n = omega arith in
    ap (after_scope (released_run e first (suc n))) here ∙ ap (λ x. after_scope x (suc first + n)) (first_of_run e first n)

-- the view in the middle is released
released_middle : (e : Exporter) (bytes : List ℕ) (views behind : List View) (v : View)
    → after_scope (holding e bytes (views ++ v ∷ behind)) (length views) ≡ holding e bytes (views ++ record v { released = true } ∷ behind)
released_middle e bytes views behind v =
    rw (middle views behind v) (ap (holding e bytes) (set-append_seam views v behind (record v { released = true })))

group_from : (e : Exporter) (bytes : List ℕ) (before views : List View)
    → exports_of (released_run (holding e bytes (before ++ views)) (length before) (length views)) ≡ count_by is_exported before
group_from e bytes before [] = ap (count_by is_exported) (append-nil before)
group_from e bytes before (v ∷ views) =
    let w : View = record v { released = true } in
    let moved : holding e bytes (before ++ w ∷ views) ≡ holding e bytes ((before ++ w ∷ []) ++ views) = ap (holding e bytes) (sym (append_assoc before (w ∷ []) views)) in
    let longer : suc (length before) ≡ length (before ++ w ∷ []) = sym (length-append before (w ∷ []) ∙ (let z : length before + 1 ≡ suc (length before) = omega arith in z)) in
    ap exports_of (first_of_run (holding e bytes (before ++ v ∷ views)) (length before) (length views))
    ∙ ap (λ x. exports_of (released_run x (suc (length before)) (length views))) (released_middle e bytes before views v ∙ moved)
    ∙ ap (λ n. exports_of (released_run (holding e bytes ((before ++ w ∷ []) ++ views)) n (length views))) longer
    ∙ group_from e bytes (before ++ w ∷ []) views
    ∙ counted before w refl

pub group_ends : GroupsLeaveNoExport
group_ends e views bytes = group_from e bytes e.views views
