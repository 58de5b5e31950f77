-- Forgetting by itself: what it changes and what it leaves.
use Rattle.std.proofs.Common.{◌≡◌, ℕ, zero, suc, ◌+◌, ◌++◌, List, [], ◌∷◌, Bool, true, false, true≢false, ap, ap₂, sym, ◌∙◌, refl, arith}
use Rattle.std.specs.Prelude.{not, cond, count_by, length, map, set, slice_get, nat_lt, Option, Some, None, Result, Ok, if◌then◌else◌}
use Rattle.std.specs.List.{All}
use Rattle.std.specs.Option.{ok_or, option_map}
use Rattle.std.proofs.lemmas.List.Elements.{All-nil, All-cons, All-head, All-tail}
use Rattle.std.proofs.lemmas.List.Sums.{sum_by-cons}
use Rattle.pybuf_value.specs.declared.faults.Fault.{Fault}
use Rattle.pybuf_value.specs.declared.faults.Fault.TheVariants as fault
use Rattle.pybuf_value.specs.Refusing.{◌>>=◌, unless}
use Rattle.pybuf_desc.specs.Layouts.{Layout}
use Rattle.pybuf_desc.specs.Apart.{HasItemsApart}
use Rattle.pybuf_command.specs.declared.kinds.ExporterKind.{ExporterKind}
use Rattle.pybuf_command.specs.declared.kinds.ExporterKind.TheVariants as kind
use Rattle.pybuf_command.specs.declared.kinds.Subject.{Subject}
use Rattle.pybuf_command.specs.declared.kinds.Subject.TheVariants as subject
use Rattle.pybuf_state.specs.Laws.{WholeLayoutsAreSound}
use Rattle.pybuf_state.specs.Exporter.{Exporter, new_exporter, View, Iterator, is_exported, exports_of, has_subject, view_at, live_layout, iterator_at}
use Rattle.pybuf_state.specs.Sound.{IsSoundView}
use Rattle.pybuf_forgetting.specs.Forgotten.{no_layout, no_view, forgotten_view, forgotten_subject, forgotten_iterator, forgotten}
use Rattle.pybuf_forgetting.specs.Laws.{ForgettingTwiceIsForgettingOnce, ForgettingKeepsAllElse, ForgettingKeepsItemsApart, ForgettingKeepsSound, ForgettingLeavesNothing}

-- ---- lists

pub map_twice : {X : Type 0} (f : X → X) → ((x : X) → f (f x) ≡ f x) → (xs : List X) → map f (map f xs) ≡ map f xs
map_twice f twice [] = refl
map_twice f twice (x ∷ xs) = ap₂ (λ y ys. y ∷ ys) (twice x) (map_twice f twice xs)

pub map_added : {X : Type 0} (f : X → X) → ((x : X) → f (f x) ≡ f x) → (xs : List X) (x : X) → map f (map f xs ++ x ∷ []) ≡ map f (xs ++ x ∷ [])
map_added f twice [] x = refl
map_added f twice (y ∷ xs) x = ap₂ (λ z zs. z ∷ zs) (twice y) (map_added f twice xs x)

pub map_set : {X : Type 0} (f : X → X) → ((x : X) → f (f x) ≡ f x) → (xs : List X) (k : ℕ) (x y : X) → f x ≡ f y → map f (set (map f xs) k x) ≡ map f (set xs k y)
map_set f twice [] k x y same = refl
map_set f twice (z ∷ xs) zero x y same = ap₂ (λ w ws. w ∷ ws) same (map_twice f twice xs)
map_set f twice (z ∷ xs) (suc k) x y same = ap₂ (λ w ws. w ∷ ws) (twice z) (map_set f twice xs k x y same)

pub map_long : {X : Type 0} (f : X → X) (xs : List X) → length (map f xs) ≡ length xs
map_long f [] = refl
map_long f (x ∷ xs) = ap suc (map_long f xs)

pub map_get : {X : Type 0} (f : X → X) (xs : List X) (k : ℕ) → slice_get (map f xs) k ≡ option_map f (slice_get xs k)
map_get f [] k = refl
map_get f (x ∷ xs) zero = refl
map_get f (x ∷ xs) (suc k) = map_get f xs k

-- ---- views and iterators

view_again : (made_at : ℕ) (layout : Layout) (released : Bool) → forgotten_view (forgotten_view (record { made_at = made_at; layout = layout; released = released })) ≡ forgotten_view (record { made_at = made_at; layout = layout; released = released })
view_again made_at layout true = refl
view_again made_at layout false = refl

pub view_twice : (v : View) → forgotten_view (forgotten_view v) ≡ forgotten_view v
view_twice v = view_again v.made_at v.layout v.released

subject_twice : (s : Subject) → forgotten_subject (forgotten_subject s) ≡ forgotten_subject s
subject_twice subject.Own = refl
subject_twice (subject.View k) = refl
subject_twice (subject.Iter k) = refl

iterator_again : (s : Subject) (position : ℕ) (exhausted : Bool)
    → forgotten_iterator (forgotten_iterator (record { subject = s; position = position; exhausted = exhausted })) ≡ forgotten_iterator (record { subject = s; position = position; exhausted = exhausted })
iterator_again s position true = ap (λ (t : Subject). let it : Iterator = record { subject = t; position = 0; exhausted = true } in it) (subject_twice s)
iterator_again s position false = refl

pub iterator_twice : (it : Iterator) → forgotten_iterator (forgotten_iterator it) ≡ forgotten_iterator it
iterator_twice it = iterator_again it.subject it.position it.exhausted

abbrev exporter_with : ExporterKind → List ℕ → List View → List Iterator → Exporter
exporter_with k bytes views iterators = record { kind = k; bytes = bytes; views = views; iterators = iterators }

pub twice_is_once : ForgettingTwiceIsForgettingOnce
twice_is_once e = ap₂ (exporter_with e.kind e.bytes) (map_twice forgotten_view view_twice e.views) (map_twice forgotten_iterator iterator_twice e.iterators)

-- the same exporter with other bytes
pub bytes_twice : (e : Exporter) (bytes : List ℕ) → forgotten (record (forgotten e) { bytes = bytes }) ≡ forgotten (record e { bytes = bytes })
bytes_twice e bytes = ap₂ (exporter_with e.kind bytes) (map_twice forgotten_view view_twice e.views) (map_twice forgotten_iterator iterator_twice e.iterators)

-- one more view
pub views_added : (e : Exporter) (v : View) → forgotten (record (forgotten e) { views = map forgotten_view e.views ++ v ∷ [] }) ≡ forgotten (record e { views = e.views ++ v ∷ [] })
views_added e v = ap₂ (exporter_with e.kind e.bytes) (map_added forgotten_view view_twice e.views v) (map_twice forgotten_iterator iterator_twice e.iterators)

-- one more iterator
pub iterators_added : (e : Exporter) (it : Iterator) → forgotten (record (forgotten e) { iterators = map forgotten_iterator e.iterators ++ it ∷ [] }) ≡ forgotten (record e { iterators = e.iterators ++ it ∷ [] })
iterators_added e it = ap₂ (exporter_with e.kind e.bytes) (map_twice forgotten_view view_twice e.views) (map_added forgotten_iterator iterator_twice e.iterators it)

-- another view in place of one
pub views_put : (e : Exporter) (k : ℕ) (v w : View) → forgotten_view v ≡ forgotten_view w → forgotten (record (forgotten e) { views = set (map forgotten_view e.views) k v }) ≡ forgotten (record e { views = set e.views k w })
views_put e k v w same = ap₂ (exporter_with e.kind e.bytes) (map_set forgotten_view view_twice e.views k v w same) (map_twice forgotten_iterator iterator_twice e.iterators)

-- another iterator in place of one
pub iterators_put : (e : Exporter) (k : ℕ) (it : Iterator) → forgotten (record (forgotten e) { iterators = set (map forgotten_iterator e.iterators) k it }) ≡ forgotten (record e { iterators = set e.iterators k it })
iterators_put e k it = ap₂ (exporter_with e.kind e.bytes) (map_twice forgotten_view view_twice e.views) (map_set forgotten_iterator iterator_twice e.iterators k it it refl)

-- ---- what commands see of views and iterators

pub view_seen : (e : Exporter) (k : ℕ) → view_at (forgotten e) k ≡ ok_or (option_map forgotten_view (slice_get e.views k)) fault.UnknownName
view_seen e k = ap (λ (o : Option View). ok_or o fault.UnknownName) (map_get forgotten_view e.views k)

pub iterator_seen : (e : Exporter) (k : ℕ) → iterator_at (forgotten e) k ≡ ok_or (option_map forgotten_iterator (slice_get e.iterators k)) fault.UnknownName
iterator_seen e k = ap (λ (o : Option Iterator). ok_or o fault.UnknownName) (map_get forgotten_iterator e.iterators k)

abbrev layout_if : Result View Fault → Result Layout Fault
layout_if r = r >>= λ v. unless v.released fault.Value >>= λ _. Ok v.layout

live_by : (layout : Layout) (released : Bool) → (unless released fault.Value >>= λ _. (let l : Result Layout Fault = Ok (if released then no_layout else layout) in l)) ≡ (unless released fault.Value >>= λ _. Ok layout)
live_by layout true = refl
live_by layout false = refl

live_if : (o : Option View) → layout_if (ok_or (option_map forgotten_view o) fault.UnknownName) ≡ layout_if (ok_or o fault.UnknownName)
live_if None = refl
live_if (Some v) = live_by v.layout v.released

pub live_same : (e : Exporter) (k : ℕ) → live_layout (forgotten e) k ≡ live_layout e k
live_same e k = ap layout_if (view_seen e k) ∙ live_if (slice_get e.views k)

counted_same : (views : List View) → count_by is_exported (map forgotten_view views) ≡ count_by is_exported views
counted_same [] = refl
counted_same (v ∷ views) =
    sum_by-cons (λ (w : View). cond (is_exported w) 1 0) (forgotten_view v) (map forgotten_view views)
    ∙ ap (λ (n : ℕ). cond (not v.released) 1 0 + n) (counted_same views)
    ∙ sym (sum_by-cons (λ (w : View). cond (is_exported w) 1 0) v views)

pub exports_same : (e : Exporter) → exports_of (forgotten e) ≡ exports_of e
exports_same e = counted_same e.views

pub views_long : (e : Exporter) → length (forgotten e).views ≡ length e.views
views_long e = map_long forgotten_view e.views

pub iterators_long : (e : Exporter) → length (forgotten e).iterators ≡ length e.iterators
iterators_long e = map_long forgotten_iterator e.iterators

-- ---- all else stays

subjects_same : (e : Exporter) (s : Subject) → has_subject (forgotten e) s ≡ has_subject e s
subjects_same e subject.Own = refl
subjects_same e (subject.View k) = ap (λ (n : ℕ). nat_lt k n) (views_long e)
subjects_same e (subject.Iter k) = ap (λ (n : ℕ). nat_lt k n) (iterators_long e)

unreleased_stays : (made_at : ℕ) (layout : Layout) (released : Bool) → released ≡ false → forgotten_view (record { made_at = made_at; layout = layout; released = released }) ≡ record { made_at = made_at; layout = layout; released = released }
unreleased_stays made_at layout true is = absurd (true≢false is)
unreleased_stays made_at layout false is = refl

going_stays : (s : Subject) (position : ℕ) (exhausted : Bool) → exhausted ≡ false → forgotten_iterator (record { subject = s; position = position; exhausted = exhausted }) ≡ record { subject = s; position = position; exhausted = exhausted }
going_stays s position true is = absurd (true≢false is)
going_stays s position false is = refl

released_same : (o : Option View) → option_map (λ (v : View). v.released) (option_map forgotten_view o) ≡ option_map (λ (v : View). v.released) o
released_same None = refl
released_same (Some v) = refl

exhausted_same : (o : Option Iterator) → option_map (λ (it : Iterator). it.exhausted) (option_map forgotten_iterator o) ≡ option_map (λ (it : Iterator). it.exhausted) o
exhausted_same None = refl
exhausted_same (Some it) = refl

pub all_else : ForgettingKeepsAllElse
all_else e = record {
  kind = refl;
  bytes = refl;
  view_count = views_long e;
  iterator_count = iterators_long e;
  subjects = subjects_same e;
  exports = exports_same e;
  layouts = live_same e;
  views = λ k v found live. map_get forgotten_view e.views k ∙ ap (option_map forgotten_view) found ∙ ap (λ (w : View). Some w) (unreleased_stays v.made_at v.layout v.released live);
  iterators = λ k it found going. map_get forgotten_iterator e.iterators k ∙ ap (option_map forgotten_iterator) found ∙ ap (λ (x : Iterator). Some x) (going_stays it.subject it.position it.exhausted going);
  released = λ k. ap (option_map (λ (v : View). v.released)) (map_get forgotten_view e.views k) ∙ released_same (slice_get e.views k);
  exhausted = λ k. ap (option_map (λ (it : Iterator). it.exhausted)) (map_get forgotten_iterator e.iterators k) ∙ exhausted_same (slice_get e.iterators k);
}

-- ---- nothing else is left

released_is_gone : (made_at : ℕ) (layout : Layout) (released : Bool) → released ≡ true → forgotten_view (record { made_at = made_at; layout = layout; released = released }) ≡ no_view
released_is_gone made_at layout true is = refl
released_is_gone made_at layout false is = absurd (true≢false (sym is))

view_left : (o : Option View) (v : View) → option_map forgotten_view o ≡ Some v → v.released ≡ true → v ≡ no_view
view_left None v found is = absurd (cc)
view_left (Some w) v found is =
    let same : forgotten_view w ≡ v = cc in sym same ∙ released_is_gone w.made_at w.layout w.released (ap (λ (x : View). x.released) same ∙ is)

exhausted_at : (s : Subject) (position : ℕ) (exhausted : Bool) → exhausted ≡ true → forgotten_iterator (record { subject = s; position = position; exhausted = exhausted }) ≡ record { subject = forgotten_subject s; position = 0; exhausted = true }
exhausted_at s position true is = refl
exhausted_at s position false is = absurd (true≢false (sym is))

iterator_left : (o : Option Iterator) (it : Iterator) → option_map forgotten_iterator o ≡ Some it → it.exhausted ≡ true → (s : Subject) × (it ≡ record { subject = forgotten_subject s; position = 0; exhausted = true })
iterator_left None it found is = absurd (cc)
iterator_left (Some w) it found is =
    let same : forgotten_iterator w ≡ it = cc in (w.subject, sym same ∙ exhausted_at w.subject w.position w.exhausted (ap (λ (x : Iterator). x.exhausted) same ∙ is))

left_subject : (s : Subject) (it : Iterator) → it ≡ record { subject = forgotten_subject s; position = 0; exhausted = true } → it.subject ≡ forgotten_subject it.subject
left_subject s it is = ap (λ (x : Iterator). x.subject) is ∙ sym (subject_twice s) ∙ ap (λ (x : Iterator). forgotten_subject x.subject) (sym is)

pub leaves_nothing : ForgettingLeavesNothing
leaves_nothing e = record {
  views = λ k v found. view_left (slice_get e.views k) v (sym (map_get forgotten_view e.views k) ∙ found);
  positions = λ k it found is. ap (λ (x : Iterator). x.position) (iterator_left (slice_get e.iterators k) it (sym (map_get forgotten_iterator e.iterators k) ∙ found) is).1;
  subjects = λ k it found is. let left = iterator_left (slice_get e.iterators k) it (sym (map_get forgotten_iterator e.iterators k) ∙ found) is in left_subject left.0 it left.1;
}

-- ---- soundness

sound_view : WholeLayoutsAreSound → (k : ExporterKind) (bytes : List ℕ) (made_at : ℕ) (layout : Layout) (released : Bool)
    → IsSoundView k bytes (record { made_at = made_at; layout = layout; released = released }) → IsSoundView k bytes (forgotten_view (record { made_at = made_at; layout = layout; released = released }))
sound_view whole k bytes made_at layout true sound = record {
  formed = (whole (new_exporter kind.Bytes [])).formed;
  readonly = λ is. refl;
  held = λ is. absurd (true≢false is);
}
sound_view whole k bytes made_at layout false sound = sound

sound_views : WholeLayoutsAreSound → (k : ExporterKind) (bytes : List ℕ) (views : List View) → All (IsSoundView k bytes) views → All (IsSoundView k bytes) (map forgotten_view views)
sound_views whole k bytes [] all = All-nil (IsSoundView k bytes)
sound_views whole k bytes (v ∷ views) all =
    All-cons (IsSoundView k bytes) (forgotten_view v) (map forgotten_view views) (sound_view whole k bytes v.made_at v.layout v.released (All-head (IsSoundView k bytes) v views all)) (sound_views whole k bytes views (All-tail (IsSoundView k bytes) v views all))

pub sound_so : WholeLayoutsAreSound → ForgettingKeepsSound
sound_so whole e sound = record { views = sound_views whole e.kind e.bytes e.views sound.views }

-- ---- items that share no byte

apart_view : (made_at : ℕ) (layout : Layout) (released : Bool) → HasItemsApart layout → HasItemsApart (forgotten_view (record { made_at = made_at; layout = layout; released = released })).layout
apart_view made_at layout true apart = λ i j before below. absurd (omega (arith, below))
apart_view made_at layout false apart = apart

abbrev IsApart : View → Type 0
IsApart v = HasItemsApart v.layout

apart_views : (views : List View) → All IsApart views → All IsApart (map forgotten_view views)
apart_views [] all = All-nil IsApart
apart_views (v ∷ views) all = All-cons IsApart (forgotten_view v) (map forgotten_view views) (apart_view v.made_at v.layout v.released (All-head IsApart v views all)) (apart_views views (All-tail IsApart v views all))

pub apart_so : ForgettingKeepsItemsApart
apart_so e spaced = record { views = apart_views e.views spaced.views }
