-- How the views of an array go with those of its bytearray.
use Rattle.std.proofs.Common.{◌≡◌, ℕ, zero, suc, ◌<◌, ◌≤◌, ◌⊎◌, inl, inr, Bool, true, false, not, List, [], ◌∷◌, ◌++◌, length, set, refl, sym, ap, subst, ◌∙◌, arith, slice_get, Some, length-append, length-set}
use Rattle.std.specs.Prelude.{Option, None, Result, Ok, Err, OnErr, MatchResult, ok_or}
use Rattle.pybuf_value.specs.declared.faults.Fault.{Fault}
use Rattle.pybuf_value.specs.declared.faults.Fault.TheVariants as fault
use Rattle.pybuf_value.specs.Refusing.{◌>>=◌, unless}
use Rattle.pybuf_desc.specs.Layouts.{Layout}
use Rattle.pybuf_command.specs.declared.commands.LocalReply.{LocalReply}
use Rattle.pybuf_command.specs.declared.commands.LocalReply.TheVariants as reply
use Rattle.pybuf_state.specs.Exporter.{Exporter, View, whole_layout, with_view, released_at, released_in}
use Rattle.pybuf_state.specs.Live.{is_live, is_unreleased}
use Rattle.pybuf_numbers.specs.declared.codes.ArrayCode.{ArrayCode}
use Rattle.pybuf_numbers.specs.declared.runs.IndexRun.{IndexRun}
use Rattle.pybuf_numbers.specs.Numbers.{numbers_of}
use Rattle.pybuf_numbers.specs.Walks.{indices_of, LiesBelow, WalksBelow}
use Rattle.pybuf_array.specs.Array as spec
use Rattle.pybuf_array.specs.Array.{Array, ArrayView, live_view}
use Rattle.pybuf_array.specs.Operations.{SettlesAtOnce}
use Rattle.pybuf_array.specs.Parts.{view_of, views_of, array_of, IsInside, IsSoundArray}

-- ---- one more view

views_of-append : (runs : List IndexRun) (views : List View) (r : IndexRun) (v : View) → length runs ≡ length views → views_of (runs ++ r ∷ []) (views ++ v ∷ []) ≡ views_of runs views ++ view_of r v ∷ []
views_of-append [] [] r v same = refl
views_of-append [] (w ∷ views) r v same = absurd (omega arith)
views_of-append (q ∷ runs) [] r v same = absurd (omega arith)
views_of-append (q ∷ runs) (w ∷ views) r v same = ap (λ rest. view_of q w ∷ rest) (views_of-append runs views r v (omega arith))

got_or_last : {X : Type 0} (xs : List X) (y x : X) (k : ℕ) → slice_get (xs ++ y ∷ []) k ≡ Some x → ((k < length xs) × (slice_get xs k ≡ Some x)) ⊎ (x ≡ y)
got_or_last [] y x zero is = inr cc
got_or_last [] y x (suc k) is = absurd cc
got_or_last (z ∷ xs) y x zero is = inl (omega arith, is)
got_or_last (z ∷ xs) y x (suc k) is = elim (got_or_last xs y x k is) [ inl h ↦ inl (omega (arith, h.0), h.1) | inr h ↦ inr h ]

got_front : {X : Type 0} (xs : List X) (y : X) (k : ℕ) → k < length xs → slice_get (xs ++ y ∷ []) k ≡ slice_get xs k
got_front [] y k there = absurd (omega arith)
got_front (x ∷ xs) y zero there = refl
got_front (x ∷ xs) y (suc k) there = got_front xs y k (omega arith)

views_of-set : (runs : List IndexRun) (views : List View) (k : ℕ) (r : IndexRun) (v : View) → slice_get runs k ≡ Some r → length runs ≡ length views → views_of runs (set views k v) ≡ set (views_of runs views) k (view_of r v)
views_of-set [] views k r v is same = absurd cc
views_of-set (q ∷ runs) [] k r v is same = absurd (omega arith)
views_of-set (q ∷ runs) (w ∷ views) zero r v is same = let here : q ≡ r = cc in ap (λ x. view_of x v ∷ views_of runs views) here
views_of-set (q ∷ runs) (w ∷ views) (suc k) r v is same = ap (λ rest. view_of q w ∷ rest) (views_of-set runs views k r v is (omega arith))

got_run : (runs : List IndexRun) (views : List View) (k : ℕ) (v : View) → slice_get views k ≡ Some v → length runs ≡ length views → (r : IndexRun) × (slice_get runs k ≡ Some r)
got_run [] [] k v is same = absurd cc
got_run [] (w ∷ views) k v is same = absurd (omega arith)
got_run (q ∷ runs) [] k v is same = absurd (omega arith)
got_run (q ∷ runs) (w ∷ views) zero v is same = (q, refl)
got_run (q ∷ runs) (w ∷ views) (suc k) v is same = got_run runs views k v is (omega arith)

got_view : (runs : List IndexRun) (views : List View) (k : ℕ) (r : IndexRun) (v : View) → slice_get runs k ≡ Some r → slice_get views k ≡ Some v → slice_get (views_of runs views) k ≡ Some (view_of r v)
got_view [] views k r v is seen = absurd cc
got_view (q ∷ runs) [] k r v is seen = absurd cc
got_view (q ∷ runs) (w ∷ views) zero r v is seen = let here : q ≡ r = cc in let there : w ≡ v = cc in ap (λ x. Some (view_of x w)) here ∙ ap (λ x. Some (view_of r x)) there
got_view (q ∷ runs) (w ∷ views) (suc k) r v is seen = got_view runs views k r v is seen

no_view : (runs : List IndexRun) (views : List View) (k : ℕ) → slice_get views k ≡ None → slice_get (views_of runs views) k ≡ None
no_view [] views k none = refl
no_view (q ∷ runs) [] k none = refl
no_view (q ∷ runs) (w ∷ views) zero none = absurd cc
no_view (q ∷ runs) (w ∷ views) (suc k) none = no_view runs views k none

no_run_no_view : (runs : List IndexRun) (views : List View) (k : ℕ) → slice_get runs k ≡ None → slice_get (views_of runs views) k ≡ None
no_run_no_view [] views k none = refl
no_run_no_view (q ∷ runs) [] k none = refl
no_run_no_view (q ∷ runs) (w ∷ views) zero none = absurd cc
no_run_no_view (q ∷ runs) (w ∷ views) (suc k) none = no_run_no_view runs views k none

seen_of : (runs : List IndexRun) (views : List View) (k : ℕ) (r : IndexRun) (b : Bool) → slice_get runs k ≡ Some r → length runs ≡ length views → is_unreleased (slice_get views k) ≡ b
    → slice_get (views_of runs views) k ≡ Some (record { indices = indices_of r; released = not b })
seen_of [] views k r b is same live = absurd cc
seen_of (q ∷ runs) [] k r b is same live = absurd (omega arith)
seen_of (q ∷ runs) (w ∷ views) zero r b is same live =
    let here : q ≡ r = cc in
    let over : w.released ≡ not b = sym (not_not w.released) ∙ ap not live in
    ap (λ x. Some (view_of x w)) here ∙ ap (λ (x : Bool). Some (record { indices = indices_of r; released = x })) over
  where
    not_not : (x : Bool) → not (not x) ≡ x
    not_not true = refl
    not_not false = refl
seen_of (q ∷ runs) (w ∷ views) (suc k) r b is same live = seen_of runs views k r b is (omega arith) live

-- What lies below a number lies below a greater one.
pub below_more : (n m : ℕ) (r : IndexRun) → n ≤ m → LiesBelow n r → LiesBelow m r
below_more n m r less below = by r.falls r.start r.stride r.count below
  where
    by : (falls : Bool) (start stride count : ℕ) → WalksBelow n falls start stride count → WalksBelow m falls start stride count
    by true start stride count below = λ some. (omega (arith, (below some).0), (below some).1)
    by false start stride count below = λ some. omega (arith, below some)

length_views : (runs : List IndexRun) (views : List View) → length runs ≡ length views → length (views_of runs views) ≡ length views
length_views [] [] same = refl
length_views [] (w ∷ views) same = absurd (omega arith)
length_views (q ∷ runs) [] same = absurd (omega arith)
length_views (q ∷ runs) (w ∷ views) same = ap suc (length_views runs views (omega arith))

-- an exporter that got a view of all its bytes
pub record GotView (e new : Exporter) (k : ℕ) : Type 0 where
  pub exporter : new ≡ (with_view e (whole_layout e)).0
  pub number : k ≡ length e.views

pub got_whole : (s e new : Exporter) (k : ℕ) → s ≡ e → ◌≡◌ {A = Result (Exporter × LocalReply) Fault} (Ok (with_view s (whole_layout s))) (Ok (new, reply.View k)) → GotView e new k
got_whole s e new k same answer =
    let pair : with_view s (whole_layout s) ≡ (new, reply.View k) = cc in
    let first : (with_view s (whole_layout s)).0 ≡ new = ap (λ (p : Exporter × LocalReply). p.0) pair in
    let second : (with_view s (whole_layout s)).1 ≡ reply.View k = ap (λ (p : Exporter × LocalReply). p.1) pair in
    let number : length s.views ≡ k = cc in
    record {
      exporter = sym first ∙ ap (λ (x : Exporter). (with_view x (whole_layout x)).0) same;
      number = sym number ∙ ap (λ (x : Exporter). length x.views) same;
    }

module _ (c : ArrayCode) (e : Exporter) (runs : List IndexRun) (a : Array) (sound : IsSoundArray c e runs) (shown : array_of c e runs ≡ a) where
  pub added_shown : (r : IndexRun) (layout : Layout) → array_of c (with_view e layout).0 (runs ++ r ∷ []) ≡ spec.with_view a (indices_of r)
  added_shown r layout =
      ap (λ views. record (array_of c e runs) { views = views }) (views_of-append runs e.views r (record { made_at = length e.bytes; layout = layout; released = false }) sound.count)
      ∙ ap (λ (b : Array). spec.with_view b (indices_of r)) shown

  pub added_sound : (r : IndexRun) (layout : Layout) → IsInside (length (numbers_of c e.bytes)) r → IsSoundArray c (with_view e layout).0 (runs ++ r ∷ [])
  added_sound r layout inside = record {
    kind = sound.kind;
    whole = sound.whole;
    count = omega (arith, sound.count, length-append runs (r ∷ []), length-append e.views (record { made_at = length e.bytes; layout = layout; released = false } ∷ []));
    inside = λ k q there live. elim (got_or_last runs r q k there) [
      | inl h ↦ sound.inside k q h.1 (ap is_unreleased (sym (got_front e.views (record { made_at = length e.bytes; layout = layout; released = false }) k (omega (arith, h.0, sound.count)))) ∙ live)
      | inr h ↦ subst (λ (x : IndexRun). IsInside (length (numbers_of c e.bytes)) x) (sym h) inside
    ];
  }

  pub added_number : (new : Exporter) (k : ℕ) → GotView e new k → k ≡ length a.views
  added_number new k got = got.number ∙ sym (length_views runs e.views sound.count) ∙ ap (λ (b : Array). length b.views) shown

  pub added_array : (new : Exporter) (k : ℕ) (r : IndexRun) (more : List IndexRun) → GotView e new k → more ≡ runs ++ r ∷ [] → array_of c new more ≡ spec.with_view a (indices_of r)
  added_array new k r more got is =
      ap (λ (x : Exporter). array_of c x more) got.exporter ∙ (ap (λ rs. array_of c (with_view e (whole_layout e)).0 rs) is ∙ added_shown r (whole_layout e))

  pub added_all : (new : Exporter) (k : ℕ) (r : IndexRun) (more : List IndexRun) → GotView e new k → more ≡ runs ++ r ∷ [] → IsInside (length a.numbers) r → IsSoundArray c new more
  added_all new k r more got is inside =
      subst (λ (x : Exporter). IsSoundArray c x more) (sym got.exporter)
      (subst (λ (rs : List IndexRun). IsSoundArray c (with_view e (whole_layout e)).0 rs) (sym is)
      (added_sound r (whole_layout e) (subst (λ (b : Array). IsInside (length b.numbers) r) (sym shown) inside)))

  pub live_view_is : (k : ℕ) (r : IndexRun) → slice_get runs k ≡ Some r → is_live e k ≡ true → live_view a k ≡ Ok (record { indices = indices_of r; released = false })
  live_view_is k r is live =
      ap (λ (b : Array). live_view b k) (sym shown)
      ∙ ap (λ (found : Option ArrayView). ok_or found fault.UnknownName >>= (λ v. unless v.released fault.Value >>= (λ _. Ok v))) (seen_of runs e.views k r true is sound.count live)

  pub released_view_is : (k : ℕ) (r : IndexRun) → slice_get runs k ≡ Some r → is_live e k ≡ false → live_view a k ≡ Err fault.Value
  released_view_is k r is live =
      ap (λ (b : Array). live_view b k) (sym shown)
      ∙ ap (λ (found : Option ArrayView). ok_or found fault.UnknownName >>= (λ v. unless v.released fault.Value >>= (λ _. Ok v))) (seen_of runs e.views k r false is sound.count live)

  pub no_view_is : (k : ℕ) → slice_get runs k ≡ None → live_view a k ≡ Err fault.UnknownName
  no_view_is k none =
      ap (λ (b : Array). live_view b k) (sym shown)
      ∙ ap (λ (found : Option ArrayView). ok_or found fault.UnknownName >>= (λ v. unless v.released fault.Value >>= (λ _. Ok v))) (no_run_no_view runs e.views k none)

  -- ---- a view that is released

  after_release : (k : ℕ) (r : IndexRun) (v : View) → slice_get runs k ≡ Some r → slice_get e.views k ≡ Some v → spec.released_in a k ≡ Ok (array_of c (released_at e k v) runs, tt)
  after_release k r v is seen =
      ap (λ (b : Array). spec.released_in b k) (sym shown)
      ∙ (ap (λ (found : Option ArrayView). ok_or found fault.UnknownName >>= (λ w. Ok (record (array_of c e runs) { views = set (views_of runs e.views) k (record w { released = true }) }, tt))) (got_view runs e.views k r v is seen)
      ∙ ap (λ views. Ok (record (array_of c e runs) { views = views }, tt)) (sym (views_of-set runs e.views k r (record v { released = true }) is sound.count)))

  before_release : (k : ℕ) → slice_get e.views k ≡ None → spec.released_in a k ≡ Err fault.UnknownName
  before_release k none =
      ap (λ (b : Array). spec.released_in b k) (sym shown)
      ∙ ap (λ (found : Option ArrayView). ok_or found fault.UnknownName >>= (λ w. Ok (record (array_of c e runs) { views = set (views_of runs e.views) k (record w { released = true }) }, tt))) (no_view runs e.views k none)

  released_by : (k : ℕ) (found : Option View) (r : Result (Unit {0}) Fault) (new : Exporter) → slice_get e.views k ≡ found
      → MatchResult r (λ _. (ok_or found fault.UnknownName >>= (λ v. Ok (released_at e k v))) ≡ Ok new) (λ f. (ok_or found fault.UnknownName >>= (λ v. Ok (released_at e k v))) ≡ Err f) → OnErr r (new ≡ e)
      → SettlesAtOnce (spec.released_in a k) a r (array_of c new runs)
  released_by k (Some v) (Ok done) new is exact same =
      let (r, run) = got_run runs e.views k v is sound.count in
      let now : released_at e k v ≡ new = cc in
      after_release k r v run is ∙ ap (λ (x : Exporter). Ok (array_of c x runs, tt)) now
  released_by k (Some v) (Err f) new is exact same = absurd cc
  released_by k None (Ok done) new is exact same = absurd cc
  released_by k None (Err f) new is exact same =
      let which : fault.UnknownName ≡ f = cc in
      (before_release k is ∙ ap Err which, ap (λ (x : Exporter). array_of c x runs) same ∙ shown)

  pub released_settles : (k : ℕ) (r : Result (Unit {0}) Fault) (new : Exporter) → MatchResult r (λ _. released_in e k ≡ Ok new) (λ f. released_in e k ≡ Err f) → OnErr r (new ≡ e)
      → SettlesAtOnce (spec.released_in a k) a r (array_of c new runs)
  released_settles k r new exact same = released_by k (slice_get e.views k) r new refl exact same

  still_live : (views : List View) (j k : ℕ) (v : View) → is_unreleased (slice_get (set views j (record v { released = true })) k) ≡ true → is_unreleased (slice_get views k) ≡ true
  still_live [] j k v live = live
  still_live (w ∷ views) zero zero v live = absurd cc
  still_live (w ∷ views) zero (suc k) v live = live
  still_live (w ∷ views) (suc j) zero v live = live
  still_live (w ∷ views) (suc j) (suc k) v live = still_live views j k v live

  sound_by : (k : ℕ) (found : Option View) (r : Result (Unit {0}) Fault) (new : Exporter) → slice_get e.views k ≡ found
      → MatchResult r (λ _. (ok_or found fault.UnknownName >>= (λ v. Ok (released_at e k v))) ≡ Ok new) (λ f. (ok_or found fault.UnknownName >>= (λ v. Ok (released_at e k v))) ≡ Err f) → OnErr r (new ≡ e) → IsSoundArray c new runs
  sound_by k (Some v) (Ok done) new is exact same =
      let now : released_at e k v ≡ new = cc in
      subst (λ (x : Exporter). IsSoundArray c x runs) now (record {
        kind = sound.kind;
        whole = sound.whole;
        count = omega (arith, sound.count, length-set e.views k (record v { released = true }));
        inside = λ j r there live. sound.inside j r there (still_live e.views k j v live);
      })
  sound_by k (Some v) (Err f) new is exact same = absurd cc
  sound_by k None (Ok done) new is exact same = absurd cc
  sound_by k None (Err f) new is exact same = subst (λ (x : Exporter). IsSoundArray c x runs) (sym same) sound

  pub released_sound : (k : ℕ) (r : Result (Unit {0}) Fault) (new : Exporter) → MatchResult r (λ _. released_in e k ≡ Ok new) (λ f. released_in e k ≡ Err f) → OnErr r (new ≡ e) → IsSoundArray c new runs
  released_sound k r new exact same = sound_by k (slice_get e.views k) r new refl exact same
