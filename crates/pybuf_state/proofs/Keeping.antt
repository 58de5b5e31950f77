-- What each way of changing an exporter keeps.
use Rattle.std.proofs.Common.{◌≡◌, ℕ, suc, ◌+◌, ◌≤◌, ◌<◌, List, [], ◌∷◌, length, true, false, true≢false, sym, ◌∙◌, refl, subst, arith, inl, inr}
use Rattle.std.specs.Prelude.{Some, codes, cond, slice_get, count_by}
use Rattle.std.specs.List.{All, range_with_len}
use Rattle.std.proofs.lemmas.List.Elements.{All-nil, All-cons, All-push, All-set, All-weaker}
use Rattle.std.proofs.lemmas.List.Sums.{sum_by-cons}
use Rattle.std.proofs.lemmas.List.FromFn.{length-range_with_len, get_or-range_with_len}
use Rattle.pybuf_lemmas.proofs.Numbers.{none_counted}
use Rattle.pybuf_lemmas.proofs.Lists.{element_holds}
use Rattle.pybuf_state.specs.Facts.{no_exports as free}
use Rattle.pybuf_desc.specs.Layouts.{Layout}
use Rattle.pybuf_command.specs.declared.kinds.ExporterKind.{ExporterKind}
use Rattle.pybuf_struct.specs.Formats.{codes_in, layout_from, format_after_prefix}
use Rattle.pybuf_memoryview.specs.Sized.{is_sized}
use Rattle.pybuf_state.specs.Exporter.{Exporter, View, Iterator, is_exported}
use Rattle.pybuf_state.specs.Sound.{IsSoundView, IsSoundExporter}
use Rattle.pybuf_state.specs.Keeps.{IsSameOrReleased, ViewsStay, LengthsStay, IsSameOrMoved}
use Rattle.pybuf_state.specs.Resizing.{has_exports}
use Rattle.pybuf_state.specs.Laws.{IsSoundLayout, WholeLayoutsAreSound, PartLayoutsAreSound, LiveLayoutsAreSound, ReadingKeeps, NewViewsKeep, NewViewsAreSound, WritingKeeps, ResizingKeeps, EmptyingKeeps, ReleasingKeeps, NewIteratorsStay, MovedIteratorsStay}
use Rattle.pybuf_state.proofs.Spacing.{one_more, one_released, same_views}
use Rattle.pybuf_state.proofs.Finding.{view_at_given, live_view, slice_get-push, slice_get-set}

-- ---- layouts

-- the format of bytes has the size 1
bytes_are_sized : is_sized (codes "B") 1 ≡ true
unfolding codes_in layout_from format_after_prefix
bytes_are_sized = refl

whole_inside : (n : ℕ) → All (λ start. start + 1 ≤ n) (range_with_len 0 n)
whole_inside n = λ i d below.
    let within : i < n = omega (arith, length-range_with_len 0 n, below) in
    omega (arith, get_or-range_with_len 0 n i d within, within)

pub whole_sound : WholeLayoutsAreSound
whole_sound e = record {
  formed = record { sized = bytes_are_sized; counted = length-range_with_len 0 (length e.bytes) ∙ omega arith };
  inside = whole_inside (length e.bytes);
  readonly = λ is. is;
}

part_inside : (start n room : ℕ) → start + n ≤ room → All (λ place. place + 1 ≤ room) (range_with_len start n)
part_inside start n room within = λ i d below.
    let less : i < n = omega (arith, length-range_with_len start n, below) in
    omega (arith, get_or-range_with_len start n i d less, less, within)

pub part_sound : PartLayoutsAreSound
part_sound e start count within = record {
  formed = record { sized = bytes_are_sized; counted = length-range_with_len start count ∙ omega arith };
  inside = part_inside start count (length e.bytes) within;
  readonly = λ is. is;
}

pub live_sound : LiveLayoutsAreSound
live_sound e k layout sound found =
    let live = live_view e k layout found in
    let view = element_holds (IsSoundView e.kind e.bytes) e.views k live.0 sound.views live.1.given in
    subst (IsSoundLayout e) live.1.shows (record {
      formed = view.formed;
      inside = (view.held live.1.unreleased).inside;
      readonly = view.readonly;
    })

-- ---- changes

same : (v : View) → IsSameOrReleased v v
same v = inl refl

views_same : (views : List View) → ViewsStay views views
views_same views = λ k v found. (v, found, same v)

pub reading : ReadingKeeps
reading e sound = record {
  kind = refl;
  sound = sound;
  lengths = record { views = views_same e.views; bytes = λ live. refl };
  readonly_bytes = λ readonly. inl refl;
  iterators = refl;
  items_apart = λ spaced. spaced;
}

new_view : (e : Exporter) (layout : Layout) → IsSoundLayout e layout → IsSoundView e.kind e.bytes (record { made_at = length e.bytes; layout = layout; released = false })
new_view e layout made = record {
  formed = made.formed;
  readonly = made.readonly;
  held = λ unreleased. record { inside = made.inside; length_kept = refl };
}

pub one_more_sound : NewViewsAreSound
one_more_sound e layout sound made =
    let v : View = record { made_at = length e.bytes; layout = layout; released = false } in
    record { views = All-push (IsSoundView e.kind e.bytes) e.views v sound.views (new_view e layout made) }

pub adding : NewViewsKeep
adding e layout sound made apart =
    let v : View = record { made_at = length e.bytes; layout = layout; released = false } in
    record {
      kind = refl;
      sound = one_more_sound e layout sound made;
      lengths = record { views = λ k w found. (w, slice_get-push e.views v w k found, same w); bytes = λ live. refl };
      readonly_bytes = λ readonly. inl refl;
      iterators = refl;
      items_apart = λ spaced. one_more e layout spaced (apart spaced);
    }

held_by_length : (k : ExporterKind) (old new : List ℕ) (v : View) → length new ≡ length old → IsSoundView k old v → IsSoundView k new v
held_by_length k old new v same_length view = record {
  formed = view.formed;
  readonly = view.readonly;
  held = λ unreleased.
      let held = view.held unreleased in
      record {
        inside = λ i d below. omega (arith, held.inside i d below, same_length);
        length_kept = held.length_kept ∙ sym same_length;
      };
}

pub writing : WritingKeeps
writing e bytes sound writable same_length = record {
  kind = refl;
  sound = record { views = All-weaker (IsSoundView e.kind e.bytes) (IsSoundView e.kind bytes) (λ v view. held_by_length e.kind e.bytes bytes v same_length view) e.views sound.views };
  lengths = record { views = views_same e.views; bytes = λ live. same_length };
  readonly_bytes = λ readonly. absurd (true≢false (sym readonly ∙ writable));
  iterators = refl;
  items_apart = same_views e (record e { bytes = bytes }) refl;
}

-- if no view is unreleased, none is held
released_keeps : (k : ExporterKind) (old new : List ℕ) (v : View) → v.released ≡ true → IsSoundView k old v → IsSoundView k new v
released_keeps k old new v released view = record {
  formed = view.formed;
  readonly = view.readonly;
  held = λ unreleased. absurd (true≢false (sym released ∙ unreleased));
}

free_views : (k : ExporterKind) (old new : List ℕ) (views : List View) → count_by is_exported views ≡ 0 → All (IsSoundView k old) views → All (IsSoundView k new) views
free_views k old new [] none sound = All-nil (IsSoundView k new)
free_views k old new (v ∷ views) none sound =
    let first = none_counted v.released (count_by is_exported views) (sym (sum_by-cons (λ (w : View). cond (is_exported w) 1 0) v views) ∙ none) in
    All-cons (IsSoundView k new) v views (released_keeps k old new v first.0 (sound 0 v (omega arith)))
    (free_views k old new views first.1 (λ i d below. sound (suc i) d (omega (arith, below))))

free_sound : (e : Exporter) (bytes : List ℕ) → IsSoundExporter e → has_exports e ≡ false → IsSoundExporter (record e { bytes = bytes })
free_sound e bytes sound none = record { views = free_views e.kind e.bytes bytes e.views (free e none) sound.views }

free_lengths : (e : Exporter) (bytes : List ℕ) → has_exports e ≡ false → LengthsStay e (record e { bytes = bytes })
free_lengths e bytes none = record { views = views_same e.views; bytes = λ live. absurd (omega (arith, free e none, live)) }

pub resizing : ResizingKeeps
resizing e bytes sound none writable = record {
  kind = refl;
  sound = free_sound e bytes sound none;
  lengths = free_lengths e bytes none;
  readonly_bytes = λ readonly. absurd (true≢false (sym readonly ∙ writable));
  iterators = refl;
  items_apart = same_views e (record e { bytes = bytes }) refl;
}

pub emptying : EmptyingKeeps
emptying e sound none vector = record {
  kind = refl;
  sound = free_sound e [] sound none;
  lengths = free_lengths e [] none;
  readonly_bytes = λ readonly. inr (record { vector = vector; free = free e none; empty = refl });
  iterators = refl;
  items_apart = same_views e (record e { bytes = [] }) refl;
}

released_sound : (k : ExporterKind) (bytes : List ℕ) (v : View) → IsSoundView k bytes v → IsSoundView k bytes (record v { released = true })
released_sound k bytes v view = record {
  formed = view.formed;
  readonly = view.readonly;
  held = λ unreleased. absurd (true≢false unreleased);
}

pub releasing : ReleasingKeeps
releasing e k v sound found =
    let at : slice_get e.views k ≡ Some v = view_at_given e k v found in
    let w : View = record v { released = true } in
    record {
      kind = refl;
      sound = record {
        views = All-set (IsSoundView e.kind e.bytes) e.views k w (released_sound e.kind e.bytes v (element_holds (IsSoundView e.kind e.bytes) e.views k v sound.views at)) sound.views;
      };
      lengths = record { views = λ j u there. slice_get-set IsSameOrReleased e.views k j v w u same (inr refl) at there; bytes = λ live. refl };
      readonly_bytes = λ readonly. inl refl;
      iterators = refl;
      items_apart = λ spaced. one_released e k v spaced found;
    }

-- ---- iterators

unmoved : (it : Iterator) → IsSameOrMoved it it
unmoved it = record { subject = refl; exhausted = λ is. refl }

pub iterators_added : NewIteratorsStay
iterators_added its new k it found = (it, slice_get-push its new it k found, unmoved it)

pub iterators_moved : MovedIteratorsStay
iterators_moved its k it moved at is j other found = slice_get-set IsSameOrMoved its k j it moved other unmoved is at found
