-- Selections that pick nothing.
use Rattle.std.proofs.Common.{◌≡◌, ℕ, zero, suc, Bool, true, false, List, [], ◌∷◌, length, drop, map, flat_map, refl, sym, ◌∙◌, ap}
use Rattle.std.specs.Prelude.{◌&&◌, nat_lt, Result, Ok, Err}
use Rattle.std.specs.List.{range_with_len}
use Rattle.pybuf_lemmas.proofs.Lists.{flat_map_of_none}
use Rattle.pybuf_lemmas.proofs.Booleans.{first_of_both}
use Rattle.pybuf_value.specs.declared.faults.Fault.{Fault}
use Rattle.pybuf_value.specs.declared.faults.Outcome.{Outcome}
use Rattle.pybuf_value.specs.declared.faults.Outcome.TheVariants as outcome
use Rattle.pybuf_value.specs.Halting.{given_by, refusal_of}
use Rattle.pybuf_value.specs.Refusing.{unless}
use Rattle.pybuf_index.specs.Parts.{SliceParts}
use Rattle.pybuf_desc.specs.Layouts.{Layout}
use Rattle.pybuf_desc.specs.Items.{bytes_of_items, content_of_layout}
use Rattle.pybuf_desc.specs.ColumnOrder.{start_at, column_index_lists}
use Rattle.pybuf_nd.specs.IndexMaps.{index_lists}
use Rattle.pybuf_nd.specs.Selections.{has_zero, counts_of, picks_of_each, picked_indices, selection_of, selection_check}
use Rattle.pybuf_nd.specs.Axes.{transposition_of, order_check}
use Rattle.pybuf_nd.specs.Laws.{TranspositionsAreColumnOrder}
use Rattle.pybuf_nd_lines.specs.Selections.{Selection, bytes_in_shape, transposed_if, selection_text}

no_rows : (shape : List ℕ) → has_zero shape ≡ true → index_lists shape ≡ []
no_rows [] h = cc
no_rows (zero ∷ shape) h = refl
no_rows (suc n ∷ shape) h =
    ap (λ (lists : List (List ℕ)). flat_map (λ index. map (λ (indices : List ℕ). index ∷ indices) lists) (range_with_len 0 (suc n))) (no_rows shape h)
    ∙ flat_map_of_none (λ index. map (λ (indices : List ℕ). index ∷ indices) []) (range_with_len 0 (suc n)) (λ index. refl)

no_columns : (shape : List ℕ) → has_zero shape ≡ true → column_index_lists shape ≡ []
no_columns [] h = cc
no_columns (zero ∷ shape) h = flat_map_of_none (λ (indices : List ℕ). map (λ index. index ∷ indices) (range_with_len 0 0)) (column_index_lists shape) (λ indices. refl)
no_columns (suc n ∷ shape) h =
    ap (λ (lists : List (List ℕ)). flat_map (λ (indices : List ℕ). map (λ index. index ∷ indices) (range_with_len 0 (suc n))) lists) (no_columns shape h)

-- ---- by a refusal

refused_so : (b : Bool) (f g : Fault) → Err f ≡ refusal_of (unless b g) → b ≡ true
refused_so true f g e = refl
refused_so false f g e = cc

zero_behind : (ns : List ℕ) → has_zero (drop 1 ns) ≡ true → has_zero ns ≡ true
zero_behind [] h = h
zero_behind (zero ∷ ns) h = refl
zero_behind (suc n ∷ ns) h = h

nothing_picked : (view : Layout) (slices : List SliceParts) (f : Fault) → Err f ≡ refusal_of (selection_check view.shape slices)
    → has_zero (counts_of (picks_of_each view.shape slices)) ≡ true
nothing_picked view slices f e = zero_behind (counts_of (picks_of_each view.shape slices)) (refused_so (has_zero (drop 1 (counts_of (picks_of_each view.shape slices)))) f _ e)

nothing_selected : (bytes : List ℕ) (view : Layout) (slices : List SliceParts) → has_zero (counts_of (picks_of_each view.shape slices)) ≡ true
    → content_of_layout bytes (selection_of view slices) ≡ []
nothing_selected bytes view slices h =
    ap (λ (lists : List (List ℕ)). bytes_of_items bytes view.itemsize (map (λ indices. start_at view (picked_indices (picks_of_each view.shape slices) indices)) lists))
    (no_rows (counts_of (picks_of_each view.shape slices)) h)

nothing_transposed : TranspositionsAreColumnOrder → (bytes : List ℕ) (view : Layout) → has_zero view.shape ≡ true → content_of_layout bytes (transposition_of view) ≡ []
nothing_transposed columns bytes view h =
    columns bytes view ∙ ap (λ (lists : List (List ℕ)). bytes_of_items bytes view.itemsize (map (λ indices. start_at view indices) lists)) (no_columns view.shape h)

nothing_turned : TranspositionsAreColumnOrder → (bytes : List ℕ) (view : Layout) (f : Fault) → Err f ≡ refusal_of (order_check view.shape)
    → content_of_layout bytes (transposition_of view) ≡ []
nothing_turned columns bytes view f e =
    nothing_transposed columns bytes view (first_of_both (has_zero view.shape) (nat_lt 1 (length view.shape)) (refused_so (has_zero view.shape && nat_lt 1 (length view.shape)) f _ e))

nothing_asked : TranspositionsAreColumnOrder → (bytes : List ℕ) (view : Layout) (slices : List SliceParts) (transposed : Bool) (f : Fault)
    → Err f ≡ refusal_of (selection_check view.shape slices) → content_of_layout bytes (transposed_if transposed (selection_of view slices)) ≡ []
nothing_asked columns bytes view slices true f e = nothing_transposed columns bytes (selection_of view slices) (nothing_picked view slices f e)
nothing_asked columns bytes view slices false f e = nothing_selected bytes view slices (nothing_picked view slices f e)

-- what a refused call answers for the selection
refusal_so : (o : Outcome Layout) (f : Fault) (wanted : Result Bool Fault) → o ≡ outcome.Refused f → refusal_of (given_by o) ≡ refusal_of wanted → Err f ≡ refusal_of wanted
refusal_so o f wanted e h = sym (ap (λ (x : Outcome Layout). refusal_of (given_by x)) e) ∙ h

pub turn_refused : TranspositionsAreColumnOrder → (bytes : List ℕ) (view : Layout) (transposed : Bool) (o : Outcome Layout) (f : Fault) → transposed ≡ true → o ≡ outcome.Refused f
    → refusal_of (given_by o) ≡ refusal_of (order_check view.shape) → content_of_layout bytes (transposed_if transposed view) ≡ []
turn_refused columns bytes view true o f on e h = nothing_turned columns bytes view f (refusal_so o f (order_check view.shape) e h)
turn_refused columns bytes view false o f on e h = cc

cut_refused : TranspositionsAreColumnOrder → (bytes : List ℕ) (view whole : Layout) (slices : List SliceParts) (transposed : Bool) (o : Outcome Layout) (f : Fault) → view ≡ whole
    → o ≡ outcome.Refused f → refusal_of (given_by o) ≡ refusal_of (selection_check view.shape slices) → content_of_layout bytes (transposed_if transposed (selection_of whole slices)) ≡ []
cut_refused columns bytes view whole slices transposed o f is e h =
    sym (ap (λ (x : Layout). content_of_layout bytes (transposed_if transposed (selection_of x slices))) is)
    ∙ nothing_asked columns bytes view slices transposed f (refusal_so o f (selection_check view.shape slices) e h)

pub nothing_of_selection : TranspositionsAreColumnOrder → (s : Selection) (bytes : List ℕ) (whole : Layout) (shape lent_shape : List ℕ) (slices lent : List SliceParts) (transposed : Bool)
    (o : Outcome Layout) (f : Fault) → s ≡ record { shape = shape; slices = slices; transposed = transposed } → whole ≡ bytes_in_shape lent_shape → lent_shape ≡ shape → lent ≡ slices
    → o ≡ outcome.Refused f → refusal_of (given_by o) ≡ refusal_of (selection_check whole.shape lent) → selection_text s bytes ≡ []
nothing_of_selection columns s bytes whole shape lent_shape slices lent transposed o f e w l same r h =
    ap (λ (x : Selection). selection_text x bytes) e
    ∙ cut_refused columns bytes whole (bytes_in_shape shape) slices transposed o f (w ∙ ap bytes_in_shape l) r
    (h ∙ ap (λ (parts : List SliceParts). refusal_of (selection_check whole.shape parts)) same)
