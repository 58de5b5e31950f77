-- The exporter of a picture.
use Rattle.std.proofs.Common.{◌≡◌, ℕ, ◌+◌, ◌*◌, ◌<◌, ◌≤◌, ◌^◌, ℤ, pos, false, List, [], ◌∷◌, length, refl, ap, ap₂, sym, subst, ◌∙◌, arith, true≢false}
use Rattle.std.specs.Prelude.{◌+ℤ◌, ◌≤ℤ◌, ◌<ℤ◌, nat_abs, slice_index}
use Rattle.std.proofs.lemmas.List.Elements.{All-push}
use Rattle.std.proofs.lemmas.Option.{get_or_from_slice_get}
use Rattle.pybuf_command.specs.declared.kinds.ExporterKind.TheVariants as kinds
use Rattle.pybuf_command.specs.declared.commands.LocalReply.TheVariants as reply
use Rattle.pybuf_command.specs.Kinds.{holds_readonly}
use Rattle.pybuf_memoryview.specs.Sized.{is_sized}
use Rattle.pybuf_desc.specs.Layouts.{Layout, LiesInside, product}
use Rattle.pybuf_desc.specs.Descriptor.{Descriptor, shape_of}
use Rattle.pybuf_desc.specs.Places.{layout_at}
use Rattle.pybuf_desc.specs.Positions.{AreIndices, offset_of, number_of_item}
use Rattle.pybuf_desc.specs.Valid.{IsValid, IsPlaced}
use Rattle.pybuf_desc.specs.Laws.{PlacedDescriptorsStand, DescribedViewsHaveTheirShape, ValidWhereItemsLieInside, PositionsArePlaces, IsPosition}
use Rattle.pybuf_desc.specs.ColumnOrder.{number_at}
use Rattle.pybuf_nd.specs.IndexMaps.{IsIndexList}
use Rattle.pybuf_state.specs.Exporter.{Exporter, with_view}
use Rattle.pybuf_state.specs.Laws.{IsSoundLayout, WholeLayoutsAreSound}
use Rattle.example_picture.specs.Parts.{place}
use Rattle.example_picture.specs.Cuts.{part_of, IsFrame}
use Rattle.example_picture.specs.Pictures.{IsOut, IsPicture, HasLevel}
use Rattle.example_picture.proofs.PartLemmas.{place_is}

-- ---- one more view

pub frame_sound : PlacedDescriptorsStand → DescribedViewsHaveTheirShape → ValidWhereItemsLieInside → WholeLayoutsAreSound → (e : Exporter) (d : Descriptor) (start : ℕ)
    → e.kind ≡ kinds.ByteArray → IsPlaced d start → IsValid d start (length e.bytes) → IsFrame (layout_at d start) → IsSoundLayout e (layout_at d start)
frame_sound stand shaped within whole e d start kind placed valid frame = record {
  formed = record {
    sized = ap₂ is_sized frame.format frame.itemsize ∙ (whole e).formed.sized;
    counted = shaped d start (layout_at d start) (stand d start placed);
  };
  inside = (within d start (length e.bytes) (layout_at d start) placed (stand d start placed)).1 valid;
  readonly = λ held. absurd (true≢false (sym held ∙ ap holds_readonly kind));
}

pub picture_more : (rows columns channels : ℕ) (e new : Exporter) (layout : Layout) (k : ℕ) → IsPicture rows columns channels e → IsFrame layout → with_view e layout ≡ (new, reply.View k) → IsPicture rows columns channels new
picture_more rows columns channels e new layout k is frame made =
    subst (IsPicture rows columns channels) (ap (λ (pair : Exporter × _). pair.0) made)
    (record {
      kind = is.kind;
      size = is.size;
      some_row = is.some_row;
      some_column = is.some_column;
      some_channel = is.some_channel;
      views = All-push IsOut e.views (record { made_at = length e.bytes; layout = layout; released = false }) is.views (record { live = refl; frame = frame });
    })

-- ---- the place of a level

are_indices : (dims : List (ℕ × ℤ × ℤ)) (indices : List ℕ) → IsIndexList (shape_of dims) indices → AreIndices indices dims
are_indices [] [] h = tt
are_indices [] (i ∷ indices) h = absurd h
are_indices (dim ∷ dims) [] h = absurd h
are_indices (dim ∷ dims) (i ∷ indices) h = (h.0, are_indices dims indices h.1)

number_same : (dims : List (ℕ × ℤ × ℤ)) (indices : List ℕ) → number_of_item indices dims ≡ number_at (shape_of dims) indices
number_same [] [] = refl
number_same [] (i ∷ indices) = refl
number_same (dim ∷ dims) [] = refl
number_same (dim ∷ dims) (i ∷ indices) = ap (λ (n : ℕ). i * product (shape_of dims) + n) (number_same dims indices)

pub record IsFound (d : Descriptor) (start room row column channel : ℕ) (offset : ℤ) : Type 0 where
  pub start_fits : start < 2 ^ 63
  pub low : pos 0 ≤ℤ (pos start +ℤ offset)
  pub high : (pos start +ℤ offset) <ℤ pos (2 ^ 63)
  pub place : nat_abs (pos start +ℤ offset) ≡ place (part_of (layout_at d start)) row column channel
  pub inside : nat_abs (pos start +ℤ offset) < room

found_at : PlacedDescriptorsStand → ValidWhereItemsLieInside → (d : Descriptor) (start room row column channel : ℕ) (offset : ℤ) → IsPlaced d start → IsValid d start room → IsFrame (layout_at d start)
    → IsPosition (layout_at d start) start (number_of_item (row ∷ column ∷ channel ∷ []) d.dims) offset → IsFound d start room row column channel offset
found_at stand within d start room row column channel offset placed valid frame at =
    let view : Layout = layout_at d start in
    let item : ℕ = number_of_item (row ∷ column ∷ channel ∷ []) d.dims in
    let is : nat_abs (pos start +ℤ offset) ≡ slice_index view.starts item = sym (get_or_from_slice_get view.starts item (nat_abs (pos start +ℤ offset)) 0 at.place) in
    let lies : LiesInside room view = (within d start room view placed (stand d start placed)).1 valid in
    let last : slice_index view.starts item + view.itemsize ≤ room = lies item 0 at.item_exists in
    record {
      start_fits = at.start_fits;
      low = at.low;
      high = at.high;
      place = is ∙ ap (λ (n : ℕ). slice_index view.starts n) (number_same d.dims (row ∷ column ∷ channel ∷ [])) ∙ place_is view row column channel frame;
      inside = omega (arith, is, last, frame.itemsize);
    }

pub found : PlacedDescriptorsStand → PositionsArePlaces → ValidWhereItemsLieInside → (d : Descriptor) (start room row column channel : ℕ) (offset : ℤ) → IsPlaced d start → IsValid d start room → IsFrame (layout_at d start)
    → HasLevel (part_of (layout_at d start)) row column channel → offset ≡ offset_of (row ∷ column ∷ channel ∷ []) d.dims → IsFound d start room row column channel offset
found stand positions within d start room row column channel offset placed valid frame has sum =
    let inside : IsIndexList ((part_of (layout_at d start)).rows ∷ (part_of (layout_at d start)).columns ∷ (part_of (layout_at d start)).channels ∷ []) (row ∷ column ∷ channel ∷ []) =
    (has.in_rows, (has.in_columns, (has.in_channels, tt))) in
    let indices : AreIndices (row ∷ column ∷ channel ∷ []) d.dims = are_indices d.dims (row ∷ column ∷ channel ∷ []) (subst (λ (s : List ℕ). IsIndexList s (row ∷ column ∷ channel ∷ [])) (sym frame.shape) inside) in
    found_at stand within d start room row column channel offset placed valid frame
    (subst (λ (z : ℤ). IsPosition (layout_at d start) start (number_of_item (row ∷ column ∷ channel ∷ []) d.dims) z) (sym sum) (positions d start (layout_at d start) (row ∷ column ∷ channel ∷ []) placed (stand d start placed) indices))
