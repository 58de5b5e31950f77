-- The ranges of a walk in column order, over bytes.
use Rattle.std.proofs.Common.{ℕ, ◌+◌, ◌≤◌, ℤ, pos, negsuc, nat_abs, List, [], ◌∷◌, map, ap, ap₂, ◌∙◌, arith}
use Rattle.std.specs.Prelude.{All}
use Rattle.std.specs.List.{AllByRecursion}
use Rattle.std.specs.declared.ops.Range.{Range}
use Rattle.std.proofs.lemmas.Int.{ints}
use Rattle.std.proofs.lemmas.List.Elements.{All-nil, All-cons}
use Rattle.pybuf_lemmas.proofs.Lists.{sizes_of_naturals}
use Rattle.pybuf_desc.specs.Items.{bytes_of_items}
use Rattle.pybuf_desc.specs.Valid.{IsInside}
use Rattle.pybuf_desc.specs.Segments.{range_at}
use Rattle.pybuf_desc.specs.ColumnOrder.{column_starts}
use Rattle.pybuf_desc.specs.ColumnMajor.{column_places}
use Rattle.pybuf_desc.specs.ColumnSegments.{column_ranges_of}
use Rattle.pybuf_desc.specs.Laws.{ColumnRangesHaveTheContent, ColumnRangesStayInside}
use Rattle.pybuf_desc.proofs.RangeLaws.{bytes_at_places, bytes_of_ranges, bytes_of_places}
use Rattle.pybuf_desc.proofs.ColumnViews.{columns_of_view}
use Rattle.pybuf_desc.proofs.ColumnWalks.{column_bytes, columns_within}

pub column_ranges_content : ColumnRangesHaveTheContent
column_ranges_content d start view bytes stands =
    bytes_of_ranges bytes (column_ranges_of d (pos start))
    ∙ ap (bytes_at_places bytes) (column_bytes d (pos start)) ∙ bytes_of_places bytes d.itemsize (column_places d.dims (pos start))
    ∙ ap₂ (λ (size : ℕ) (starts : List ℕ). bytes_of_items bytes size starts) stands.itemsize (ap (map nat_abs) (columns_of_view d start view stands) ∙ sizes_of_naturals (column_starts view))

range_end : (size room : ℕ) (p : ℤ) → IsInside size room p → nat_abs p + size ≤ room
range_end size room (pos n) i = let high = i.high in omega (arith, ints, high)
range_end size room (negsuc n) i = absurd (let low = i.low in omega (arith, ints, low))

ends_inside : (size room : ℕ) (ps : List ℤ) → AllByRecursion (IsInside size room) ps → All (λ (range : Range ℕ). range.end ≤ room) (map (range_at size) ps)
ends_inside size room [] all = All-nil (λ (range : Range ℕ). range.end ≤ room)
ends_inside size room (p ∷ ps) all =
    All-cons (λ (range : Range ℕ). range.end ≤ room) (range_at size p) (map (range_at size) ps) (range_end size room p all.0) (ends_inside size room ps all.1)

pub column_ranges_inside : ColumnRangesStayInside
column_ranges_inside d start room valid = ends_inside d.itemsize room (column_places d.dims (pos start)) (columns_within d start room valid.inside)
