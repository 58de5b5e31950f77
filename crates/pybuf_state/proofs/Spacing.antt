-- Exporters in whose views no two items share a byte, and how they stay so.
use Rattle.std.proofs.Common.{Bool, true, false, [], length, sym, subst}
use Rattle.std.specs.List.{All}
use Rattle.std.proofs.lemmas.List.Elements.{All-nil, All-push, All-set}
use Rattle.pybuf_lemmas.proofs.Lists.{element_holds}
use Rattle.pybuf_value.specs.declared.snaps.Snap.{Snap}
use Rattle.pybuf_value.specs.declared.snaps.SnapKind.{SnapKind}
use Rattle.pybuf_value.specs.declared.snaps.SnapKind.TheVariants as kind
use Rattle.pybuf_desc.specs.Apart.{HasItemsApart}
use Rattle.pybuf_desc.specs.Laws.{RowMajorLayoutsLieApart}
use Rattle.pybuf_desc.specs.Packed.{row_major_layout}
use Rattle.pybuf_command.specs.declared.kinds.ExporterKind.TheVariants as exporter_kind
use Rattle.pybuf_state.specs.Exporter.{View, new_exporter}
use Rattle.pybuf_state.specs.Fresh.{vector_of, made_by_kind}
use Rattle.pybuf_state.specs.Spaced.{IsSpaced}
use Rattle.pybuf_state.specs.Laws.{NewExportersAreSpaced, NewViewsStayApart, ReleasedViewsStayApart, SameViewsStayApart, LiveLayoutsLieApart, CopiesAreSpaced}
use Rattle.pybuf_state.proofs.Finding.{view_at_given, live_view}

abbrev Apart : View → Type 0
Apart v = HasItemsApart v.layout

pub new_spaced : NewExportersAreSpaced
new_spaced k bytes = record { views = All-nil Apart }

pub one_more : NewViewsStayApart
one_more e layout spaced apart = record { views = All-push Apart e.views (record { made_at = length e.bytes; layout = layout; released = false }) spaced.views apart }

pub one_released : ReleasedViewsStayApart
one_released e k v spaced given =
    record { views = All-set Apart e.views k (record v { released = true }) (element_holds Apart e.views k v spaced.views (view_at_given e k v given)) spaced.views }

pub same_views : SameViewsStayApart
same_views e new same spaced = record { views = subst (All Apart) (sym same) spaced.views }

pub live_apart : LiveLayoutsLieApart
live_apart e k layout spaced found =
    let live = live_view e k layout found in
    subst HasItemsApart live.1.shows (element_holds Apart e.views k live.0 spaced.views live.1.given)

-- ---- copies

row_major_apart : RowMajorLayoutsLieApart → (snap : Snap) (readonly : Bool) → HasItemsApart (row_major_layout snap.format snap.itemsize snap.shape readonly)
row_major_apart packed snap readonly =
    packed (record { format = snap.format; itemsize = snap.itemsize; shape = snap.shape; starts = []; strides = []; readonly = readonly })

vector_spaced : RowMajorLayoutsLieApart → (readonly : Bool) (snap : Snap) → IsSpaced (vector_of readonly snap)
vector_spaced packed readonly snap =
    one_more (new_exporter (exporter_kind.Vector readonly) snap.content) (row_major_layout snap.format snap.itemsize snap.shape readonly)
    (new_spaced (exporter_kind.Vector readonly) snap.content) (row_major_apart packed snap readonly)

by_kind : RowMajorLayoutsLieApart → (k : SnapKind) (readonly : Bool) (snap : Snap) → IsSpaced (made_by_kind k readonly snap)
by_kind packed kind.ByteArray readonly snap = new_spaced exporter_kind.ByteArray snap.content
by_kind packed kind.Bytes readonly snap = vector_spaced packed readonly snap
by_kind packed kind.Vector readonly snap = vector_spaced packed readonly snap
by_kind packed kind.View readonly snap = vector_spaced packed readonly snap
by_kind packed kind.Iterator readonly snap = vector_spaced packed readonly snap

pub copies_spaced : RowMajorLayoutsLieApart → CopiesAreSpaced
copies_spaced packed readonly snap = by_kind packed snap.kind readonly snap
