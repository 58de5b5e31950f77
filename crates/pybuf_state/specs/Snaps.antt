-- The snaps that an exporter and its views are lent as.
use Rattle.std.specs.Prelude.{ℕ, List, [], ◌∷◌, length, Option, Some, true, false, slice_get, codes}
use Rattle.std.specs.Option.{option_map}
use Rattle.pybuf_value.specs.declared.snaps.Snap.{Snap}
use Rattle.pybuf_value.specs.declared.snaps.SnapKind.{SnapKind}
use Rattle.pybuf_value.specs.declared.snaps.SnapKind.TheVariants as kind
use Rattle.pybuf_command.specs.declared.kinds.ExporterKind.{ExporterKind}
use Rattle.pybuf_command.specs.declared.kinds.ExporterKind.TheVariants as exporter_kind
use Rattle.pybuf_command.specs.declared.kinds.Subject.{Subject}
use Rattle.pybuf_command.specs.declared.kinds.Subject.TheVariants as subject
use Rattle.pybuf_memoryview.specs.Snaps.{snap_of_layout}
use Rattle.pybuf_state.specs.Exporter.{Exporter, View}

abbrev pub snap_kind_of : ExporterKind → SnapKind
snap_kind_of exporter_kind.Bytes = kind.Bytes
snap_kind_of exporter_kind.ByteArray = kind.ByteArray
snap_kind_of (exporter_kind.Vector readonly) = kind.Vector

-- the snap of an exporter, whose items are all its bytes
abbrev pub snap_of_exporter : Exporter → Snap
snap_of_exporter e = record {
  kind = snap_kind_of e.kind;
  format = codes "B";
  itemsize = 1;
  shape = length e.bytes ∷ [];
  content = e.bytes;
  contiguous = true;
  released = false;
}

abbrev pub snap_of_view : List ℕ → View → Snap
snap_of_view bytes v = snap_of_layout bytes v.layout v.released

-- the snap of an iterator, whose bytes no command reads
abbrev pub iterator_snap : Snap
iterator_snap = record {
  kind = kind.Iterator;
  format = codes "B";
  itemsize = 1;
  shape = 0 ∷ [];
  content = [];
  contiguous = true;
  released = false;
}

-- what a handle of an exporter, of a view or of an iterator names; nothing if it was never given
abbrev pub snap_of_subject : Exporter → Subject → Option Snap
snap_of_subject e subject.Own = Some (snap_of_exporter e)
snap_of_subject e (subject.View k) = option_map (snap_of_view e.bytes) (slice_get e.views k)
snap_of_subject e (subject.Iter k) = option_map (λ it. iterator_snap) (slice_get e.iterators k)
