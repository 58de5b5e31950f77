-- What holds of every exporter of which scoped views were made.
use Rattle.std.specs.Prelude.{◌≡◌, ℕ, List, ◌++◌, length}
use Rattle.pybuf_desc.specs.Layouts.{Layout}
use Rattle.pybuf_state.specs.Exporter.{Exporter, View, exports_of, with_view}
use Rattle.pybuf_scoped.specs.Views.{after_scope, released_run}

-- An exporter, a view of it that is made, any bytes that are written, and the end of the view's scope: then as many
-- views are unreleased as before.
abbrev pub ScopesLeaveNoExport : Type 0
ScopesLeaveNoExport = (e : Exporter) (layout : Layout) (bytes : List ℕ) →
    exports_of (after_scope (record (with_view e layout).0 { bytes = bytes }) (length e.views)) ≡ exports_of e

-- The same of a group: an exporter, views that are made of it, any bytes that are written, and the end of the group.
abbrev pub GroupsLeaveNoExport : Type 0
GroupsLeaveNoExport = (e : Exporter) (views : List View) (bytes : List ℕ) →
    exports_of (released_run (record e { bytes = bytes; views = e.views ++ views }) (length e.views) (length views)) ≡ exports_of e
