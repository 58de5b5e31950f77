-- What a world lends of the bytes of its views.
use Rattle.std.specs.Prelude.{◌≡◌, ℕ, Bool, true, false, ◌&&◌, List, [], set, slice_get, slice_index, Option, Some, None, MatchOption}
use Rattle.std.specs.Borrow.{Lends, MutBor, Bor, Fml, Array, u8}
use Rattle.pybuf_desc.specs.Contiguous.{is_contiguous_layout}
use Rattle.pybuf_desc.specs.Items.{content_of_layout}
use Rattle.pybuf_state.specs.Exporter.{Exporter}
use Rattle.pybuf_state.specs.Live.{is_live, layout_of, is_writable_run}
use Rattle.pybuf_exporter.specs.Lending.{written_from}
use Rattle.pybuf_exporter.specs.Stored.{StoredExporter}
use Rattle.pybuf_exporter.specs.contracts.exporter.ExporterState.{the_row as exporter_row}
use Rattle.pybuf_world.specs.declared.named.Named.{Named}
use Rattle.pybuf_world.specs.declared.named.Named.TheVariants as named
use Rattle.pybuf_world.specs.World.{World}
use Rattle.pybuf_world.specs.contracts.listing.ExporterList.{the_row as list_row}
use Rattle.pybuf_world.specs.contracts.world.World.{the_row}

-- whether a view is unreleased and its items lie one after the other
abbrev pub is_run : Exporter → ℕ → Bool
is_run e k = is_live e k && is_contiguous_layout (layout_of e k)

abbrev pub is_run_in : Option Exporter → ℕ → Bool
is_run_in (Some e) k = is_run e k
is_run_in None k = false

abbrev pub is_run_named : World → Option Named → Bool
is_run_named w (Some (named.View i k)) = is_run_in (slice_get w.exporters i) k
is_run_named w _ = false

-- whether a handle names a view that is unreleased and whose items lie one after the other
abbrev pub lends : World → ℕ → Bool
lends w handle = is_run_named w (slice_get w.handles handle)

abbrev pub is_writable_in : Option Exporter → ℕ → Bool
is_writable_in (Some e) k = is_live e k && is_writable_run (layout_of e k)
is_writable_in None k = false

abbrev pub is_writable_named : World → Option Named → Bool
is_writable_named w (Some (named.View i k)) = is_writable_in (slice_get w.exporters i) k
is_writable_named w _ = false

-- the same of a view whose items may be written
abbrev pub lends_to_write : World → ℕ → Bool
lends_to_write w handle = is_writable_named w (slice_get w.handles handle)

abbrev pub bytes_in : Option Exporter → ℕ → List ℕ
bytes_in (Some e) k = content_of_layout e.bytes (layout_of e k)
bytes_in None k = []

abbrev pub bytes_named : World → Option Named → List ℕ
bytes_named w (Some (named.View i k)) = bytes_in (slice_get w.exporters i) k
bytes_named w _ = []

-- the bytes of the view that a handle names
abbrev pub view_bytes : World → ℕ → List ℕ
view_bytes w handle = bytes_named w (slice_get w.handles handle)

-- The bytes of the view, lent. Nothing is lent exactly where the handle names no such view.
abbrev pub LendsContent : World → ℕ → Option (Bor (List ℕ)) → Type 0
LendsContent w handle result =
    MatchOption result (lends w handle ≡ false) (λ bytes. (lends w handle ≡ true) × (bytes.now ≡ view_bytes w handle))

-- the same of the view of an exporter
abbrev pub LendsRunOfView : Exporter → ℕ → Option (Bor (List ℕ)) → Type 0
LendsRunOfView e k result =
    MatchOption result (is_run e k ≡ false) (λ bytes. (is_run e k ≡ true) × (bytes.now ≡ content_of_layout e.bytes (layout_of e k)))

-- the exporter with these bytes in place of those of a view whose items lie one after the other
abbrev pub with_run : Exporter → ℕ → List ℕ → Exporter
with_run e k bytes = written_from e (slice_index (layout_of e k).starts 0) bytes

abbrev pub with_run_in : List Exporter → ℕ → ℕ → Option Exporter → List ℕ → List Exporter
with_run_in es i k (Some e) bytes = set es i (with_run e k bytes)
with_run_in es i k None bytes = es

abbrev pub with_run_named : World → Option Named → List ℕ → World
with_run_named w (Some (named.View i k)) bytes = record w { exporters = with_run_in w.exporters i k (slice_get w.exporters i) bytes }
with_run_named w _ bytes = w

-- the world with these bytes in place of those of the view that a handle names
abbrev pub with_view_bytes : World → ℕ → List ℕ → World
with_view_bytes w handle bytes = with_run_named w (slice_get w.handles handle) bytes

-- When the loan ends, the view has the bytes that the borrower left. Nothing else of the world changes.
abbrev pub LendsView : MutBor World → ℕ → MutBor (List ℕ) → Fml
LendsView w handle r = Lends the_row (Array u8 0) w r (with_view_bytes w.now handle)

-- When the loan ends, the exporter of this number is as the borrower left it.
abbrev pub LendsNth : MutBor (List Exporter) → ℕ → MutBor StoredExporter → Fml
LendsNth es i r = Lends list_row exporter_row es r (λ s. set es.now i s.exporter)
