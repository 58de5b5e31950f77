-- Each effect keeps a sound exporter, and equal values have equal hashes.
use Rattle.std.specs.Prelude.{◌≡◌, ℕ, ◌<◌, List, true, false, Ok}
use Rattle.std.specs.List.{All}
use Rattle.pybuf_value.specs.declared.values.Value.{Value}
use Rattle.pybuf_value.specs.declared.values.CompareOp.{CompareOp}
use Rattle.pybuf_desc.specs.Layouts.{Layout}
use Rattle.pybuf_command.specs.declared.commands.LocalReply.TheVariants as reply
use Rattle.pybuf_memoryview.specs.Snaps.{snap_of_layout}
use Rattle.pybuf_equality.specs.Equality.{same_view}
use Rattle.pybuf_equality.specs.Laws.{IsByteFormat}
use Rattle.pybuf_state.specs.Exporter.{Exporter, live_layout}
use Rattle.pybuf_state.specs.Loans.{Lent}
use Rattle.pybuf_state.specs.Keeps.{IsSafe}
use Rattle.pybuf_state.specs.Sound.{IsSoundExporter}
use Rattle.pybuf_verbs_compare.specs.Compare.{compare_of_own, compare_of_view}
use Rattle.pybuf_verbs_compare.specs.Hash.{hash_of_own, hash_of_view}
use Rattle.pybuf_verbs_compare.specs.Repr.{repr_of_own, repr_of_view}

abbrev pub CompareIsSafe : Type 0
CompareIsSafe =
    ((e : Exporter) (op : CompareOp) (other : Value) (lents : List Lent) → IsSafe e (compare_of_own e op other lents))
    × ((e : Exporter) (k : ℕ) (op : CompareOp) (other : Value) (lents : List Lent) → IsSafe e (compare_of_view e k op other lents))

abbrev pub HashIsSafe : Type 0
HashIsSafe =
    ((e : Exporter) → IsSafe e (hash_of_own e))
    × ((e : Exporter) (k : ℕ) → IsSafe e (hash_of_view e k))

abbrev pub ReprIsSafe : Type 0
ReprIsSafe =
    ((e : Exporter) → IsSafe e (repr_of_own e))
    × ((e : Exporter) (k : ℕ) → IsSafe e (repr_of_view e k))

-- Two unreleased views of items of one byte that are equal reply the same bytes to `hash`, whatever their
-- exporters and their formats are.
abbrev pub EqualViewsHashAlike : Type 0
EqualViewsHashAlike =
    (e other : Exporter) (k j : ℕ) (layout other_layout : Layout) (bytes other_bytes : List ℕ)
    → IsSoundExporter e → IsSoundExporter other → All (λ b. b < 256) e.bytes → All (λ b. b < 256) other.bytes
    → live_layout e k ≡ Ok layout → live_layout other j ≡ Ok other_layout
    → IsByteFormat layout.format → IsByteFormat other_layout.format
    → same_view (snap_of_layout e.bytes layout false) (snap_of_layout other.bytes other_layout false) ≡ true
    → hash_of_view e k ≡ Ok (e, reply.Bytes bytes) → hash_of_view other j ≡ Ok (other, reply.Bytes other_bytes) → bytes ≡ other_bytes
