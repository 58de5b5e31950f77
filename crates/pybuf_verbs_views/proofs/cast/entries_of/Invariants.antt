use Rattle.std.proofs.Common.{◌≡◌, ◌*◌, ◌<◌, ◌^◌, length, drop}
use Rattle.std.specs.Prelude.{All}
use Rattle.pybuf_desc.specs.Layouts.{product}
use Rattle.pybuf_verbs_views.specs.Cast.{entries_of}
use Rattle.pybuf_verbs_views.proofs.CastEntries.{joined}
use Rattle.pybuf_verbs_views.proofs.cast.entries_of.Given as goal

abbrev pub invariant-loop-part : goal.invariant-loop-part
invariant-loop-part l =
    (entries_of l.size l.parts ≡ joined l.entries (entries_of l.product (drop l.part-index l.parts))) × (l.product ≡ l.size * product l.entries)
    × (All (λ n. 0 < n) l.entries) × (length l.entries ≡ l.part-index) × (0 < l.product) × (l.product < 2 ^ 63)
