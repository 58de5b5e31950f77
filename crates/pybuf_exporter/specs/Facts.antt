-- Facts about the definitions of this crate, with their proofs, for the proofs of the crates above.
use Rattle.std.proofs.Common.{Result, Ok, ◌≡◌, Bool, true, false, Err, ap, ◌≢◌, ℕ, true≢false, List, refl}
use Rattle.std.specs.Prelude.{if◌then◌else◌}
use Rattle.pybuf_value.specs.declared.faults.Fault.{Fault}
use Rattle.pybuf_value.specs.declared.values.Value.{Value}
use Rattle.pybuf_command.specs.declared.commands.LocalReply.{LocalReply}
use Rattle.pybuf_command.specs.Facts.{refused_is_not_ok}
use Rattle.pybuf_memoryview.specs.Items.{is_slice}
use Rattle.pybuf_state.specs.Exporter.{Exporter}
use Rattle.pybuf_state.specs.Loans.{Lent}
use Rattle.pybuf_verbs_writes.specs.Set.{set_of_view}
use Rattle.pybuf_exporter.specs.Step.{settled_answer, set_through_view}
use Rattle.pybuf_value.specs.declared.faults.Fault.TheVariants as fault
use Rattle.pybuf_command.specs.declared.commands.LocalReply.TheVariants as reply
use Rattle.pybuf_value.specs.declared.values.Value.TheVariants as value

abbrev pub okay : Exporter × LocalReply → Result (Exporter × LocalReply) Fault
okay after = Ok after

pub answered_ok : (e new : Exporter) (named : Bool) (row : Result (Exporter × LocalReply) Fault) → settled_answer e (if named then row else Err fault.UnknownName) ≡ (new, reply.Ok) → row ≡ okay (new, reply.Ok)
answered_ok e new true (Ok after) is = ap okay is
answered_ok e new true (Err f) is = absurd (refused_is_not_ok f (ap (λ (after : Exporter × LocalReply). after.1) is))
answered_ok e new false row is = absurd (refused_is_not_ok fault.UnknownName (ap (λ (after : Exporter × LocalReply). after.1) is))

pub set_by_item : (e : Exporter) (k : ℕ) (key v : Value) (lents : List Lent) → is_slice key ≡ false → set_through_view e k key v lents ≡ set_of_view e k key v lents
set_by_item e k (value.Slice slice) v lents is = absurd (true≢false is)
set_by_item e k (value.One s) v lents is = refl
set_by_item e k (value.Tuple parts) v lents is = refl
set_by_item e k (value.List parts) v lents is = refl
set_by_item e k (value.Slices slices) v lents is = refl
