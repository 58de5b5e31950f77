-- What a scoped view is, what is out when it ends, and what its calls owe.
use Rattle.std.specs.Prelude.{◌≡◌, ℕ, ℤ, zero, suc, ◌+◌, ◌-◌, length, List, [], ◌∷◌, Result, Ok, Err, None, IfErr}
use Rattle.std.specs.declared.vec.Vec.{Vec}
use Rattle.std.specs.declared.alloc.Global.{Global}
use Rattle.pybuf_value.specs.declared.faults.Fault.{Fault}
use Rattle.pybuf_value.specs.declared.halt.Halt.{Halt}
use Rattle.pybuf_value.specs.declared.values.PySlice.{PySlice}
use Rattle.pybuf_value.specs.declared.values.Item.{Item}
use Rattle.pybuf_command.specs.declared.commands.LocalReply.{LocalReply}
use Rattle.pybuf_command.specs.declared.commands.LocalReply.TheVariants as reply
use Rattle.pybuf_state.specs.Exporter.{Exporter, released_in}
use Rattle.pybuf_state.specs.Live.{layout_of}
use Rattle.pybuf_state.specs.Answers.{Answers, Reads, as_done, as_item, as_bytes}
use Rattle.pybuf_verbs_views.specs.Slice.{slice_of_view}
use Rattle.pybuf_verbs_views.specs.Cast.{flat_cast_of_view, shaped_cast_of_view}
use Rattle.pybuf_verbs_reads.specs.Get.{item_at_index}
use Rattle.pybuf_verbs_reads.specs.ToBytes.{bytes_of_view}
use Rattle.pybuf_verbs_writes.specs.Assign.{bytes_assigned, assigned_across}
use Rattle.pybuf_exporter.specs.Stored.{StoredExporter}
use Rattle.pybuf_exporter.specs.Stepping.{number_put}
use Rattle.pybuf_exporter.specs.Telling.{TellsRefusal}
use Rattle.pybuf_scoped.specs.declared.view.View.{View}
use Rattle.pybuf_scoped.specs.declared.group.ViewGroup.{ViewGroup}
use Rattle.pybuf_scoped.specs.declared.group.Member.{Member}
use Rattle.pybuf_scoped.specs.declared.stop.Stop.{Stop}
use Rattle.pybuf_scoped.specs.Stops.{halted, RefusedAs}

-- the exporter after a change that may be refused
abbrev pub changed_or : Exporter → Result Exporter Fault → Exporter
changed_or old (Ok new) = new
changed_or old (Err f) = old

-- the exporter after the view with this number is released, whether or not it was made
abbrev pub after_scope : Exporter → ℕ → Exporter
after_scope e k = changed_or e (released_in e k)

-- the exporter after as many views are released, one after the other, from the one with a number on
abbrev pub released_run : Exporter → ℕ → ℕ → Exporter
released_run e first zero = e
released_run e first (suc n) = after_scope (released_run e first n) (first + n)

-- the exporter after all views from the one with a number on are released
abbrev pub after_group : Exporter → ℕ → Exporter
after_group e first = released_run e first (length e.views - first)

-- ---- what owns an exporter

-- the owner has this exporter in place of its own, and nothing else of it changed
abbrev pub EndsWith : {O : Type 0} → (O → StoredExporter → O) → O → Exporter → O → Type 0
EndsWith with old e new = (s : StoredExporter) × (new ≡ with old s) × (s.exporter ≡ e)

-- a view whose owner has this exporter in place of its own
abbrev pub with_owner : {O : Type 0} → (O → StoredExporter → O) → View O → StoredExporter → View O
with_owner with view s = record view { owner = record view.owner { now = with view.owner.now s } }

-- ---- lengths

-- the first number of a shape, and 0 if it has none
abbrev pub first_of : List ℕ → ℕ
first_of [] = 0
first_of (n ∷ shape) = n

-- the number of entries of the first dimension of a view, and 0 if it has no dimension
abbrev pub entries_of : Exporter → ℕ → ℕ
entries_of e k = first_of (layout_of e k).shape

-- ---- the exporter, by what borrows it

-- the exporter under a view
abbrev pub under : {O : Type 0} → (O → Exporter) → View O → Exporter
under exporter view = exporter view.owner.now

-- the exporter that the views of a group share
abbrev pub shared : {O : Type 0} → (O → Exporter) → ViewGroup O → Exporter
shared exporter group = exporter group.owner.now

-- the length of a view
abbrev pub length_of : {O : Type 0} → (O → Exporter) → View O → ℕ
length_of exporter view = entries_of (under exporter view) view.number

-- the length of a view of a group
abbrev pub length_in : {O : Type 0} → (O → Exporter) → ViewGroup O → Member → ℕ
length_in exporter group member = entries_of (shared exporter group) member.number

-- the view is the same, whatever was written to its exporter
abbrev pub IsSameView : {O : Type 0} → View O → View O → Type 0
IsSameView old new = (new.number ≡ old.number) × (new.owner.ghost_name ≡ old.owner.ghost_name)

-- nothing of the owner under a view is changed but its exporter
abbrev pub KeepsOwner : {O : Type 0} → (O → Exporter) → (O → StoredExporter → O) → View O → View O → Type 0
KeepsOwner exporter with old new = EndsWith with old.owner.now (under exporter new) new.owner.now

-- a view's end releases it, and nothing else is changed
abbrev pub EndsScope : {O : Type 0} → (O → Exporter) → (O → StoredExporter → O) → View O → O → Type 0
EndsScope exporter with view owner = EndsWith with view.owner.now (after_scope (under exporter view) view.number) owner

-- a group's end releases its views, and nothing else is changed
abbrev pub EndsGroup : {O : Type 0} → (O → Exporter) → (O → StoredExporter → O) → ViewGroup O → O → Type 0
EndsGroup exporter with group owner = EndsWith with group.owner.now (after_group (shared exporter group) group.first) owner

-- ---- views that are made

-- what an effect makes of the exporter, with one more view
abbrev pub MakesView : {O : Type 0} → (O → Exporter) → Result (Exporter × LocalReply) Fault → View O → Type 0
MakesView exporter effect view = effect ≡ Ok (under exporter view, reply.View view.number)

-- the same of a view of a group
abbrev pub MakesMember : {O : Type 0} → (O → Exporter) → Result (Exporter × LocalReply) Fault → ViewGroup O → Member → Type 0
MakesMember exporter effect group member = effect ≡ Ok (shared exporter group, reply.View member.number)

-- a view is cast to a format
abbrev pub cast_under : {O : Type 0} → (O → Exporter) → View O → List ℕ → Result (Exporter × LocalReply) Fault
cast_under exporter view format = flat_cast_of_view (under exporter view) view.number format

-- a view is cast to a format in the dimensions of a shape
abbrev pub shaped_under : {O : Type 0} → (O → Exporter) → View O → List ℕ → List ℕ → Result (Exporter × LocalReply) Fault
shaped_under exporter view format shape = shaped_cast_of_view (under exporter view) view.number format shape

-- a view of a group is cast to a format
abbrev pub cast_in : {O : Type 0} → (O → Exporter) → ViewGroup O → Member → List ℕ → Result (Exporter × LocalReply) Fault
cast_in exporter group member format = flat_cast_of_view (shared exporter group) member.number format

-- a view of the slice that was converted is made
abbrev pub SlicesTo : (PySlice → Type 0) → Exporter → ℕ → Exporter → ℕ → Type 0
SlicesTo Converts old k new number = (s : PySlice) × Converts s × (slice_of_view old k s ≡ Ok (new, reply.View number))

-- the same of a view that borrows the one that is sliced
abbrev pub SlicesView : {O : Type 0} → (O → Exporter) → (PySlice → Type 0) → View O → View (View O) → Type 0
SlicesView exporter Converts old view =
    SlicesTo Converts (under exporter old) old.number (under exporter view.owner.now) view.number

-- the same of a view of a group
abbrev pub SlicesMember : {O : Type 0} → (O → Exporter) → (PySlice → Type 0) → ViewGroup O → Member → ViewGroup O → Member → Type 0
SlicesMember exporter Converts old member new made =
    SlicesTo Converts (shared exporter old) member.number (shared exporter new) made.number

-- a view of the slice that was converted is refused so
abbrev pub SliceRefusedAs : (PySlice → Type 0) → Exporter → ℕ → Halt → Type 0
SliceRefusedAs Converts old k halt = (s : PySlice) × Converts s × RefusedAs (slice_of_view old k s) halt

-- a view of the slice that was converted is refused, if none is made
abbrev pub RefusesSlice : {X : Type 0} → (PySlice → Type 0) → Exporter → ℕ → Result X Stop → Type 0
RefusesSlice Converts old k result = IfErr result (λ stop. SliceRefusedAs Converts old k stop.halt)

-- ---- items and bytes

-- the item at an index
abbrev pub ReadsItem : Exporter → ℕ → ℤ → Result Item Stop → Type 0
ReadsItem e k index result = Reads (item_at_index e k index) e (as_item (halted result))

-- a copy of the bytes of the items
abbrev pub ReadsBytes : Exporter → ℕ → Result (Vec ℕ Global) Stop → Type 0
ReadsBytes e k result = Reads (bytes_of_view e k None) e (as_bytes (halted result))

-- a number is put as the item at an index
abbrev pub Puts : Exporter → ℕ → ℤ → ℤ → Result (Unit {0}) Stop → Exporter → Type 0
Puts old k index number result new = TellsRefusal (number_put old k index number) old (halted result) new

-- bytes are assigned to the slice that was converted
abbrev pub AssignsBytes : (PySlice → Type 0) → ℕ → List ℕ → Exporter → Result (Unit {0}) Stop → Exporter → Type 0
AssignsBytes Converts k bytes old result new =
    (s : PySlice) × Converts s × Answers (bytes_assigned old k s bytes) old (as_done (halted result)) new

-- the same of a view
abbrev pub AssignsView : {O : Type 0} → (O → Exporter) → (PySlice → Type 0) → List ℕ → View O → Result (Unit {0}) Stop → View O → Type 0
AssignsView exporter Converts bytes old result new =
    AssignsBytes Converts old.number bytes (under exporter old) result (under exporter new)

-- the same of a view of a group
abbrev pub AssignsMember : {O : Type 0} → (O → Exporter) → (PySlice → Type 0) → Member → List ℕ → ViewGroup O → Result (Unit {0}) Stop → ViewGroup O → Type 0
AssignsMember exporter Converts member bytes old result new =
    AssignsBytes Converts member.number bytes (shared exporter old) result (shared exporter new)

-- the items of a view of an exporter are assigned to the slice that was converted
abbrev pub AssignsItems : (PySlice → Type 0) → ℕ → Exporter → ℕ → Exporter → Result (Unit {0}) Stop → Exporter → Type 0
AssignsItems Converts k lender source old result new =
    (s : PySlice) × Converts s × Answers (assigned_across old k s lender source) old (as_done (halted result)) new

-- the same of two views
abbrev pub AssignsFromView : {O P : Type 0} → (O → Exporter) → (P → Exporter) → (PySlice → Type 0) → View P → View O → Result (Unit {0}) Stop → View O → Type 0
AssignsFromView exporter lender Converts source old result new =
    AssignsItems Converts old.number (under lender source) source.number (under exporter old) result (under exporter new)

-- the same of two views of a group
abbrev pub AssignsFromMember : {O : Type 0} → (O → Exporter) → (PySlice → Type 0) → Member → Member → ViewGroup O → Result (Unit {0}) Stop → ViewGroup O → Type 0
AssignsFromMember exporter Converts member source old result new =
    AssignsItems Converts member.number (shared exporter old) source.number (shared exporter old) result (shared exporter new)
