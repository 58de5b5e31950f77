-- How many bytes a command moves, and queues of commands.
use Rattle.std.proofs.Common.{◌≡◌, ℕ, ◌+◌, ◌≤◌, List, [], ◌∷◌, true, false, true≢false, sym, subst, ap, ap₂, refl, inl, inr, arith}
use Rattle.std.specs.Prelude.{Result, Ok, Err, IsOk, IsErr, OnOk, OnErr}
use Rattle.pybuf_value.specs.declared.faults.Fault.{Fault}
use Rattle.pybuf_value.specs.declared.faults.Fault.TheVariants as fault
use Rattle.pybuf_value.specs.declared.values.Value.TheVariants as value
use Rattle.pybuf_value.specs.declared.halt.Halt.{Halt}
use Rattle.pybuf_value.specs.declared.halt.Halt.TheVariants as halt
use Rattle.pybuf_command.specs.declared.commands.Verb.{Verb}
use Rattle.pybuf_command.specs.declared.commands.Verb.TheVariants as verb
use Rattle.pybuf_command.specs.declared.commands.LocalReply.{LocalReply}
use Rattle.pybuf_command.specs.declared.commands.LocalCommand.{LocalCommand}
use Rattle.pybuf_state.specs.Exporter.{Exporter}
use Rattle.pybuf_state.specs.Loans.{Lent}
use Rattle.pybuf_state.specs.Answers.{Answers}
use Rattle.pybuf_verbs_edits.specs.Counting.{taken_places, TakesFirst, grows_at_end}
use Rattle.pybuf_verbs_edits.specs.Edits.{is_edit, edit_of_own}
use Rattle.pybuf_exporter.specs.Stored.{StoredExporter}
use Rattle.pybuf_exporter.specs.Counting.{QueueCall, Command, Append, DropFront, IsQueueStep, IsQueueRun, QueuesMoveFewBytes}

-- ---- commands that are no edits

pub no_front : (e : Exporter) (v : Verb) (n : ℕ) → is_edit v ≡ false → TakesFirst (taken_places e v) n → ⊥
no_front e (verb.Append v) n is first = first
no_front e (verb.Extend v) n is first = first
no_front e (verb.Insert index v) n is first = first
no_front e (verb.Pop index) n is first = absurd (true≢false is)
no_front e (verb.Remove v) n is first = absurd (true≢false is)
no_front e verb.Clear n is first = first
no_front e verb.Reverse n is first = first
no_front e (verb.Del key) n is first = absurd (true≢false is)
no_front e (verb.IAdd v) n is first = first
no_front e (verb.IMul count) n is first = first
no_front e (verb.Init options) n is first = first
no_front e verb.Take n is first = first
no_front e verb.Copy n is first = first
no_front e verb.View n is first = first
no_front e (verb.Range from to) n is first = first
no_front e (verb.Get key) n is first = first
no_front e (verb.Cast format shape) n is first = first
no_front e (verb.CastF format shape) n is first = first
no_front e (verb.ToBytes order) n is first = first
no_front e verb.Release n is first = first
no_front e verb.Enter n is first = first
no_front e verb.Exit n is first = first
no_front e verb.ToContiguous n is first = first
no_front e verb.ToList n is first = first
no_front e verb.Len n is first = first
no_front e (verb.Property name) n is first = first
no_front e verb.ToReadonly n is first = first
no_front e (verb.Compare op other) n is first = first
no_front e verb.Hash n is first = first
no_front e verb.Repr n is first = first
no_front e verb.Iter n is first = first
no_front e verb.Next n is first = first
no_front e verb.LengthHint n is first = first
no_front e (verb.SetState state) n is first = first
no_front e (verb.Contains v) n is first = first
no_front e (verb.Hex sep group) n is first = first
no_front e (verb.Call method) n is first = first
no_front e (verb.Set key v) n is first = first

pub no_growth : (e : Exporter) (v : Verb) (lents : List Lent) → is_edit v ≡ false → grows_at_end v lents ≡ true → ⊥
no_growth e (verb.Append v) lents is grows = absurd (true≢false is)
no_growth e (verb.Extend v) lents is grows = absurd (true≢false is)
no_growth e (verb.Insert index v) lents is grows = true≢false (sym grows)
no_growth e (verb.Pop index) lents is grows = true≢false (sym grows)
no_growth e (verb.Remove v) lents is grows = true≢false (sym grows)
no_growth e verb.Clear lents is grows = true≢false (sym grows)
no_growth e verb.Reverse lents is grows = true≢false (sym grows)
no_growth e (verb.Del key) lents is grows = true≢false (sym grows)
no_growth e (verb.IAdd v) lents is grows = absurd (true≢false is)
no_growth e (verb.IMul count) lents is grows = true≢false (sym grows)
no_growth e (verb.Init options) lents is grows = true≢false (sym grows)
no_growth e verb.Take lents is grows = true≢false (sym grows)
no_growth e verb.Copy lents is grows = true≢false (sym grows)
no_growth e verb.View lents is grows = true≢false (sym grows)
no_growth e (verb.Range from to) lents is grows = true≢false (sym grows)
no_growth e (verb.Get key) lents is grows = true≢false (sym grows)
no_growth e (verb.Cast format shape) lents is grows = true≢false (sym grows)
no_growth e (verb.CastF format shape) lents is grows = true≢false (sym grows)
no_growth e (verb.ToBytes order) lents is grows = true≢false (sym grows)
no_growth e verb.Release lents is grows = true≢false (sym grows)
no_growth e verb.Enter lents is grows = true≢false (sym grows)
no_growth e verb.Exit lents is grows = true≢false (sym grows)
no_growth e verb.ToContiguous lents is grows = true≢false (sym grows)
no_growth e verb.ToList lents is grows = true≢false (sym grows)
no_growth e verb.Len lents is grows = true≢false (sym grows)
no_growth e (verb.Property name) lents is grows = true≢false (sym grows)
no_growth e verb.ToReadonly lents is grows = true≢false (sym grows)
no_growth e (verb.Compare op other) lents is grows = true≢false (sym grows)
no_growth e verb.Hash lents is grows = true≢false (sym grows)
no_growth e verb.Repr lents is grows = true≢false (sym grows)
no_growth e verb.Iter lents is grows = true≢false (sym grows)
no_growth e verb.Next lents is grows = true≢false (sym grows)
no_growth e verb.LengthHint lents is grows = true≢false (sym grows)
no_growth e (verb.SetState state) lents is grows = true≢false (sym grows)
no_growth e (verb.Contains v) lents is grows = true≢false (sym grows)
no_growth e (verb.Hex sep group) lents is grows = true≢false (sym grows)
no_growth e (verb.Call method) lents is grows = true≢false (sym grows)
no_growth e (verb.Set key v) lents is grows = true≢false (sym grows)

-- A verb that is no edit has no effect among the edits.
pub no_edit : (e : Exporter) (v : Verb) (lents : List Lent) → is_edit v ≡ false → edit_of_own e v lents ≡ Err fault.UnknownName
no_edit e (verb.Append v) lents is = absurd (true≢false is)
no_edit e (verb.Extend v) lents is = absurd (true≢false is)
no_edit e (verb.Insert index v) lents is = absurd (true≢false is)
no_edit e (verb.Pop index) lents is = absurd (true≢false is)
no_edit e (verb.Remove v) lents is = absurd (true≢false is)
no_edit e verb.Clear lents is = absurd (true≢false is)
no_edit e verb.Reverse lents is = absurd (true≢false is)
no_edit e (verb.Del key) lents is = absurd (true≢false is)
no_edit e (verb.IAdd v) lents is = absurd (true≢false is)
no_edit e (verb.IMul count) lents is = absurd (true≢false is)
no_edit e (verb.Init options) lents is = absurd (true≢false is)
no_edit e verb.Take lents is = absurd (true≢false is)
no_edit e verb.Copy lents is = absurd (true≢false is)
no_edit e verb.View lents is = refl
no_edit e (verb.Range from to) lents is = refl
no_edit e (verb.Get key) lents is = refl
no_edit e (verb.Cast format shape) lents is = refl
no_edit e (verb.CastF format shape) lents is = refl
no_edit e (verb.ToBytes order) lents is = refl
no_edit e verb.Release lents is = refl
no_edit e verb.Enter lents is = refl
no_edit e verb.Exit lents is = refl
no_edit e verb.ToContiguous lents is = refl
no_edit e verb.ToList lents is = refl
no_edit e verb.Len lents is = refl
no_edit e (verb.Property name) lents is = refl
no_edit e verb.ToReadonly lents is = refl
no_edit e (verb.Compare op other) lents is = refl
no_edit e verb.Hash lents is = refl
no_edit e verb.Repr lents is = refl
no_edit e verb.Iter lents is = refl
no_edit e verb.Next lents is = refl
no_edit e verb.LengthHint lents is = refl
no_edit e (verb.SetState state) lents is = refl
no_edit e (verb.Contains v) lents is = refl
no_edit e (verb.Hex sep group) lents is = refl
no_edit e (verb.Call method) lents is = refl
no_edit e (verb.Set (value.Slice slice) v) lents is = absurd (true≢false is)
no_edit e (verb.Set (value.One s) v) lents is = refl
no_edit e (verb.Set (value.Tuple parts) v) lents is = refl
no_edit e (verb.Set (value.List parts) v) lents is = refl
no_edit e (verb.Set (value.Slices slices) v) lents is = refl

-- ---- how a command ends

abbrev Effect : Type 0
Effect = Result (Exporter × LocalReply) Fault

-- What holds if an effect isn't refused holds of a command that is carried out.
pub where_done : (P : Type 0) (effect : Effect) (old new : Exporter) (a : Result LocalReply Halt) → Answers effect old a new → IsOk effect → (a ≡ Err halt.NoMemory → ⊥) → OnOk a P → P
where_done P effect old new (Ok r) answers done never holds = holds
where_done P effect old new (Err (halt.Refused f)) answers done never holds = absurd (true≢false (sym (subst IsOk answers.0 done)))
where_done P effect old new (Err halt.NoMemory) answers done never holds = absurd (never refl)

-- What holds if an effect is refused holds of a command that is refused.
pub where_refused : (P : Type 0) (effect : Effect) (old new : Exporter) (a : Result LocalReply Halt) → Answers effect old a new → IsErr effect → OnErr a P → P
where_refused P effect old new (Ok r) answers refused holds = absurd (true≢false (sym (subst IsErr answers refused)))
where_refused P effect old new (Err h) answers refused holds = holds

-- What holds of a command that leaves the length as it is.
pub still_by : (P Q : Type 0) (a : Result LocalReply Halt) → OnOk a (P → Q) → P → OnOk a Q
still_by P Q (Ok r) then holds = then holds
still_by P Q (Err h) then holds = then

-- In either case, few bytes are moved.
pub few_moved : (a : Result LocalReply Halt) (before after most : ℕ) → OnOk a (after ≤ before + most) → OnErr a (after ≡ before) → after ≤ before + most
few_moved (Ok r) before after most done gone = done
few_moved (Err h) before after most done gone = omega (arith, gone)

-- This holds if memory runs out.
pub without_memory : (P : Type 0) (a : Result LocalReply Halt) → a ≡ Err halt.NoMemory → OnErr a P → P
without_memory P (Ok r) gone holds = absurd (cc)
without_memory P (Err h) gone holds = holds

pub same_exporter : (effect : Effect) (old new : Exporter) (a : Result LocalReply Halt) → a ≡ Err halt.NoMemory → Answers effect old a new → new ≡ old
same_exporter effect old new (Ok r) gone answers = absurd (cc)
same_exporter effect old new (Err (halt.Refused f)) gone answers = absurd (cc)
same_exporter effect old new (Err halt.NoMemory) gone answers = answers

abbrev pub stored : Exporter → ℕ → StoredExporter
stored e room = record { exporter = e; room = room }

pub same_stored : (e f : Exporter) (m n : ℕ) → e ≡ f → m ≡ n → stored e m ≡ stored f n
same_stored e f m n exporters rooms = ap₂ stored exporters rooms

pub where_ok : {A E : Type 0} (P Q : Type 0) (r : Result A E) → OnOk r P → (P → Q) → OnOk r Q
where_ok P Q (Ok a) holds then = then holds
where_ok P Q (Err x) holds then = holds

pub where_err : {A E : Type 0} (P Q : Type 0) (r : Result A E) → OnErr r P → (P → Q) → OnErr r Q
where_err P Q (Ok a) holds then = holds
where_err P Q (Err x) holds then = then holds

-- If memory runs out, the exporter and the room are as before.
pub closes_stored : {R E : Type 0} (effect : Effect) (old new : Exporter) (m n : ℕ) (a : Result LocalReply Halt) (r : Result R E) → Answers effect old a new → OnErr a (n ≡ m) → OnErr r (a ≡ Err halt.NoMemory) → OnErr r (stored new n ≡ stored old m)
closes_stored effect old new m n a r answers rooms memory =
    where_err _ _ r memory (λ gone. same_stored new old n m (same_exporter effect old new a gone answers) (without_memory _ a gone rooms))

-- This holds if the room stays in any case.
pub always_on_err : {R E : Type 0} (P : Type 0) (r : Result R E) → P → OnErr r P
always_on_err P (Ok x) holds = tt
always_on_err P (Err e) holds = holds

-- ---- queues

-- The moves so far and the room after a step are together at most the moves and the room before it and what it
-- took out.
step_pays : (call : QueueCall) (cut : ℕ) (old : StoredExporter) (before : ℕ) (new : StoredExporter) (after : ℕ) → IsQueueStep call cut old before new after → after + new.room ≤ before + (old.room + cut)
step_pays (Append bytes) cut old before new after step =
    let pays : after + new.room ≤ before + old.room = step.2 in
    omega (arith, step.0, pays)
step_pays (DropFront count) cut old before new after step =
    let rooms : new.room ≡ old.room + count = step.2.0 in
    let moves : after ≡ before = step.2.1 in
    omega (arith, step.0, rooms, moves)
step_pays (Command command) cut old before new after step =
    elim step.1 [
      | inl front ↦ omega (arith, step.2.front_counter cut front step.0, step.2.front_room cut front step.0)
      | inr grows ↦ omega (arith, step.2.end_counter grows.0 step.0)
    ]

run_pays : (calls : List QueueCall) (cut : ℕ) (old : StoredExporter) (before : ℕ) (new : StoredExporter) (after : ℕ) → IsQueueRun calls cut old before new after → after + new.room ≤ before + (old.room + cut)
run_pays [] cut old before new after run =
    let rooms : new.room ≡ old.room = ap (λ (c : StoredExporter). c.room) run.1 in
    omega (arith, rooms, run.2)
run_pays (call ∷ calls) cut old before new after run =
    let first = run.0 in
    let others = run.1 in
    let between = run.2 in
    let count = run.3 in
    omega (arith, run.4, step_pays call first old before between count run.5, run_pays calls others between count new after run.6)

pub queues_move_few : QueuesMoveFewBytes
queues_move_few calls cut old before new after run = omega (arith, run_pays calls cut old before new after run)
