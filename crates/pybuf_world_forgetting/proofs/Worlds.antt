-- Forgetting changes no step of a world, and so no run.
use Rattle.std.proofs.Common.{◌≡◌, ℕ, zero, suc, ◌++◌, List, [], ◌∷◌, Bool, true, false, ap, ap₂, sym, ◌∙◌, refl, subst, length}
use Rattle.std.specs.Prelude.{◌==◌, map, set, slice_get, Option, Some, None, Result, Ok, Err, if◌then◌else◌}
use Rattle.std.specs.Option.{ok_or, option_map}
use Rattle.pybuf_value.specs.declared.faults.Fault.{Fault}
use Rattle.pybuf_value.specs.declared.faults.Fault.TheVariants as fault
use Rattle.pybuf_value.specs.declared.snaps.Snap.{Snap}
use Rattle.pybuf_value.specs.Refusing.{◌>>=◌, unless}
use Rattle.pybuf_value.specs.Snaps.{snap_of}
use Rattle.pybuf_desc.specs.Layouts.{Layout}
use Rattle.pybuf_command.specs.declared.kinds.ExporterKind.{ExporterKind}
use Rattle.pybuf_command.specs.declared.kinds.Subject.{Subject}
use Rattle.pybuf_command.specs.declared.kinds.Subject.TheVariants as subject
use Rattle.pybuf_command.specs.declared.options.ByteInnerNewOptions.{ByteInnerNewOptions}
use Rattle.pybuf_command.specs.declared.commands.Verb.{Verb}
use Rattle.pybuf_command.specs.declared.commands.LocalReply.{LocalReply}
use Rattle.pybuf_command.specs.declared.commands.LocalReply.TheVariants as local
use Rattle.pybuf_command.specs.declared.loans.Loan.{Loan}
use Rattle.pybuf_command.specs.declared.worlds.Command.{Command}
use Rattle.pybuf_command.specs.declared.worlds.Command.TheVariants as command
use Rattle.pybuf_command.specs.declared.worlds.Reply.{Reply}
use Rattle.pybuf_command.specs.declared.worlds.Reply.TheVariants as reply
use Rattle.pybuf_command.specs.Handles.{handles_of, handles_of_options}
use Rattle.pybuf_state.specs.Exporter.{Exporter, View, new_exporter}
use Rattle.pybuf_state.specs.Fresh.{IsCopyOf, made_of, is_readonly_view, is_readonly_subject}
use Rattle.pybuf_state.specs.Loans.{loan_of_snap}
use Rattle.pybuf_state.specs.Names.{loan_of_own}
use Rattle.pybuf_state.specs.Snaps.{snap_of_subject}
use Rattle.pybuf_verbs_methods.specs.Names.{paired}
use Rattle.pybuf_exporter.specs.Step.{estep}
use Rattle.pybuf_exporter.specs.Laws.{FreshRepliesAreCopies}
use Rattle.pybuf_forgetting.specs.Forgotten.{forgotten_view, forgotten, forgotten_snap, forgotten_loan, forgotten_pair}
use Rattle.pybuf_forgetting.specs.Laws.{ForgettingTwiceIsForgettingOnce, IsSameStep, ForgettingChangesNoStep, ForgettingChangesNoSnap, ForgottenLoansChangeNoStep, NameAlike, ForgottenPairsChangeNoBytes}
use Rattle.pybuf_world.specs.declared.named.Named.{Named}
use Rattle.pybuf_world.specs.declared.named.Named.TheVariants as named
use Rattle.pybuf_world.specs.declared.named.Target.{Target}
use Rattle.pybuf_world.specs.World.{World, exporter_of, subject_of, with_exporter, snap_in, snap_of_name, snap_for, pairs_of, bytes_of_new, world_with_bytes, are_given, step_of_new, loan_of_other, loan_of_name, loan_for, loans_of, exporters_after, has_view, handles_with_copy, handles_after, reply_after, world_after, step_with_loans, step_of_target, target_of, step_of_handle, wstep}
use Rattle.pybuf_world_forgetting.specs.Laws.{forgotten_world, bytes_of_world, IsSameWorldStep, ForgettingChangesNoWorldStep, WorldsThatForgetAlikeRunAlike}

-- what is known of one exporter
record Known : Type 0 where
  fresh : FreshRepliesAreCopies
  twice : ForgettingTwiceIsForgettingOnce
  step : ForgettingChangesNoStep
  loans : ForgottenLoansChangeNoStep
  snaps : ForgettingChangesNoSnap
  pairs : ForgottenPairsChangeNoBytes

-- ---- lists

get_mapped : {X Y : Type 0} (f : X → Y) (xs : List X) (k : ℕ) → slice_get (map f xs) k ≡ option_map f (slice_get xs k)
get_mapped f [] k = refl
get_mapped f (x ∷ xs) zero = refl
get_mapped f (x ∷ xs) (suc k) = get_mapped f xs k

as_long : {X Y : Type 0} (f : X → Y) (xs : List X) → length (map f xs) ≡ length xs
as_long f [] = refl
as_long f (x ∷ xs) = ap suc (as_long f xs)

all_twice : Known → (es : List Exporter) → map forgotten (map forgotten es) ≡ map forgotten es
all_twice known [] = refl
all_twice known (e ∷ es) = ap₂ (λ (x : Exporter) (xs : List Exporter). x ∷ xs) (known.twice e) (all_twice known es)

added : Known → (es : List Exporter) (e : Exporter) → map forgotten (map forgotten es ++ e ∷ []) ≡ map forgotten (es ++ e ∷ [])
added known [] e = refl
added known (x ∷ es) e = ap₂ (λ (y : Exporter) (ys : List Exporter). y ∷ ys) (known.twice x) (added known es e)

put : Known → (es : List Exporter) (i : ℕ) (one other : Exporter) → forgotten one ≡ forgotten other → map forgotten (set (map forgotten es) i one) ≡ map forgotten (set es i other)
put known [] i one other same = refl
put known (x ∷ es) zero one other same = ap₂ (λ (y : Exporter) (ys : List Exporter). y ∷ ys) same (all_twice known es)
put known (x ∷ es) (suc i) one other same = ap₂ (λ (y : Exporter) (ys : List Exporter). y ∷ ys) (known.twice x) (put known es i one other same)

joined : (es fs : List Exporter) → map forgotten (es ++ fs) ≡ map forgotten es ++ map forgotten fs
joined [] fs = refl
joined (e ∷ es) fs = ap (λ (xs : List Exporter). forgotten e ∷ xs) (joined es fs)

-- ---- the same step, by its reply and its world

bytes_mapped : (es : List Exporter) → map (λ (e : Exporter). e.bytes) (map forgotten es) ≡ map (λ (e : Exporter). e.bytes) es
bytes_mapped [] = refl
bytes_mapped (e ∷ es) = ap (λ (bs : List (List ℕ)). e.bytes ∷ bs) (bytes_mapped es)

same_bytes : (one other : World) → forgotten_world one ≡ forgotten_world other → bytes_of_world one ≡ bytes_of_world other
same_bytes one other same = sym (bytes_mapped one.exporters) ∙ ap bytes_of_world same ∙ bytes_mapped other.exporters

same_step : (one other : World × Reply) → one.1 ≡ other.1 → forgotten_world one.0 ≡ forgotten_world other.0 → IsSameWorldStep one other
same_step one other replies worlds = record { reply = replies; bytes = same_bytes one.0 other.0 worlds; world = worlds }

abbrev world_of : List Exporter → List Named → World
world_of es names = record { exporters = es; handles = names }

world_twice : Known → (w : World) → forgotten_world (forgotten_world w) ≡ forgotten_world w
world_twice known w = ap (λ (es : List Exporter). world_of es w.handles) (all_twice known w.exporters)

refused : Known → (w : World) (f : Fault) → IsSameWorldStep (forgotten_world w, reply.Refused f) (w, reply.Refused f)
refused known w f = same_step (forgotten_world w, reply.Refused f) (w, reply.Refused f) refl (world_twice known w)

-- ---- what is lent

snap_same : Known → (o : Option Exporter) (s : Subject) → option_map forgotten_snap (snap_in (option_map forgotten o) s) ≡ option_map forgotten_snap (snap_in o s)
snap_same known None s = refl
snap_same known (Some e) s = known.snaps e s

name_snap : Known → (w : World) (o : Option Named) → option_map forgotten_snap (snap_of_name (forgotten_world w) o) ≡ option_map forgotten_snap (snap_of_name w o)
name_snap known w None = refl
name_snap known w (Some n) =
    ap (λ (o : Option Exporter). option_map forgotten_snap (snap_in o (subject_of n))) (get_mapped forgotten w.exporters (exporter_of n)) ∙ snap_same known (slice_get w.exporters (exporter_of n)) (subject_of n)

first_same : (found : Bool) (s t : Snap) (o p : Option Snap) → forgotten_snap s ≡ forgotten_snap t → option_map forgotten_snap o ≡ option_map forgotten_snap p → option_map forgotten_snap (if found then Some s else o) ≡ option_map forgotten_snap (if found then Some t else p)
first_same true s t o p snaps later = ap (λ (x : Snap). let there : Option Snap = Some x in there) snaps
first_same false s t o p snaps later = later

paired_same : (x h : ℕ) (o p : Option Snap) (pairs others : List (ℕ × Snap)) → option_map forgotten_snap o ≡ option_map forgotten_snap p → option_map forgotten_snap (snap_of pairs h) ≡ option_map forgotten_snap (snap_of others h)
    → option_map forgotten_snap (snap_of (paired x o ++ pairs) h) ≡ option_map forgotten_snap (snap_of (paired x p ++ others) h)
paired_same x h None None pairs others same later = later
paired_same x h None (Some t) pairs others same later = absurd (cc)
paired_same x h (Some s) None pairs others same later = absurd (cc)
paired_same x h (Some s) (Some t) pairs others same later = first_same (x == h) s t (snap_of pairs h) (snap_of others h) (let snaps : forgotten_snap s ≡ forgotten_snap t = cc in snaps) later

pairs_same : Known → (w : World) (handles : List ℕ) → NameAlike (pairs_of (forgotten_world w) handles) (pairs_of w handles)
pairs_same known w [] h = refl
pairs_same known w (x ∷ handles) h =
    paired_same x h (snap_for (forgotten_world w) x) (snap_for w x) (pairs_of (forgotten_world w) handles) (pairs_of w handles) (name_snap known w (slice_get w.handles x)) (pairs_same known w handles h)

loan_by : (o : Option Snap) → forgotten_loan (loan_of_snap o) ≡ loan_of_snap (option_map forgotten_snap o)
loan_by None = refl
loan_by (Some s) = refl

other_same : Known → (o : Option Exporter) (s : Subject) → forgotten_loan (loan_of_other (option_map forgotten o) s) ≡ forgotten_loan (loan_of_other o s)
other_same known None s = refl
other_same known (Some e) s = loan_by (snap_of_subject (forgotten e) s) ∙ ap loan_of_snap (known.snaps e s) ∙ sym (loan_by (snap_of_subject e s))

own_or_other : (own : Bool) (l m n : Loan) → forgotten_loan m ≡ forgotten_loan n → forgotten_loan (if own then l else m) ≡ forgotten_loan (if own then l else n)
own_or_other true l m n same = refl
own_or_other false l m n same = same

name_loan : Known → (w : World) (i : ℕ) (o : Option Named) → forgotten_loan (loan_of_name (forgotten_world w) i o) ≡ forgotten_loan (loan_of_name w i o)
name_loan known w i None = refl
name_loan known w i (Some n) =
    own_or_other (exporter_of n == i) (loan_of_own (subject_of n)) (loan_of_other (slice_get (map forgotten w.exporters) (exporter_of n)) (subject_of n)) (loan_of_other (slice_get w.exporters (exporter_of n)) (subject_of n))
    (ap (λ (o : Option Exporter). forgotten_loan (loan_of_other o (subject_of n))) (get_mapped forgotten w.exporters (exporter_of n)) ∙ other_same known (slice_get w.exporters (exporter_of n)) (subject_of n))

loans_same : Known → (w : World) (i : ℕ) (handles : List ℕ) → map forgotten_pair (map (λ handle. (handle, loan_for (forgotten_world w) i handle)) handles) ≡ map forgotten_pair (map (λ handle. (handle, loan_for w i handle)) handles)
loans_same known w i [] = refl
loans_same known w i (h ∷ handles) =
    ap₂ (λ (l : Loan) (ls : List (ℕ × Loan)). (h, l) ∷ ls) (name_loan known w i (slice_get w.handles h)) (loans_same known w i handles)

-- ---- a command on an exporter

lent_step : Known → (e : Exporter) (s : Subject) (v : Verb) (loans others : List (ℕ × Loan)) → map forgotten_pair loans ≡ map forgotten_pair others → IsSameStep (estep (forgotten e) s v loans) (estep e s v others)
lent_step known e s v loans others same =
    let by_loans : estep (forgotten e) s v loans ≡ estep (forgotten e) s v others = sym (known.loans (forgotten e) s v loans) ∙ ap (estep (forgotten e) s v) same ∙ known.loans (forgotten e) s v others in
    let step = known.step e s v others in record {
      reply = ap (λ (x : Exporter × LocalReply). x.1) by_loans ∙ step.reply;
      bytes = ap (λ (x : Exporter × LocalReply). x.0.bytes) by_loans ∙ step.bytes;
      exporter = ap (λ (x : Exporter × LocalReply). forgotten x.0) by_loans ∙ step.exporter;
    }

reply_same : (w : World) (t : Target) (r : LocalReply) → reply_after (forgotten_world w) t r ≡ reply_after w t r
reply_same w t _ = refl

handles_same : (w : World) (t : Target) (r : LocalReply) → handles_after (forgotten_world w) t r ≡ handles_after w t r
handles_same w t (local.Fresh snap) = ap (λ (n : ℕ). handles_with_copy (has_view snap.kind) n w.handles) (as_long forgotten w.exporters)
handles_same w t _ = refl

-- Where a copy is replied, its view was unreleased, so it may be written as before.
unreleased_readonly : (made_at : ℕ) (layout : Layout) (released : Bool) (found : Layout) → (unless released fault.Value >>= λ _. (let l : Result Layout Fault = Ok layout in l)) ≡ Ok found
    → is_readonly_view (Some (forgotten_view (record { made_at = made_at; layout = layout; released = released }))) ≡ is_readonly_view (Some (record { made_at = made_at; layout = layout; released = released }))
unreleased_readonly made_at layout true found live = absurd (cc)
unreleased_readonly made_at layout false found live = refl

view_readonly : (o : Option View) (found : Layout) → (ok_or o fault.UnknownName >>= λ v. unless v.released fault.Value >>= λ _. Ok v.layout) ≡ Ok found → is_readonly_view (option_map forgotten_view o) ≡ is_readonly_view o
view_readonly None found live = refl
view_readonly (Some v) found live = unreleased_readonly v.made_at v.layout v.released found live

copied_readonly : (e : Exporter) (s : Subject) (snap : Snap) → IsCopyOf e s snap → is_readonly_subject (forgotten e) s ≡ is_readonly_subject e s
copied_readonly e subject.Own snap copy = refl
copied_readonly e (subject.View k) snap copy = ap is_readonly_view (get_mapped forgotten_view e.views k) ∙ view_readonly (slice_get e.views k) copy.0 copy.1
copied_readonly e (subject.Iter k) snap copy = absurd copy

exporters_same : Known → (w : World) (t : Target) (one other : Exporter) (r : LocalReply) → forgotten one ≡ forgotten other → ((snap : Snap) → r ≡ local.Fresh snap → is_readonly_subject one t.subject ≡ is_readonly_subject other t.subject)
    → map forgotten (exporters_after (forgotten_world w) t one r) ≡ map forgotten (exporters_after w t other r)
exporters_same known w t one other (local.Fresh snap) same readonly =
    joined (set (map forgotten w.exporters) t.exporter one) (made_of (is_readonly_subject one t.subject) snap ∷ [])
    ∙ ap₂ (λ (es fs : List Exporter). es ++ fs) (put known w.exporters t.exporter one other same) (ap (λ (b : Bool). map forgotten (made_of b snap ∷ [])) (readonly snap refl))
    ∙ sym (joined (set w.exporters t.exporter other) (made_of (is_readonly_subject other t.subject) snap ∷ []))
exporters_same known w t one other _ same readonly = put known w.exporters t.exporter one other same

after_same : Known → (w : World) (t : Target) (one other : Exporter × LocalReply) → IsSameStep one other → ((snap : Snap) → other.1 ≡ local.Fresh snap → is_readonly_subject one.0 t.subject ≡ is_readonly_subject other.0 t.subject)
    → IsSameWorldStep (world_after (forgotten_world w) t one) (world_after w t other)
after_same known w t one other same readonly =
    same_step (world_after (forgotten_world w) t one) (world_after w t other) (ap (reply_after (forgotten_world w) t) same.reply ∙ reply_same w t other.1)
    (ap₂ world_of
    (ap (λ (r : LocalReply). map forgotten (exporters_after (forgotten_world w) t one.0 r)) same.reply ∙ exporters_same known w t one.0 other.0 other.1 same.exporter readonly)
    (ap (handles_after (forgotten_world w) t) same.reply ∙ handles_same w t other.1))

exporter_same : Known → (w : World) (t : Target) (v : Verb) (e : Exporter) (loans others : List (ℕ × Loan)) → map forgotten_pair loans ≡ map forgotten_pair others
    → IsSameWorldStep (world_after (forgotten_world w) t (estep (forgotten e) t.subject v loans)) (world_after w t (estep e t.subject v others))
exporter_same known w t v e loans others same =
    let step = lent_step known e t.subject v loans others same in
    after_same known w t (estep (forgotten e) t.subject v loans) (estep e t.subject v others) step (λ snap is.
    let copy = known.fresh e t.subject v others snap is in
    ap (λ (x : Exporter). is_readonly_subject x t.subject) (known.fresh (forgotten e) t.subject v loans snap (step.reply ∙ is)).0
    ∙ copied_readonly e t.subject snap copy.1
    ∙ ap (λ (x : Exporter). is_readonly_subject x t.subject) (sym copy.0))

there_or_not : Known → (w : World) (t : Target) (v : Verb) (loans others : List (ℕ × Loan)) → map forgotten_pair loans ≡ map forgotten_pair others → (o : Option Exporter)
    → IsSameWorldStep (step_with_loans (forgotten_world w) t v loans (option_map forgotten o)) (step_with_loans w t v others o)
there_or_not known w t v loans others same None = refused known w fault.UnknownName
there_or_not known w t v loans others same (Some e) = exporter_same known w t v e loans others same

target_same : Known → (w : World) (t : Target) (v : Verb) → IsSameWorldStep (step_of_target (forgotten_world w) t v) (step_of_target w t v)
target_same known w t v =
    subst (λ (o : Option Exporter). IsSameWorldStep (step_with_loans (forgotten_world w) t v (loans_of (forgotten_world w) t.exporter v) o) (step_of_target w t v)) (sym (get_mapped forgotten w.exporters t.exporter))
    (there_or_not known w t v (loans_of (forgotten_world w) t.exporter v) (loans_of w t.exporter v) (loans_same known w t.exporter (handles_of v)) (slice_get w.exporters t.exporter))

handle_same : Known → (w : World) (handle : ℕ) (v : Verb) (o : Option Named) → IsSameWorldStep (step_of_handle (forgotten_world w) handle v o) (step_of_handle w handle v o)
handle_same known w handle v None = refused known w fault.UnknownName
handle_same known w handle v (Some n) = target_same known w (target_of handle n) v

-- ---- a new exporter

with_bytes_same : Known → (w : World) (k : ExporterKind) (r : Result (List ℕ) Fault) → IsSameWorldStep (world_with_bytes (forgotten_world w) k r) (world_with_bytes w k r)
with_bytes_same known w k (Err f) = refused known w f
with_bytes_same known w k (Ok bytes) =
    same_step (with_exporter (forgotten_world w) (new_exporter k bytes)) (with_exporter w (new_exporter k bytes)) refl
    (ap₂ world_of (added known w.exporters (new_exporter k bytes)) (ap (λ (n : ℕ). w.handles ++ named.Exporter n ∷ []) (as_long forgotten w.exporters)))

given_or_not : (given : Bool) (one other unknown others : World × Reply) → IsSameWorldStep one other → IsSameWorldStep unknown others → IsSameWorldStep (if given then one else unknown) (if given then other else others)
given_or_not true one other unknown others this that = this
given_or_not false one other unknown others this that = that

new_same : Known → (w : World) (k : ExporterKind) (options : ByteInnerNewOptions) → IsSameWorldStep (step_of_new (forgotten_world w) k options) (step_of_new w k options)
new_same known w k options =
    let bytes : bytes_of_new (forgotten_world w) options ≡ bytes_of_new w options =
    known.pairs (pairs_of (forgotten_world w) (handles_of_options options)) (pairs_of w (handles_of_options options)) options.source options.encoding options.errors (pairs_same known w (handles_of_options options)) in
    given_or_not (are_given w (handles_of_options options)) (world_with_bytes (forgotten_world w) k (bytes_of_new (forgotten_world w) options)) (world_with_bytes w k (bytes_of_new w options)) _ _
    (subst (λ (r : Result (List ℕ) Fault). IsSameWorldStep (world_with_bytes (forgotten_world w) k r) (world_with_bytes w k (bytes_of_new w options))) (sym bytes) (with_bytes_same known w k (bytes_of_new w options)))
    (refused known w fault.UnknownName)

-- ---- commands and runs

stepped : Known → ForgettingChangesNoWorldStep
stepped known w (command.New k options) = new_same known w k options
stepped known w (command.Do handle v) = handle_same known w handle v (slice_get w.handles handle)

pub no_world_step : FreshRepliesAreCopies → ForgettingTwiceIsForgettingOnce → ForgettingChangesNoStep → ForgottenLoansChangeNoStep → ForgettingChangesNoSnap → ForgottenPairsChangeNoBytes → ForgettingChangesNoWorldStep
no_world_step fresh twice step loans snaps pairs = stepped (record { fresh = fresh; twice = twice; step = step; loans = loans; snaps = snaps; pairs = pairs })

alike_step : ForgettingChangesNoWorldStep → (one other : World) (c : Command) → forgotten_world one ≡ forgotten_world other → IsSameWorldStep (wstep one c) (wstep other c)
alike_step steps one other c same =
    let this = steps one c in
    let that = steps other c in
    same_step (wstep one c) (wstep other c) (sym this.reply ∙ ap (λ (w : World). (wstep w c).1) same ∙ that.reply) (sym this.world ∙ ap (λ (w : World). forgotten_world (wstep w c).0) same ∙ that.world)

pub run_alike : ForgettingChangesNoWorldStep → WorldsThatForgetAlikeRunAlike
run_alike steps one other [] same = record { replies = refl; bytes = same_bytes one other same; world = same }
run_alike steps one other (c ∷ cs) same =
    let step = alike_step steps one other c same in
    let later = run_alike steps (wstep one c).0 (wstep other c).0 cs step.world in record {
      replies = ap₂ (λ (r : Reply) (rs : List Reply). r ∷ rs) step.reply later.replies;
      bytes = later.bytes;
      world = later.world;
    }
