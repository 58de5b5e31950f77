-- What is written through one handle is read through every other handle that has the item.
use Rattle.std.proofs.Common.{◌≡◌, ◌≢◌, ◌⊎◌, inl, inr, ℕ, ◌+◌, ◌-◌, ◌<◌, ◌≤◌, List, [], ◌∷◌, ◌++◌, length, set, take, drop, Bool, true, false, true≢false, ap, ap₂, sym, ◌∙◌, refl, subst, arith}
use Rattle.std.specs.Prelude.{◌==◌, not, nat_lt, slice_index, Option, Some, None, Result, Ok, Err, slice_get, if◌then◌else◌}
use Rattle.std.specs.List.{flat_map, list_all}
use Rattle.std.specs.Option.{ok_or}
use Rattle.std.proofs.lemmas.Bool.{eqb-true}
use Rattle.std.proofs.lemmas.Bool.Decides.{eqb_tells}
use Rattle.std.proofs.lemmas.List.{take-take, drop-drop, drop-take}
use Rattle.pybuf_lemmas.proofs.Booleans.{both_of}
use Rattle.pybuf_lemmas.proofs.Lists.{set_to_itself, element_after_set, element_holds}
use Rattle.pybuf_exporter.specs.Facts.{set_by_item}
use Rattle.pybuf_value.specs.Facts.{done_holds}
use Rattle.pybuf_state.specs.Facts.{given_snap}
use Rattle.pybuf_value.specs.declared.faults.Fault.{Fault}
use Rattle.pybuf_value.specs.declared.faults.Fault.TheVariants as fault
use Rattle.pybuf_value.specs.declared.values.Scalar.{Scalar}
use Rattle.pybuf_value.specs.declared.values.Scalar.TheVariants as scalar
use Rattle.pybuf_value.specs.declared.values.Item.{Item}
use Rattle.pybuf_value.specs.declared.values.Value.{Value}
use Rattle.pybuf_value.specs.declared.values.Value.TheVariants as value
use Rattle.pybuf_value.specs.declared.values.PySlice.{PySlice}
use Rattle.pybuf_value.specs.declared.snaps.Snap.{Snap}
use Rattle.pybuf_value.specs.Refusing.{◌>>=◌, unless, IfDone, done_bind}
use Rattle.pybuf_struct.specs.Formats.{Format, format_of, fields}
use Rattle.pybuf_struct.specs.Values.{item_of}
use Rattle.pybuf_struct.specs.Laws.{normal_values}
use Rattle.pybuf_desc.specs.Layouts.{Layout, product}
use Rattle.pybuf_desc.specs.Items.{bytes_at}
use Rattle.pybuf_command.specs.declared.kinds.Subject.{Subject}
use Rattle.pybuf_command.specs.declared.kinds.Subject.TheVariants as subject
use Rattle.pybuf_command.specs.declared.commands.Verb.TheVariants as verb
use Rattle.pybuf_command.specs.declared.commands.LocalReply.{LocalReply}
use Rattle.pybuf_command.specs.declared.commands.LocalReply.TheVariants as local
use Rattle.pybuf_command.specs.declared.worlds.Command.TheVariants as command
use Rattle.pybuf_command.specs.declared.worlds.Reply.{Reply}
use Rattle.pybuf_command.specs.declared.worlds.Reply.TheVariants as reply
use Rattle.pybuf_command.specs.declared.loans.Loan.{Loan}
use Rattle.pybuf_command.specs.Handles.{handles_in_scalar, handles_in, handle_of_value}
use Rattle.pybuf_command.specs.Loans.{loan_of}
use Rattle.pybuf_memoryview.specs.Items.{is_none, is_slice, item_by, piece_by, scalar_in}
use Rattle.pybuf_memoryview.specs.Keys.{is_number, item_among, only_item, item_of_key, names_itself}
use Rattle.pybuf_memoryview.specs.Laws.{KeysNameItems}
use Rattle.pybuf_memoryview.specs.Sized.{is_size_of, is_sized}
use Rattle.pybuf_state.specs.Exporter.{Exporter, View, live_layout}
use Rattle.pybuf_state.specs.Laws.{LiveLayoutsAreSound}
use Rattle.pybuf_state.specs.Loans.{Lent, are_named, lent_as, lents_by, names_of, snaps_of, snap_in, subject_in}
use Rattle.pybuf_state.specs.Sound.{IsSoundExporter}
use Rattle.pybuf_verbs_reads.specs.Get.{item_of_layout, item_of_view}
use Rattle.pybuf_verbs_writes.specs.Laid.{bytes_with}
use Rattle.pybuf_verbs_writes.specs.Set.{item_set, set_target, set_of_view}
use Rattle.pybuf_verbs_writes.specs.Laws.{IsWritten, WritesAreSeen}
use Rattle.pybuf_verbs_methods.specs.Names.{paired}
use Rattle.pybuf_exporter.specs.Step.{get_of_view, effect, settled_answer, estep}
use Rattle.pybuf_world.specs.declared.named.Named.{Named}
use Rattle.pybuf_world.specs.declared.named.Named.TheVariants as named
use Rattle.pybuf_world.specs.World.{World, snap_for, pairs_of, loans_of, world_after, step_with_loans, target_of, step_of_handle, wstep}
use Rattle.pybuf_world.specs.Sound.{IsSoundWorld}
use Rattle.pybuf_world.specs.Exporters.{ExporterLaws}
use Rattle.pybuf_world.specs.Sharing.{HasItemAt, bytes_in_exporter, bytes_in_world, normal_item, ShareNoByte, IsWrittenInWorld, WorldWritesAreSeen, WritesApartAreNotSeen, SharedWritesAreSeen}
use Rattle.pybuf_world.proofs.Asked.{steps_so, stepped_so, each_done}
use Rattle.pybuf_world.proofs.Assigning.{done_so, lent_last, refused_not, snap_by_name}
use Rattle.pybuf_world.proofs.Sound.{wstep_sound}
use Rattle.pybuf_world.proofs.Lists.{slice_get-set_other}

-- ---- keys that name an item have no handles in them

no_slice_names : (b : Bool) (shape : List ℕ) (slice : PySlice) (item : ℕ) → (if b then only_item (value.Slice slice) else item_among shape (value.Slice slice)) ≡ Ok item → ⊥
no_slice_names true shape slice item is = cc
no_slice_names false shape slice item is = cc

pub key_is_no_slice : (shape : List ℕ) (key : Value) (item : ℕ) → item_of_key shape key ≡ Ok item → is_slice key ≡ false
key_is_no_slice shape (value.Slice slice) item is = absurd (no_slice_names (length shape == 0) shape slice item is)
key_is_no_slice shape (value.One s) item is = refl
key_is_no_slice shape (value.Tuple parts) item is = refl
key_is_no_slice shape (value.List parts) item is = refl
key_is_no_slice shape (value.Slices slices) item is = refl

-- Parts that are numbers aren't handles.
number_no_handle : (s : Scalar) → is_number s ≡ true → handles_in_scalar s ≡ []
number_no_handle (scalar.Handle h) is = absurd (cc)
number_no_handle scalar.None is = refl
number_no_handle (scalar.Bool b) is = refl
number_no_handle (scalar.Int n) is = refl
number_no_handle (scalar.Bytes bytes) is = refl
number_no_handle (scalar.Text text) is = refl
number_no_handle scalar.Ellipsis is = refl

numbers_no_handles : (parts : List Scalar) → list_all is_number parts ≡ true → flat_map handles_in_scalar parts ≡ []
numbers_no_handles [] is = refl
numbers_no_handles (s ∷ parts) is =
    let both = both_of (is_number s) (list_all is_number parts) is in
    ap₂ (λ (xs ys : List ℕ). xs ++ ys) (number_no_handle s both.0) (numbers_no_handles parts both.1)

all_numbers : (b : Bool) (r : Result ℕ Fault) (item : ℕ) → (unless (not b) fault.Kind >>= λ _. r) ≡ Ok item → b ≡ true
all_numbers true r item is = refl
all_numbers false r item is = absurd (cc)

key_by : (b : Bool) (shape : List ℕ) (key : Value) (item : ℕ) → (if b then only_item key else item_among shape key) ≡ Ok item → handles_in key ≡ []
key_by true shape (value.One scalar.Ellipsis) item is = refl
key_by true shape (value.One scalar.None) item is = refl
key_by true shape (value.One (scalar.Bool b)) item is = refl
key_by true shape (value.One (scalar.Int n)) item is = refl
key_by true shape (value.One (scalar.Bytes bytes)) item is = refl
key_by true shape (value.One (scalar.Text text)) item is = refl
key_by true shape (value.One (scalar.Handle h)) item is = absurd (cc)
key_by true shape (value.Slice slice) item is = absurd (cc)
key_by true shape (value.Tuple []) item is = refl
key_by true shape (value.Tuple (s ∷ parts)) item is = absurd (cc)
key_by true shape (value.List parts) item is = absurd (cc)
key_by true shape (value.Slices slices) item is = absurd (cc)
key_by false shape (value.One scalar.Ellipsis) item is = refl
key_by false shape (value.One scalar.None) item is = refl
key_by false shape (value.One (scalar.Bool b)) item is = refl
key_by false shape (value.One (scalar.Int m)) item is = refl
key_by false shape (value.One (scalar.Bytes bytes)) item is = refl
key_by false shape (value.One (scalar.Text text)) item is = refl
key_by false shape (value.One (scalar.Handle h)) item is = absurd (cc)
key_by false shape (value.Slice slice) item is = absurd (cc)
key_by false shape (value.Tuple parts) item is = numbers_no_handles parts (all_numbers (list_all is_number parts) _ item is)
key_by false shape (value.List parts) item is = absurd (cc)
key_by false shape (value.Slices []) item is = refl
key_by false shape (value.Slices (slice ∷ slices)) item is = absurd (cc)

key_no_handles : (shape : List ℕ) (key : Value) (item : ℕ) → item_of_key shape key ≡ Ok item → handles_in key ≡ []
key_no_handles shape key item is = key_by (length shape == 0) shape key item is

-- ---- a read of an item

get_by_key : (e : Exporter) (k : ℕ) (key : Value) → is_slice key ≡ false → get_of_view e k key ≡ item_of_view e k key
get_by_key e k (value.Slice slice) is = absurd (true≢false is)
get_by_key e k (value.One s) is = refl
get_by_key e k (value.Tuple parts) is = refl
get_by_key e k (value.List parts) is = refl
get_by_key e k (value.Slices slices) is = refl

-- what `get` answers for the item of a layout
abbrev read_item : Exporter → Layout → Value → Exporter × LocalReply
read_item e layout key = settled_answer e (if names_itself layout.shape key then Ok (e, local.Itself) else item_of_layout e layout key)

reads_so : (e : Exporter) (k : ℕ) (layout : Layout) (key : Value) (item : ℕ) (loans : List (ℕ × Loan)) → live_layout e k ≡ Ok layout → item_of_key layout.shape key ≡ Ok item
    → estep e (subject.View k) (verb.Get key) loans ≡ read_item e layout key
reads_so e k layout key item loans live chosen =
    ap (λ (handles : List ℕ). settled_answer e (if are_named e (names_of loans) handles then get_of_view e k key else Err fault.UnknownName)) (key_no_handles layout.shape key item chosen)
    ∙ ap (settled_answer e) (get_by_key e k key (key_is_no_slice layout.shape key item chosen))
    ∙ ap (λ (r : Result Layout Fault). settled_answer e (r >>= λ l. (if names_itself l.shape key then Ok (e, local.Itself) else item_of_layout e l key))) live

-- the item that these bytes read as, or the view itself
abbrev item_or_view : Exporter → Layout → Bool → List ℕ → Exporter × LocalReply
item_or_view e layout true bytes = (e, local.Itself)
item_or_view e layout false bytes = (e, local.Item (item_by layout.format bytes))

reads_what : (b : Bool) (e : Exporter) (layout : Layout) (key : Value) (item place : ℕ) → item_of_key layout.shape key ≡ Ok item → slice_index layout.starts item ≡ place
    → settled_answer e (if b then Ok (e, local.Itself) else item_of_layout e layout key) ≡ item_or_view e layout b (bytes_at e.bytes layout.itemsize place)
reads_what true e layout key item place chosen starts = refl
reads_what false e layout key item place chosen starts =
    ap (λ (r : Result ℕ Fault). settled_answer e (r >>= λ n. Ok (e, local.Item (item_by layout.format (bytes_at e.bytes layout.itemsize (slice_index layout.starts n)))))) chosen
    ∙ ap (λ (at : ℕ). (e, local.Item (item_by layout.format (bytes_at e.bytes layout.itemsize at)))) starts

-- the same as a reply with handles
abbrev handle_or_item : ℕ → Layout → Bool → List ℕ → Reply
handle_or_item handle layout true bytes = reply.Handle handle
handle_or_item handle layout false bytes = reply.Item (item_by layout.format bytes)

world_reads : (b : Bool) (w : World) (handle number k : ℕ) (e : Exporter) (layout : Layout) (bytes : List ℕ) → slice_get w.exporters number ≡ Some e
    → world_after w (target_of handle (named.View number k)) (item_or_view e layout b bytes) ≡ (w, handle_or_item handle layout b bytes)
world_reads true w handle number k e layout bytes there = ap (λ (xs : List Exporter). (record w { exporters = xs }, reply.Handle handle)) (set_to_itself w.exporters number e there)
world_reads false w handle number k e layout bytes there = ap (λ (xs : List Exporter). (record w { exporters = xs }, reply.Item (item_by layout.format bytes))) (set_to_itself w.exporters number e there)

-- `get` of an item replies what the item's bytes read as.
gets : (w : World) (handle : ℕ) (key : Value) (number place : ℕ) (layout : Layout) → HasItemAt w handle key number place layout
    → wstep w (command.Do handle (verb.Get key)) ≡ (w, handle_or_item handle layout (names_itself layout.shape key) (bytes_in_world w number layout.itemsize place))
gets w handle key number place layout has =
    let e = has.exporter in
    let b = names_itself layout.shape key in
    let n = named.View number has.view in
    let read = reads_so e has.view layout key has.item (loans_of w number (verb.Get key)) has.live has.chosen ∙ reads_what b e layout key has.item place has.chosen has.starts in
    steps_so w handle (verb.Get key) n e (item_or_view e layout b (bytes_at e.bytes layout.itemsize place)) has.names has.there read
    ∙ world_reads b w handle number has.view e layout (bytes_at e.bytes layout.itemsize place) has.there
    ∙ ap (λ (o : Option Exporter). (w, handle_or_item handle layout b (bytes_in_exporter o layout.itemsize place))) (sym has.there)

-- ---- a write of an item

record IsTarget (e : Exporter) (k : ℕ) (key : Value) (target : Layout × ℕ) : Type 0 where
  live : live_layout e k ≡ Ok target.0
  chosen : item_of_key target.0.shape key ≡ Ok target.1

target_is : (e : Exporter) (k : ℕ) (key v : Value) → IfDone (IsTarget e k key) (set_target e k key v)
target_is e k key v =
    let P = IsTarget e k key in
    done_bind P (live_layout e k) _ (λ layout found.
    done_bind P (unless layout.readonly fault.Kind) _ (λ _ _.
    done_bind P (unless (is_none v) fault.Kind) _ (λ _ _.
    done_bind P (item_of_key layout.shape key) _ (λ item chosen. record { live = found; chosen = chosen }))))

record IsItemSet (e : Exporter) (k : ℕ) (key v : Value) (lents : List Lent) (after : Exporter × LocalReply) : Type 0 where
  layout : Layout
  live : live_layout e k ≡ Ok layout
  item : ℕ
  chosen : item_of_key layout.shape key ≡ Ok item
  written : item_set e layout item v lents ≡ Ok after

set_is : (e : Exporter) (k : ℕ) (key v : Value) (lents : List Lent) → IfDone (IsItemSet e k key v lents) (set_of_view e k key v lents)
set_is e k key v lents =
    let P = IsItemSet e k key v lents in
    done_bind P (set_target e k key v) _ (λ target found.
    let is = done_holds (IsTarget e k key) (set_target e k key v) target (target_is e k key v) found in
    each_done P (item_set e target.0 target.1 v lents) (λ after done. record { layout = target.0; live = is.live; item = target.1; chosen = is.chosen; written = done }))

item_is_set : (e : Exporter) (k : ℕ) (key v : Value) (lents : List Lent) → is_slice key ≡ false → IfDone (IsItemSet e k key v lents) (effect e (subject.View k) (verb.Set key v) lents)
item_is_set e k key v lents is = subst (IfDone (IsItemSet e k key v lents)) (sym (set_by_item e k key v lents is)) (set_is e k key v lents)

-- Nothing but the bytes changes.
record IsBytesSet (old new : Exporter) : Type 0 where
  kind : new.kind ≡ old.kind
  views : new.views ≡ old.views
  iterators : new.iterators ≡ old.iterators

abbrev exporter_in : Exporter → Result (Exporter × LocalReply) Fault → Exporter
exporter_in e (Ok after) = after.0
exporter_in e (Err f) = e

abbrev with_piece : Exporter → ℕ → List ℕ → Result (Exporter × LocalReply) Fault
with_piece e place piece = Ok (record e { bytes = bytes_with e.bytes place piece }, local.Ok)

bytes_set : (e new : Exporter) (place : ℕ) (r : Result (List ℕ) Fault) (out : LocalReply) → (r >>= with_piece e place) ≡ Ok (new, out) → IsBytesSet e new
bytes_set e new place (Ok piece) out is =
    let same : record e { bytes = bytes_with e.bytes place piece } ≡ new = ap (exporter_in e) is in
    record { kind = ap (λ (x : Exporter). x.kind) (sym same); views = ap (λ (x : Exporter). x.views) (sym same); iterators = ap (λ (x : Exporter). x.iterators) (sym same) }
bytes_set e new place (Err f) out is = absurd (cc)

-- ---- the value that is written

one_lent : (h : ℕ) (o : Option Snap) (s : Option Subject) → snaps_of (lent_as h s o ++ []) ≡ paired h o ++ []
one_lent h (Some snap) s = refl
one_lent h None s = refl

same_pairs : (w : World) (e : Exporter) (i : ℕ) (key v : Value) → slice_get w.exporters i ≡ Some e → snaps_of (lents_by e (names_of (loans_of w i (verb.Set key v))) (handle_of_value v)) ≡ pairs_of w (handle_of_value v)
same_pairs w e i key (value.One (scalar.Handle h)) found =
    let loans = loans_of w i (verb.Set key (value.One (scalar.Handle h))) in
    let lent : snap_in e (names_of loans h) ≡ snap_for w h = given_snap e (loan_of loans h) ∙ ap (snap_in e) (lent_last w i (handles_in key) h) ∙ snap_by_name w e i (slice_get w.handles h) found in
    ap (λ (o : Option Snap). snaps_of (lent_as h (subject_in (names_of loans h)) o ++ [])) lent ∙ one_lent h (snap_for w h) (subject_in (names_of loans h))
same_pairs w e i key (value.One scalar.None) found = refl
same_pairs w e i key (value.One (scalar.Bool b)) found = refl
same_pairs w e i key (value.One (scalar.Int n)) found = refl
same_pairs w e i key (value.One (scalar.Bytes bytes)) found = refl
same_pairs w e i key (value.One (scalar.Text text)) found = refl
same_pairs w e i key (value.One scalar.Ellipsis) found = refl
same_pairs w e i key (value.Slice slice) found = refl
same_pairs w e i key (value.Tuple parts) found = refl
same_pairs w e i key (value.List parts) found = refl
same_pairs w e i key (value.Slices slices) found = refl

-- ---- the bytes around the item

bytes_before : (xs ys : List ℕ) (n count from : ℕ) → take n xs ≡ take n ys → from + count ≤ n → bytes_at xs count from ≡ bytes_at ys count from
bytes_before xs ys n count from same below =
    sym (drop-take from count xs)
    ∙ ap (drop from) (sym (take-take (from + count) n xs below) ∙ ap (take (from + count)) same ∙ take-take (from + count) n ys below)
    ∙ drop-take from count ys

bytes_behind : (xs ys : List ℕ) (n count from : ℕ) → drop n xs ≡ drop n ys → n ≤ from → bytes_at xs count from ≡ bytes_at ys count from
bytes_behind xs ys n count from same behind =
    let at : n + (from - n) ≡ from = omega (arith, behind) in
    ap (λ (m : ℕ). take count (drop m xs)) (sym at) ∙ ap (take count) (sym (drop-drop (from - n) n xs) ∙ ap (drop (from - n)) same ∙ drop-drop (from - n) n ys) ∙ ap (λ (m : ℕ). take count (drop m ys)) at

-- a world in which one exporter was set
abbrev with_set : World → ℕ → Exporter → World
with_set w number e = record w { exporters = set w.exporters number e }

set_bytes : (w : World) (number count from : ℕ) (before after : Exporter) → slice_get w.exporters number ≡ Some before → bytes_at after.bytes count from ≡ bytes_at before.bytes count from
    → bytes_in_world (with_set w number after) number count from ≡ bytes_in_world w number count from
set_bytes w number count from before after there same =
    ap (λ (o : Option Exporter). bytes_in_exporter o count from) (element_after_set w.exporters number before after there) ∙ same ∙ sym (ap (λ (o : Option Exporter). bytes_in_exporter o count from) there)

other_bytes : (w : World) (number other count from : ℕ) (after : Exporter) → number ≢ other → bytes_in_world (with_set w number after) other count from ≡ bytes_in_world w other count from
other_bytes w number other count from after apart = ap (λ (o : Option Exporter). bytes_in_exporter o count from) (slice_get-set_other w.exporters number other after apart)

-- The two exporters may be one.
either_bytes : (w : World) (number other count from : ℕ) (before after : Exporter) → slice_get w.exporters number ≡ Some before → bytes_at after.bytes count from ≡ bytes_at before.bytes count from
    → ((number == other) ≡ true) × (number ≡ other) ⊎ ((number == other) ≡ false) × (number ≢ other) → bytes_in_world (with_set w number after) other count from ≡ bytes_in_world w other count from
either_bytes w number other count from before after there same (inl one) =
    subst (λ (n : ℕ). bytes_in_world (with_set w number after) n count from ≡ bytes_in_world w n count from) one.1 (set_bytes w number count from before after there same)
either_bytes w number other count from before after there same (inr two) = other_bytes w number other count from after two.1

outside : (w : World) (number place size other count from : ℕ) (before after : Exporter) → slice_get w.exporters number ≡ Some before → take place after.bytes ≡ take place before.bytes
    → drop (place + size) after.bytes ≡ drop (place + size) before.bytes → ShareNoByte number place size other from count → bytes_in_world (with_set w number after) other count from ≡ bytes_in_world w other count from
outside w number place size other count from before after there first last (inl apart) = other_bytes w number other count from after apart
outside w number place size other count from before after there first last (inr (inl behind)) =
    either_bytes w number other count from before after there (bytes_behind after.bytes before.bytes (place + size) count from last behind) (eqb_tells number other)
outside w number place size other count from before after there first last (inr (inr below)) =
    either_bytes w number other count from before after there (bytes_before after.bytes before.bytes place count from first below) (eqb_tells number other)

-- ---- views stay where they are

live_by_views : (old new : Exporter) (k : ℕ) → new.views ≡ old.views → live_layout new k ≡ live_layout old k
live_by_views old new k same = ap (λ (views : List View). (ok_or (slice_get views k) fault.UnknownName >>= λ v. (unless v.released fault.Value >>= λ _. Ok v.layout))) same

some_same : {X : Type 0} (x y : X) (o : Option X) → o ≡ Some x → o ≡ Some y → x ≡ y
some_same x y o first second = cc

item_stays : (w : World) (number : ℕ) (before after : Exporter) (other : ℕ) (key : Value) (n place : ℕ) (its : Layout) → slice_get w.exporters number ≡ Some before → after.views ≡ before.views
    → ((number == n) ≡ true) × (number ≡ n) ⊎ ((number == n) ≡ false) × (number ≢ n) → HasItemAt w other key n place its → HasItemAt (with_set w number after) other key n place its
item_stays w number before after other key n place its there same (inl one) has =
    let here : slice_get w.exporters n ≡ Some before = ap (slice_get w.exporters) (sym one.1) ∙ there in
    let is : has.exporter ≡ before = some_same has.exporter before (slice_get w.exporters n) has.there here in
    record {
      view = has.view;
      names = has.names;
      exporter = after;
      there = ap (slice_get (set w.exporters number after)) (sym one.1) ∙ element_after_set w.exporters number before after there;
      live = live_by_views before after has.view same ∙ ap (λ (e : Exporter). live_layout e has.view) (sym is) ∙ has.live;
      item = has.item;
      chosen = has.chosen;
      starts = has.starts;
    }
item_stays w number before after other key n place its there same (inr two) has = record {
  view = has.view;
  names = has.names;
  exporter = has.exporter;
  there = slice_get-set_other w.exporters number n after two.1 ∙ has.there;
  live = has.live;
  item = has.item;
  chosen = has.chosen;
  starts = has.starts;
}

-- ---- the same in the world after the write

outside_so : (w new : World) (number place size : ℕ) (before after : Exporter) → slice_get w.exporters number ≡ Some before → new ≡ with_set w number after → take place after.bytes ≡ take place before.bytes
    → drop (place + size) after.bytes ≡ drop (place + size) before.bytes → (other count from : ℕ) → ShareNoByte number place size other from count → bytes_in_world new other count from ≡ bytes_in_world w other count from
outside_so w new number place size before after there stands first last other count from apart =
    ap (λ (x : World). bytes_in_world x other count from) stands ∙ outside w number place size other count from before after there first last apart

stays_so : (w new : World) (number : ℕ) (before after : Exporter) → slice_get w.exporters number ≡ Some before → new ≡ with_set w number after → after.views ≡ before.views
    → (other n place : ℕ) (key : Value) (its : Layout) → HasItemAt w other key n place its → HasItemAt new other key n place its
stays_so w new number before after there stands same other n place key its has =
    subst (λ (x : World). HasItemAt x other key n place its) (sym stands) (item_stays w number before after other key n place its there same (eqb_tells number n) has)

-- ---- formats have their sizes

sizes_same : (r : Result Format Fault) (a b : ℕ) → is_size_of a r ≡ true → is_size_of b r ≡ true → a ≡ b
sizes_same (Ok format) a b first second =
    sym (eqb-true format.size a (both_of (nat_lt 0 a) (format.size == a) first).1) ∙ eqb-true format.size b (both_of (nat_lt 0 b) (format.size == b) second).1
sizes_same (Err f) a b first second = absurd (true≢false (sym first))

same_size : LiveLayoutsAreSound → (w later : World) (handle other : ℕ) (key other_key : Value) (number place n p : ℕ) (layout its : Layout) → IsSoundWorld w → IsSoundWorld later → HasItemAt w handle key number place layout
    → HasItemAt later other other_key n p its → its.format ≡ layout.format → its.itemsize ≡ layout.itemsize
same_size live w later handle other key other_key number place n p layout its sound later_sound has other_has same =
    let mine = live has.exporter has.view layout (element_holds IsSoundExporter w.exporters number has.exporter sound.exporters_are_sound has.there) has.live in
    let theirs = live other_has.exporter other_has.view its (element_holds IsSoundExporter later.exporters n other_has.exporter later_sound.exporters_are_sound other_has.there) other_has.live in
    sizes_same (format_of layout.format) its.itemsize layout.itemsize (subst (λ (text : List ℕ). is_sized text its.itemsize ≡ true) same theirs.formed.sized) mine.formed.sized

-- ---- what was written is seen

abbrev with_reply : World → Reply → World × Reply
with_reply w r = (w, r)

reads_item : (w : World) (handle : ℕ) (layout : Layout) (b : Bool) (bytes : List ℕ) (x : Item) → b ≡ false → item_by layout.format bytes ≡ x → with_reply w (handle_or_item handle layout b bytes) ≡ with_reply w (reply.Item x)
reads_item w handle layout true bytes x plain is = absurd (true≢false plain)
reads_item w handle layout false bytes x plain is = ap (λ (i : Item). with_reply w (reply.Item i)) is

set_there : (w : World) (number count from : ℕ) (before after : Exporter) → slice_get w.exporters number ≡ Some before → bytes_in_world (with_set w number after) number count from ≡ bytes_at after.bytes count from
set_there w number count from before after there = ap (λ (o : Option Exporter). bytes_in_exporter o count from) (element_after_set w.exporters number before after there)

seen_so : (w new later : World) (number place other : ℕ) (other_key : Value) (before after : Exporter) (layout its : Layout) (read wanted : Item) → slice_get w.exporters number ≡ Some before → new ≡ with_set w number after
    → IsWritten before after layout place read → read ≡ wanted → HasItemAt later other other_key number place its → names_itself its.shape other_key ≡ false → its.format ≡ layout.format → its.itemsize ≡ layout.itemsize
    → bytes_in_world later number layout.itemsize place ≡ bytes_in_world new number layout.itemsize place → wstep later (command.Do other (verb.Get other_key)) ≡ (later, reply.Item wanted)
seen_so w new later number place other other_key before after layout its read wanted there stands written is has plain same_format size same =
    let bytes : bytes_in_world later number its.itemsize place ≡ bytes_at after.bytes its.itemsize place =
    ap (λ (n : ℕ). bytes_in_world later number n place) size ∙ same ∙ ap (λ (x : World). bytes_in_world x number layout.itemsize place) stands
    ∙ set_there w number layout.itemsize place before after there ∙ ap (λ (n : ℕ). bytes_at after.bytes n place) (sym size) in
    gets later other other_key number place its has
    ∙ reads_item later other its (names_itself its.shape other_key) (bytes_in_world later number its.itemsize place) wanted plain (ap (item_by its.format) bytes ∙ written.read_back its same_format size ∙ is)

abbrev normal_of : List Lent → Value → Format → Item
normal_of lents v format = item_of (normal_values (snaps_of lents) (fields format) (scalar_in v ∷ []))

item_here : (w : World) (handle : ℕ) (key : Value) (number k : ℕ) (e : Exporter) (layout : Layout) (item : ℕ) → slice_get w.handles handle ≡ Some (named.View number k) → slice_get w.exporters number ≡ Some e
    → live_layout e k ≡ Ok layout → item_of_key layout.shape key ≡ Ok item → HasItemAt w handle key number (slice_index layout.starts item) layout
item_here w handle key number k e layout item given there live chosen = record { view = k; names = given; exporter = e; there = there; live = live; item = item; chosen = chosen; starts = refl }

refusal_not_ok : (f : Fault) → local.Refused f ≡ local.Ok → ⊥
refusal_not_ok f is = cc

written_so : WritesAreSeen → LiveLayoutsAreSound → KeysNameItems → (w new : World) (handle number k : ℕ) (key v : Value) (e : Exporter) → IsSoundWorld w → slice_get w.handles handle ≡ Some (named.View number k) → is_slice key ≡ false
    → slice_get w.exporters number ≡ Some e → world_after w (target_of handle (named.View number k)) (estep e (subject.View k) (verb.Set key v) (loans_of w number (verb.Set key v))) ≡ (new, reply.Ok) → IsWrittenInWorld w new handle key v
written_so seen live names w new handle number k key v e sound given plain there is =
    let loans = loans_of w number (verb.Set key v) in
    let lents = lents_by e (names_of loans) (handle_of_value v) in
    let done = done_so w new (target_of handle (named.View number k)) (estep e (subject.View k) (verb.Set key v) loans) is in
    let one = stepped_so (IsItemSet e k key v lents) e (subject.View k) (verb.Set key v) loans local.Ok (item_is_set e k key v lents plain) (ap (λ (x : Exporter × LocalReply). x.1) done.replied) refusal_not_ok in
    let is_set = subst (IsItemSet e k key v lents) done.replied one in
    let layout = is_set.layout in
    let place : ℕ = slice_index layout.starts is_set.item in
    let sound_e = element_holds IsSoundExporter w.exporters number e sound.exporters_are_sound there in
    let named_item : is_set.item < product layout.shape = names layout.shape key is_set.item is_set.chosen in
    let counted : length layout.starts ≡ product layout.shape = (live e k layout sound_e is_set.live).formed.counted in
    let below : is_set.item < length layout.starts = omega (arith, named_item, counted) in
    let law = seen e done.after k layout is_set.item v lents local.Ok sound_e is_set.live below is_set.written in
    let kept = bytes_set e done.after place (piece_by layout.format (snaps_of lents) v) local.Ok is_set.written in
    let mine = item_here w handle key number k e layout is_set.item given there is_set.live is_set.chosen in
    let wanted = ap (λ (pairs : List (ℕ × Snap)). item_of (normal_values pairs (fields law.0) (scalar_in v ∷ []))) (same_pairs w e number key v there) in
    record {
      number = number;
      place = place;
      layout = layout;
      item = mine;
      format = law.0;
      spelled = law.1;
      before = e;
      there = there;
      after = done.after;
      stands = done.stands;
      kind = kept.kind;
      views = kept.views;
      iterators = kept.iterators;
      others = outside_so w new number place layout.itemsize e done.after there done.stands law.2.before law.2.after;
      stay = stays_so w new number e done.after there done.stands kept.views;
      seen = λ later other other_key its later_sound has not_itself same_format same.
          seen_so w new later number place other other_key e done.after layout its (normal_of lents v law.0) (normal_item w law.0 v) there done.stands law.2 wanted has not_itself same_format
          (same_size live w later handle other key other_key number place number place layout its sound later_sound mine has same_format) same;
    }

by_exporter : WritesAreSeen → LiveLayoutsAreSound → KeysNameItems → (w new : World) (handle number k : ℕ) (key v : Value) (o : Option Exporter) → IsSoundWorld w → slice_get w.handles handle ≡ Some (named.View number k) → is_slice key ≡ false
    → slice_get w.exporters number ≡ o → step_with_loans w (target_of handle (named.View number k)) (verb.Set key v) (loans_of w number (verb.Set key v)) o ≡ (new, reply.Ok) → IsWrittenInWorld w new handle key v
by_exporter seen live names w new handle number k key v None sound given plain there is = absurd (refused_not fault.UnknownName (ap (λ (x : World × Reply). x.1) is))
by_exporter seen live names w new handle number k key v (Some e) sound given plain there is = written_so seen live names w new handle number k key v e sound given plain there is

pub worlds_seen : WritesAreSeen → LiveLayoutsAreSound → KeysNameItems → WorldWritesAreSeen
worlds_seen seen live names w new handle number k key v sound given plain is =
    by_exporter seen live names w new handle number k key v (slice_get w.exporters number) sound given plain refl (sym (ap (step_of_handle w handle (verb.Set key v)) given) ∙ is)

-- ---- two items at the same place

named_same : (o : Option Named) (n k m j : ℕ) → o ≡ Some (named.View n k) → o ≡ Some (named.View m j) → (n ≡ m) × (k ≡ j)
named_same o n k m j first second = let numbers : n ≡ m = cc in let views : k ≡ j = cc in (numbers, views)

ok_same : {X : Type 0} (x y : X) (r : Result X Fault) → r ≡ Ok x → r ≡ Ok y → x ≡ y
ok_same x y r first second = cc

-- A key of a handle names a single item.
record IsSameItem (n p m q : ℕ) (layout its : Layout) : Type 0 where
  numbers : n ≡ m
  places : p ≡ q
  layouts : layout ≡ its

same_item : (w : World) (handle : ℕ) (key : Value) (n p m q : ℕ) (layout its : Layout) → HasItemAt w handle key n p layout → HasItemAt w handle key m q its → IsSameItem n p m q layout its
same_item w handle key n p m q layout its first second =
    let names = named_same (slice_get w.handles handle) n first.view m second.view first.names second.names in
    let one : first.exporter ≡ second.exporter = some_same first.exporter second.exporter (slice_get w.exporters n) first.there (ap (slice_get w.exporters) names.0 ∙ second.there) in
    let layouts : layout ≡ its = ok_same layout its (live_layout first.exporter first.view) first.live (ap₂ (λ (e : Exporter) (k : ℕ). live_layout e k) one names.1 ∙ second.live) in
    let items : first.item ≡ second.item = ok_same first.item second.item (item_of_key layout.shape key) first.chosen (ap (λ (l : Layout). item_of_key l.shape key) layouts ∙ second.chosen) in
    record { numbers = names.0; places = sym first.starts ∙ ap₂ (λ (l : Layout) (item : ℕ). slice_index l.starts item) layouts items ∙ second.starts; layouts = layouts }

share_same : (n p m q : ℕ) (layout its : Layout) (other from count : ℕ) → IsSameItem n p m q layout its → ShareNoByte n p layout.itemsize other from count → ShareNoByte m q its.itemsize other from count
share_same n p m q layout its other from count same share =
    subst (λ (x : ℕ). ShareNoByte x q its.itemsize other from count) same.numbers
    (subst (λ (x : ℕ). ShareNoByte n x its.itemsize other from count) same.places
    (subst (λ (x : Layout). ShareNoByte n p x.itemsize other from count) same.layouts share))

pub apart_unseen : WorldWritesAreSeen → WritesApartAreNotSeen
apart_unseen law w new handle number place other n p key v other_key layout its sound has other_has share is =
    let done = law w new handle number has.view key v sound has.names (key_is_no_slice layout.shape key has.item has.chosen) is in
    let same = same_item w handle key number place done.number done.place layout done.layout has done.item in
    let bytes = done.others n its.itemsize p (share_same number place done.number done.place layout done.layout n p its.itemsize same share) in
    ap (λ (x : World × Reply). x.1) (gets new other other_key n p its (done.stay other n p other_key its other_has))
    ∙ ap (handle_or_item other its (names_itself its.shape other_key)) bytes
    ∙ sym (ap (λ (x : World × Reply). x.1) (gets w other other_key n p its other_has))

pub shared_seen : WorldWritesAreSeen → ExporterLaws → SharedWritesAreSeen
shared_seen law laws w new handle other number place key v other_key layout its format sound has other_has plain spelled same_format is =
    let done = law w new handle number has.view key v sound has.names (key_is_no_slice layout.shape key has.item has.chosen) is in
    let same = same_item w handle key number place done.number done.place layout done.layout has done.item in
    let new_sound = subst IsSoundWorld (ap (λ (x : World × Reply). x.0) is) (wstep_sound laws w (command.Do handle (verb.Set key v)) sound) in
    let there = done.stay other number place other_key its other_has in
    let here = subst (λ (x : ℕ). HasItemAt new other other_key done.number x its) same.places (subst (λ (x : ℕ). HasItemAt new other other_key x place its) same.numbers there) in
    let formats : done.format ≡ format = ok_same done.format format (format_of done.layout.format) done.spelled (ap (λ (l : Layout). format_of l.format) (sym same.layouts) ∙ spelled) in
    done.seen new other other_key its new_sound here plain (same_format ∙ ap (λ (l : Layout). l.format) same.layouts) refl
    ∙ ap (λ (f : Format). (new, reply.Item (normal_item w f v))) formats
