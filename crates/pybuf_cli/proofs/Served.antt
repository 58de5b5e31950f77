-- What was read and put, if the source tells its bytes.
use Rattle.std.proofs.Common.{◌≡◌, ◌≢◌, ◌↔◌, ◌⊎◌, ℕ, suc, ◌<◌, ◌≤◌, List, [], ◌++◌, length, take, drop, Option, Some, Result, Ok, Err, inl, inr, refl, sym, ◌∙◌, ap, subst, arith}
use Rattle.std.proofs.lemmas.List.{append-nil, nil_from_length, length-append, drop_at}
use Rattle.pybuf_command.specs.declared.worlds.Command.{Command}
use Rattle.pybuf_world.specs.World.{empty_world}
use Rattle.pybuf_world.specs.Sound.{StaysSound}
use Rattle.pybuf_cli.specs.declared.forms.Form.{Form}
use Rattle.pybuf_cli.specs.declared.loops.ReadStop.{ReadStop}
use Rattle.pybuf_cli.specs.declared.loops.ReadStop.TheVariants as stops
use Rattle.pybuf_cli.specs.declared.status.Status.{Status}
use Rattle.pybuf_cli.specs.declared.status.Status.TheVariants as status
use Rattle.pybuf_cli.specs.Devices.{Took, AtEnd, Put, PutsFrontOf}
use Rattle.pybuf_line.specs.Scalars.{handle_in}
use Rattle.pybuf_line.specs.Lines.{commands_in}
use Rattle.pybuf_line.specs.Replies.{bad_line_text}
use Rattle.pybuf_cli.specs.Program.{most, program, ending_for, IsDone, IsBadLine, IsTooLong, TakesFront}
use Rattle.pybuf_cli.specs.Serving.{IsDue, Ends}

-- What was taken up to the end is all that there was.
pub took_all : (old new : Option (List ℕ)) (input bytes : List ℕ) → Took old bytes new → AtEnd new → old ≡ Some input →
    (bytes ≡ input) × (new ≡ Some [])
took_all old new input bytes took end told =
    let t = took input told in
    let nothing : t.0 ≡ [] = nil_from_length t.0 (end t.0 t.2) in
    (sym (t.1 ∙ (ap (λ rest. bytes ++ rest) nothing ∙ append-nil bytes)), t.2 ∙ ap Some nothing)

pub ran : (old new held_before held : Option (List ℕ)) (input bytes lent : List ℕ) → Took old bytes new → AtEnd new →
    length bytes ≤ most → lent ≡ bytes →
    ((commands : List Command) × (commands_in handle_in lent ≡ Ok commands) × StaysSound empty_world commands × Put held_before (program commands) held) →
    old ≡ Some input → IsDone input new held_before held
ran old new held_before held input bytes lent took end short same done told =
    let all = took_all old new input bytes took end told in
    record {
      all_read = all.1;
      short = omega (arith, short, ap length all.0);
      commands = done.0;
      spelled = sym (ap (commands_in handle_in) (same ∙ all.0)) ∙ done.1;
      sound = done.2;
      put = done.3;
    }

pub refused : (old new held_before held : Option (List ℕ)) (input bytes lent : List ℕ) → Took old bytes new → AtEnd new →
    length bytes ≤ most → lent ≡ bytes →
    ((line : ℕ) × (commands_in handle_in lent ≡ Err line) × Put held_before (bad_line_text line) held) →
    old ≡ Some input → IsBadLine input new held_before held
refused old new held_before held input bytes lent took end short same bad told =
    let all = took_all old new input bytes took end told in
    record {
      all_read = all.1;
      short = omega (arith, short, ap length all.0);
      line = bad.0;
      first = sym (ap (commands_in handle_in) (same ∙ all.0)) ∙ bad.1;
      put = bad.2;
    }

pub took_too_many : (old new : Option (List ℕ)) (input : List ℕ) →
    ((bytes : List ℕ) × (length bytes ≡ 1048577) × Took old bytes new) → old ≡ Some input → IsTooLong input new
took_too_many old new input taken told =
    let t = taken.2 input told in
    let rest : drop 1048577 input ≡ t.0 = ap (drop 1048577) t.1 ∙ drop_at taken.0 t.0 1048577 taken.1 in
    record {
      long = omega (arith, ap length t.1, length-append taken.0 t.0, taken.1);
      rest = t.2 ∙ ap Some (sym rest);
    }

-- The bytes that a run had so far were taken.
pub took_so_far : (old new : Option (List ℕ)) (input bytes : List ℕ) (result : Status) → Took old bytes new → length bytes ≤ suc most →
    ((result ≡ status.TooLong) ↔ (length bytes ≡ suc most)) → old ≡ Some input → TakesFront input result new
took_so_far old new input bytes result took few which told =
    let t = took input told in
    record {
      count = length bytes;
      within = omega (arith, ap length t.1, length-append bytes t.0);
      bounded = few;
      rest = t.2 ∙ ap Some (sym (ap (drop (length bytes)) t.1 ∙ drop_at bytes t.0 (length bytes) refl));
      too_long = which;
    }

-- No byte too many was taken, and the status doesn't say so.
pub took_few : (old new : Option (List ℕ)) (input bytes : List ℕ) (result : Status) → Took old bytes new → length bytes ≤ most →
    (result ≡ status.TooLong → ⊥) → old ≡ Some input → TakesFront input result new
took_few old new input bytes result took few other told =
    took_so_far old new input bytes result took (omega (arith, few))
    (λ long. absurd (other long), λ many. absurd (omega (arith, few, many))) told

-- The run stopped before that.
pub stopped_short : (old new : Option (List ℕ)) (input : List ℕ) (stop other : ReadStop) (result : Status) →
    (stop ≢ stops.TooLong → (bytes : List ℕ) × (length bytes ≤ 1048576) × Took old bytes new) → stop ≡ other → (other ≡ stops.TooLong → ⊥) →
    (result ≡ status.TooLong → ⊥) → old ≡ Some input → TakesFront input result new
stopped_short old new input stop other result taken is isnt ends told =
    let so = taken (λ long. isnt (sym is ∙ long)) in
    took_few old new input so.0 result so.2 (omega (arith, so.1)) ends told

pub no_memory_is_short : stops.NoMemory ≡ stops.TooLong → ⊥
no_memory_is_short e = cc

pub failed_is_short : stops.Failed ≡ stops.TooLong → ⊥
failed_is_short e = cc

pub no_memory_ends_short : status.NoMemory ≡ status.TooLong → ⊥
no_memory_ends_short e = cc

pub fault_ends_short : status.ReadFault ≡ status.TooLong → ⊥
fault_ends_short e = cc

-- One byte too many was taken, and the status says so.
pub took_one_more : (old new : Option (List ℕ)) (input : List ℕ) (result : Status) →
    ((bytes : List ℕ) × (length bytes ≡ 1048577) × Took old bytes new) → result ≡ status.TooLong → old ≡ Some input → TakesFront input result new
took_one_more old new input result taken long told =
    took_so_far old new input taken.0 result taken.2 (omega (arith, taken.1)) (λ _. taken.1, λ _. long) told

-- If an input was read to its end, the status isn't the one for an input that is too long.
pub answered_otherwise : {X : Type 0} (read : Result X ℕ) (result : Status) →
    (result ≡ ending_for read) ⊎ ((result ≡ status.NoMemory) ⊎ (result ≡ status.WriteFault)) → result ≡ status.TooLong → ⊥
answered_otherwise (Ok all) result (inl done) long = let e : status.Done ≡ status.TooLong = sym done ∙ long in cc
answered_otherwise (Err line) result (inl bad) long = let e : status.BadLine ≡ status.TooLong = sym bad ∙ long in cc
answered_otherwise read result (inr (inl none)) long = let e : status.NoMemory ≡ status.TooLong = sym none ∙ long in cc
answered_otherwise read result (inr (inr failed)) long = let e : status.WriteFault ≡ status.TooLong = sym failed ∙ long in cc

-- At the end of the source, nothing is left to read.
pub none_unread : (left : Option (List ℕ)) (rest : List ℕ) → AtEnd left → left ≡ Some rest → 0 < length rest → ⊥
none_unread left rest end told some = omega (arith, end rest told, some)

-- If the sink was empty, its bytes are those that were put.
pub held_is : (held_before held text : List ℕ) → held_before ≡ [] → Put (Some held_before) text (Some held) → held ≡ text
held_is held_before held text empty put =
    let same : Some held ≡ Some (held_before ++ text) = put held_before refl in
    let whole : held ≡ held_before ++ text = cc in
    whole ∙ ap (λ x. x ++ text) empty

pub quiet_ran : (input told held_before held out : List ℕ) (left : Option (List ℕ)) → told ≡ input → held_before ≡ [] → out ≡ held →
    IsDone told left (Some held_before) (Some held) →
    (commands : List Command) × (commands_in handle_in input ≡ Ok commands) × (out ≡ program commands)
quiet_ran input told held_before held out left same empty kept done =
    (done.commands, sym (ap (commands_in handle_in) same) ∙ done.spelled, kept ∙ held_is held_before held (program done.commands) empty done.put)

pub quiet_refused : (input told held_before held out : List ℕ) (left : Option (List ℕ)) → told ≡ input → held_before ≡ [] → out ≡ held →
    IsBadLine told left (Some held_before) (Some held) →
    (line : ℕ) × (commands_in handle_in input ≡ Err line) × (out ≡ bad_line_text line)
quiet_refused input told held_before held out left same empty kept bad =
    (bad.line, sym (ap (commands_in handle_in) same) ∙ bad.first, kept ∙ held_is held_before held (bad_line_text bad.line) empty bad.put)

pub quiet_front : (f : Form) (input told held_before held out : List ℕ) → told ≡ input → held_before ≡ [] → out ≡ held →
    PutsFrontOf (λ text. IsDue f told text) (Some held_before) (Some held) →
    (text : List ℕ) × IsDue f input text × (count : ℕ) × (count ≤ length text) × (out ≡ take count text)
quiet_front f input told held_before held out same empty kept put =
    let n = put.front.0 in (
      put.text,
      subst (λ (x : List ℕ). IsDue f x put.text) same put.due,
      n,
      put.front.1,
      kept ∙ held_is held_before held (take n put.text) empty put.front.2,
    )

-- How a form ended over the bytes of a source is how it ends over the same bytes.
pub quiet_ends : (f : Form) (input told : List ℕ) (result : Status) → told ≡ input → (Ends f told result) ⊎ (result ≡ status.NoMemory) →
    (Ends f input result) ⊎ (result ≡ status.NoMemory)
quiet_ends f input told result same ended = subst (λ (x : List ℕ). (Ends f x result) ⊎ (result ≡ status.NoMemory)) same ended

pub quiet_made : (text held_before held out : List ℕ) → held_before ≡ [] → out ≡ held → Put (Some held_before) text (Some held) → out ≡ text
quiet_made text held_before held out empty kept put = kept ∙ held_is held_before held text empty put
