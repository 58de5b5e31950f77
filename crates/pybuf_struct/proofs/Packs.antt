-- Values are checked first, and then written, one field after another.
use Rattle.std.proofs.Common.{◌≡◌, ℕ, suc, ◌+◌, ◌-◌, ◌<◌, ◌≤◌, true, false, List, [], ◌∷◌, ◌++◌, length, get_or, take, drop, Result, Ok, Err, refl, sym, ap, ◌∙◌, add-one, arith}
use Rattle.std.proofs.Math.Seq.{drop-cons}
use Rattle.std.proofs.lemmas.List.{drop_all, length-take, length-drop, drop-drop}
use Rattle.std.specs.Prelude.{IsOk, is_err}
use Rattle.std.specs.List.{AllByRecursion}
use Rattle.pybuf_value.specs.declared.faults.Fault.{Fault}
use Rattle.pybuf_value.specs.declared.values.Scalar.{Scalar}
use Rattle.pybuf_value.specs.declared.snaps.Snap.{Snap}
use Rattle.pybuf_value.specs.Refusing.{◌>>=◌}
use Rattle.pybuf_struct.specs.declared.table.Endianness.{Endianness}
use Rattle.pybuf_struct.specs.Formats.{Code, Field, extent, fields_from}
use Rattle.pybuf_value.specs.Halting.{refusal_of}
use Rattle.pybuf_struct.specs.Packing.{bytes_of, contents_of, room_with, room_with_contents}
use Rattle.pybuf_struct.proofs.Fields.{IsSound, fields_sound}

-- ---- one more value

abbrev with_bytes : List ℕ → List (List ℕ) → Result (List (List ℕ)) Fault
with_bytes bytes others = Ok (bytes ∷ others)

contents_cons : (o : Endianness) (pairs : List (ℕ × Snap)) (f : Field) (fs : List Field) (v : Scalar) (vs : List Scalar)
    → contents_of o pairs (f ∷ fs) (v ∷ vs) ≡ (bytes_of o pairs f.code f.length v >>= λ bytes. contents_of o pairs fs vs >>= with_bytes bytes)
unfolding contents_of
contents_cons o pairs f fs v vs = refl

checked_others : (bytes : List ℕ) (others : Result (List (List ℕ)) Fault) → refusal_of (others >>= with_bytes bytes) ≡ refusal_of others
checked_others bytes (Ok all) = refl
checked_others bytes (Err e) = refl

checked_first : (first : Result (List ℕ) Fault) (others : Result (List (List ℕ)) Fault) → refusal_of first ≡ Ok tt → refusal_of (first >>= λ bytes. others >>= with_bytes bytes) ≡ refusal_of others
checked_first (Ok bytes) others h = checked_others bytes others
checked_first (Err e) others h = absurd cc

refused_first : (first : Result (List ℕ) Fault) (others : Result (List (List ℕ)) Fault) (e : Fault) → refusal_of first ≡ Err e → refusal_of (first >>= λ bytes. others >>= with_bytes bytes) ≡ Err e
refused_first (Ok bytes) others e h = absurd cc
refused_first (Err d) others e h = h

others_ok_one : (bytes : List ℕ) (others : Result (List (List ℕ)) Fault) → IsOk (others >>= with_bytes bytes) → IsOk others
others_ok_one bytes (Ok all) ok = refl
others_ok_one bytes (Err e) ok = absurd cc

others_ok : (first : Result (List ℕ) Fault) (others : Result (List (List ℕ)) Fault) → IsOk (first >>= λ bytes. others >>= with_bytes bytes) → IsOk first × IsOk others
others_ok (Ok bytes) others ok = (refl, others_ok_one bytes others ok)
others_ok (Err e) others ok = absurd cc

-- ---- checking

pub record Checks (o : Endianness) (pairs : List (ℕ × Snap)) (size : ℕ) (all : List Field) (values : List Scalar) (left : List Field) (i : ℕ) : Type 0 where
  pub same : refusal_of (contents_of o pairs left (drop i values)) ≡ refusal_of (contents_of o pairs all values)
  pub counts : length left + i ≡ length values
  pub sound : AllByRecursion (IsSound o size) left

pub checks_nothing : (o : Endianness) (pairs : List (ℕ × Snap)) (codes : List Code) (values : List Scalar) (left : List Field) → length values ≡ length (fields_from o 0 codes) → left ≡ fields_from o 0 codes
    → Checks o pairs (extent o codes) (fields_from o 0 codes) values left 0
checks_nothing o pairs codes values left counts is =
    record { same = rw is refl; counts = omega (arith, counts, ap length is); sound = rw is (fields_sound o (extent o codes) 0 codes (omega arith)) }

next_value : (values : List Scalar) (i : ℕ) (v : Scalar) → i < length values → v ≡ get_or values i v → drop i values ≡ v ∷ drop (i + 1) values
next_value values i v lt is = drop-cons values i v lt ∙ ap (λ (w : Scalar). w ∷ drop (suc i) values) (sym is) ∙ ap (λ (k : ℕ). v ∷ drop k values) (sym (add-one i))

contents_at : (o : Endianness) (pairs : List (ℕ × Snap)) (values : List Scalar) (left rest : List Field) (f : Field) (v : Scalar) (i : ℕ) → i < length values → v ≡ get_or values i v → left ≡ f ∷ rest
    → contents_of o pairs left (drop i values) ≡ (bytes_of o pairs f.code f.length v >>= λ bytes. contents_of o pairs rest (drop (i + 1) values) >>= with_bytes bytes)
contents_at o pairs values left rest f v i lt is left_is =
    ap (λ (fs : List Field). contents_of o pairs fs (drop i values)) left_is ∙ ap (contents_of o pairs (f ∷ rest)) (next_value values i v lt is) ∙ contents_cons o pairs f rest v (drop (i + 1) values)

pub checks_more : (o : Endianness) (pairs : List (ℕ × Snap)) (size : ℕ) (all : List Field) (values : List Scalar) (left rest : List Field) (f : Field) (v : Scalar) (i : ℕ) → Checks o pairs size all values left i
    → i < length values → v ≡ get_or values i v → left ≡ f ∷ rest → refusal_of (bytes_of o pairs f.code f.length v) ≡ Ok tt → Checks o pairs size all values rest (i + 1)
checks_more o pairs size all values left rest f v i checks lt is left_is accepted =
    let here : refusal_of (contents_of o pairs left (drop i values)) ≡ refusal_of (contents_of o pairs rest (drop (i + 1) values))
    = ap refusal_of (contents_at o pairs values left rest f v i lt is left_is) ∙ checked_first (bytes_of o pairs f.code f.length v) (contents_of o pairs rest (drop (i + 1) values)) accepted in
    let sound : AllByRecursion (IsSound o size) (f ∷ rest) = rw left_is at checks.sound in
    record { same = sym here ∙ checks.same; counts = omega (arith, checks.counts, ap length left_is); sound = sound.1 }

checks_refused : (o : Endianness) (pairs : List (ℕ × Snap)) (size : ℕ) (all : List Field) (values : List Scalar) (left rest : List Field) (f : Field) (v : Scalar) (i : ℕ) (e : Fault) → Checks o pairs size all values left i
    → i < length values → v ≡ get_or values i v → left ≡ f ∷ rest → refusal_of (bytes_of o pairs f.code f.length v) ≡ Err e → refusal_of (contents_of o pairs all values) ≡ Err e
checks_refused o pairs size all values left rest f v i e checks lt is left_is refused =
    sym checks.same ∙ ap refusal_of (contents_at o pairs values left rest f v i lt is left_is) ∙ refused_first (bytes_of o pairs f.code f.length v) (contents_of o pairs rest (drop (i + 1) values)) e refused

-- if a check of a field gave no error, it accepted the value
pub is_accepted : (r : Result (Unit {0}) Fault) → is_err r ≡ false → r ≡ Ok tt
is_accepted (Ok x) h = refl
is_accepted (Err e) h = absurd cc

pub checks_stopped : (o : Endianness) (pairs : List (ℕ × Snap)) (size : ℕ) (all : List Field) (values : List Scalar) (left rest : List Field) (f : Field) (v : Scalar) (i : ℕ) (r : Result (Unit {0}) Fault) → Checks o pairs size all values left i
    → i < length values → v ≡ get_or values i v → left ≡ f ∷ rest → r ≡ refusal_of (bytes_of o pairs f.code f.length v) → is_err r ≡ true → r ≡ refusal_of (contents_of o pairs all values)
checks_stopped o pairs size all values left rest f v i (Ok x) checks lt is left_is r_is err = absurd cc
checks_stopped o pairs size all values left rest f v i (Err e) checks lt is left_is r_is err = sym (checks_refused o pairs size all values left rest f v i e checks lt is left_is (sym r_is))

pub checks_all : (o : Endianness) (pairs : List (ℕ × Snap)) (size : ℕ) (all : List Field) (values : List Scalar) (left : List Field) (i : ℕ) → Checks o pairs size all values left i
    → length values ≤ i → refusal_of (contents_of o pairs all values) ≡ Ok tt
unfolding contents_of
checks_all o pairs size all values [] i checks le =
    sym checks.same ∙ ap (λ (vs : List Scalar). refusal_of (contents_of o pairs [] vs)) (drop_all i values le)
checks_all o pairs size all values (f ∷ left) i checks le = absurd (omega (arith, checks.counts))

-- ---- writing

pub record Writes (o : Endianness) (pairs : List (ℕ × Snap)) (size : ℕ) (all : List Field) (values : List Scalar) (before room : List ℕ) (left : List Field) (i : ℕ) : Type 0 where
  pub same : room_with_contents left (contents_of o pairs left (drop i values)) room ≡ room_with_contents all (contents_of o pairs all values) before
  pub accepted : IsOk (contents_of o pairs left (drop i values))
  pub counts : length left + i ≡ length values
  pub sound : AllByRecursion (IsSound o size) left

same_counts : (o : Endianness) (pairs : List (ℕ × Snap)) (fs : List Field) (vs : List Scalar) → IsOk (contents_of o pairs fs vs) → length fs ≡ length vs
unfolding contents_of
same_counts o pairs [] [] ok = refl
same_counts o pairs [] (v ∷ vs) ok = absurd cc
same_counts o pairs (f ∷ fs) [] ok = absurd cc
same_counts o pairs (f ∷ fs) (v ∷ vs) ok = ap suc (same_counts o pairs fs vs (others_ok (bytes_of o pairs f.code f.length v) (contents_of o pairs fs vs) ok).1)

pub writes_nothing : (o : Endianness) (pairs : List (ℕ × Snap)) (codes : List Code) (values : List Scalar) (room : List ℕ) (left : List Field) → IsOk (contents_of o pairs (fields_from o 0 codes) values) → left ≡ fields_from o 0 codes
    → Writes o pairs (extent o codes) (fields_from o 0 codes) values room room left 0
writes_nothing o pairs codes values room left ok is =
    record { same = rw is refl; accepted = rw is ok; counts = omega (arith, same_counts o pairs (fields_from o 0 codes) values ok, ap length is); sound = rw is (fields_sound o (extent o codes) 0 codes (omega arith)) }

-- the part of a list from an offset on has its length
pub part_length : (offset len : ℕ) (room : List ℕ) → offset + len ≤ length room → length (take (offset + len - offset) (drop offset room)) ≡ len
part_length offset len room within = omega (arith, length-take (offset + len - offset) (drop offset room), length-drop offset room)

pub part_written : (offset k : ℕ) (room bytes : List ℕ) → length bytes ≡ k → take offset room ++ (bytes ++ drop k (drop offset room)) ≡ room_with offset bytes room
part_written offset k room bytes is = rw (drop-drop k offset room, is) refl

pub writes_within : (o : Endianness) (pairs : List (ℕ × Snap)) (size : ℕ) (all : List Field) (values : List Scalar) (before room : List ℕ) (left rest : List Field) (f : Field) (i : ℕ) → Writes o pairs size all values before room left i
    → left ≡ f ∷ rest → f.offset + f.length ≤ size
writes_within o pairs size all values before room left rest f i writes left_is =
    let sound : AllByRecursion (IsSound o size) (f ∷ rest) = rw left_is at writes.sound in
    sound.0.within

-- the value at an index is accepted by the first field that is left
pub writes_accepted : (o : Endianness) (pairs : List (ℕ × Snap)) (size : ℕ) (all : List Field) (values : List Scalar) (before room : List ℕ) (left rest : List Field) (f : Field) (v : Scalar) (i : ℕ) → Writes o pairs size all values before room left i
    → i < length values → v ≡ get_or values i v → left ≡ f ∷ rest → IsOk (bytes_of o pairs f.code f.length v)
writes_accepted o pairs size all values before room left rest f v i writes lt is left_is =
    (others_ok (bytes_of o pairs f.code f.length v) (contents_of o pairs rest (drop (i + 1) values)) (rw (contents_at o pairs values left rest f v i lt is left_is) at writes.accepted)).0

written_one : (f : Field) (rest : List Field) (bytes : List ℕ) (others : Result (List (List ℕ)) Fault) (room : List ℕ) → room_with_contents (f ∷ rest) (others >>= with_bytes bytes) room ≡ room_with_contents rest others (room_with f.offset bytes room)
written_one f rest bytes (Ok all) room = refl
written_one f rest bytes (Err e) room = refl

pub writes_more : (o : Endianness) (pairs : List (ℕ × Snap)) (size : ℕ) (all : List Field) (values : List Scalar) (before room after : List ℕ) (left rest : List Field) (f : Field) (v : Scalar) (i : ℕ) (bytes : List ℕ) → Writes o pairs size all values before room left i
    → i < length values → v ≡ get_or values i v → left ≡ f ∷ rest → bytes_of o pairs f.code f.length v ≡ Ok bytes → after ≡ room_with f.offset bytes room → Writes o pairs size all values before after rest (i + 1)
writes_more o pairs size all values before room after left rest f v i bytes writes lt is left_is bytes_is after_is =
    let others = contents_of o pairs rest (drop (i + 1) values) in
    let here : contents_of o pairs left (drop i values) ≡ (others >>= with_bytes bytes) = contents_at o pairs values left rest f v i lt is left_is ∙ rw bytes_is refl in
    let step : room_with_contents left (contents_of o pairs left (drop i values)) room ≡ room_with_contents rest others after
    = ap (λ (fs : List Field). room_with_contents fs (contents_of o pairs left (drop i values)) room) left_is ∙ ap (λ (r : Result (List (List ℕ)) Fault). room_with_contents (f ∷ rest) r room) here ∙ written_one f rest bytes others room ∙ ap (room_with_contents rest others) (sym after_is) in
    let sound : AllByRecursion (IsSound o size) (f ∷ rest) = rw left_is at writes.sound in
    record {
      same = sym step ∙ writes.same;
      accepted = others_ok_one bytes others (rw here at writes.accepted);
      counts = omega (arith, writes.counts, ap length left_is);
      sound = sound.1;
    }
