-- Fields are written one after another, and none touches another.
use Rattle.std.proofs.Common.{◌≡◌, ℕ, zero, suc, ◌+◌, ◌*◌, ◌≤◌, List, [], ◌∷◌, ◌++◌, length, take, drop, map, refl, sym, ap, subst, ◌∙◌, append_assoc, arith}
use Rattle.std.specs.Prelude.{IsTrue}
use Rattle.std.proofs.lemmas.List.{length-take, length-drop, length-append, take_at, drop_at, take-append-le, take-take, drop-take, drop-drop, take_all, drop_all, take-append-drop, append-nil}
use Rattle.pybuf_struct.specs.declared.table.Endianness.{Endianness}
use Rattle.pybuf_struct.specs.declared.table.FormatType.{FormatType}
use Rattle.pybuf_struct.specs.declared.table.FormatType.TheVariants as code
use Rattle.pybuf_struct.specs.Table.{size_of}
use Rattle.pybuf_struct.specs.Formats.{Code, Field, extent, offset_after, fields_in_row, fields_of_code, fields_from}
use Rattle.pybuf_struct.specs.Packing.{room_with_fields, room_with}
use Rattle.pybuf_struct.specs.Laws.{is_exact, AreExact, Spread}

-- ---- where fields lie

Spread-from : (p r : ℕ) (fs : List Field) (q : ℕ) → r ≤ p → Spread p fs q → Spread r fs q
Spread-from p r [] q le s = omega arith
Spread-from p r (f ∷ fs) q le s = (omega (arith, s.0), s.1)

Spread-append : (p : ℕ) (fs : List Field) (q : ℕ) (gs : List Field) (r : ℕ) → Spread p fs q → Spread q gs r → Spread p (fs ++ gs) r
Spread-append p [] q gs r s t = Spread-from q p gs r s t
Spread-append p (f ∷ fs) q gs r s t = (s.0, Spread-append (f.offset + f.length) fs q gs r s.1 t)

Spread-row : (c : FormatType) (len offset n : ℕ) → Spread offset (fields_in_row c len offset n) (offset + n * len)
Spread-row c len offset zero = omega arith
Spread-row c len offset (suc n) = (omega arith, subst (λ (q : ℕ). Spread (offset + len) (fields_in_row c len (offset + len) n) q) (omega arith) (Spread-row c len (offset + len) n))

Spread-code : (o : Endianness) (c : FormatType) (offset n : ℕ) → Spread offset (fields_of_code c (size_of o c) offset n) (offset + n * size_of o c)
Spread-code o code.Pad offset n = omega arith
Spread-code o code.Str offset n = (omega arith, omega arith)
Spread-code o code.Pascal offset n = (omega arith, omega arith)
Spread-code o c offset n = Spread-row c (size_of o c) offset n

pub Spread-fields : (o : Endianness) (offset : ℕ) (codes : List Code) → Spread offset (fields_from o offset codes) (offset + extent o codes)
Spread-fields o offset [] = omega arith
Spread-fields o offset (c ∷ codes) =
    let own = fields_of_code c.code (size_of o c.code) (offset + c.pre_padding) c.repeat in
    let end : offset_after o offset c + extent o codes ≡ offset + extent o (c ∷ codes) = omega arith in
    Spread-append offset own (offset_after o offset c) (fields_from o (offset_after o offset c) codes) (offset + extent o (c ∷ codes))
    (Spread-from (offset + c.pre_padding) offset own (offset_after o offset c) (omega arith) (Spread-code o c.code (offset + c.pre_padding) c.repeat))
    (subst (λ (q : ℕ). Spread (offset_after o offset c) (fields_from o (offset_after o offset c) codes) q) end (Spread-fields o (offset_after o offset c) codes))

-- ---- one field

abbrev pub Fills : List Field → List (List ℕ) → Type 0
Fills [] contents = Unit {0}
Fills (f ∷ fs) [] = ⊥
Fills (f ∷ fs) (bytes ∷ contents) = (length bytes ≡ f.length) × Fills fs contents

pub length-room_with : (offset : ℕ) (bytes room : List ℕ) → offset + length bytes ≤ length room → length (room_with offset bytes room) ≡ length room
length-room_with offset bytes room le =
    omega (arith, length-append (take offset room) (bytes ++ drop (offset + length bytes) room), length-append bytes (drop (offset + length bytes) room), length-take offset room, length-drop (offset + length bytes) room)

take-room_with : (p offset : ℕ) (bytes room : List ℕ) → p ≤ offset → offset ≤ length room → take p (room_with offset bytes room) ≡ take p room
take-room_with p offset bytes room le within =
    take-append-le p (take offset room) (bytes ++ drop (offset + length bytes) room) (omega (arith, length-take offset room)) ∙ take-take p offset room le

part-room_with : (offset : ℕ) (bytes room : List ℕ) → offset ≤ length room → take (length bytes) (drop offset (room_with offset bytes room)) ≡ bytes
part-room_with offset bytes room within =
    ap (take (length bytes)) (drop_at (take offset room) (bytes ++ drop (offset + length bytes) room) offset (omega (arith, length-take offset room))) ∙ take_at bytes (drop (offset + length bytes) room) (length bytes) refl

-- ---- all fields

pub Spread-le : (p : ℕ) (fs : List Field) (q : ℕ) → Spread p fs q → p ≤ q
Spread-le p [] q s = s
Spread-le p (f ∷ fs) q s = omega (arith, s.0, Spread-le (f.offset + f.length) fs q s.1)

pub length-room_with_fields : (p : ℕ) (fs : List Field) (q : ℕ) (contents : List (List ℕ)) (room : List ℕ) → Spread p fs q → q ≤ length room → Fills fs contents → length (room_with_fields fs contents room) ≡ length room
length-room_with_fields p [] q contents room s le fills = refl
length-room_with_fields p (f ∷ fs) q [] room s le fills = refl
length-room_with_fields p (f ∷ fs) q (bytes ∷ contents) room s le fills =
    let one : length (room_with f.offset bytes room) ≡ length room = length-room_with f.offset bytes room (omega (arith, fills.0, Spread-le (f.offset + f.length) fs q s.1)) in
    length-room_with_fields (f.offset + f.length) fs q contents (room_with f.offset bytes room) s.1 (omega arith) fills.1 ∙ one

pub take-room_with_fields : (p : ℕ) (fs : List Field) (q : ℕ) (contents : List (List ℕ)) (room : List ℕ) → Spread p fs q → q ≤ length room → Fills fs contents → take p (room_with_fields fs contents room) ≡ take p room
take-room_with_fields p [] q contents room s le fills = refl
take-room_with_fields p (f ∷ fs) q [] room s le fills = refl
take-room_with_fields p (f ∷ fs) q (bytes ∷ contents) room s le fills =
    let end : f.offset + f.length ≤ q = Spread-le (f.offset + f.length) fs q s.1 in
    let one : length (room_with f.offset bytes room) ≡ length room = length-room_with f.offset bytes room (omega (arith, fills.0)) in
    let after = room_with f.offset bytes room in
    let lower : p ≤ f.offset + f.length = omega (arith, s.0) in
    sym (take-take p (f.offset + f.length) (room_with_fields fs contents after) lower)
    ∙ ap (take p) (take-room_with_fields (f.offset + f.length) fs q contents after s.1 (omega arith) fills.1)
    ∙ take-take p (f.offset + f.length) after lower
    ∙ take-room_with p f.offset bytes room s.0 (omega arith)

-- a field keeps its bytes while the fields after it are written
pub field_kept : (f : Field) (fs : List Field) (q : ℕ) (bytes : List ℕ) (contents : List (List ℕ)) (room : List ℕ) → Spread (f.offset + f.length) fs q → q ≤ length room → length bytes ≡ f.length → Fills fs contents
    → take f.length (drop f.offset (room_with_fields fs contents (room_with f.offset bytes room))) ≡ bytes
field_kept f fs q bytes contents room s le long fills =
    let after = room_with f.offset bytes room in
    let end : f.offset + f.length ≤ q = Spread-le (f.offset + f.length) fs q s in
    let one : length after ≡ length room = length-room_with f.offset bytes room (omega (arith, long)) in
    sym (drop-take f.offset f.length (room_with_fields fs contents after))
    ∙ ap (drop f.offset) (take-room_with_fields (f.offset + f.length) fs q contents after s (omega arith) fills)
    ∙ drop-take f.offset f.length after
    ∙ ap (λ (n : ℕ). take n (drop f.offset after)) (sym long)
    ∙ part-room_with f.offset bytes room (omega arith)

-- ---- fields without a gap

abbrev pub Tiles : ℕ → List Field → ℕ → Type 0
Tiles p [] q = p ≡ q
Tiles p (f ∷ fs) q = (f.offset ≡ p) × Tiles (p + f.length) fs q

Tiles-append : (p : ℕ) (fs : List Field) (q : ℕ) (gs : List Field) (r : ℕ) → Tiles p fs q → Tiles q gs r → Tiles p (fs ++ gs) r
Tiles-append p [] q gs r s t = subst (λ (k : ℕ). Tiles k gs r) (sym s) t
Tiles-append p (f ∷ fs) q gs r s t = (s.0, Tiles-append (p + f.length) fs q gs r s.1 t)

Tiles-row : (c : FormatType) (len offset n : ℕ) → Tiles offset (fields_in_row c len offset n) (offset + n * len)
Tiles-row c len offset zero = omega arith
Tiles-row c len offset (suc n) = (refl, subst (λ (q : ℕ). Tiles (offset + len) (fields_in_row c len (offset + len) n) q) (omega arith) (Tiles-row c len (offset + len) n))

Tiles-code : (o : Endianness) (c : FormatType) (offset n : ℕ) → IsTrue (is_exact c) → Tiles offset (fields_of_code c (size_of o c) offset n) (offset + n * size_of o c)
Tiles-code o code.Pad offset n exact = absurd cc
Tiles-code o code.Pascal offset n exact = absurd cc
Tiles-code o code.Str offset n exact = (refl, omega arith)
Tiles-code o c offset n exact = Tiles-row c (size_of o c) offset n

pub Tiles-fields : (o : Endianness) (offset : ℕ) (codes : List Code) → AreExact codes → Tiles offset (fields_from o offset codes) (offset + extent o codes)
Tiles-fields o offset [] exact = omega arith
Tiles-fields o offset (c ∷ codes) exact =
    let own = fields_of_code c.code (size_of o c.code) (offset + c.pre_padding) c.repeat in
    let begin : offset + c.pre_padding ≡ offset = omega (arith, exact.0.0) in
    let end : offset_after o offset c + extent o codes ≡ offset + extent o (c ∷ codes) = omega arith in
    Tiles-append offset own (offset_after o offset c) (fields_from o (offset_after o offset c) codes) (offset + extent o (c ∷ codes))
    (subst (λ (p : ℕ). Tiles p own (offset_after o offset c)) begin (Tiles-code o c.code (offset + c.pre_padding) c.repeat exact.0.1))
    (subst (λ (q : ℕ). Tiles (offset_after o offset c) (fields_from o (offset_after o offset c) codes) q) end (Tiles-fields o (offset_after o offset c) codes exact.1))

Tiles-le : (p : ℕ) (fs : List Field) (q : ℕ) → Tiles p fs q → p ≤ q
Tiles-le p [] q t = omega (arith, t)
Tiles-le p (f ∷ fs) q t = omega (arith, Tiles-le (p + f.length) fs q t.1)

abbrev pub part : List ℕ → Field → List ℕ
part bytes f = take f.length (drop f.offset bytes)

-- if the parts of some bytes are written over a room of the same length, the room has these bytes
pub written_parts : (bytes : List ℕ) (p : ℕ) (fs : List Field) (q : ℕ) (room : List ℕ) → Tiles p fs q → q ≡ length bytes → length room ≡ length bytes → room_with_fields fs (map (part bytes) fs) room ≡ take p room ++ drop p bytes
written_parts bytes p [] q room t whole same =
    let all : length room ≤ p = omega (arith, t) in
    let none : length bytes ≤ p = omega (arith, t) in
    rw (take_all p room all, drop_all p bytes none) (sym (append-nil room))
written_parts bytes p (f ∷ fs) q room t whole same =
    let end : p + f.length ≤ q = Tiles-le (p + f.length) fs q t.1 in
    let content = take f.length (drop p bytes) in
    let here : part bytes f ≡ content = ap (λ (k : ℕ). take f.length (drop k bytes)) t.0 in
    let long : length content ≡ f.length = omega (arith, length-take f.length (drop p bytes), length-drop p bytes) in
    let after = room_with p content room in
    let after_long : length after ≡ length room = length-room_with p content room (omega arith) in
    let front : take (p + f.length) after ≡ take p room ++ content
    = ap (take (p + f.length)) (sym (append_assoc (take p room) content (drop (p + length content) room))) ∙ take_at (take p room ++ content) (drop (p + length content) room) (p + f.length) (omega (arith, length-append (take p room) content, length-take p room)) in
    let back : content ++ drop (p + f.length) bytes ≡ drop p bytes
    = ap (λ (rest : List ℕ). content ++ rest) (sym (drop-drop f.length p bytes)) ∙ take-append-drop f.length (drop p bytes) in
    rw (t.0) (written_parts bytes (p + f.length) fs q after t.1 whole (omega arith)
    ∙ ap (λ (l : List ℕ). l ++ drop (p + f.length) bytes) front ∙ append_assoc (take p room) content (drop (p + f.length) bytes) ∙ ap (λ (rest : List ℕ). take p room ++ rest) back)
