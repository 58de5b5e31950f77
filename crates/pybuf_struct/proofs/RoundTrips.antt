-- Reading gives back what was written, and writing gives back what was read.
use Rattle.std.proofs.Common.{◌≡◌, ℕ, zero, suc, ◌+◌, ◌<◌, ◌≤◌, Bool, true, false, cond, eqb, List, [], ◌∷◌, ◌++◌, length, drop, replicate, map, Result, Ok, Err, refl, ap, subst, ◌∙◌, arith, inl, inr}
use Rattle.std.specs.Prelude.{IsTrue}
use Rattle.std.specs.List.{All, AllByRecursion}
use Rattle.std.proofs.lemmas.Bool.{eqb-true, eq-eqb, cases_lt}
use Rattle.std.proofs.lemmas.List.{length-take, length-drop, length-replicate, length-map, get_or-take, get_or-drop, get_or_past}
use Rattle.pybuf_lemmas.proofs.Lists.{bytes_of_all, IsBytes}
use Rattle.pybuf_struct.specs.Facts.{unpacked_at}
use Rattle.pybuf_value.specs.declared.faults.Fault.{Fault}
use Rattle.pybuf_value.specs.declared.faults.Fault.TheVariants as fault
use Rattle.pybuf_value.specs.declared.values.Scalar.{Scalar}
use Rattle.pybuf_value.specs.declared.snaps.Snap.{Snap}
use Rattle.pybuf_struct.specs.declared.table.Endianness.{Endianness}
use Rattle.pybuf_struct.specs.declared.table.FormatType.{FormatType}
use Rattle.pybuf_struct.specs.declared.table.FormatType.TheVariants as code
use Rattle.pybuf_struct.specs.Table.{size_of}
use Rattle.pybuf_value.specs.Refusing.{◌>>=◌}
use Rattle.pybuf_struct.specs.Formats.{Code, Format, Field, offset_after, extent, fields_in_row, fields_of_code, fields_from, fields}
use Rattle.pybuf_struct.specs.Values.{value_of, value_in, values, unpacked_values}
use Rattle.pybuf_struct.specs.Packing.{bytes_of, contents_of, room_with_fields, room_with, room_with_contents, packed_bytes, packed_values}
use Rattle.pybuf_struct.specs.Laws.{Spread, normal_of, normal_values, is_exact, AreExact}
use Rattle.pybuf_struct.proofs.FieldsAgain.{GivesBack, field_gives, field_back}
use Rattle.pybuf_struct.proofs.Fields.{IsSound, fields_sound}
use Rattle.pybuf_struct.proofs.Places.{Spread-le, Spread-fields, Fills, length-room_with, length-room_with_fields, field_kept, Tiles, Tiles-fields, part, written_parts}

-- ---- reading what was written

abbrev okay : {A : Type 0} → A → Result A Fault
okay x = Ok x

abbrev with_bytes : List ℕ → List (List ℕ) → Result (List (List ℕ)) Fault
with_bytes bytes others = Ok (bytes ∷ others)

abbrev Parts : Result (List ℕ) Fault → Result (List (List ℕ)) Fault → List (List ℕ) → Type 0
Parts first others contents = (bytes : List ℕ) × (rest : List (List ℕ)) × (first ≡ okay bytes) × (others ≡ okay rest) × (bytes ∷ rest ≡ contents)

parts_of : (first : Result (List ℕ) Fault) (others : Result (List (List ℕ)) Fault) (contents : List (List ℕ)) → (first >>= λ bytes. others >>= with_bytes bytes) ≡ okay contents → Parts first others contents
parts_of (Ok bytes) (Ok rest) contents is = (bytes, rest, refl, refl, cc)
parts_of (Ok bytes) (Err e) contents is = absurd cc
parts_of (Err e) others contents is = absurd cc

contents_split : (o : Endianness) (pairs : List (ℕ × Snap)) (f : Field) (fs : List Field) (v : Scalar) (vs : List Scalar) (contents : List (List ℕ)) → contents_of o pairs (f ∷ fs) (v ∷ vs) ≡ okay contents
    → Parts (bytes_of o pairs f.code f.length v) (contents_of o pairs fs vs) contents
unfolding contents_of
contents_split o pairs f fs v vs contents is = parts_of (bytes_of o pairs f.code f.length v) (contents_of o pairs fs vs) contents is

abbrev Again : Endianness → List (ℕ × Snap) → List Field → List Scalar → List ℕ → List (List ℕ) → Type 0
Again o pairs fs vs room contents = (map (value_in o (room_with_fields fs contents room)) fs ≡ normal_values pairs fs vs) × Fills fs contents

again_cons : (o : Endianness) (pairs : List (ℕ × Snap)) (f : Field) (fs : List Field) (q : ℕ) (v : Scalar) (vs : List Scalar) (bytes : List ℕ) (others : List (List ℕ)) (room : List ℕ)
    → Spread (f.offset + f.length) fs q → q ≤ length room → GivesBack (value_of o f.code bytes) (normal_of pairs f.code f.length v) bytes f.length → Again o pairs fs vs (room_with f.offset bytes room) others
    → Again o pairs (f ∷ fs) (v ∷ vs) room (bytes ∷ others)
again_cons o pairs f fs q v vs bytes others room spread le gives rest =
    let here : value_in o (room_with_fields fs others (room_with f.offset bytes room)) f ≡ normal_of pairs f.code f.length v
    = ap (value_of o f.code) (field_kept f fs q bytes others room spread le gives.1 rest.1) ∙ gives.0 in
    (cc (here, rest.0), (gives.1, rest.1))

values_again : (o : Endianness) (pairs : List (ℕ × Snap)) (size p : ℕ) (fs : List Field) (q : ℕ) (vs : List Scalar) (contents : List (List ℕ)) (room : List ℕ) → AllByRecursion (IsSound o size) fs → Spread p fs q → q ≤ length room → contents_of o pairs fs vs ≡ okay contents
    → Again o pairs fs vs room contents
unfolding contents_of
values_again o pairs size p [] q [] contents room sound spread le is = (refl, tt)
values_again o pairs size p [] q (v ∷ vs) contents room sound spread le is = absurd cc
values_again o pairs size p (f ∷ fs) q [] contents room sound spread le is = absurd cc
values_again o pairs size p (f ∷ fs) q (v ∷ vs) contents room sound spread le is =
    let s = contents_split o pairs f fs v vs contents is in
    let gives = field_gives o pairs f.code f.length v s.0 sound.0.length s.2 in
    let end : f.offset + f.length ≤ q = Spread-le (f.offset + f.length) fs q spread.1 in
    let long : length (room_with f.offset s.0 room) ≡ length room = length-room_with f.offset s.0 room (omega (arith, gives.1)) in
    let rest = values_again o pairs size (f.offset + f.length) fs q vs s.1 (room_with f.offset s.0 room) sound.1 spread.1 (omega (arith, long)) s.3 in
    subst (Again o pairs (f ∷ fs) (v ∷ vs) room) s.4 (again_cons o pairs f fs q v vs s.0 s.1 room spread.1 le gives rest)

filled_is : (fs : List Field) (contents : Result (List (List ℕ)) Fault) (room bytes : List ℕ) → room_with_contents fs contents room ≡ okay bytes → (all : List (List ℕ)) × (contents ≡ okay all) × (room_with_fields fs all room ≡ bytes)
filled_is fs (Ok all) room bytes is = (all, refl, cc)
filled_is fs (Err e) room bytes is = absurd cc

guarded : {A : Type 0} (test : Bool) (r : Result A Fault) (x : A) → cond test r (Err fault.Struct) ≡ okay x → (test ≡ true) × (r ≡ okay x)
guarded true r x is = (refl, is)
guarded false r x is = absurd cc

pub packed_again : (f : Format) (pairs : List (ℕ × Snap)) (vs : List Scalar) (bytes : List ℕ) → extent f.order f.codes ≡ f.size → packed_bytes f pairs vs ≡ Ok bytes → unpacked_values f bytes ≡ Ok (normal_values pairs (fields f) vs)
packed_again f pairs vs bytes whole is =
    let room = replicate f.size 0 in
    let room_long : length room ≡ f.size = length-replicate {A = ℕ} f.size 0 in
    let g = guarded (eqb (length vs) (length (fields f))) (packed_values f pairs vs) bytes is in
    let p = filled_is (fields f) (contents_of f.order pairs (fields f) vs) room bytes g.1 in
    let from_zero : 0 + extent f.order f.codes ≡ extent f.order f.codes = omega arith in
    let spread : Spread 0 (fields f) (extent f.order f.codes) = subst (Spread 0 (fields f)) from_zero (Spread-fields f.order 0 f.codes) in
    let again = values_again f.order pairs (extent f.order f.codes) 0 (fields f) (extent f.order f.codes) vs p.0 room (fields_sound f.order (extent f.order f.codes) 0 f.codes (omega arith)) spread (omega arith) p.1 in
    let long : length (room_with_fields (fields f) p.0 room) ≡ f.size = length-room_with_fields 0 (fields f) (extent f.order f.codes) p.0 room spread (omega arith) again.1 ∙ room_long in
    subst (λ (b : List ℕ). unpacked_values f b ≡ Ok (normal_values pairs (fields f) vs)) p.2 (unpacked_at f (room_with_fields (fields f) p.0 room) long ∙ ap okay again.0)

pub length-packed_bytes : (f : Format) (pairs : List (ℕ × Snap)) (vs : List Scalar) (bytes : List ℕ) → extent f.order f.codes ≡ f.size → packed_bytes f pairs vs ≡ Ok bytes → length bytes ≡ f.size
length-packed_bytes f pairs vs bytes whole is =
    eqb-true (length bytes) f.size (guarded (eqb (length bytes) f.size) (okay (values f bytes)) (normal_values pairs (fields f) vs) (packed_again f pairs vs bytes whole is)).0

-- ---- writing what was read

IsBytes-part : (bytes : List ℕ) (f : Field) → IsBytes bytes → IsBytes (part bytes f)
IsBytes-part bytes f small i =
    elim (cases_lt i f.length) [
      | inl lt ↦ rw (get_or-take f.length (drop f.offset bytes) i 0 lt, get_or-drop f.offset bytes i 0) (small (f.offset + i))
      | inr le ↦ rw (get_or_past (part bytes f) i 0 (omega (arith, length-take f.length (drop f.offset bytes)))) (omega arith)
    ]

abbrev AllExact : List Field → Type 0
AllExact fs = AllByRecursion (λ f. IsTrue (is_exact f.code)) fs

exact-append : (fs gs : List Field) → AllExact fs → AllExact gs → AllExact (fs ++ gs)
exact-append [] gs s t = t
exact-append (f ∷ fs) gs s t = (s.0, exact-append fs gs s.1 t)

exact-row : (c : FormatType) (len offset n : ℕ) → IsTrue (is_exact c) → AllExact (fields_in_row c len offset n)
exact-row c len offset zero exact = tt
exact-row c len offset (suc n) exact = (exact, exact-row c len (offset + len) n exact)

exact-code : (c : FormatType) (len offset n : ℕ) → IsTrue (is_exact c) → AllExact (fields_of_code c len offset n)
exact-code code.Pad len offset n exact = tt
exact-code code.Str len offset n exact = (refl, tt)
exact-code code.Pascal len offset n exact = absurd cc
exact-code c len offset n exact = exact-row c len offset n exact

exact-fields : (o : Endianness) (offset : ℕ) (codes : List Code) → AreExact codes → AllExact (fields_from o offset codes)
exact-fields o offset [] exact = tt
exact-fields o offset (c ∷ codes) exact = exact-append (fields_of_code c.code (size_of o c.code) (offset + c.pre_padding) c.repeat) (fields_from o (offset_after o offset c) codes)
    (exact-code c.code (size_of o c.code) (offset + c.pre_padding) c.repeat exact.0.1) (exact-fields o (offset_after o offset c) codes exact.1)

contents_back : (o : Endianness) (pairs : List (ℕ × Snap)) (bytes : List ℕ) (fs : List Field) → AllByRecursion (IsSound o (length bytes)) fs → AllExact fs → IsBytes bytes
    → contents_of o pairs fs (map (value_in o bytes) fs) ≡ okay (map (part bytes) fs)
unfolding contents_of
contents_back o pairs bytes [] sound exact small = refl
contents_back o pairs bytes (f ∷ fs) sound exact small =
    let within : f.offset + f.length ≤ length bytes = sound.0.within in
    let long : length (part bytes f) ≡ f.length = omega (arith, length-take f.length (drop f.offset bytes), length-drop f.offset bytes) in
    let first : bytes_of o pairs f.code f.length (value_in o bytes f) ≡ okay (part bytes f) = field_back o pairs f.code f.length (part bytes f) sound.0.length exact.0 long (IsBytes-part bytes f small) in
    rw (first, contents_back o pairs bytes fs sound.1 exact.1 small) refl

pub unpacked_again : (f : Format) (pairs : List (ℕ × Snap)) (vs : List Scalar) (bytes : List ℕ) → extent f.order f.codes ≡ f.size → AreExact f.codes → All (λ b. b < 256) bytes → unpacked_values f bytes ≡ Ok vs → packed_bytes f pairs vs ≡ Ok bytes
unpacked_again f pairs vs bytes whole exact small is =
    let g = guarded (eqb (length bytes) f.size) (okay (values f bytes)) vs is in
    let long : length bytes ≡ f.size = eqb-true (length bytes) f.size g.0 in
    let values_are : values f bytes ≡ vs = cc (g.1) in
    let from_zero : 0 + extent f.order f.codes ≡ length bytes = omega (arith, whole, long) in
    let room = replicate f.size 0 in
    let room_long : length room ≡ f.size = length-replicate {A = ℕ} f.size 0 in
    let contents : contents_of f.order pairs (fields f) (values f bytes) ≡ okay (map (part bytes) (fields f))
    = contents_back f.order pairs bytes (fields f) (fields_sound f.order (length bytes) 0 f.codes (omega (arith, from_zero))) (exact-fields f.order 0 f.codes exact) (bytes_of_all bytes small) in
    let tiles : Tiles 0 (fields f) (length bytes) = subst (Tiles 0 (fields f)) from_zero (Tiles-fields f.order 0 f.codes exact) in
    let back : room_with_fields (fields f) (map (part bytes) (fields f)) room ≡ bytes = written_parts bytes 0 (fields f) (length bytes) room tiles refl (omega arith) in
    let counts : length (values f bytes) ≡ length (fields f) = length-map (fields f) (value_in f.order bytes) in
    subst (λ (ws : List Scalar). packed_bytes f pairs ws ≡ Ok bytes) values_are
    (rw (eq-eqb (length (values f bytes)) (length (fields f)) counts, contents) (ap okay back))
