-- A format without codes for bytes writes the same bytes, whatever is lent.
use Rattle.std.proofs.Common.{◌≡◌, ℕ, zero, suc, ◌+◌, ◌==◌, List, [], ◌∷◌, ◌++◌, length, false, true≢false, ap, sym, refl}
use Rattle.std.specs.Prelude.{replicate, Result, Err, if◌then◌else◌}
use Rattle.std.specs.List.{list_any, AllByRecursion}
use Rattle.pybuf_lemmas.proofs.Booleans.{neither_of}
use Rattle.pybuf_value.specs.declared.faults.Fault.{Fault}
use Rattle.pybuf_value.specs.declared.faults.Fault.TheVariants as fault
use Rattle.pybuf_value.specs.declared.values.Scalar.{Scalar}
use Rattle.pybuf_value.specs.declared.snaps.Snap.{Snap}
use Rattle.pybuf_struct.specs.declared.table.Endianness.{Endianness}
use Rattle.pybuf_struct.specs.declared.table.FormatType.{FormatType}
use Rattle.pybuf_struct.specs.declared.table.FormatType.TheVariants as code
use Rattle.pybuf_struct.specs.Table.{size_of}
use Rattle.pybuf_struct.specs.Formats.{Code, Format, Field, fields, fields_from, fields_of_code, fields_in_row, offset_after}
use Rattle.pybuf_struct.specs.Packing.{bytes_of, contents_of, room_with_contents, packed_bytes}
use Rattle.pybuf_memoryview.specs.Reading.{is_bytes_code, reads_bytes}

-- fields that look at no bytes
abbrev pub AreUnread : List Field → Type 0
AreUnread fs = AllByRecursion (λ f. is_bytes_code f.code ≡ false) fs

same_bytes : (o : Endianness) (pairs : List (ℕ × Snap)) (c : FormatType) (len : ℕ) (v : Scalar) → is_bytes_code c ≡ false → bytes_of o pairs c len v ≡ bytes_of o [] c len v
same_bytes o pairs code.Pad len v unread = refl
same_bytes o pairs code.SByte len v unread = refl
same_bytes o pairs code.UByte len v unread = refl
same_bytes o pairs code.Char len v unread = absurd (true≢false unread)
same_bytes o pairs code.Bool len v unread = refl
same_bytes o pairs code.Short len v unread = refl
same_bytes o pairs code.UShort len v unread = refl
same_bytes o pairs code.Int len v unread = refl
same_bytes o pairs code.UInt len v unread = refl
same_bytes o pairs code.Long len v unread = refl
same_bytes o pairs code.ULong len v unread = refl
same_bytes o pairs code.LongLong len v unread = refl
same_bytes o pairs code.ULongLong len v unread = refl
same_bytes o pairs code.SSizeT len v unread = refl
same_bytes o pairs code.SizeT len v unread = refl
same_bytes o pairs code.WideChar len v unread = refl
same_bytes o pairs code.Str len v unread = absurd (true≢false unread)
same_bytes o pairs code.Pascal len v unread = absurd (true≢false unread)

same_contents : (o : Endianness) (pairs : List (ℕ × Snap)) (fs : List Field) (vs : List Scalar) → AreUnread fs → contents_of o pairs fs vs ≡ contents_of o [] fs vs
unfolding contents_of
same_contents o pairs [] [] unread = refl
same_contents o pairs [] (v ∷ vs) unread = refl
same_contents o pairs (f ∷ fs) [] unread = refl
same_contents o pairs (f ∷ fs) (v ∷ vs) unread = rw (same_bytes o pairs f.code f.length v unread.0, same_contents o pairs fs vs unread.1) refl

row_unread : (c : FormatType) (size offset n : ℕ) → is_bytes_code c ≡ false → AreUnread (fields_in_row c size offset n)
row_unread c size offset zero unread = tt
row_unread c size offset (suc n) unread = (unread, row_unread c size (offset + size) n unread)

code_unread : (c : FormatType) (size offset n : ℕ) → is_bytes_code c ≡ false → AreUnread (fields_of_code c size offset n)
code_unread code.Pad size offset n unread = tt
code_unread code.SByte size offset n unread = row_unread code.SByte size offset n unread
code_unread code.UByte size offset n unread = row_unread code.UByte size offset n unread
code_unread code.Char size offset n unread = row_unread code.Char size offset n unread
code_unread code.Bool size offset n unread = row_unread code.Bool size offset n unread
code_unread code.Short size offset n unread = row_unread code.Short size offset n unread
code_unread code.UShort size offset n unread = row_unread code.UShort size offset n unread
code_unread code.Int size offset n unread = row_unread code.Int size offset n unread
code_unread code.UInt size offset n unread = row_unread code.UInt size offset n unread
code_unread code.Long size offset n unread = row_unread code.Long size offset n unread
code_unread code.ULong size offset n unread = row_unread code.ULong size offset n unread
code_unread code.LongLong size offset n unread = row_unread code.LongLong size offset n unread
code_unread code.ULongLong size offset n unread = row_unread code.ULongLong size offset n unread
code_unread code.SSizeT size offset n unread = row_unread code.SSizeT size offset n unread
code_unread code.SizeT size offset n unread = row_unread code.SizeT size offset n unread
code_unread code.WideChar size offset n unread = row_unread code.WideChar size offset n unread
code_unread code.Str size offset n unread = absurd (true≢false unread)
code_unread code.Pascal size offset n unread = absurd (true≢false unread)

both_unread : (fs gs : List Field) → AreUnread fs → AreUnread gs → AreUnread (fs ++ gs)
both_unread [] gs left right = right
both_unread (f ∷ fs) gs left right = (left.0, both_unread fs gs left.1 right)

fields_unread : (o : Endianness) (offset : ℕ) (codes : List Code) → list_any (λ (c : Code). is_bytes_code c.code) codes ≡ false → AreUnread (fields_from o offset codes)
fields_unread o offset [] unread = tt
fields_unread o offset (c ∷ codes) unread =
    let each = neither_of (is_bytes_code c.code) (list_any (λ (d : Code). is_bytes_code d.code) codes) unread in
    both_unread (fields_of_code c.code (size_of o c.code) (offset + c.pre_padding) c.repeat) (fields_from o (offset_after o offset c) codes)
    (code_unread c.code (size_of o c.code) (offset + c.pre_padding) c.repeat each.0) (fields_unread o (offset_after o offset c) codes each.1)

pub packs_the_same : (f : Format) (pairs : List (ℕ × Snap)) (vs : List Scalar) → reads_bytes f ≡ false → packed_bytes f [] vs ≡ packed_bytes f pairs vs
packs_the_same f pairs vs unread =
    ap (λ (contents : Result (List (List ℕ)) Fault). if length vs == length (fields f) then room_with_contents (fields f) contents (replicate f.size 0) else Err fault.Struct)
    (sym (same_contents f.order pairs (fields f) vs (fields_unread f.order 0 f.codes unread)))
