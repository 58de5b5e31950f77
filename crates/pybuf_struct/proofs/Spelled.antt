-- A format that a text spells has codes that its prefix allows, and its size is where they end.
use Rattle.std.proofs.Common.{◌≡◌, ℕ, List, Option, Some, None, Ok, refl, subst}
use Rattle.pybuf_struct.specs.Facts.{some, read_allowed, codes_allowed, laid_again, ok_or_some}
use Rattle.pybuf_value.specs.Choosing.{◌>>=◌}
use Rattle.pybuf_struct.specs.declared.table.Endianness.{Endianness}
use Rattle.pybuf_struct.specs.Formats.{CountedCode, Code, Format, codes_in, layout_from, format_after_prefix, format_of, prefix_of}
use Rattle.pybuf_struct.specs.Laws.{CodesAreAllowed, SizesEndTheCodes}

-- ---- the parts of a format that a text spells

pub record IsLaid (o : Endianness) (text : List ℕ) (f : Format) : Type 0 where
  pub items : List CountedCode
  pub read : codes_in o text ≡ Some items
  pub order : f.order ≡ o
  pub laid : layout_from o 0 items ≡ Some (f.codes, f.size)

abbrev format_with : Endianness → List Code × ℕ → Format
format_with o l = record { order = o; codes = l.0; size = l.1 }

laid_by : (o : Endianness) (text : List ℕ) (items : List CountedCode) (layout : Option (List Code × ℕ)) (f : Format) → codes_in o text ≡ Some items → layout_from o 0 items ≡ layout → (layout >>= λ l. Some (format_with o l)) ≡ some f → IsLaid o text f
laid_by o text items None f read laid is = absurd cc
laid_by o text items (Some l) f read laid is =
    let same : format_with o l ≡ f = cc in
    subst (IsLaid o text) same (record { items = items; read = read; order = refl; laid = laid })

laid_items : (o : Endianness) (text : List ℕ) (items : Option (List CountedCode)) (f : Format) → codes_in o text ≡ items → (items >>= λ all. layout_from o 0 all >>= λ l. Some (format_with o l)) ≡ some f → IsLaid o text f
laid_items o text None f read is = absurd cc
laid_items o text (Some items) f read is = laid_by o text items (layout_from o 0 items) f read refl is

laid_after : (o : Endianness) (text : List ℕ) (f : Format) → format_after_prefix o text ≡ some f → IsLaid o text f
unfolding format_after_prefix
laid_after o text f is = laid_items o text (codes_in o text) f refl is

pub laid_of : (text : List ℕ) (f : Format) → format_of text ≡ Ok f → IsLaid (prefix_of text).0 (prefix_of text).1 f
laid_of text f is = laid_after (prefix_of text).0 (prefix_of text).1 f (ok_or_some (format_after_prefix (prefix_of text).0 (prefix_of text).1) f is)

-- ---- the laws

pub are_allowed : CodesAreAllowed
are_allowed text f is =
    let laid = laid_of text f is in
    let o = (prefix_of text).0 in
    let codes = codes_allowed o 0 laid.items (f.codes, f.size) (read_allowed o (prefix_of text).1 laid.items laid.read) laid.laid in
    (laid.order, rw laid.order codes)

pub end_with_codes : SizesEndTheCodes
end_with_codes text f is =
    let laid = laid_of text f is in
    let again = laid_again (prefix_of text).0 0 laid.items (f.codes, f.size) laid.laid in
    rw (laid.order, again.0) again.1
