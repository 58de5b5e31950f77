-- The words of a line. For each kind of words that name something, a function gives the text of each, and a
-- list has all of them.
use Rattle.std.specs.Prelude.{ℕ, ◌==◌, true, false, List, [], ◌∷◌, length, codes, Option, if◌then◌else◌}
use Rattle.std.specs.Str.{bytes_eq}
use Rattle.std.specs.List.{find}
use Rattle.pybuf_value.specs.declared.values.CompareOp.{CompareOp}
use Rattle.pybuf_value.specs.declared.values.CompareOp.TheVariants as op
use Rattle.pybuf_command.specs.declared.kinds.ExporterKind.{ExporterKind}
use Rattle.pybuf_command.specs.declared.kinds.ExporterKind.TheVariants as kind
use Rattle.pybuf_command.specs.declared.commands.PropertyName.{PropertyName}
use Rattle.pybuf_command.specs.declared.commands.PropertyName.TheVariants as property
use Rattle.pybuf_line.specs.declared.words.Word.{Word}
use Rattle.pybuf_line.specs.declared.words.Word.TheVariants as word
use Rattle.pybuf_line.specs.Parts.{parts_at}

-- The words of a line are separated by single blanks.
abbrev pub words : List ℕ → List (List ℕ)
words line = parts_at 32 line

-- the entry of a list whose text is this one, byte by byte, if there is one
abbrev pub named_in : {A : Type 0} → (A → List ℕ) → List A → List ℕ → Option A
named_in name table text = find (λ one. bytes_eq text (name one)) table

-- the first words of lines
abbrev pub written_word : Word → List ℕ
written_word word.New = codes "new"
written_word word.View = codes "view"
written_word word.Get = codes "get"
written_word word.Set = codes "set"
written_word word.ToBytes = codes "bytes"
written_word word.Release = codes "release"
written_word word.Len = codes "len"
written_word word.Cast = codes "cast"
written_word word.CastF = codes "castf"
written_word word.Property = codes "prop"
written_word word.ToReadonly = codes "toreadonly"
written_word word.Range = codes "range"
written_word word.Enter = codes "enter"
written_word word.Exit = codes "exit"
written_word word.ToContiguous = codes "contig"
written_word word.ToList = codes "tolist"
written_word word.Compare = codes "compare"
written_word word.Hash = codes "hash"
written_word word.Repr = codes "repr"
written_word word.Iter = codes "iter"
written_word word.Next = codes "next"
written_word word.LengthHint = codes "hint"
written_word word.SetState = codes "setstate"
written_word word.Contains = codes "contains"
written_word word.Hex = codes "hex"
written_word word.Call = codes "call"
written_word word.Del = codes "del"
written_word word.Append = codes "append"
written_word word.Extend = codes "extend"
written_word word.Insert = codes "insert"
written_word word.Pop = codes "pop"
written_word word.Remove = codes "remove"
written_word word.Clear = codes "clear"
written_word word.Reverse = codes "reverse"
written_word word.IAdd = codes "iadd"
written_word word.IMul = codes "imul"
written_word word.Init = codes "init"
written_word word.Take = codes "take"
written_word word.Copy = codes "copy"

abbrev pub every_word : List Word
every_word =
    word.New ∷ word.View ∷ word.Get ∷ word.Set ∷ word.ToBytes ∷ word.Release ∷ word.Len ∷ word.Cast ∷ word.CastF ∷ word.Property
    ∷ word.ToReadonly ∷ word.Range ∷ word.Enter ∷ word.Exit ∷ word.ToContiguous ∷ word.ToList
    ∷ word.Compare ∷ word.Hash ∷ word.Repr ∷ word.Iter ∷ word.Next ∷ word.LengthHint ∷ word.SetState
    ∷ word.Contains ∷ word.Hex ∷ word.Call ∷ word.Del ∷ word.Append ∷ word.Extend ∷ word.Insert ∷ word.Pop
    ∷ word.Remove ∷ word.Clear ∷ word.Reverse ∷ word.IAdd ∷ word.IMul ∷ word.Init ∷ word.Take ∷ word.Copy ∷ []

-- the entries of a list whose texts have n bytes
abbrev pub of_length : {A : Type 0} → ℕ → (A → List ℕ) → List A → List A
of_length n name [] = []
of_length n name (first ∷ more) = if length (name first) == n then first ∷ of_length n name more else of_length n name more

-- the first words that have n letters
abbrev pub words_of_length : ℕ → List Word
words_of_length n = of_length n written_word every_word

unfoldable pub word_in : List ℕ → Option Word
word_in text = named_in written_word every_word text

-- the kinds of exporters
abbrev pub written_kind : ExporterKind → List ℕ
written_kind kind.Bytes = codes "bytes"
written_kind kind.ByteArray = codes "bytearray"
written_kind (kind.Vector false) = codes "vector"
written_kind (kind.Vector true) = codes "rovector"

abbrev pub every_kind : List ExporterKind
every_kind = kind.Bytes ∷ kind.ByteArray ∷ kind.Vector false ∷ kind.Vector true ∷ []

abbrev pub kind_in : List ℕ → Option ExporterKind
kind_in text = named_in written_kind every_kind text

-- the operators of comparisons
abbrev pub written_operator : CompareOp → List ℕ
written_operator op.Eq = codes "=="
written_operator op.Ne = codes "!="
written_operator op.Lt = codes "<"
written_operator op.Le = codes "<="
written_operator op.Gt = codes ">"
written_operator op.Ge = codes ">="

abbrev pub every_operator : List CompareOp
every_operator = op.Eq ∷ op.Ne ∷ op.Lt ∷ op.Le ∷ op.Gt ∷ op.Ge ∷ []

abbrev pub operator_in : List ℕ → Option CompareOp
operator_in text = named_in written_operator every_operator text

-- the names of properties
abbrev pub written_name : PropertyName → List ℕ
written_name property.Exports = codes "exports"
written_name property.Obj = codes "obj"
written_name property.Nbytes = codes "nbytes"
written_name property.Readonly = codes "readonly"
written_name property.Itemsize = codes "itemsize"
written_name property.Ndim = codes "ndim"
written_name property.Shape = codes "shape"
written_name property.Strides = codes "strides"
written_name property.Suboffsets = codes "suboffsets"
written_name property.Format = codes "format"
written_name property.Contiguous = codes "contiguous"
written_name property.CContiguous = codes "c_contiguous"
written_name property.FContiguous = codes "f_contiguous"

abbrev pub every_property : List PropertyName
every_property =
    property.Exports ∷ property.Obj ∷ property.Nbytes ∷ property.Readonly ∷ property.Itemsize ∷ property.Ndim ∷ property.Shape
    ∷ property.Strides ∷ property.Suboffsets ∷ property.Format ∷ property.Contiguous ∷ property.CContiguous ∷ property.FContiguous ∷ []

unfoldable pub property_in : List ℕ → Option PropertyName
property_in text = named_in written_name every_property text
