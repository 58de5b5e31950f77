-- The first words of operations' lines. A function gives the text of each word, and a list has all of them.
use Rattle.std.specs.Prelude.{ℕ, List, [], ◌∷◌, codes, Option}
use Rattle.pybuf_line.specs.Words.{named_in}
use Rattle.pybuf_array_lines.specs.declared.words.Word.{Word}
use Rattle.pybuf_array_lines.specs.declared.words.Word.TheVariants as word

abbrev pub written_word : Word → List ℕ
written_word word.Append = codes "append"
written_word word.Extend = codes "extend"
written_word word.Insert = codes "insert"
written_word word.Pop = codes "pop"
written_word word.Remove = codes "remove"
written_word word.FromBytes = codes "frombytes"
written_word word.Get = codes "get"
written_word word.Set = codes "set"
written_word word.Len = codes "len"
written_word word.ToList = codes "tolist"
written_word word.ToBytes = codes "tobytes"
written_word word.ByteSwap = codes "byteswap"
written_word word.View = codes "view"
written_word word.ViewSlice = codes "vslice"
written_word word.ViewGet = codes "vget"
written_word word.ViewSet = codes "vset"
written_word word.Release = codes "release"

abbrev pub every_word : List Word
every_word =
    word.Append ∷ word.Extend ∷ word.Insert ∷ word.Pop ∷ word.Remove ∷ word.FromBytes ∷ word.Get ∷ word.Set ∷ word.Len
    ∷ word.ToList ∷ word.ToBytes ∷ word.ByteSwap ∷ word.View ∷ word.ViewSlice ∷ word.ViewGet ∷ word.ViewSet ∷ word.Release ∷ []

unfoldable pub word_in : List ℕ → Option Word
word_in text = named_in written_word every_word text
