-- The text that the kept format of a descriptor stands for.
use Rattle.std.specs.Prelude.{ℕ, List, [], ◌∷◌, Option, Some, None}
use Rattle.pybuf_desc.specs.declared.format_letter.FormatLetter.{FormatLetter}
use Rattle.pybuf_desc.specs.declared.format_letter.FormatLetter.TheVariants as letter

-- the character code of a letter
abbrev pub code_of : FormatLetter → ℕ
code_of letter.Pad = 120
code_of letter.Character = 99
code_of letter.SignedChar = 98
code_of letter.UnsignedChar = 66
code_of letter.Truth = 63
code_of letter.Short = 104
code_of letter.UnsignedShort = 72
code_of letter.Int = 105
code_of letter.UnsignedInt = 73
code_of letter.Long = 108
code_of letter.UnsignedLong = 76
code_of letter.LongLong = 113
code_of letter.UnsignedLongLong = 81
code_of letter.SignedSize = 110
code_of letter.UnsignedSize = 78
code_of letter.Half = 101
code_of letter.Float = 102
code_of letter.Double = 100
code_of letter.Bytes = 115
code_of letter.PascalBytes = 112
code_of letter.Pointer = 80
code_of letter.WideCharacter = 117

-- the text of a letter, or another text if there is no letter
abbrev pub text_kept : Option FormatLetter → List ℕ → List ℕ
text_kept None text = text
text_kept (Some format) text = code_of format ∷ []
