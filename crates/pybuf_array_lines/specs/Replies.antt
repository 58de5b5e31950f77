-- The texts of what arrays reply.
use Rattle.std.specs.Prelude.{ℕ, List, [], ◌∷◌, ◌++◌, codes, decimal}
use Rattle.std.specs.Fmt.{signed_decimal}
use Rattle.std.specs.List.{flat_map}
use Rattle.std.specs.Str.{byte}
use Rattle.pybuf_value.specs.Names.{python_name_of}
use Rattle.pybuf_value.specs.Spelling.{bytes_text, list_text}
use Rattle.pybuf_array.specs.declared.operations.ArrayReply.{ArrayReply}
use Rattle.pybuf_array.specs.declared.operations.ArrayReply.TheVariants as reply

-- how the number of a view is written
abbrev pub view_text : ℕ → List ℕ
view_text view = byte "v" ∷ decimal view

abbrev pub array_reply_text : ArrayReply → List ℕ
array_reply_text reply.Ok = codes "ok"
array_reply_text (reply.Number number) = signed_decimal number
array_reply_text (reply.Numbers numbers) = list_text signed_decimal numbers
array_reply_text (reply.Bytes bytes) = bytes_text bytes
array_reply_text (reply.View view) = view_text view
array_reply_text (reply.Refused fault) = codes "! " ++ python_name_of fault

-- a reply with its line feed
abbrev pub array_reply_line : ArrayReply → List ℕ
array_reply_line reply = array_reply_text reply ++ byte "\n" ∷ []

-- a line for each reply
abbrev pub array_reply_lines : List ArrayReply → List ℕ
array_reply_lines replies = flat_map array_reply_line replies
