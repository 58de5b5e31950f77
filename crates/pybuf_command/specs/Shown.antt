-- The texts of replies: of a reply, by how a handle is written, and of the reply of one exporter.
use Rattle.std.specs.Prelude.{ℕ, zero, suc, ◌/◌, length, take, drop, List, [], ◌∷◌, ◌++◌, codes, Option, Some, None}
use Rattle.std.specs.Fmt.{decimal, signed_decimal}
use Rattle.std.specs.Str.{byte}
use Rattle.pybuf_value.specs.Names.{python_name_of}
use Rattle.pybuf_value.specs.Quotes.{quoted_text}
use Rattle.pybuf_value.specs.Spelling.{bytes_text, truth_text, handle_text, item_text, tuple_text, list_text}
use Rattle.pybuf_command.specs.declared.commands.LocalReply.{LocalReply}
use Rattle.pybuf_command.specs.declared.commands.LocalReply.TheVariants as local
use Rattle.pybuf_command.specs.declared.worlds.Reply.{Reply}
use Rattle.pybuf_command.specs.declared.worlds.Reply.TheVariants as reply

-- the first blocks of the items, as many as asked for and each of this size
abbrev pub cut : {A : Type 0} → ℕ → ℕ → List A → List (List A)
cut zero size items = []
cut (suc n) size items = take size items ∷ cut n size (drop size items)

-- the items, cut into this number of blocks of the same length
abbrev pub blocks : {A : Type 0} → ℕ → List A → List (List A)
blocks n items = cut n (length items / n) items

-- The text of items that are nested by a shape, if `text` writes an item. In several dimensions, each entry of the
-- first dimension is a list: it has its block of the items, nested by the rest of the shape. Without dimensions it is a
-- list of the one item.
abbrev pub nested_text : {A : Type 0} → (A → List ℕ) → List ℕ → List A → List ℕ
nested_text text [] items = list_text text items
nested_text text (n ∷ []) items = list_text text items
nested_text text (n ∷ m ∷ more) items = list_text (nested_text text (m ∷ more)) (blocks n items)

abbrev pub reply_text : (ℕ → List ℕ) → Reply → List ℕ
reply_text name reply.Ok = codes "ok"
reply_text name (reply.Handle handle) = name handle
reply_text name (reply.Pair exporter view) = name exporter ++ byte " " ∷ name view
reply_text name (reply.Items shape items) = nested_text (item_text name) shape items
reply_text name (reply.Item shown) = item_text name shown
reply_text name (reply.Bytes bytes) = bytes_text bytes
reply_text name (reply.ByteLists lists) = list_text bytes_text lists
reply_text name (reply.Text text) = quoted_text text
reply_text name (reply.Shown text) = text
reply_text name (reply.Truth truth) = truth_text truth
reply_text name reply.NotImplementedReply = codes "NotImplemented"
reply_text name reply.Stop = codes "stop"
reply_text name (reply.Numbers numbers) = tuple_text signed_decimal numbers
reply_text name (reply.Refused fault) = codes "! " ++ python_name_of fault

-- What a contract says of how a reply is shown: it has the text of its line. Nothing is said of items, which may have
-- several dimensions.
abbrev pub shown_reply : Reply → Option (List ℕ)
shown_reply (reply.Items shape items) = None
shown_reply r = Some (reply_text handle_text r)

-- The text of the reply of one exporter. It is the text of the line, unless the line shows a handle.
abbrev pub display_text : LocalReply → List ℕ
display_text local.Ok = codes "ok"
display_text (local.View view) = codes "view " ++ decimal view
display_text (local.Iter iterator) = codes "iterator " ++ decimal iterator
display_text local.Itself = codes "itself"
display_text local.Own = codes "the exporter"
display_text (local.Items shape items) = nested_text (item_text handle_text) shape items
display_text (local.Item shown) = item_text handle_text shown
display_text (local.Bytes bytes) = bytes_text bytes
display_text (local.ByteLists lists) = list_text bytes_text lists
display_text (local.Text text) = quoted_text text
display_text (local.Shown text) = text
display_text (local.Truth truth) = truth_text truth
display_text local.NotImplementedReply = codes "NotImplemented"
display_text local.Stop = codes "stop"
display_text (local.Numbers numbers) = tuple_text signed_decimal numbers
display_text (local.Fresh snap) = codes "a copy of " ++ bytes_text snap.content
display_text (local.Refused fault) = codes "! " ++ python_name_of fault

-- What a contract says of how such a reply is shown: it has this text. Nothing is said of items, which may have several
-- dimensions.
abbrev pub shown_local_reply : LocalReply → Option (List ℕ)
shown_local_reply (local.Items shape items) = None
shown_local_reply r = Some (display_text r)
