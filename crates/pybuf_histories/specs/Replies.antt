-- The text of the reply of one exporter.
use Rattle.std.specs.Prelude.{ℕ, List, ◌++◌, codes}
use Rattle.pybuf_value.specs.Spelling.{bytes_text, handle_text}
use Rattle.pybuf_command.specs.declared.kinds.Subject.{Subject}
use Rattle.pybuf_command.specs.declared.kinds.Subject.TheVariants as subject
use Rattle.pybuf_command.specs.declared.commands.LocalReply.{LocalReply}
use Rattle.pybuf_command.specs.declared.commands.LocalReply.TheVariants as local
use Rattle.pybuf_command.specs.declared.worlds.Reply.TheVariants as reply
use Rattle.pybuf_command.specs.Shown.{reply_text}
use Rattle.pybuf_histories.specs.Names.{view_name, iterator_name, subject_text}

-- The text of the reply to a command on a subject. A new view or iterator, the exporter and the subject are
-- named as in commands. If a new exporter is to be made, its bytes are shown. Every other reply has the text of
-- its line.
abbrev pub local_reply_text : Subject → LocalReply → List ℕ
local_reply_text asked (local.View k) = view_name k
local_reply_text asked (local.Iter k) = iterator_name k
local_reply_text asked local.Itself = subject_text asked
local_reply_text asked local.Own = subject_text subject.Own
local_reply_text asked (local.Fresh snap) = codes "fresh " ++ bytes_text snap.content
local_reply_text asked local.Ok = reply_text handle_text reply.Ok
local_reply_text asked (local.Item shown) = reply_text handle_text (reply.Item shown)
local_reply_text asked (local.Items shape items) = reply_text handle_text (reply.Items shape items)
local_reply_text asked (local.Bytes bytes) = reply_text handle_text (reply.Bytes bytes)
local_reply_text asked (local.Text text) = reply_text handle_text (reply.Text text)
local_reply_text asked (local.Shown text) = reply_text handle_text (reply.Shown text)
local_reply_text asked (local.Truth truth) = reply_text handle_text (reply.Truth truth)
local_reply_text asked local.NotImplementedReply = reply_text handle_text reply.NotImplementedReply
local_reply_text asked (local.Numbers numbers) = reply_text handle_text (reply.Numbers numbers)
local_reply_text asked (local.ByteLists lists) = reply_text handle_text (reply.ByteLists lists)
local_reply_text asked local.Stop = reply_text handle_text reply.Stop
local_reply_text asked (local.Refused fault) = reply_text handle_text (reply.Refused fault)
