-- What can be read from the reply of one exporter.
use Rattle.std.specs.Prelude.{ℕ, ℤ, Bool, List, Option, Some, None, Result, Ok, Err}
use Rattle.pybuf_value.specs.declared.faults.Fault.{Fault}
use Rattle.pybuf_value.specs.declared.values.Scalar.TheVariants as scalar
use Rattle.pybuf_value.specs.declared.values.Item.TheVariants as item
use Rattle.pybuf_command.specs.declared.commands.LocalReply.{LocalReply}
use Rattle.pybuf_command.specs.declared.commands.LocalReply.TheVariants as reply

-- the number, if the reply is a single whole number
abbrev pub number_told : LocalReply → Option ℤ
number_told (reply.Item (item.One (scalar.Int number))) = Some number
number_told _ = None

-- the truth value, if the reply is one or is an item that is one
abbrev pub truth_told : LocalReply → Option Bool
truth_told (reply.Truth truth) = Some truth
truth_told (reply.Item (item.One (scalar.Bool truth))) = Some truth
truth_told _ = None

-- the view that was made, if the reply names one
abbrev pub view_told : LocalReply → Option ℕ
view_told (reply.View view) = Some view
view_told _ = None

-- the fault, if the reply is a refusal
abbrev pub refusal_told : LocalReply → Option Fault
refusal_told (reply.Refused f) = Some f
refusal_told _ = None

-- the text, if the reply is one or shows a subject as one
abbrev pub text_told : LocalReply → Option (List ℕ)
text_told (reply.Text text) = Some text
text_told (reply.Shown text) = Some text
text_told _ = None

abbrev pub bytes_told : LocalReply → Option (List ℕ)
bytes_told (reply.Bytes bytes) = Some bytes
bytes_told _ = None

-- the reply as a result: it is itself, or the fault of its refusal
abbrev pub reply_given : LocalReply → Result LocalReply Fault
reply_given (reply.Refused f) = Err f
reply_given r = Ok r
