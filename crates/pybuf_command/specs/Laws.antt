-- The laws of the equality of replies and of commands.
use Rattle.std.specs.Prelude.{◌≡◌}
use Rattle.std.specs.Bool.{Decides}
use Rattle.pybuf_command.specs.declared.commands.LocalReply.{LocalReply}
use Rattle.pybuf_command.specs.declared.commands.LocalCommand.{LocalCommand}
use Rattle.pybuf_command.specs.contracts.commands.LocalReplyPartialEq.TheImpl as reply_eq
use Rattle.pybuf_command.specs.contracts.commands.LocalCommandPartialEq.TheImpl as command_eq

-- Rust's `==` holds of two replies exactly if they are the same
abbrev pub EqualRepliesAreTheSame : Type 0
EqualRepliesAreTheSame = (x y : LocalReply) → Decides (reply_eq.eq-value.it x y) (x ≡ y)

-- Rust's `==` holds of two commands exactly if they are the same, with the same loans in the same order
abbrev pub EqualCommandsAreTheSame : Type 0
EqualCommandsAreTheSame = (x y : LocalCommand) → Decides (command_eq.eq-value.it x y) (x ≡ y)
