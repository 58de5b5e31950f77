-- A world, with the replies that are kept of its commands.
use Rattle.std.specs.Prelude.{◌≡◌, ◌⊎◌, ℕ, List, [], Option, Some, None, Result, Ok, Err}
use Rattle.pybuf_command.specs.declared.worlds.Command.{Command}
use Rattle.pybuf_command.specs.declared.worlds.Reply.{Reply}
use Rattle.pybuf_command.specs.declared.worlds.Reply.TheVariants as reply
use Rattle.pybuf_command.specs.Shown.{reply_text}
use Rattle.pybuf_value.specs.declared.faults.Fault.{Fault}
use Rattle.pybuf_value.specs.Spelling.{handle_text}
use Rattle.pybuf_world.specs.World.{World, empty_world, wstep, world_after_all, replies_of}
use Rattle.pybuf_world.specs.Sound.{StopsAt}
use Rattle.pybuf_line.specs.Scalars.{handle_in}
use Rattle.pybuf_line.specs.Lines.{commands_in}
use Rattle.pybuf_line.specs.declared.unread.Misread.{Misread}
use Rattle.pybuf_line.specs.declared.unread.Misread.TheVariants as misread

-- A world, with the replies to the lines that it ran last, and the reply to the single command that it was
-- asked last.
pub record Console : Type 0 where
  pub world : World
  pub replies : List Reply
  pub last : Reply

abbrev pub empty_console : Console
empty_console = record { world = empty_world; replies = []; last = reply.Ok }

-- Each line of the text is a command. The world made a step by each of them, and their replies replace those
-- from before.
pub record HasRun (text : List ℕ) (old new : Console) : Type 0 where
  pub commands : List Command
  pub spelled : commands_in handle_in text ≡ Ok commands
  pub world : new.world ≡ world_after_all old.world commands
  pub replies : new.replies ≡ replies_of old.world commands
  pub last : new.last ≡ old.last

-- Each line of the text is a command. The world made a step by each of the first ones, and has the replies to
-- these.
pub record HasStopped (text : List ℕ) (old new : Console) : Type 0 where
  pub commands : List Command
  pub spelled : commands_in handle_in text ≡ Ok commands
  pub stopped : StopsAt old.world commands new.world [] new.replies
  pub last : new.last ≡ old.last

-- What comes of a text. All of it was run. Or nothing was, since the line of this number is the first that is
-- no command. Or memory ran out, before the first command or after some.
abbrev pub Runs : {X : Type 0} → Result X Misread → List ℕ → Console → Console → Type 0
Runs (Ok x) text old new = HasRun text old new
Runs (Err (misread.BadLine n)) text old new = (commands_in handle_in text ≡ Err n) × (new ≡ old)
Runs (Err misread.NoMemory) text old new = (new ≡ old) ⊎ HasStopped text old new

-- the text of a reply
abbrev pub shown_reply : Option Reply → Option (List ℕ)
shown_reply (Some reply) = Some (reply_text handle_text reply)
shown_reply None = None

-- One command was carried out, and its reply is the last one. The replies to lines stay.
pub record HasAsked (command : Command) (old new : Console) : Type 0 where
  pub step : wstep old.world command ≡ (new.world, new.last)
  pub replies : new.replies ≡ old.replies

-- the fault of a reply, if it is a refusal
abbrev pub refusal_of : Reply → Option Fault
refusal_of (reply.Refused fault) = Some fault
refusal_of _ = None
