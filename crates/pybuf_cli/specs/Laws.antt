-- Laws of what a run writes, and of scripts.
use Rattle.std.specs.Prelude.{◌≡◌, ℕ, ◌≤◌, List, Ok}
use Rattle.std.specs.List.{AllByRecursion}
use Rattle.pybuf_command.specs.declared.worlds.Command.{Command}
use Rattle.pybuf_world.specs.World.{World, replies_of}
use Rattle.pybuf_make.specs.Script.{script}
use Rattle.pybuf_line.specs.Scalars.{handle_in}
use Rattle.pybuf_line.specs.Lines.{commands_in}
use Rattle.pybuf_command.specs.Shown.{reply_text}
use Rattle.pybuf_line.specs.Laws.{IsOneLine}
use Rattle.pybuf_cli.specs.declared.status.Status.TheVariants as status
use Rattle.pybuf_cli.specs.Program.{program, run_text, run_ending}
use Rattle.pybuf_cli.specs.Scripts.{script_text}

-- The text of each reply of a run is one line, whatever the commands and the world are, and however handles are
-- named, if each name is one line. So there is one line for each reply.
abbrev pub RunsStaySingle : Type 0
RunsStaySingle = (name : ℕ → List ℕ) → ((n : ℕ) → IsOneLine (name n)) → (w : World) (commands : List Command) →
    AllByRecursion (λ r. IsOneLine (reply_text name r)) (replies_of w commands)

-- The lines of a script's text are commands, and they are the commands of the script.
abbrev pub ScriptsAreSpelled : Type 0
ScriptsAreSpelled = (n : ℕ) → n ≤ 4096 → commands_in handle_in (script_text n) ≡ Ok (script n)

-- That text isn't too long, so a run of it writes the replies to the script. The script's summary tells of
-- these.
abbrev pub ScriptsAreRun : Type 0
ScriptsAreRun =
    (n : ℕ) → n ≤ 4096 → (run_text (script_text n) ≡ program (script n)) × (run_ending (script_text n) ≡ status.Done)
