-- Runs, line by line. What was put and what waits are the front of the text that is due, and the replies to the
-- lines that are left are the rest.
use Rattle.std.proofs.Common.{◌≡◌, ℕ, ◌+◌, List, [], ◌∷◌, ◌++◌, Option, Some, None, Result, Ok, Err, refl, sym, ◌∙◌, ap, subst}
use Rattle.std.proofs.lemmas.List.{append_assoc, append-nil}
use Rattle.pybuf_command.specs.declared.worlds.Command.{Command}
use Rattle.pybuf_command.specs.declared.worlds.Reply.{Reply}
use Rattle.pybuf_world.specs.World.{World, empty_world, wstep, replies_of}
use Rattle.pybuf_value.specs.Spelling.{handle_text}
use Rattle.pybuf_line.specs.Scalars.{handle_in}
use Rattle.pybuf_line.specs.Commands.{command_in}
use Rattle.pybuf_line.specs.Lines.{lines, before, commands_from, commands_in}
use Rattle.pybuf_line.specs.Replies.{reply_line, reply_lines}
use Rattle.pybuf_cli.specs.Devices.{Put, PutPrefix, Sends}
use Rattle.pybuf_cli.specs.Program.{program, due_for}
use Rattle.pybuf_cli.specs.Running.{IsSpelled, AreSpelled, IsCarriedOut, IsAnswered}
use Rattle.pybuf_cli.proofs.Sending.{put_both, put_then_front, sends_nothing, sends_more}

-- The lines that are left are commands. Their replies in this world come behind a text, part of which was put
-- while the other part waits. Together these are the text that is due for the input.
pub record IsRunning (input rest : List ℕ) (w : World) (old : Option (List ℕ)) (waiting : List ℕ) (held : Option (List ℕ)) : Type 0 where
  pub number : ℕ
  pub commands : List Command
  pub left : commands_from handle_in number (lines rest) ≡ Ok commands
  pub text : List ℕ
  pub due : due_for (commands_in handle_in input) ≡ text ++ reply_lines handle_text (replies_of w commands)
  pub sends : Sends old text waiting held

-- the first of some lines that are commands, and the others
record IsCut (line : List ℕ) (others : List (List ℕ)) (number : ℕ) (commands : List Command) : Type 0 where
  command : Command
  more : List Command
  spelled : command_in handle_in line ≡ Some command
  whole : commands ≡ command ∷ more
  left : commands_from handle_in (number + 1) others ≡ Ok more

cut_before : (number : ℕ) (line : List ℕ) (others : List (List ℕ)) (commands : List Command) (o : Option Command) (r : Result (List Command) ℕ) →
    command_in handle_in line ≡ o → commands_from handle_in (number + 1) others ≡ r → before number o r ≡ Ok commands →
    IsCut line others number commands
cut_before number line others commands None r here there is = absurd (cc)
cut_before number line others commands (Some c) (Ok more) here there is = record {
  command = c;
  more = more;
  spelled = here;
  whole = cc;
  left = there;
}
cut_before number line others commands (Some c) (Err n) here there is = absurd (cc)

cut_at : (rest line after : List ℕ) (number : ℕ) (commands : List Command) → commands_from handle_in number (lines rest) ≡ Ok commands →
    lines rest ≡ line ∷ lines after → IsCut line (lines after) number commands
cut_at rest line after number commands left cut =
    cut_before number line (lines after) commands (command_in handle_in line) (commands_from handle_in (number + 1) (lines after)) refl refl
    (sym (ap (commands_from handle_in number) cut) ∙ left)

-- a command that was carried out, by its step and by what was added to the text
pub carried_out : (w next : World) (c : Command) (r : Reply) (text longer : List ℕ) → wstep w c ≡ (next, r) → longer ≡ text ++ reply_line handle_text r →
    IsCarriedOut w c text next longer
carried_out w next c r text longer stepped pushed = (
  ap (λ (p : World × Reply). p.0) (sym stepped),
  pushed ∙ ap (λ (p : World × Reply). text ++ reply_line handle_text p.1) (sym stepped),
)

-- A reply that was written by itself stands behind the replies that wait.
pub answered_behind : (w next : World) (line waiting before reply : List ℕ) → before ≡ [] → IsAnswered w line before next reply →
    IsAnswered w line waiting next (waiting ++ reply)
answered_behind w next line waiting before reply none answered c is =
    let step = answered c is in
    (step.0, ap (λ (x : List ℕ). waiting ++ x) (step.1 ∙ ap (λ (x : List ℕ). x ++ reply_line handle_text (wstep w c).1) none))

-- The first line that is left is a command.
pub spelled_first : (input rest line after : List ℕ) (w : World) (old : Option (List ℕ)) (waiting : List ℕ) (held : Option (List ℕ)) →
    IsRunning input rest w old waiting held → lines rest ≡ line ∷ lines after → IsSpelled line
spelled_first input rest line after w old waiting held so cut =
    let first = cut_at rest line after so.number so.commands so.left cut in (first.command, first.spelled)

pub begins : (input : List ℕ) (w : World) (old : Option (List ℕ)) → AreSpelled input → w ≡ empty_world → IsRunning input input w old [] old
begins input w old spelled empty = record {
  number = 1;
  commands = spelled.0;
  left = spelled.1;
  text = [];
  due = ap due_for spelled.1 ∙ ap (λ (x : World). reply_lines handle_text (replies_of x spelled.0)) (sym empty);
  sends = sends_nothing old;
}

-- the text that is due, after one more line was put or waits
due_after : (due text : List ℕ) (w next : World) (c : Command) (commands more : List Command) →
    due ≡ text ++ reply_lines handle_text (replies_of w commands) → commands ≡ c ∷ more → next ≡ (wstep w c).0 →
    due ≡ (text ++ reply_line handle_text (wstep w c).1) ++ reply_lines handle_text (replies_of next more)
due_after due text w next c commands more is whole stepped =
    let line = reply_line handle_text (wstep w c).1 in
    is
    ∙ (ap (λ (cs : List Command). text ++ reply_lines handle_text (replies_of w cs)) whole
    ∙ (sym (append_assoc text line (reply_lines handle_text (replies_of (wstep w c).0 more)))
    ∙ ap (λ (x : World). (text ++ line) ++ reply_lines handle_text (replies_of x more)) (sym stepped)))

-- One more line was run, and its text was put or still waits.
pub goes_on : (input rest line after : List ℕ) (w next : World) (old mid new : Option (List ℕ)) (waiting longer left : List ℕ) →
    IsRunning input rest w old waiting mid → lines rest ≡ line ∷ lines after → IsAnswered w line waiting next longer → Sends mid longer left new →
    IsRunning input after next old left new
goes_on input rest line after w next old mid new waiting longer left so cut answered sent =
    let first = cut_at rest line after so.number so.commands so.left cut in
    let step = answered first.command first.spelled in
    let shown = reply_line handle_text (wstep w first.command).1 in
    record {
      number = so.number + 1;
      commands = first.more;
      left = first.left;
      text = so.text ++ shown;
      due = due_after (due_for (commands_in handle_in input)) so.text w next first.command so.commands first.more so.due first.whole step.0;
      sends = sends_more old mid new so.text waiting shown longer sent.sent left so.sends step.1 sent.whole sent.put;
    }

-- The run stops before a line, or while the line is run. The front of what waits was put.
pub stops_before : (input rest : List ℕ) (w : World) (old mid new : Option (List ℕ)) (waiting lent : List ℕ) →
    IsRunning input rest w old waiting mid → lent ≡ waiting → PutPrefix mid lent new → PutPrefix old (due_for (commands_in handle_in input)) new
stops_before input rest w old mid new waiting lent so same front =
    let others = reply_lines handle_text (replies_of w so.commands) in
    let last : PutPrefix mid waiting new = subst (λ (x : List ℕ). PutPrefix mid x new) same front in
    put_then_front old mid new (due_for (commands_in handle_in input)) so.sends.sent waiting others
    (so.due ∙ ap (λ (x : List ℕ). x ++ others) so.sends.whole) so.sends.put last

-- The run stops while the text behind a line is put.
pub stops_behind : (input rest line after : List ℕ) (w next : World) (old mid new : Option (List ℕ)) (waiting longer : List ℕ) →
    IsRunning input rest w old waiting mid → lines rest ≡ line ∷ lines after → IsAnswered w line waiting next longer → PutPrefix mid longer new →
    PutPrefix old (due_for (commands_in handle_in input)) new
stops_behind input rest line after w next old mid new waiting longer so cut answered front =
    let first = cut_at rest line after so.number so.commands so.left cut in
    let step = answered first.command first.spelled in
    let shown = reply_line handle_text (wstep w first.command).1 in
    let others = reply_lines handle_text (replies_of next first.more) in
    let whole : so.text ++ shown ≡ so.sends.sent ++ longer =
    ap (λ (x : List ℕ). x ++ shown) so.sends.whole
    ∙ (append_assoc so.sends.sent waiting shown ∙ ap (λ (x : List ℕ). so.sends.sent ++ x) (sym step.1)) in
    put_then_front old mid new (due_for (commands_in handle_in input)) so.sends.sent longer others
    (due_after (due_for (commands_in handle_in input)) so.text w next first.command so.commands first.more so.due first.whole step.0
    ∙ ap (λ (x : List ℕ). x ++ others) whole)
    so.sends.put front

-- No line is left, so what was put and what waits are all that is due.
all_due : (input rest : List ℕ) (w : World) (old : Option (List ℕ)) (waiting : List ℕ) (held : Option (List ℕ)) →
    (so : IsRunning input rest w old waiting held) → lines rest ≡ [] → due_for (commands_in handle_in input) ≡ so.sends.sent ++ waiting
all_due input rest w old waiting held so none =
    let same : Ok [] ≡ Ok so.commands = sym (ap (commands_from handle_in so.number) none) ∙ so.left in
    let empty : so.commands ≡ [] = cc in
    so.due
    ∙ (ap (λ (cs : List Command). so.text ++ reply_lines handle_text (replies_of w cs)) empty ∙ (append-nil so.text ∙ so.sends.whole))

pub ends_put : (input rest : List ℕ) (w : World) (old mid new : Option (List ℕ)) (waiting lent : List ℕ) →
    IsRunning input rest w old waiting mid → lines rest ≡ [] → lent ≡ waiting → Put mid lent new → Put old (due_for (commands_in handle_in input)) new
ends_put input rest w old mid new waiting lent so none same put =
    let last : Put mid waiting new = subst (λ (x : List ℕ). Put mid x new) same put in
    subst (λ (x : List ℕ). Put old x new) (sym (all_due input rest w old waiting mid so none))
    (put_both old mid new so.sends.sent waiting so.sends.put last)

pub stops_at_end : (input rest : List ℕ) (w : World) (old mid new : Option (List ℕ)) (waiting lent : List ℕ) →
    IsRunning input rest w old waiting mid → lines rest ≡ [] → lent ≡ waiting → PutPrefix mid lent new →
    PutPrefix old (due_for (commands_in handle_in input)) new
stops_at_end input rest w old mid new waiting lent so none same front =
    let last : PutPrefix mid waiting new = subst (λ (x : List ℕ). PutPrefix mid x new) same front in
    put_then_front old mid new (due_for (commands_in handle_in input)) so.sends.sent waiting []
    (all_due input rest w old waiting mid so none ∙ sym (append-nil (so.sends.sent ++ waiting))) so.sends.put last

-- The text that is due for lines that are commands is what the program writes for these commands.
pub puts_program : (old new : Option (List ℕ)) (read : Result (List Command) ℕ) (commands : List Command) → read ≡ Ok commands →
    Put old (due_for read) new → Put old (program commands) new
puts_program old new read commands is put = subst (λ (x : Result (List Command) ℕ). Put old (due_for x) new) is put
