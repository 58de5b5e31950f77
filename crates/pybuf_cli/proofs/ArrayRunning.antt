-- Runs of operations on an array, line by line. The replies to the lines that are left are the rest of the text
-- that is due.
use Rattle.std.proofs.Common.{◌≡◌, ℕ, ◌+◌, List, [], ◌∷◌, ◌++◌, Option, Some, None, Result, Ok, Err, refl, sym, ◌∙◌, ap, subst}
use Rattle.pybuf_numbers.specs.declared.codes.ArrayCode.{ArrayCode}
use Rattle.pybuf_array.specs.declared.operations.ArrayOp.{ArrayOp}
use Rattle.pybuf_array.specs.declared.operations.ArrayReply.{ArrayReply}
use Rattle.pybuf_array.specs.Array.{Array, new_array}
use Rattle.pybuf_array.specs.Operations.{astep, replies_of}
use Rattle.pybuf_line.specs.Lines.{lines}
use Rattle.pybuf_array_lines.specs.Operations.{operation_in}
use Rattle.pybuf_array_lines.specs.Inputs.{operation_before, operations_from, operations_in}
use Rattle.pybuf_array_lines.specs.Replies.{array_reply_line, array_reply_lines}
use Rattle.pybuf_cli.specs.Devices.{Put, PutPrefix, Sends}
use Rattle.pybuf_cli.specs.Arrays.{array_program, array_due_for}
use Rattle.pybuf_cli.specs.ArrayRunning.{IsOperation, AreOperations, IsCarriedOut, IsAnswered}
use Rattle.pybuf_cli.proofs.Sending.{sends_nothing}
use Rattle.pybuf_cli.proofs.Pieces.{IsWritten, writes_next, stops_before, stops_behind, ends_put}

-- the text that is due for the lines of an input
abbrev due_of : ArrayCode → List ℕ → List ℕ
due_of c input = array_due_for c (operations_in input)

-- The lines that are left are operations, and their replies on this array are still to come.
pub record IsRunning (c : ArrayCode) (input rest : List ℕ) (a : Array) (old : Option (List ℕ)) (waiting : List ℕ) (held : Option (List ℕ)) : Type 0 where
  pub number : ℕ
  pub operations : List ArrayOp
  pub left : operations_from number (lines rest) ≡ Ok operations
  pub written : IsWritten (due_of c input) (array_reply_lines (replies_of a operations)) old waiting held

-- the first of some lines that are operations, and the others
record IsCut (line : List ℕ) (others : List (List ℕ)) (number : ℕ) (operations : List ArrayOp) : Type 0 where
  operation : ArrayOp
  more : List ArrayOp
  spelled : operation_in line ≡ Some operation
  whole : operations ≡ operation ∷ more
  left : operations_from (number + 1) others ≡ Ok more

cut_before : (number : ℕ) (line : List ℕ) (others : List (List ℕ)) (operations : List ArrayOp) (o : Option ArrayOp) (r : Result (List ArrayOp) ℕ) →
    operation_in line ≡ o → operations_from (number + 1) others ≡ r → operation_before number o r ≡ Ok operations →
    IsCut line others number operations
cut_before number line others operations None r here there is = absurd (cc)
cut_before number line others operations (Some o) (Ok more) here there is = record {
  operation = o;
  more = more;
  spelled = here;
  whole = cc;
  left = there;
}
cut_before number line others operations (Some o) (Err n) here there is = absurd (cc)

cut_at : (rest line after : List ℕ) (number : ℕ) (operations : List ArrayOp) → operations_from number (lines rest) ≡ Ok operations →
    lines rest ≡ line ∷ lines after → IsCut line (lines after) number operations
cut_at rest line after number operations left cut =
    cut_before number line (lines after) operations (operation_in line) (operations_from (number + 1) (lines after)) refl refl
    (sym (ap (operations_from number) cut) ∙ left)

-- an operation that was carried out, by its step and by what was added to the text
pub carried_out : (a next : Array) (o : ArrayOp) (r : ArrayReply) (text longer : List ℕ) → astep a o ≡ (next, r) →
    longer ≡ text ++ array_reply_line r → IsCarriedOut a o text next longer
carried_out a next o r text longer stepped pushed = (
  ap (λ (p : Array × ArrayReply). p.0) (sym stepped),
  pushed ∙ ap (λ (p : Array × ArrayReply). text ++ array_reply_line p.1) (sym stepped),
)

-- The first line that is left is an operation.
pub spelled_first : (c : ArrayCode) (input rest line after : List ℕ) (a : Array) (old : Option (List ℕ)) (waiting : List ℕ) (held : Option (List ℕ)) →
    IsRunning c input rest a old waiting held → lines rest ≡ line ∷ lines after → IsOperation line
spelled_first c input rest line after a old waiting held so cut =
    let first = cut_at rest line after so.number so.operations so.left cut in (first.operation, first.spelled)

pub begins : (c : ArrayCode) (input : List ℕ) (a : Array) (old : Option (List ℕ)) → AreOperations input → a ≡ new_array c →
    IsRunning c input input a old [] old
begins c input a old spelled empty = record {
  number = 1;
  operations = spelled.0;
  left = spelled.1;
  written = record {
    text = [];
    whole = ap (array_due_for c) spelled.1 ∙ ap (λ (x : Array). array_reply_lines (replies_of x spelled.0)) (sym empty);
    sends = sends_nothing old;
  };
}

-- what the first line that is left replies, and what the other lines do
record IsNext (c : ArrayCode) (input after : List ℕ) (next : Array) (old : Option (List ℕ)) (waiting shown : List ℕ) (held : Option (List ℕ)) : Type 0 where
  number : ℕ
  more : List ArrayOp
  left : operations_from number (lines after) ≡ Ok more
  written : IsWritten (due_of c input) (shown ++ array_reply_lines (replies_of next more)) old waiting held

-- A reply that was written by itself is that of the line.
next_line : (c : ArrayCode) (input rest line after : List ℕ) (a next : Array) (old held : Option (List ℕ)) (waiting before shown : List ℕ) →
    IsRunning c input rest a old waiting held → lines rest ≡ line ∷ lines after → before ≡ [] → IsAnswered a line before next shown →
    IsNext c input after next old waiting shown held
next_line c input rest line after a next old held waiting before shown so cut none answered =
    let first = cut_at rest line after so.number so.operations so.left cut in
    let step = answered first.operation first.spelled in
    let reply = array_reply_line (astep a first.operation).1 in
    let is : shown ≡ reply = step.1 ∙ ap (λ (x : List ℕ). x ++ reply) none in
    let to_come : array_reply_lines (replies_of a so.operations) ≡ shown ++ array_reply_lines (replies_of next first.more) =
    ap (λ (os : List ArrayOp). array_reply_lines (replies_of a os)) first.whole
    ∙ (ap (λ (x : Array). reply ++ array_reply_lines (replies_of x first.more)) (sym step.0)
    ∙ ap (λ (x : List ℕ). x ++ array_reply_lines (replies_of next first.more)) (sym is)) in
    record {
      number = so.number + 1;
      more = first.more;
      left = first.left;
      written = subst (λ (x : List ℕ). IsWritten (due_of c input) x old waiting held) to_come so.written;
    }

-- One more line was run, and its text was put or still waits.
pub goes_on : (c : ArrayCode) (input rest line after : List ℕ) (a next : Array) (old mid new : Option (List ℕ)) (waiting before shown left : List ℕ) →
    IsRunning c input rest a old waiting mid → lines rest ≡ line ∷ lines after → before ≡ [] → IsAnswered a line before next shown →
    Sends mid (waiting ++ shown) left new → IsRunning c input after next old left new
goes_on c input rest line after a next old mid new waiting before shown left so cut none answered sent =
    let one = next_line c input rest line after a next old mid waiting before shown so cut none answered in
    record {
      number = one.number;
      operations = one.more;
      left = one.left;
      written = writes_next (due_of c input) shown (array_reply_lines (replies_of next one.more)) old mid new waiting left one.written sent;
    }

-- The run stops before a line, or while the line is run. The front of what waits was put.
pub stopped_before : (c : ArrayCode) (input rest : List ℕ) (a : Array) (old mid new : Option (List ℕ)) (waiting lent : List ℕ) →
    IsRunning c input rest a old waiting mid → lent ≡ waiting → PutPrefix mid lent new → PutPrefix old (due_of c input) new
stopped_before c input rest a old mid new waiting lent so same front =
    stops_before (due_of c input) (array_reply_lines (replies_of a so.operations)) old mid new waiting lent so.written same front

-- The run stops while the text behind a line is put.
pub stopped_behind : (c : ArrayCode) (input rest line after : List ℕ) (a next : Array) (old mid new : Option (List ℕ)) (waiting before shown : List ℕ) →
    IsRunning c input rest a old waiting mid → lines rest ≡ line ∷ lines after → before ≡ [] → IsAnswered a line before next shown →
    PutPrefix mid (waiting ++ shown) new → PutPrefix old (due_of c input) new
stopped_behind c input rest line after a next old mid new waiting before shown so cut none answered front =
    let one = next_line c input rest line after a next old mid waiting before shown so cut none answered in
    stops_behind (due_of c input) shown (array_reply_lines (replies_of next one.more)) old mid new waiting one.written front

-- No line is left, so what was put and what waits are all that is due.
pub ended : (c : ArrayCode) (input rest : List ℕ) (a : Array) (old mid new : Option (List ℕ)) (waiting lent : List ℕ) →
    IsRunning c input rest a old waiting mid → lines rest ≡ [] → lent ≡ waiting → Put mid lent new → Put old (due_of c input) new
ended c input rest a old mid new waiting lent so none same put =
    let all : Ok [] ≡ Ok so.operations = sym (ap (operations_from so.number) none) ∙ so.left in
    let empty : so.operations ≡ [] = cc in
    let last : IsWritten (due_of c input) [] old waiting mid =
    subst (λ (os : List ArrayOp). IsWritten (due_of c input) (array_reply_lines (replies_of a os)) old waiting mid) empty so.written in
    ends_put (due_of c input) old mid new waiting lent last same put

-- The text that is due for lines that are operations is that of their replies.
pub puts_program : (c : ArrayCode) (old new : Option (List ℕ)) (read : Result (List ArrayOp) ℕ) (operations : List ArrayOp) → read ≡ Ok operations →
    Put old (array_due_for c read) new → Put old (array_program c operations) new
puts_program c old new read operations is put = subst (λ (x : Result (List ArrayOp) ℕ). Put old (array_due_for c x) new) is put
