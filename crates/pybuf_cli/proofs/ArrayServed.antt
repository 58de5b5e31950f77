-- What was read and put for the operations of an array, if the source tells its bytes.
use Rattle.std.proofs.Common.{◌≡◌, ℕ, ◌≤◌, List, [], length, Option, Some, Ok, Err, sym, ◌∙◌, ap, arith}
use Rattle.pybuf_numbers.specs.declared.codes.ArrayCode.{ArrayCode}
use Rattle.pybuf_array.specs.declared.operations.ArrayOp.{ArrayOp}
use Rattle.pybuf_array.specs.Array.{new_array}
use Rattle.pybuf_array.specs.Operations.{KeepsLengthWhileViewed}
use Rattle.pybuf_array_lines.specs.Inputs.{operations_in}
use Rattle.pybuf_line.specs.Replies.{bad_line_text}
use Rattle.pybuf_cli.specs.Devices.{Took, AtEnd, Put}
use Rattle.pybuf_cli.specs.Program.{most}
use Rattle.pybuf_cli.specs.Arrays.{array_program, IsDoneArray, IsBadLineArray}
use Rattle.pybuf_cli.proofs.Served.{took_all, held_is}

pub ran : (c : ArrayCode) (old new held_before held : Option (List ℕ)) (input bytes lent : List ℕ) → Took old bytes new → AtEnd new →
    length bytes ≤ most → lent ≡ bytes →
    ((operations : List ArrayOp) × (operations_in lent ≡ Ok operations) × KeepsLengthWhileViewed (new_array c) operations
    × Put held_before (array_program c operations) held) → old ≡ Some input → IsDoneArray c input new held_before held
ran c old new held_before held input bytes lent took end short same done told =
    let all = took_all old new input bytes took end told in
    record {
      all_read = all.1;
      short = omega (arith, short, ap length all.0);
      operations = done.0;
      spelled = sym (ap operations_in (same ∙ all.0)) ∙ done.1;
      sound = done.2;
      put = done.3;
    }

pub refused : (old new held_before held : Option (List ℕ)) (input bytes lent : List ℕ) → Took old bytes new → AtEnd new →
    length bytes ≤ most → lent ≡ bytes → ((line : ℕ) × (operations_in lent ≡ Err line) × Put held_before (bad_line_text line) held) →
    old ≡ Some input → IsBadLineArray input new held_before held
refused old new held_before held input bytes lent took end short same bad told =
    let all = took_all old new input bytes took end told in
    record {
      all_read = all.1;
      short = omega (arith, short, ap length all.0);
      line = bad.0;
      first = sym (ap operations_in (same ∙ all.0)) ∙ bad.1;
      put = bad.2;
    }

-- ---- bytes in memory

pub quiet_ran : (c : ArrayCode) (input told held_before held out : List ℕ) (left : Option (List ℕ)) → told ≡ input → held_before ≡ [] → out ≡ held →
    IsDoneArray c told left (Some held_before) (Some held) →
    (operations : List ArrayOp) × (operations_in input ≡ Ok operations) × (out ≡ array_program c operations)
quiet_ran c input told held_before held out left same empty kept done = (
  done.operations,
  sym (ap operations_in same) ∙ done.spelled,
  kept ∙ held_is held_before held (array_program c done.operations) empty done.put,
)

pub quiet_refused : (input told held_before held out : List ℕ) (left : Option (List ℕ)) → told ≡ input → held_before ≡ [] → out ≡ held →
    IsBadLineArray told left (Some held_before) (Some held) → (line : ℕ) × (operations_in input ≡ Err line) × (out ≡ bad_line_text line)
quiet_refused input told held_before held out left same empty kept bad =
    (bad.line, sym (ap operations_in same) ∙ bad.first, kept ∙ held_is held_before held (bad_line_text bad.line) empty bad.put)
