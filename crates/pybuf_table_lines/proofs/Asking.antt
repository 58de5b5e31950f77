-- What a query may ask of records.
use Rattle.std.proofs.Common.{ℕ, ◌&&◌, Bool, true, false, not, List}
use Rattle.std.specs.Prelude.{Option, Some, None, Result, Ok, Err}
use Rattle.pybuf_value.specs.declared.faults.Fault.{Fault}
use Rattle.pybuf_value.specs.declared.faults.Fault.TheVariants as fault
use Rattle.pybuf_value.specs.declared.values.Scalar.{Scalar}
use Rattle.pybuf_value.specs.declared.values.CompareOp.{CompareOp}
use Rattle.pybuf_value.specs.Order.{is_order}
use Rattle.pybuf_struct.specs.Formats.{Field}
use Rattle.pybuf_table.specs.Chosen.{has_bytes}

-- the answer for whole records, by whether the query may be asked
abbrev answer_by : Bool → List (ℕ × List Scalar) → Result (List (ℕ × List Scalar)) Fault
answer_by true rows = Ok rows
answer_by false rows = Err fault.Kind

-- A query of whole records gets its answer if it may be asked, and otherwise it is refused.
abbrev answered : Option Field → CompareOp → List (ℕ × List Scalar) → Result (List (ℕ × List Scalar)) Fault
answered None o rows = Err fault.Index
answered (Some place) o rows = answer_by (not (is_order o && has_bytes place.code)) rows
