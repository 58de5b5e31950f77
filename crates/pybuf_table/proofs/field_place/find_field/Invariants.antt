use Rattle.std.proofs.Common.{◌≡◌, ◌+◌, ◌≤◌, drop}
use Rattle.std.specs.Prelude.{slice_get}
use Rattle.pybuf_struct.specs.Formats.{extent, fields, fields_from}
use Rattle.pybuf_table.proofs.field_place.find_field.Given as goal

abbrev pub invariant-loop-code : goal.invariant-loop-code
invariant-loop-code l = record {
  here : slice_get (fields_from l.order l.at (drop l.code-index l.codes)) l.left ≡ slice_get (fields l.format) l.field;
  inside : l.at + extent l.order (drop l.code-index l.codes) ≤ l.format.size;
}
