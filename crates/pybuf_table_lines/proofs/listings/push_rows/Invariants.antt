use Rattle.std.proofs.Common.{◌≡◌, ◌++◌, map, take}
use Rattle.std.specs.List.{flat_map}
use Rattle.pybuf_table_lines.specs.Texts.{row_line}
use Rattle.pybuf_table_lines.proofs.listings.push_rows.Given as goal

abbrev pub invariant-loop-row : goal.invariant-loop-row
invariant-loop-row l = l.out.items ≡ l.initial.out.items ++ flat_map row_line (map (λ row. row.1) (take l.row-index l.rows))
