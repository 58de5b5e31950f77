use Rattle.std.proofs.Common.{List, Result, pos, sym, subst}
use Rattle.pybuf_value.specs.declared.faults.Fault.{Fault}
use Rattle.pybuf_value.specs.declared.halt.Halt.{Halt}
use Rattle.pybuf_value.specs.declared.values.Scalar.{Scalar}
use Rattle.pybuf_value.specs.Halting.{Gives}
use Rattle.pybuf_table.specs.Offsets.{row_from}
use Rattle.example_users.proofs.ElfLemmas.{header_read_by, given_so}
use Rattle.example_users.proofs.elf_file.header_values.Goals as goal

pub returns : goal.returns
returns c =
    let file = c.args.file.now in
    let r = c.in_ok-records.records in
    let wanted : Result (List Scalar) Fault = row_from r.format (pos 0) file in
    let given : Gives wanted c.done.result =
    subst (λ (x : Result (List Scalar) Halt). Gives wanted x) (sym c.done.ensures) (given_so wanted c.unpack_from.result c.unpack_from.ensures) in
    subst (λ (w : Result (List Scalar) Fault). Gives w c.done.result) (header_read_by file r c.in_ok-records.ensures) given
