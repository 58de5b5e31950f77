use Rattle.std.proofs.Common.{arith}
use Rattle.std.proofs.lemmas.Int.{ints}
use Rattle.example_users.proofs.LogLemmas.{told_numbers, first_of, third_of, number_fits}
use Rattle.example_users.proofs.ElfLemmas.{is_header, fourth_of}
use Rattle.example_users.proofs.elf_file.read_section_table.Goals as goal

pub overflow_cast-result : goal.overflow_cast-result
overflow_cast-result c =
    let file = c.args.file.now in
    let read = is_header file c.in_ok-header_values.field-0 c.in_ok-header_values.ensures in
    let are = told_numbers c.in_ok-header_values.field-0 4 c.in_ok-start.field-0 _ c.in_ok-start.ensures read.numbers in
    grind (arith, ints, first_of _ _ _ are, number_fits file c.type_inv.file 8 40 (omega (arith, read.long)))

pub overflow_cast-result-2 : goal.overflow_cast-result-2
overflow_cast-result-2 c =
    let file = c.args.file.now in
    let read = is_header file c.in_ok-header_values.field-0 c.in_ok-header_values.ensures in
    let are = told_numbers c.in_ok-header_values.field-0 4 c.in_ok-start.field-0 _ c.in_ok-start.ensures read.numbers in
    grind (arith, ints, third_of _ _ _ _ _ are, number_fits file c.type_inv.file 2 60 (omega (arith, read.long)))

pub overflow_cast-result-3 : goal.overflow_cast-result-3
overflow_cast-result-3 c =
    let file = c.args.file.now in
    let read = is_header file c.in_ok-header_values.field-0 c.in_ok-header_values.ensures in
    let are = told_numbers c.in_ok-header_values.field-0 4 c.in_ok-start.field-0 _ c.in_ok-start.ensures read.numbers in
    grind (arith, ints, fourth_of _ _ _ _ _ _ are, number_fits file c.type_inv.file 2 62 (omega (arith, read.long)))
