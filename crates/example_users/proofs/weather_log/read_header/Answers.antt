use Rattle.std.proofs.Common.{arith, sym}
use Rattle.std.proofs.lemmas.Int.{ints}
use Rattle.std.proofs.lemmas.List.{length-take-le}
use Rattle.example_users.proofs.LogLemmas.{header_is_read, told_numbers, first_of, second_of, number_fits}
use Rattle.example_users.proofs.weather_log.read_header.Goals as goal

pub slice_bounds-ne-end : goal.slice_bounds-ne-end
slice_bounds-ne-end c =
    let file = c.args.file.now in
    let read = header_is_read file c.in_ok-format.format c.in_ok-unpack_from.field-0 c.in_ok-format.ensures c.in_ok-unpack_from.ensures in
    sym (length-take-le 4 file (omega (arith, read.0)))

pub returns-then-ne : goal.returns-then-ne
returns-then-ne c =
    let file = c.args.file.now in
    let read = header_is_read file c.in_ok-format.format c.in_ok-unpack_from.field-0 c.in_ok-format.ensures c.in_ok-unpack_from.ensures in
    grind (arith, read.0)

pub overflow_cast-year : goal.overflow_cast-year
overflow_cast-year c =
    let file = c.args.file.now in
    let read = header_is_read file c.in_ok-format.format c.in_ok-unpack_from.field-0 c.in_ok-format.ensures c.in_ok-unpack_from.ensures in
    let are = told_numbers c.in_ok-unpack_from.field-0 2 c.in_ok-year.field-0 _ c.in_ok-year.ensures read.1 in
    grind (arith, ints, first_of _ _ _ are, number_fits file c.type_inv.file 2 4 (omega (arith, read.0)))

pub overflow_cast-count : goal.overflow_cast-count
overflow_cast-count c =
    let file = c.args.file.now in
    let read = header_is_read file c.in_ok-format.format c.in_ok-unpack_from.field-0 c.in_ok-format.ensures c.in_ok-unpack_from.ensures in
    let are = told_numbers c.in_ok-unpack_from.field-0 2 c.in_ok-year.field-0 _ c.in_ok-year.ensures read.1 in
    grind (arith, ints, second_of _ _ _ _ are, number_fits file c.type_inv.file 4 6 (omega (arith, read.0)))

pub returns : goal.returns
returns c =
    let file = c.args.file.now in
    let read = header_is_read file c.in_ok-format.format c.in_ok-unpack_from.field-0 c.in_ok-format.ensures c.in_ok-unpack_from.ensures in
    let are = told_numbers c.in_ok-unpack_from.field-0 2 c.in_ok-year.field-0 _ c.in_ok-year.ensures read.1 in
    grind (arith, ints, read.0, first_of _ _ _ are, second_of _ _ _ _ are, number_fits file c.type_inv.file 2 4 (omega (arith, read.0)), number_fits file c.type_inv.file 4 6 (omega (arith, read.0)))
