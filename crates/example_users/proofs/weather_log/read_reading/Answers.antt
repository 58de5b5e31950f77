use Rattle.std.proofs.Common.{arith}
use Rattle.std.proofs.lemmas.Int.{ints}
use Rattle.example_users.proofs.LogLemmas.{reading_is_read, told_numbers, first_of, second_of, third_of, number_fits, signed_fits}
use Rattle.example_users.proofs.weather_log.read_reading.Goals as goal

pub overflow_cast-result : goal.overflow_cast-result
overflow_cast-result c =
    let bytes = c.args.bytes.now in
    let read = reading_is_read bytes c.in_ok-format.format c.in_ok-unpack_values.field-0 c.in_ok-format.ensures c.in_ok-unpack_values.ensures in
    let are = told_numbers c.in_ok-unpack_values.field-0 3 c.in_ok-second.field-0 _ c.in_ok-second.ensures read.1 in
    grind (arith, ints, first_of _ _ _ are, number_fits bytes c.type_inv.bytes 4 0 (omega (arith, read.0)))

pub overflow_cast-result-2 : goal.overflow_cast-result-2
overflow_cast-result-2 c =
    let bytes = c.args.bytes.now in
    let read = reading_is_read bytes c.in_ok-format.format c.in_ok-unpack_values.field-0 c.in_ok-format.ensures c.in_ok-unpack_values.ensures in
    let are = told_numbers c.in_ok-unpack_values.field-0 3 c.in_ok-second.field-0 _ c.in_ok-second.ensures read.1 in
    grind (arith, ints, second_of _ _ _ _ are, signed_fits bytes c.type_inv.bytes 4 (omega (arith, read.0)))

pub overflow_cast-result-3 : goal.overflow_cast-result-3
overflow_cast-result-3 c =
    let bytes = c.args.bytes.now in
    let read = reading_is_read bytes c.in_ok-format.format c.in_ok-unpack_values.field-0 c.in_ok-format.ensures c.in_ok-unpack_values.ensures in
    let are = told_numbers c.in_ok-unpack_values.field-0 3 c.in_ok-second.field-0 _ c.in_ok-second.ensures read.1 in
    grind (arith, ints, third_of _ _ _ _ _ are, number_fits bytes c.type_inv.bytes 1 6 (omega (arith, read.0)))

pub returns : goal.returns
returns c =
    let bytes = c.args.bytes.now in
    let read = reading_is_read bytes c.in_ok-format.format c.in_ok-unpack_values.field-0 c.in_ok-format.ensures c.in_ok-unpack_values.ensures in
    let are = told_numbers c.in_ok-unpack_values.field-0 3 c.in_ok-second.field-0 _ c.in_ok-second.ensures read.1 in
    grind (arith, ints, read.0, first_of _ _ _ are, second_of _ _ _ _ are, third_of _ _ _ _ _ are, number_fits bytes c.type_inv.bytes 4 0 (omega (arith, read.0)), signed_fits bytes c.type_inv.bytes 4 (omega (arith, read.0)), number_fits bytes c.type_inv.bytes 1 6 (omega (arith, read.0)))
