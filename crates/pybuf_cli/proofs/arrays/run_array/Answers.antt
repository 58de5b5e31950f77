use Rattle.std.proofs.Common.{refl}
use Rattle.pybuf_cli.proofs.Served.{took_too_many, took_few, took_one_more, stopped_short, no_memory_is_short, failed_is_short, no_memory_ends_short, fault_ends_short, answered_otherwise, none_unread}
use Rattle.pybuf_cli.proofs.ArrayServed.{ran, refused}
use Rattle.pybuf_cli.proofs.arrays.run_array.Goals as goal

pub returns-in-Ok-clause-done : goal.returns-in-Ok-clause-done
returns-in-Ok-clause-done g c =
    λ done input told. ran c.args.code _ _ _ _ input c.in-Ok.input.items c.as_slice.result.now c.in-Ok.ensures.took c.in-Ok.ensures.end c.in-Ok.ensures.limit
    c.as_slice.ensures.value (c.answer.ensures.done done) told

pub returns-in-Ok-clause-bad_line : goal.returns-in-Ok-clause-bad_line
returns-in-Ok-clause-bad_line g c =
    λ bad input told. refused _ _ _ _ input c.in-Ok.input.items c.as_slice.result.now c.in-Ok.ensures.took c.in-Ok.ensures.end c.in-Ok.ensures.limit
    c.as_slice.ensures.value (c.answer.ensures.bad_line bad) told

pub returns-in-Ok-clause-takes_front : goal.returns-in-Ok-clause-takes_front
returns-in-Ok-clause-takes_front g c =
    λ input told. took_few _ _ input c.in-Ok.input.items c.answer.result c.in-Ok.ensures.took c.in-Ok.ensures.limit
    (answered_otherwise _ c.answer.result c.answer.ensures.ending) told

pub returns-in-Ok-clause-unread_writes_nothing : goal.returns-in-Ok-clause-unread_writes_nothing
returns-in-Ok-clause-unread_writes_nothing g c =
    λ rest told some. absurd (none_unread _ rest c.in-Ok.ensures.end told some)

pub returns-in-Err-TooLong-clause-too_long : goal.returns-in-Err-TooLong-clause-too_long
returns-in-Err-TooLong-clause-too_long g c =
    λ _ input told. took_too_many _ _ input (c.in-Err-TooLong.ensures.too_long c.in-Err-TooLong.field-0-is) told

pub returns-in-Err-TooLong-clause-takes_front : goal.returns-in-Err-TooLong-clause-takes_front
returns-in-Err-TooLong-clause-takes_front g c =
    λ input told. took_one_more _ _ input _ (c.in-Err-TooLong.ensures.too_long c.in-Err-TooLong.field-0-is) refl told

pub returns-in-Err-NoMemory-clause-takes_front : goal.returns-in-Err-NoMemory-clause-takes_front
returns-in-Err-NoMemory-clause-takes_front g c =
    λ input told. stopped_short _ _ input _ _ _ c.in-Err-NoMemory.ensures.stopped c.in-Err-NoMemory.field-0-is no_memory_is_short no_memory_ends_short
    told

pub returns-in-Err-Failed-clause-takes_front : goal.returns-in-Err-Failed-clause-takes_front
returns-in-Err-Failed-clause-takes_front g c =
    λ input told. stopped_short _ _ input _ _ _ c.in-Err-Failed.ensures.stopped c.in-Err-Failed.field-0-is failed_is_short fault_ends_short told
