use Rattle.std.proofs.Common.{◌==◌, refl, inl}
use Rattle.std.specs.Prelude.{length}
use Rattle.pybuf_nd_lines.specs.Selections.{bytes_due}
use Rattle.pybuf_cli.specs.Nd.{text_of_nd, ending_of_nd}
use Rattle.pybuf_cli.specs.declared.status.Status.TheVariants as status
use Rattle.pybuf_cli.proofs.Served.{took_too_many, took_few, took_one_more, stopped_short, no_memory_is_short, failed_is_short, no_memory_ends_short, fault_ends_short, none_unread}
use Rattle.pybuf_cli.proofs.Data.{data_answers_so, data_front, data_complete, data_too_long, nothing_put}
use Rattle.pybuf_cli.proofs.Selecting.{selected_all, misfit_told}
use Rattle.pybuf_cli.proofs.nd.select.Goals as goal

pub returns-in-Ok-clause-done : goal.returns-in-Ok-clause-done
returns-in-Ok-clause-done g c =
    λ done input told. selected_all c.args.selection.now _ _ _ _ input c.in-Ok.input.items c.as_slice.result.now c.in-Ok.ensures.took c.in-Ok.ensures.end
    c.in-Ok.ensures.limit c.as_slice.ensures.value (c.answer.ensures.done done) told

pub returns-in-Ok-clause-bad_data : goal.returns-in-Ok-clause-bad_data
returns-in-Ok-clause-bad_data g c =
    λ bad input told. misfit_told c.args.selection.now _ _ _ _ input c.in-Ok.input.items c.as_slice.result.now c.in-Ok.ensures.took c.in-Ok.ensures.end
    c.in-Ok.ensures.limit c.as_slice.ensures.value (c.answer.ensures.bad_data bad) told

pub returns-in-Ok-clause-too_long : goal.returns-in-Ok-clause-too_long
returns-in-Ok-clause-too_long g c = λ long. absurd (data_answers_so (length c.as_slice.result.now == bytes_due c.args.selection.now) c.answer.result status.TooLong c.answer.ensures.ending long)

pub returns-in-Ok-clause-takes_front : goal.returns-in-Ok-clause-takes_front
returns-in-Ok-clause-takes_front g c =
    λ input told. took_few _ _ input c.in-Ok.input.items c.answer.result c.in-Ok.ensures.took c.in-Ok.ensures.limit
    (data_answers_so (length c.as_slice.result.now == bytes_due c.args.selection.now) c.answer.result status.TooLong c.answer.ensures.ending) told

pub returns-in-Ok-clause-unread_writes_nothing : goal.returns-in-Ok-clause-unread_writes_nothing
returns-in-Ok-clause-unread_writes_nothing g c =
    λ rest told some. absurd (none_unread _ rest c.in-Ok.ensures.end told some)

pub returns-in-Ok-clause-prefix : goal.returns-in-Ok-clause-prefix
returns-in-Ok-clause-prefix g c =
    λ input told. data_front (text_of_nd c.args.selection.now) _ _ _ _ input c.in-Ok.input.items c.as_slice.result.now c.in-Ok.ensures.took c.in-Ok.ensures.end
    c.in-Ok.ensures.limit c.as_slice.ensures.value c.answer.ensures.prefix told

pub returns-in-Ok-clause-complete : goal.returns-in-Ok-clause-complete
returns-in-Ok-clause-complete g c =
    λ input told _ fine. data_complete (ending_of_nd c.args.selection.now) _ _ input c.in-Ok.input.items c.as_slice.result.now c.answer.result _ c.in-Ok.ensures.took
    c.in-Ok.ensures.end c.in-Ok.ensures.limit c.as_slice.ensures.value c.answer.ensures.ending c.answer.ensures.rose told fine

pub returns-in-Ok-clause-read_fault : goal.returns-in-Ok-clause-read_fault
returns-in-Ok-clause-read_fault g c = λ fault. absurd (data_answers_so (length c.as_slice.result.now == bytes_due c.args.selection.now) c.answer.result status.ReadFault c.answer.ensures.ending fault)

pub returns-in-Ok-clause-read_fault_writes_nothing : goal.returns-in-Ok-clause-read_fault_writes_nothing
returns-in-Ok-clause-read_fault_writes_nothing g c =
    λ fault. absurd (data_answers_so (length c.as_slice.result.now == bytes_due c.args.selection.now) c.answer.result status.ReadFault c.answer.ensures.ending fault)

pub returns-in-Ok-clause-too_long_writes_nothing : goal.returns-in-Ok-clause-too_long_writes_nothing
returns-in-Ok-clause-too_long_writes_nothing g c =
    λ long. absurd (data_answers_so (length c.as_slice.result.now == bytes_due c.args.selection.now) c.answer.result status.TooLong c.answer.ensures.ending long)

pub returns-in-Ok-clause-usage : goal.returns-in-Ok-clause-usage
returns-in-Ok-clause-usage g c = data_answers_so (length c.as_slice.result.now == bytes_due c.args.selection.now) c.answer.result status.Usage c.answer.ensures.ending

pub returns-in-Ok-clause-bad_line : goal.returns-in-Ok-clause-bad_line
returns-in-Ok-clause-bad_line g c = data_answers_so (length c.as_slice.result.now == bytes_due c.args.selection.now) c.answer.result status.BadLine c.answer.ensures.ending

pub returns-in-Ok-clause-disagree : goal.returns-in-Ok-clause-disagree
returns-in-Ok-clause-disagree g c = data_answers_so (length c.as_slice.result.now == bytes_due c.args.selection.now) c.answer.result status.Disagree c.answer.ensures.ending

pub returns-in-Err-TooLong-clause-too_long : goal.returns-in-Err-TooLong-clause-too_long
returns-in-Err-TooLong-clause-too_long g c =
    λ _ input told. took_too_many _ _ input (c.in-Err-TooLong.ensures.too_long c.in-Err-TooLong.field-0-is) told

pub returns-in-Err-TooLong-clause-takes_front : goal.returns-in-Err-TooLong-clause-takes_front
returns-in-Err-TooLong-clause-takes_front g c =
    λ input told. took_one_more _ _ input _ (c.in-Err-TooLong.ensures.too_long c.in-Err-TooLong.field-0-is) refl told

pub returns-in-Err-TooLong-clause-prefix : goal.returns-in-Err-TooLong-clause-prefix
returns-in-Err-TooLong-clause-prefix g c = λ input _. nothing_put _ _

pub returns-in-Err-TooLong-clause-complete : goal.returns-in-Err-TooLong-clause-complete
returns-in-Err-TooLong-clause-complete g c =
    λ input told _ _. inl (data_too_long (ending_of_nd c.args.selection.now) input (took_too_many _ _ input (c.in-Err-TooLong.ensures.too_long c.in-Err-TooLong.field-0-is) told).long)

pub returns-in-Err-NoMemory-clause-takes_front : goal.returns-in-Err-NoMemory-clause-takes_front
returns-in-Err-NoMemory-clause-takes_front g c =
    λ input told. stopped_short _ _ input _ _ _ c.in-Err-NoMemory.ensures.stopped c.in-Err-NoMemory.field-0-is no_memory_is_short no_memory_ends_short
    told

pub returns-in-Err-NoMemory-clause-prefix : goal.returns-in-Err-NoMemory-clause-prefix
returns-in-Err-NoMemory-clause-prefix g c = λ input _. nothing_put _ _

pub returns-in-Err-Failed-clause-takes_front : goal.returns-in-Err-Failed-clause-takes_front
returns-in-Err-Failed-clause-takes_front g c =
    λ input told. stopped_short _ _ input _ _ _ c.in-Err-Failed.ensures.stopped c.in-Err-Failed.field-0-is failed_is_short fault_ends_short told

pub returns-in-Err-Failed-clause-prefix : goal.returns-in-Err-Failed-clause-prefix
returns-in-Err-Failed-clause-prefix g c = λ input _. nothing_put _ _
