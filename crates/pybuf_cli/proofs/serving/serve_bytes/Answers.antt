use Rattle.std.proofs.Common.{ap, refl}
use Rattle.pybuf_cli.specs.Program.{alone, form_of}
use Rattle.pybuf_cli.proofs.Served.{quiet_ran, quiet_refused, quiet_made, quiet_front, quiet_ends}
use Rattle.pybuf_cli.proofs.ArrayServed as array
use Rattle.pybuf_cli.proofs.Tabling.{quiet_listed, quiet_bad_data}
use Rattle.pybuf_cli.proofs.Selecting.{quiet_selected, quiet_misfit}
use Rattle.pybuf_cli.proofs.OneForm.{never_rose, reads_well, writes_well, agrees_alone}
use Rattle.pybuf_cli.proofs.serving.serve_bytes.Goals as goal

pub returns-clause-done : goal.returns-clause-done
returns-clause-done c =
    λ f done. quiet_ran c.args.input c.new-source.result c.new-sink.result c.serve_alone-status.new.sink c.into_bytes.result _
    c.new-source.ensures c.new-sink.ensures c.into_bytes.ensures ((c.serve_alone-status.ensures.served _ (ap alone f)).own.done done c.new-source.result refl)

pub returns-clause-bad_line : goal.returns-clause-bad_line
returns-clause-bad_line c =
    λ f bad. quiet_refused c.args.input c.new-source.result c.new-sink.result c.serve_alone-status.new.sink c.into_bytes.result _
    c.new-source.ensures c.new-sink.ensures c.into_bytes.ensures ((c.serve_alone-status.ensures.served _ (ap alone f)).own.bad_line bad c.new-source.result refl)

pub returns-clause-prefix : goal.returns-clause-prefix
returns-clause-prefix c =
    λ f asked. quiet_front f c.args.input c.new-source.result c.new-sink.result c.serve_alone-status.new.sink c.into_bytes.result c.new-source.ensures
    c.new-sink.ensures c.into_bytes.ensures ((c.serve_alone-status.ensures.served f asked).prefix c.new-source.result refl)

pub returns-clause-made : goal.returns-clause-made
returns-clause-made c =
    λ n asked done. quiet_made _ c.new-sink.result c.serve_alone-status.new.sink c.into_bytes.result c.new-sink.ensures c.into_bytes.ensures
    ((c.serve_alone-status.ensures.served _ (ap alone asked)).own.made done)

pub returns-clause-array_done : goal.returns-clause-array_done
returns-clause-array_done c =
    λ code f done. array.quiet_ran code c.args.input c.new-source.result c.new-sink.result c.serve_alone-status.new.sink c.into_bytes.result _
    c.new-source.ensures c.new-sink.ensures c.into_bytes.ensures ((c.serve_alone-status.ensures.served _ (ap alone f)).own.done done c.new-source.result refl)

pub returns-clause-array_bad_line : goal.returns-clause-array_bad_line
returns-clause-array_bad_line c =
    λ code f bad. array.quiet_refused c.args.input c.new-source.result c.new-sink.result c.serve_alone-status.new.sink c.into_bytes.result _
    c.new-source.ensures c.new-sink.ensures c.into_bytes.ensures ((c.serve_alone-status.ensures.served _ (ap alone f)).own.bad_line bad c.new-source.result refl)

pub returns-clause-listed : goal.returns-clause-listed
returns-clause-listed c =
    λ l asked done. quiet_listed l c.args.input c.new-source.result c.new-sink.result c.serve_alone-status.new.sink c.into_bytes.result _
    c.new-source.ensures c.new-sink.ensures c.into_bytes.ensures
    ((c.serve_alone-status.ensures.served _ (ap alone asked)).own.done done c.new-source.result refl)

pub returns-clause-bad_data : goal.returns-clause-bad_data
returns-clause-bad_data c =
    λ l asked bad. quiet_bad_data l c.args.input c.new-source.result c.new-sink.result c.serve_alone-status.new.sink c.into_bytes.result _
    c.new-source.ensures c.new-sink.ensures c.into_bytes.ensures
    ((c.serve_alone-status.ensures.served _ (ap alone asked)).own.bad_data bad c.new-source.result refl)

pub returns-clause-selected : goal.returns-clause-selected
returns-clause-selected c =
    λ s asked done. quiet_selected s c.args.input c.new-source.result c.new-sink.result c.serve_alone-status.new.sink c.into_bytes.result _
    c.new-source.ensures c.new-sink.ensures c.into_bytes.ensures
    ((c.serve_alone-status.ensures.served _ (ap alone asked)).own.done done c.new-source.result refl)

pub returns-clause-misfit : goal.returns-clause-misfit
returns-clause-misfit c =
    λ s asked bad. quiet_misfit s c.args.input c.new-source.result c.new-sink.result c.serve_alone-status.new.sink c.into_bytes.result _
    c.new-source.ensures c.new-sink.ensures c.into_bytes.ensures
    ((c.serve_alone-status.ensures.served _ (ap alone asked)).own.bad_data bad c.new-source.result refl)

pub returns-clause-complete : goal.returns-clause-complete
returns-clause-complete c =
    λ f asked. quiet_ends f c.args.input c.new-source.result c.serve_alone-status.result c.new-source.ensures
    ((c.serve_alone-status.ensures.served f asked).complete c.new-source.result refl (never_rose 0 0 refl refl) (never_rose 0 0 refl refl))

pub returns-clause-no_read_fault : goal.returns-clause-no_read_fault
returns-clause-no_read_fault c = reads_well _ _ _ _ _ _ _ _ _ _ _ c.serve_alone-status.ensures (never_rose 0 0 refl refl)

pub returns-clause-no_write_fault : goal.returns-clause-no_write_fault
returns-clause-no_write_fault c = writes_well _ _ _ _ _ _ _ _ _ _ _ c.serve_alone-status.ensures (never_rose 0 0 refl refl)

pub returns-clause-disagree : goal.returns-clause-disagree
returns-clause-disagree c = agrees_alone _ (form_of c.args.words.now) _ _ _ _ _ _ _ _ _ _ refl c.serve_alone-status.ensures
