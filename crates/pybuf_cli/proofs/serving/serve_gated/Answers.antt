use Rattle.std.proofs.Common.{refl}
use Rattle.pybuf_cli.specs.declared.forms.Form.TheVariants as form
use Rattle.pybuf_cli.proofs.OneForm.{serves_form, serves_as}
use Rattle.pybuf_cli.proofs.serving.serve_gated.Goals as goal

pub returns-then-is_shared : goal.returns-then-is_shared
returns-then-is_shared g c =
    serves_form _ _ form.Share c.share.result _ _ _ _ _ _ _ _ (c.is_shared.ensures.shared c.if-is_shared.true) c.share.ensures.usage (record {
      own = record {
        reads = record {
          too_long = c.share.ensures.too_long;
          takes_front = c.share.ensures.takes_front;
          unread_writes_nothing = c.share.ensures.unread_writes_nothing;
        };
        done = c.share.ensures.done;
        bad_line = c.share.ensures.bad_line;
        disagree = c.share.ensures.disagree;
      };
      prefix = c.share.ensures.prefix;
      complete = c.share.ensures.complete;
      read_fault = c.share.ensures.read_fault;
      write_fault = c.share.ensures.write_fault;
      read_fault_writes_nothing = c.share.ensures.read_fault_writes_nothing;
      too_long_writes_nothing = c.share.ensures.too_long_writes_nothing;
      disagree = λ _. refl;
      bad_data = λ other. absurd (c.share.ensures.bad_data other);
    })

pub returns : goal.returns
returns g c = serves_as _ _ _ c.serve_alone.result _ _ _ _ _ _ _ _ (c.is_shared.ensures.other c.if-is_shared.false) c.serve_alone.ensures
