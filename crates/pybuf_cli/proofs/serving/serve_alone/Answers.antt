use Rattle.std.proofs.Common.{◌≡◌, Some, None, ap, refl, sym, ◌∙◌}
use Rattle.pybuf_cli.specs.declared.forms.Form.TheVariants as form
use Rattle.pybuf_cli.specs.declared.status.Status.{Status}
use Rattle.pybuf_cli.specs.declared.status.Status.TheVariants as status
use Rattle.pybuf_cli.specs.Program.{form_of, alone}
use Rattle.pybuf_cli.proofs.OneForm.{serves_none, serves_unread, asks_alone, serves_form, made_whole, is_end_of_make, made_ends_so}
use Rattle.pybuf_cli.proofs.serving.serve_alone.Goals as goal

pub returns-in_default : goal.returns-in_default
returns-in_default g c = serves_unread _ _ _ _ _ _ _ _ c.in_default.ensures.memory (asks_alone _ c.in_default.ensures.data)

pub returns-in-None : goal.returns-in-None
returns-in-None g c =
    let is : form_of c.args.words.now ≡ None = sym c.in-Ok.ensures.form ∙ c.in-None.is in
    serves_none _ _ _ _ _ _ _ _ (ap alone is)

pub returns-in-Some-Share : goal.returns-in-Some-Share
returns-in-Some-Share g c =
    let is : form_of c.args.words.now ≡ Some form.Share = sym c.in-Ok.ensures.form ∙ (c.in-Some-Share.is ∙ ap Some c.in-Some-Share.field-0-is) in
    serves_none _ _ _ _ _ _ _ _ (ap alone is)

pub returns-in-Some-Run : goal.returns-in-Some-Run
returns-in-Some-Run g c =
    let is : form_of c.args.words.now ≡ Some form.Run = sym c.in-Ok.ensures.form ∙ (c.in-Some-Run.is ∙ ap Some c.in-Some-Run.field-0-is) in
    serves_form _ _ form.Run c.run.result _ _ _ _ _ _ _ _ (ap alone is) c.run.ensures.usage (record {
      own = record {
        reads = record {
          too_long = c.run.ensures.too_long;
          takes_front = c.run.ensures.takes_front;
          unread_writes_nothing = c.run.ensures.unread_writes_nothing;
        };
        done = c.run.ensures.done;
        bad_line = c.run.ensures.bad_line;
      };
      prefix = λ input told. record { text = _; due = refl; front = c.run.ensures.prefix input told };
      complete = c.run.ensures.complete;
      read_fault = c.run.ensures.read_fault;
      write_fault = c.run.ensures.write_fault;
      read_fault_writes_nothing = c.run.ensures.read_fault_writes_nothing;
      too_long_writes_nothing = c.run.ensures.too_long_writes_nothing;
      disagree = λ other. absurd (c.run.ensures.disagree other);
      bad_data = λ other. absurd (c.run.ensures.bad_data other);
    })

pub returns-in-Some-Make : goal.returns-in-Some-Make
returns-in-Some-Make g c =
    let is : form_of c.args.words.now ≡ Some (form.Make c.in-Some-Make.number) =
    sym c.in-Ok.ensures.form ∙ (c.in-Some-Make.is ∙ ap Some c.in-Some-Make.field-0-is) in
    let Ends : (other : Status) → c.make.result ≡ other → is_end_of_make other = λ other. made_ends_so c.make.result other c.make.ensures.ending in
    serves_form _ _ (form.Make c.in-Some-Make.number) c.make.result _ _ _ _ _ _ _ _ (ap alone is) (Ends status.Usage) (record {
      own = record {
        made = c.make.ensures.put;
        made_prefix = c.make.ensures.prefix;
        made_reads_nothing = refl;
        made_ends = c.make.ensures.ending;
      };
      prefix = λ input told. record { text = _; due = refl; front = c.make.ensures.prefix };
      complete = λ input told fine_source fine. made_whole c.make.result _ c.make.ensures.ending c.make.ensures.rose fine;
      read_fault = λ fault. absurd (Ends status.ReadFault fault);
      write_fault = c.make.ensures.rose;
      read_fault_writes_nothing = λ fault. absurd (Ends status.ReadFault fault);
      too_long_writes_nothing = λ long. absurd (Ends status.TooLong long);
      disagree = λ other. absurd (Ends status.Disagree other);
      bad_data = λ other. absurd (Ends status.BadData other);
    })

pub returns-in-Some-Array : goal.returns-in-Some-Array
returns-in-Some-Array g c =
    let is : form_of c.args.words.now ≡ Some (form.Array c.in-Some-Array.code) =
    sym c.in-Ok.ensures.form ∙ (c.in-Some-Array.is ∙ ap Some c.in-Some-Array.field-0-is) in
    serves_form _ _ (form.Array c.in-Some-Array.code) c.run_array.result _ _ _ _ _ _ _ _ (ap alone is) c.run_array.ensures.usage (record {
      own = record {
        reads = record {
          too_long = c.run_array.ensures.too_long;
          takes_front = c.run_array.ensures.takes_front;
          unread_writes_nothing = c.run_array.ensures.unread_writes_nothing;
        };
        done = c.run_array.ensures.done;
        bad_line = c.run_array.ensures.bad_line;
      };
      prefix = λ input told. record { text = _; due = refl; front = c.run_array.ensures.prefix input told };
      complete = c.run_array.ensures.complete;
      read_fault = c.run_array.ensures.read_fault;
      write_fault = c.run_array.ensures.write_fault;
      read_fault_writes_nothing = c.run_array.ensures.read_fault_writes_nothing;
      too_long_writes_nothing = c.run_array.ensures.too_long_writes_nothing;
      disagree = λ other. absurd (c.run_array.ensures.disagree other);
      bad_data = λ other. absurd (c.run_array.ensures.bad_data other);
    })

pub returns-in-Some-Table : goal.returns-in-Some-Table
returns-in-Some-Table g c =
    let l = c.in-Some-Table.listing in
    let is : form_of c.args.words.now ≡ Some (form.Table l) = sym c.in-Ok.ensures.form ∙ (c.in-Some-Table.is ∙ ap Some c.in-Some-Table.field-0-is) in
    serves_form _ _ (form.Table l) c.table.result _ _ _ _ _ _ _ _ (ap alone is) c.table.ensures.usage (record {
      own = record {
        reads = record {
          too_long = c.table.ensures.too_long;
          takes_front = c.table.ensures.takes_front;
          unread_writes_nothing = c.table.ensures.unread_writes_nothing;
        };
        done = c.table.ensures.done;
        bad_data = c.table.ensures.bad_data;
        bad_line = c.table.ensures.bad_line;
      };
      prefix = λ input told. record { text = _; due = refl; front = c.table.ensures.prefix input told };
      complete = c.table.ensures.complete;
      read_fault = c.table.ensures.read_fault;
      write_fault = c.table.ensures.write_fault;
      read_fault_writes_nothing = c.table.ensures.read_fault_writes_nothing;
      too_long_writes_nothing = c.table.ensures.too_long_writes_nothing;
      disagree = λ other. absurd (c.table.ensures.disagree other);
      bad_data = λ _. tt;
    })

pub returns-in-Some-Nd : goal.returns-in-Some-Nd
returns-in-Some-Nd g c =
    let s = c.in-Some-Nd.selection in
    let is : form_of c.args.words.now ≡ Some (form.Nd s) = sym c.in-Ok.ensures.form ∙ (c.in-Some-Nd.is ∙ ap Some c.in-Some-Nd.field-0-is) in
    serves_form _ _ (form.Nd s) c.select.result _ _ _ _ _ _ _ _ (ap alone is) c.select.ensures.usage (record {
      own = record {
        reads = record {
          too_long = c.select.ensures.too_long;
          takes_front = c.select.ensures.takes_front;
          unread_writes_nothing = c.select.ensures.unread_writes_nothing;
        };
        done = c.select.ensures.done;
        bad_data = c.select.ensures.bad_data;
        bad_line = c.select.ensures.bad_line;
      };
      prefix = λ input told. record { text = _; due = refl; front = c.select.ensures.prefix input told };
      complete = c.select.ensures.complete;
      read_fault = c.select.ensures.read_fault;
      write_fault = c.select.ensures.write_fault;
      read_fault_writes_nothing = c.select.ensures.read_fault_writes_nothing;
      too_long_writes_nothing = c.select.ensures.too_long_writes_nothing;
      disagree = λ other. absurd (c.select.ensures.disagree other);
      bad_data = λ _. tt;
    })
