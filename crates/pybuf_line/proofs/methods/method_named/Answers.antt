use Rattle.std.proofs.Common.{◌∙◌, arith}
use Rattle.pybuf_line.proofs.ByLength.{methods_by_length, no_method}
use Rattle.pybuf_line.proofs.methods.method_named.Goals as goal

pub returns-in-3 : goal.returns-in-3
returns-in-3 c = c.method_of_three.ensures ∙ methods_by_length 3 c.args.text.now c.in-3.is

pub returns-in-4 : goal.returns-in-4
returns-in-4 c = c.method_of_four.ensures ∙ methods_by_length 4 c.args.text.now c.in-4.is

pub returns-in-5 : goal.returns-in-5
returns-in-5 c = c.method_of_five.ensures ∙ methods_by_length 5 c.args.text.now c.in-5.is

pub returns-in-6 : goal.returns-in-6
returns-in-6 c = c.method_of_six.ensures ∙ methods_by_length 6 c.args.text.now c.in-6.is

pub returns-in-7 : goal.returns-in-7
returns-in-7 c = c.method_of_seven.ensures ∙ methods_by_length 7 c.args.text.now c.in-7.is

pub returns-in-8 : goal.returns-in-8
returns-in-8 c = c.method_of_eight.ensures ∙ methods_by_length 8 c.args.text.now c.in-8.is

pub returns-in-9 : goal.returns-in-9
returns-in-9 c = c.method_of_nine.ensures ∙ methods_by_length 9 c.args.text.now c.in-9.is

pub returns-in-10 : goal.returns-in-10
returns-in-10 c = c.method_of_ten.ensures ∙ methods_by_length 10 c.args.text.now c.in-10.is

pub returns-in-12 : goal.returns-in-12
returns-in-12 c = c.method_of_twelve.ensures ∙ methods_by_length 12 c.args.text.now c.in-12.is

pub returns-in_default : goal.returns-in_default
returns-in_default c =
    no_method c.args.text.now (omega arith) (omega arith) (omega arith) (omega arith) (omega arith) (omega arith) (omega arith) (omega arith) (omega arith)
