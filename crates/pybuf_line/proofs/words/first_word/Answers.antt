use Rattle.std.proofs.Common.{◌∙◌, arith}
use Rattle.pybuf_line.proofs.ByLength.{words_by_length, no_word}
use Rattle.pybuf_line.proofs.words.first_word.Goals as goal

pub returns-in-3 : goal.returns-in-3
returns-in-3 c = c.word_of_three.ensures ∙ words_by_length 3 c.args.text.now c.in-3.is

pub returns-in-4 : goal.returns-in-4
returns-in-4 c = c.word_of_four.ensures ∙ words_by_length 4 c.args.text.now c.in-4.is

pub returns-in-5 : goal.returns-in-5
returns-in-5 c = c.word_of_five.ensures ∙ words_by_length 5 c.args.text.now c.in-5.is

pub returns-in-6 : goal.returns-in-6
returns-in-6 c = c.word_of_six.ensures ∙ words_by_length 6 c.args.text.now c.in-6.is

pub returns-in-7 : goal.returns-in-7
returns-in-7 c = c.word_of_seven.ensures ∙ words_by_length 7 c.args.text.now c.in-7.is

pub returns-in-8 : goal.returns-in-8
returns-in-8 c = c.word_of_eight.ensures ∙ words_by_length 8 c.args.text.now c.in-8.is

pub returns-in-10 : goal.returns-in-10
returns-in-10 c = c.word_of_ten.ensures ∙ words_by_length 10 c.args.text.now c.in-10.is

pub returns-in_default : goal.returns-in_default
returns-in_default c =
    no_word c.args.text.now (omega arith) (omega arith) (omega arith) (omega arith) (omega arith) (omega arith) (omega arith)
