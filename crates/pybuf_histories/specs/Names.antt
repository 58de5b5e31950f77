-- How the text of a history names views, iterators and the handles of a command.
use Rattle.std.specs.Prelude.{ℕ, ◌-◌, ◌^◌, ◌==◌, List, ◌∷◌, codes, decimal, Option, Some, None, if◌then◌else◌}
use Rattle.std.specs.Str.{byte}
use Rattle.hex.specs.Hex.{encode_lower}
use Rattle.pybuf_command.specs.declared.kinds.Subject.{Subject}
use Rattle.pybuf_command.specs.declared.kinds.Subject.TheVariants as subject
use Rattle.pybuf_command.specs.declared.loans.Loan.{Loan}
use Rattle.pybuf_command.specs.declared.loans.Loan.TheVariants as loan
use Rattle.pybuf_command.specs.Loans.{loan_of}

-- a view by its number
abbrev pub view_name : ℕ → List ℕ
view_name k = byte "v" ∷ decimal k

-- an iterator by its number
abbrev pub iterator_name : ℕ → List ℕ
iterator_name k = byte "j" ∷ decimal k

-- The name of the view or the iterator that has a number. The greatest number stands for what wasn't given.
abbrev pub name_if_given : (ℕ → List ℕ) → ℕ → List ℕ
name_if_given name k = if k == 2 ^ 64 - 1 then codes "none" else name k

-- what a command works on
abbrev pub subject_text : Subject → List ℕ
subject_text subject.Own = codes "own"
subject_text (subject.View k) = name_if_given view_name k
subject_text (subject.Iter k) = name_if_given iterator_name k

-- bytes as a line spells them
abbrev pub bytes_value : List ℕ → List ℕ
bytes_value bytes = byte "x" ∷ encode_lower bytes

-- What a handle names. The bytes that another exporter lends are spelled as a value.
abbrev pub loan_text : Loan → List ℕ
loan_text loan.Own = subject_text subject.Own
loan_text (loan.View k) = subject_text (subject.View k)
loan_text (loan.Iter k) = subject_text (subject.Iter k)
loan_text (loan.Other snap) = bytes_value snap.content
loan_text loan.Missing = codes "none"

abbrev pub loan_text_if_lent : Option Loan → List ℕ
loan_text_if_lent (Some lent) = loan_text lent
loan_text_if_lent None = codes "none"

-- a handle among the values of a command, by what is lent for it
abbrev pub name_of : List (ℕ × Loan) → ℕ → List ℕ
name_of loans handle = loan_text_if_lent (loan_of loans handle)
