-- The names in lines of sessions: for an exporter, and for the views and iterators that a session was given of
-- it.
use Rattle.std.specs.Prelude.{ℕ, ◌^◌, ◌==◌, List, [], ◌∷◌, codes, decimal, Option, Some, None, if◌then◌else◌}
use Rattle.std.specs.Str.{byte, bytes_eq}
use Rattle.pybuf_value.specs.Choosing.{◌>>=◌, ◌or_else◌}
use Rattle.pybuf_command.specs.declared.kinds.Subject.{Subject}
use Rattle.pybuf_command.specs.declared.kinds.Subject.TheVariants as subject
use Rattle.pybuf_command.specs.declared.loans.Loan.{Loan}
use Rattle.pybuf_command.specs.declared.loans.Loan.TheVariants as loan
use Rattle.pybuf_line.specs.Scalars.{number_below}

-- the exporter itself
abbrev pub own_in : List ℕ → Option Subject
own_in text = if bytes_eq text (codes "own") then Some subject.Own else None

-- a letter and a number below 2^64
abbrev pub count_in : ℕ → List ℕ → Option ℕ
count_in letter [] = None
count_in letter (first ∷ digits) = if first == letter then number_below (2 ^ 64) digits else None

-- a letter and the number of a view or of an iterator
abbrev pub counted_in : ℕ → (ℕ → Subject) → List ℕ → Option Subject
counted_in letter named text = do
  k ← count_in letter text
  Some (named k)

-- What a name stands for. `own` is the exporter, `mK` the K-th view and `iK` the K-th iterator that the session
-- was given, counted from 0.
abbrev pub name_in : List ℕ → Option Subject
name_in text = own_in text or_else counted_in (byte "m") subject.View text or_else counted_in (byte "i") subject.Iter text

-- how a name is written
abbrev pub name_text : Subject → List ℕ
name_text subject.Own = codes "own"
name_text (subject.View k) = byte "m" ∷ decimal k
name_text (subject.Iter k) = byte "i" ∷ decimal k

-- what a handle is lent as that replaces this name
abbrev pub lent_as : Subject → Loan
lent_as subject.Own = loan.Own
lent_as (subject.View k) = loan.View k
lent_as (subject.Iter k) = loan.Iter k
