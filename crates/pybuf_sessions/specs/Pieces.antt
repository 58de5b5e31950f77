-- The arguments of a line of a session. They are cut where a name may begin or end, and handles replace the
-- names.
use Rattle.std.specs.Prelude.{ℕ, ◌+◌, Bool, true, false, List, [], ◌∷◌, ◌++◌, ◌==◌, ◌&&◌, ◌||◌, not, Option, Some, None, if◌then◌else◌}
use Rattle.std.specs.List.{onto_first}
use Rattle.std.specs.Str.{byte}
use Rattle.pybuf_value.specs.Spelling.{handle_text}
use Rattle.pybuf_command.specs.declared.kinds.Subject.{Subject}
use Rattle.pybuf_command.specs.declared.loans.Loan.{Loan}
use Rattle.pybuf_line.specs.Scalars.{handle_in}
use Rattle.pybuf_sessions.specs.Names.{name_in, lent_as}

-- the bytes between words and between the parts of values
abbrev pub is_mark : ℕ → Bool
is_mark b = b == byte " " || b == byte "(" || b == byte ")" || b == byte "," || b == byte ":" || b == byte "[" || b == byte "]"

-- The pieces of a text. Each such byte outside quotes is a piece, and so is what stands between two of them,
-- which may be nothing. The text itself may begin between quotes.
abbrev pub pieces_from : Bool → List ℕ → List (List ℕ)
pieces_from quoted [] = [] ∷ []
pieces_from quoted (b ∷ rest) =
    if b == byte "'" then onto_first b (pieces_from (not quoted) rest)
    else if is_mark b && not quoted then [] ∷ (b ∷ []) ∷ pieces_from quoted rest
    else onto_first b (pieces_from quoted rest)

abbrev pub pieces : List ℕ → List (List ℕ)
pieces text = pieces_from false text

-- whether a piece is a handle, which a session doesn't have as a name
abbrev pub is_some_handle : Option ℕ → Bool
is_some_handle (Some handle) = true
is_some_handle None = false

abbrev pub is_handle : List ℕ → Bool
is_handle piece = is_some_handle (handle_in piece)

-- the text for a piece, which is the handle n if the piece is a name
abbrev pub text_at : ℕ → Option Subject → List ℕ → List ℕ
text_at n (Some named) piece = handle_text n
text_at n None piece = piece

-- what that handle is lent as
abbrev pub loan_at : ℕ → Option Subject → List (ℕ × Loan)
loan_at n (Some named) = (n, lent_as named) ∷ []
loan_at n None = []

-- the number of the next handle
abbrev pub next_after : ℕ → Option Subject → ℕ
next_after n (Some named) = n + 1
next_after n None = n

-- The text of pieces, in which a handle replaces each name. The handles are numbered from n on, from the left.
-- A name that stands there twice gets two handles.
abbrev pub handled_from : ℕ → List (List ℕ) → List ℕ
handled_from n [] = []
handled_from n (piece ∷ more) = text_at n (name_in piece) piece ++ handled_from (next_after n (name_in piece)) more

-- what those handles are lent as
abbrev pub loans_from : ℕ → List (List ℕ) → List (ℕ × Loan)
loans_from n [] = []
loans_from n (piece ∷ more) = loan_at n (name_in piece) ++ loans_from (next_after n (name_in piece)) more
