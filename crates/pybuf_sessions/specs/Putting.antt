-- How a text and its loans change when pieces are added.
use Rattle.std.specs.Prelude.{◌≡◌, ℕ, true, false, List, ◌++◌, length, Result, Ok, Err}
use Rattle.std.specs.List.{list_any}
use Rattle.pybuf_command.specs.declared.loans.Loan.{Loan}
use Rattle.pybuf_line.specs.declared.unread.Unread.{Unread}
use Rattle.pybuf_line.specs.declared.unread.Unread.TheVariants as unread
use Rattle.pybuf_sessions.specs.Names.{name_in}
use Rattle.pybuf_sessions.specs.Pieces.{is_handle, text_at, loan_at, handled_from, loans_from}

-- A piece that is no handle is added to a text. If it is a name, a handle is added in its place, and that is
-- lent.
pub record IsPut (piece old : List ℕ) (lent : List (ℕ × Loan)) (new : List ℕ) (lent_now : List (ℕ × Loan)) : Type 0 where
  pub named : is_handle piece ≡ false
  pub text : new ≡ old ++ text_at (length lent) (name_in piece) piece
  pub loans : lent_now ≡ lent ++ loan_at (length lent) (name_in piece)

-- The piece was added, or it is a handle. Memory may run out.
abbrev pub Puts : {X : Type 0} → Result X Unread → List ℕ → List ℕ → List (ℕ × Loan) → List ℕ → List (ℕ × Loan) → Type 0
Puts (Ok x) piece old lent new lent_now = IsPut piece old lent new lent_now
Puts (Err unread.NoCommand) piece old lent new lent_now = is_handle piece ≡ true
Puts (Err unread.NoMemory) piece old lent new lent_now = Unit {0}

-- Pieces are added to a text, and none of them is a handle.
pub record ArePut (all : List (List ℕ)) (old : List ℕ) (lent : List (ℕ × Loan)) (new : List ℕ) (lent_now : List (ℕ × Loan)) : Type 0 where
  pub named : list_any is_handle all ≡ false
  pub text : new ≡ old ++ handled_from (length lent) all
  pub loans : lent_now ≡ lent ++ loans_from (length lent) all

-- The pieces were added, or one of them is a handle. Memory may run out.
abbrev pub PutsAll : {X : Type 0} → Result X Unread → List (List ℕ) → List ℕ → List (ℕ × Loan) → List ℕ → List (ℕ × Loan) → Type 0
PutsAll (Ok x) all old lent new lent_now = ArePut all old lent new lent_now
PutsAll (Err unread.NoCommand) all old lent new lent_now = list_any is_handle all ≡ true
PutsAll (Err unread.NoMemory) all old lent new lent_now = Unit {0}
