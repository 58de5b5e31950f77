-- What was read from a source and written to a sink, which tell their bytes and count their faults.
use Rattle.std.specs.Prelude.{◌≡◌, ℕ, ◌+◌, ◌-◌, ◌<◌, ◌≤◌, ◌^◌, ◌⊎◌, List, ◌++◌, length, take, Option, Some}

-- The source had these bytes before those that are left.
abbrev pub Took : Option (List ℕ) → List ℕ → Option (List ℕ) → Type 0
Took old bytes new = (left : List ℕ) → old ≡ Some left → (rest : List ℕ) × (left ≡ bytes ++ rest) × (new ≡ Some rest)

-- Nothing is left in the source.
abbrev pub AtEnd : Option (List ℕ) → Type 0
AtEnd left = (rest : List ℕ) → left ≡ Some rest → length rest ≡ 0

-- The sink has the bytes after those that it had.
abbrev pub Put : Option (List ℕ) → List ℕ → Option (List ℕ) → Type 0
Put old bytes new = (held : List ℕ) → old ≡ Some held → new ≡ Some (held ++ bytes)

-- The sink has the first bytes of the text, as many as it took, after those that it had.
abbrev pub PutPrefix : Option (List ℕ) → List ℕ → Option (List ℕ) → Type 0
PutPrefix old text new = (count : ℕ) × (count ≤ length text) × Put old (take count text) new

-- The sink has the first bytes of a text of which `Due` holds, after those that it had.
pub record PutsFrontOf (Due : List ℕ → Type 0) (old new : Option (List ℕ)) : Type 0 where
  pub text : List ℕ
  pub due : Due text
  pub front : PutPrefix old text new

-- The same by what a sink tells of its bytes.
abbrev pub Puts : {K : Type 0} → (K → Option (List ℕ)) → K → List ℕ → K → Type 0
Puts bytes_held old text new = Put (bytes_held old) text (bytes_held new)

abbrev pub PutsPrefix : {K : Type 0} → (K → Option (List ℕ)) → K → List ℕ → K → Type 0
PutsPrefix bytes_held old text new = PutPrefix (bytes_held old) text (bytes_held new)

-- A source gave bytes up to a limit, or one more, by what it tells of those that are left.
abbrev pub TookUpTo : {S : Type 0} → ℕ → (S → Option (List ℕ)) → S → S → Type 0
TookUpTo limit bytes_left old new = (bytes : List ℕ) × (length bytes ≤ limit) × Took (bytes_left old) bytes (bytes_left new)

abbrev pub TookOneMore : {S : Type 0} → ℕ → (S → Option (List ℕ)) → S → S → Type 0
TookOneMore limit bytes_left old new = (bytes : List ℕ) × (length bytes ≡ limit + 1) × Took (bytes_left old) bytes (bytes_left new)

-- A count of faults rose in a call, or it is the greatest number and can't rise.
abbrev pub Rose : ℕ → ℕ → Type 0
Rose old new = (old < new) ⊎ (new ≡ 2 ^ 64 - 1)

-- A count of faults before and after a call.
pub record Counts (old new : ℕ) : Type 0 where
  pub later : old ≤ new
  pub bounded : new < 2 ^ 64

-- A part of the text was put into the sink, and the rest still waits to be put.
pub record Sends (old : Option (List ℕ)) (text waiting : List ℕ) (new : Option (List ℕ)) : Type 0 where
  pub sent : List ℕ
  pub whole : text ≡ sent ++ waiting
  pub put : Put old sent new

-- so it is by what a sink tells
abbrev pub SendsOf : {K : Type 0} → (K → Option (List ℕ)) → K → List ℕ → List ℕ → K → Type 0
SendsOf bytes_held old text waiting new = Sends (bytes_held old) text waiting (bytes_held new)
