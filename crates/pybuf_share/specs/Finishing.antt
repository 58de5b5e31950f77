-- The receipts of sessions, compared with the history that they made.
use Rattle.std.specs.Prelude.{◌≡◌, ◌≢◌, zero, suc, ◌<◌, ◌≤◌, ◌↔◌, ℕ, true, nat_lt, List, [], ◌∷◌, ◌++◌, length, map, Option, Some, None, slice_get, if◌then◌else◌}
use Rattle.std.specs.List.{flat_map, sum_by, All}
use Rattle.pybuf_command.specs.declared.kinds.ExporterKind.{ExporterKind}
use Rattle.pybuf_share.specs.declared.entries.Entry.{Entry}
use Rattle.pybuf_share.specs.declared.entries.Receipt.{Receipt}
use Rattle.pybuf_share.specs.declared.joined.FinishFault.{FinishFault}
use Rattle.pybuf_share.specs.declared.joined.FinishFault.TheVariants as fault
use Rattle.pybuf_share.specs.declared.joined.Joined.{Joined}
use Rattle.pybuf_share.specs.History.{Log, Opening, replay, IsLegal}
use Rattle.pybuf_share.specs.Sessions.{Asker}
use Rattle.pybuf_share.specs.Joining.{entries_of}

-- n numbers from k on
abbrev pub numbers_from : ℕ → ℕ → List ℕ
numbers_from k zero = []
numbers_from k (suc n) = k ∷ numbers_from (suc k) n

-- how many parts of the ledger the sessions have together
abbrev pub parts_of : List Asker → ℕ
parts_of sessions = sum_by (λ s. s.parts) sessions

-- how many calls the ledger has counted for them together
abbrev pub calls_of : List Asker → ℕ
calls_of sessions = sum_by (λ s. s.calls) sessions

-- All sessions of an exporter. They are numbered from 0, in order, and together they have all parts of its
-- ledger.
pub record AreAll (parts : ℕ) (sessions : List Asker) : Type 0 where
  pub numbers : map (λ s. s.number) sessions ≡ numbers_from 0 (length sessions)
  pub whole : parts_of sessions ≡ parts

-- all receipts of sessions, session by session
abbrev pub receipts_of : List Asker → List Receipt
receipts_of sessions = flat_map (λ s. s.receipts) sessions

-- the numbers of the first two neighbours among receipts that don't rise
abbrev pub first_fall : List Receipt → Option (ℕ × ℕ)
first_fall [] = None
first_fall (r ∷ []) = None
first_fall (r ∷ s ∷ rs) = if nat_lt r.at s.at then first_fall (s ∷ rs) else Some (r.at, s.at)

-- the fault of a session if it has one, and otherwise that of the others
abbrev pub order_fault_or : ℕ → Option (ℕ × ℕ) → Option FinishFault → Option FinishFault
order_fault_or session (Some pair) rest = Some (fault.Order session pair.0 pair.1)
order_fault_or session None rest = rest

-- the fault of the first session whose receipt numbers don't rise
abbrev pub order_fault : List Asker → Option FinishFault
order_fault [] = None
order_fault (s ∷ ss) = order_fault_or s.number (first_fall s.receipts) (order_fault ss)

-- The numbers of the receipts of each session rise.
abbrev pub NumbersRise : List Asker → Type 0
NumbersRise sessions = order_fault sessions ≡ None

-- The entry of a receipt stands in the history, at the receipt's number.
abbrev pub Stands : List Entry → Receipt → Type 0
Stands entries r = slice_get entries r.at ≡ Some r.entry

-- At the number of a receipt, the history has another entry than the receipt, or none.
pub record IsAway (entries : List Entry) (r : Receipt) (at : ℕ) (kept : Option Entry) (got : Entry) : Type 0 where
  pub place : at ≡ r.at
  pub shown : got ≡ r.entry
  pub found : kept ≡ slice_get entries r.at
  pub differs : kept ≢ Some got

-- why a receipt is refused
abbrev pub IsRefused : List Entry → Receipt → FinishFault → Type 0
IsRefused entries r fault.NoMemory = Unit {0}
IsRefused entries r (fault.Disagree at kept got) = IsAway entries r at kept got
IsRefused entries r (fault.Order session before after) = ⊥
IsRefused entries r (fault.Opening given_kind given kept_kind kept) = ⊥

-- This is the first of the receipts that doesn't stand in the history.
pub record IsFirstAway (entries : List Entry) (receipts : List Receipt) (at : ℕ) (kept : Option Entry) (got : Entry) : Type 0 where
  pub earlier : List Receipt
  pub receipt : Receipt
  pub later : List Receipt
  pub are : receipts ≡ earlier ++ receipt ∷ later
  pub stand : All (Stands entries) earlier
  pub away : IsAway entries receipt at kept got

-- why receipts are refused
abbrev pub Disagrees : List Entry → List Receipt → FinishFault → Type 0
Disagrees entries receipts fault.NoMemory = Unit {0}
Disagrees entries receipts (fault.Disagree at kept got) = IsFirstAway entries receipts at kept got
Disagrees entries receipts (fault.Order session before after) = ⊥
Disagrees entries receipts (fault.Opening given_kind given kept_kind kept) = ⊥

-- A history begins with this kind and these bytes.
pub record Begins (log : Log) (k : ExporterKind) (bytes : List ℕ) : Type 0 where
  pub same_kind : k ≡ log.kind
  pub same_bytes : bytes ≡ log.opening

-- Sessions agree with a history. It begins with this kind and these bytes, their receipt numbers rise, and the
-- entry of each receipt stands at its number.
pub record Agree (log : Log) (k : ExporterKind) (bytes : List ℕ) (sessions : List Asker) : Type 0 where
  pub begins : Begins log k bytes
  pub rise : NumbersRise sessions
  pub stand : All (Stands log.entries) (receipts_of sessions)

-- The opening that was given differs from the one that is kept, and the fault has both.
pub record IsOtherOpening (log : Log) (k : ExporterKind) (bytes : List ℕ) (given_kind : ExporterKind) (given : List ℕ) (kept_kind : ExporterKind) (kept : List ℕ) : Type 0 where
  pub kind_given : given_kind ≡ k
  pub bytes_given : given ≡ bytes
  pub kind_kept : kept_kind ≡ log.kind
  pub bytes_kept : kept ≡ log.opening
  pub differ : ¬ Begins log k bytes

-- The history begins as given, but the receipt numbers of a session don't rise. This is the first such session.
pub record IsFirstFall (log : Log) (k : ExporterKind) (bytes : List ℕ) (sessions : List Asker) (session before after : ℕ) : Type 0 where
  pub begins : Begins log k bytes
  pub first : order_fault sessions ≡ Some (fault.Order session before after)

-- The history begins as given and all receipt numbers rise, but this receipt doesn't stand in the history, and
-- it is the first that doesn't.
pub record IsFirstDisagreement (log : Log) (k : ExporterKind) (bytes : List ℕ) (sessions : List Asker) (at : ℕ) (kept : Option Entry) (got : Entry) : Type 0 where
  pub begins : Begins log k bytes
  pub rise : NumbersRise sessions
  pub first : IsFirstAway log.entries (receipts_of sessions) at kept got

-- Why sessions don't agree with a history. The kind or the bytes that it begins with are compared first, then
-- the receipt numbers, then the entries. Each fault has the values that show it.
abbrev pub Refuses : Log → ExporterKind → List ℕ → List Asker → FinishFault → Type 0
Refuses log k bytes sessions (fault.Opening given_kind given kept_kind kept) = IsOtherOpening log k bytes given_kind given kept_kind kept
Refuses log k bytes sessions (fault.Order session before after) = IsFirstFall log k bytes sessions session before after
Refuses log k bytes sessions (fault.Disagree at kept got) = IsFirstDisagreement log k bytes sessions at kept got
Refuses log k bytes sessions fault.NoMemory = Unit {0}

-- What is joined from a kind and bytes, whatever the sessions are. There is a legal history from them, its
-- replay is the exporter, and the entry of each receipt stands at its number.
pub record IsJoined (k : ExporterKind) (bytes : List ℕ) (sessions : List Asker) (joined : Joined) : Type 0 where
  pub same_kind : joined.kind ≡ k
  pub same_bytes : joined.opening ≡ bytes
  pub legal : IsLegal k bytes joined.entries
  pub replays : joined.state.exporter ≡ replay k bytes joined.entries
  pub rise : NumbersRise sessions
  pub stand : All (Stands joined.entries) (receipts_of sessions)

-- Each receipt of the sessions came from a call.
abbrev pub ArePlain : List Asker → Type 0
ArePlain sessions = All (λ s. s.is_plain ≡ true) sessions

-- What is known of a session. If each of its receipts came from a call, there are as many as the ledger has
-- counted for it, and each is of an entry of its own.
pub record IsOwn (s : Asker) : Type 0 where
  pub counted : s.is_plain ≡ true → s.calls ≡ length s.receipts
  pub own : s.is_plain ≡ true → All (λ r. r.entry.session ≡ s.number) s.receipts

-- A history is that of these sessions. It has as many entries as they have receipts, each entry is of one of
-- them, and the receipts of each are exactly its entries, in order.
pub record AreTheirs (sessions : List Asker) (entries : List Entry) : Type 0 where
  pub as_many : length entries ≡ length (receipts_of sessions)
  pub known : All (λ x. x.session < length sessions) entries
  pub each : All (λ s. entries_of s.number entries ≡ map (λ r. r.entry) s.receipts) sessions

-- What the history keeps isn't what the sessions show. There is a receipt of theirs, and what the history has
-- at its number. The history has nothing there exactly if fewer calls were counted.
pub record IsDisagreement (sessions : List Asker) (at : ℕ) (kept : Option Entry) (got : Entry) : Type 0 where
  pub rise : NumbersRise sessions
  pub receipt : Receipt
  pub earlier : List Receipt
  pub later : List Receipt
  pub are : receipts_of sessions ≡ earlier ++ receipt ∷ later
  pub place : at ≡ receipt.at
  pub shown : got ≡ receipt.entry
  pub differs : kept ≢ Some got
  pub absent : (kept ≡ None) ↔ (calls_of sessions ≤ at)

-- The opening that is kept isn't the one that was given.
pub record IsNotOpening (opening : Opening) (given_kind : ExporterKind) (given : List ℕ) (kept_kind : ExporterKind) (kept : List ℕ) : Type 0 where
  pub kind_given : given_kind ≡ opening.kind
  pub bytes_given : given ≡ opening.bytes
  pub differ : (given_kind ≡ kept_kind) → given ≢ kept

-- Why sessions are refused at the end, if the exporter was under a lock. This says what the receipts and the
-- opening alone can tell.
abbrev pub RefusesAtLast : Opening → List Asker → FinishFault → Type 0
RefusesAtLast opening sessions (fault.Opening given_kind given kept_kind kept) = IsNotOpening opening given_kind given kept_kind kept
RefusesAtLast opening sessions (fault.Order session before after) = order_fault sessions ≡ Some (fault.Order session before after)
RefusesAtLast opening sessions (fault.Disagree at kept got) = IsDisagreement sessions at kept got
RefusesAtLast opening sessions fault.NoMemory = Unit {0}
