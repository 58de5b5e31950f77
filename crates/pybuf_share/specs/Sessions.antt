-- Sessions: who asks for commands of a shared exporter, and which receipts each session has.
use Rattle.std.specs.Prelude.{◌≡◌, ◌<◌, ◌≤◌, ◌+◌, length, ℕ, zero, suc, Bool, true, false, List, [], ◌∷◌, ◌++◌, ◌-◌, map, Option, slice_get}
use Rattle.std.specs.List.{All, flat_map}
use Rattle.std.specs.Option.{option_map}
use Rattle.pybuf_command.specs.declared.commands.LocalCommand.{LocalCommand}
use Rattle.pybuf_command.specs.declared.commands.LocalReply.{LocalReply}
use Rattle.pybuf_command.specs.declared.commands.LocalReply.TheVariants as reply
use Rattle.pybuf_share.specs.declared.entries.Receipt.{Receipt}

-- A session: its number, its receipts in order, how many parts of the ledger it has, how many of its calls the
-- ledger has counted, and whether each of its receipts came from a call.
pub record Asker : Type 0 where
  pub number : ℕ
  pub receipts : List Receipt
  pub parts : ℕ
  pub calls : ℕ
  pub is_plain : Bool

-- a session without receipts, which has one part of the ledger
abbrev pub new_session : ℕ → Asker
new_session k = record { number = k; receipts = []; parts = 1; calls = 0; is_plain = true }

-- n new sessions, which are numbered from k on
abbrev pub sessions_from : ℕ → ℕ → List Asker
sessions_from k zero = []
sessions_from k (suc n) = new_session k ∷ sessions_from (suc k) n

-- a session with one more receipt, which a call gave
abbrev pub received : Asker → Receipt → Asker
received s r = record s { receipts = s.receipts ++ r ∷ []; calls = s.calls + 1 }

-- a session with one more receipt, which no call gave
abbrev pub added : Asker → Receipt → Asker
added s r = record s { receipts = s.receipts ++ r ∷ []; is_plain = false }

-- A session after a call. It has one more receipt, with its number, the command, and some reply at some place
-- of the history.
pub record IsAnswered (before : Asker) (command : LocalCommand) (after : Asker) : Type 0 where
  pub at : ℕ
  pub reply : LocalReply
  pub same : after ≡ received before (record { at = at; entry = record { session = before.number; command = command; reply = reply } })

-- the reply of the last receipt
abbrev pub last_reply : List Receipt → Option LocalReply
last_reply receipts = option_map (λ r. r.entry.reply) (slice_get receipts (length receipts - 1))

-- the view that a reply gives
abbrev pub view_given : LocalReply → List ℕ
view_given (reply.View k) = k ∷ []
view_given _ = []

-- the iterator that a reply gives
abbrev pub iterator_given : LocalReply → List ℕ
iterator_given (reply.Iter k) = k ∷ []
iterator_given _ = []

-- the replies of receipts, in order
abbrev pub replies_given : List Receipt → List LocalReply
replies_given receipts = map (λ r. r.entry.reply) receipts

-- the views that a session was given, in order
abbrev pub views_given : List Receipt → List ℕ
views_given receipts = flat_map view_given (replies_given receipts)

-- the iterators that a session was given, in order
abbrev pub iterators_given : List Receipt → List ℕ
iterators_given receipts = flat_map iterator_given (replies_given receipts)

-- What holds of a session. The views and iterators that are kept beside its receipts are those that these give.
-- The session has a part of the ledger. If each of its receipts came from a call, there are as many as the
-- ledger has counted, and each is of an entry of the session.
pub record IsAsked (s : Asker) (views_kept iterators_kept : List ℕ) : Type 0 where
  pub views : views_kept ≡ views_given s.receipts
  pub iterators : iterators_kept ≡ iterators_given s.receipts
  pub has_part : 0 < s.parts
  pub bounded : s.calls ≤ length s.receipts
  pub counted : s.is_plain ≡ true → s.calls ≡ length s.receipts
  pub own : s.is_plain ≡ true → All (λ r. r.entry.session ≡ s.number) s.receipts
