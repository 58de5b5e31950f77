-- What one session did with a locked buffer, and what two sessions did with two buffers.
use Rattle.std.proofs.Common.{◌≡◌, ℕ, ◌<◌, List, [], ◌∷◌, ◌++◌, length, map, get_or, Bool, true, Option, Some, Result, Ok, Err, IfOk, refl, ap, sym, ◌∙◌, subst, arith}
use Rattle.std.specs.Prelude.{if◌then◌else◌}
use Rattle.std.specs.List.{All}
use Rattle.std.proofs.lemmas.Bool.{eq-eqb}
use Rattle.std.proofs.lemmas.List.Elements.{All-head, All-tail, All-nil, All-cons}
use Rattle.pybuf_command.specs.declared.commands.LocalCommand.{LocalCommand}
use Rattle.pybuf_command.specs.declared.commands.LocalReply.{LocalReply}
use Rattle.pybuf_command.specs.declared.commands.LocalReply.TheVariants as reply
use Rattle.pybuf_command.specs.declared.kinds.ExporterKind.{ExporterKind}
use Rattle.pybuf_command.specs.declared.kinds.ExporterKind.TheVariants as kind
use Rattle.pybuf_command.specs.declared.kinds.Subject.TheVariants as subject
use Rattle.pybuf_state.specs.Exporter.{Exporter, new_exporter}
use Rattle.pybuf_share.specs.declared.entries.Entry.{Entry}
use Rattle.pybuf_share.specs.declared.entries.Receipt.{Receipt}
use Rattle.pybuf_share.specs.declared.joined.FinishFault.{FinishFault}
use Rattle.pybuf_share.specs.declared.joined.FinishFault.TheVariants as fault
use Rattle.pybuf_share.specs.declared.joined.Joined.{Joined}
use Rattle.pybuf_share.specs.Carrying.{bytes_asked, bytes_in_reply, bytes_given, with_bytes, Takes}
use Rattle.pybuf_share.specs.Finishing.{AreTheirs, ArePlain, IsJoined}
use Rattle.pybuf_share.specs.History.{Opening, IsLegal, replay, replies_along}
use Rattle.pybuf_share.specs.Joining.{entries_of}
use Rattle.pybuf_share.specs.Sessions.{Asker, new_session, last_reply, IsAnswered}
use Rattle.example_users.specs.Handing.{Handed, handed, byte_array, extending, last_bytes, IsAlone}

pub is_plain : (s : Asker) → s.is_plain ≡ true → ArePlain (s ∷ [])
is_plain s plain = All-cons (λ (t : Asker). t.is_plain ≡ true) s [] plain (All-nil (λ (t : Asker). t.is_plain ≡ true))

-- Every entry is of this session.
all_of_one : (entries : List Entry) → All (λ x. x.session < 1) entries → entries_of 0 entries ≡ entries
all_of_one [] known = refl
all_of_one (x ∷ xs) known =
    let low = All-head (λ (y : Entry). y.session < 1) x xs known in
    let zero : x.session ≡ 0 = omega (arith, low) in
    ap (λ (own : Bool). if own then x ∷ entries_of 0 xs else entries_of 0 xs) (eq-eqb x.session 0 zero)
    ∙ ap (λ (l : List Entry). x ∷ l) (all_of_one xs (All-tail (λ (y : Entry). y.session < 1) x xs known))

pub are_its : (s : Asker) (entries : List Entry) → s.number ≡ 0 → AreTheirs (s ∷ []) entries → entries ≡ map (λ r. r.entry) s.receipts
are_its s entries number theirs =
    sym (all_of_one entries theirs.known)
    ∙ ap (λ (n : ℕ). entries_of n entries) (sym number)
    ∙ All-head (λ (t : Asker). entries_of t.number entries ≡ map (λ (r : Receipt). r.entry) t.receipts) s [] theirs.each

-- So its receipts are the history.
pub is_alone : (opening : Opening) (s : Asker) (joined : Joined) → s.number ≡ 0 → IsJoined opening.kind opening.bytes (s ∷ []) joined → AreTheirs (s ∷ []) joined.entries → IsAlone opening s joined
is_alone opening s joined number is theirs = record { is = is; own = are_its s joined.entries number theirs }

-- The history that was joined is of that session.
pub alone_by : (opening : Opening) (s : Asker) (ss : List Asker) (r : Result Joined FinishFault) → ss ≡ s ∷ [] → s.number ≡ 0 → s.is_plain ≡ true → IfOk r (λ joined. IsJoined opening.kind opening.bytes ss joined)
    → (ArePlain ss → IfOk r (λ joined. AreTheirs ss joined.entries)) → IfOk r (λ joined. IsAlone opening s joined)
alone_by opening s ss (Ok joined) are number plain is theirs =
    is_alone opening s joined number (subst (λ (l : List Asker). IsJoined opening.kind opening.bytes l joined) are is)
    (subst (λ (l : List Asker). AreTheirs l joined.entries) are (theirs (subst ArePlain (sym are) (is_plain s plain))))
alone_by opening s ss (Err fault) are number plain is theirs = is

-- the entries of a session's first call
one_entry : (command : LocalCommand) (after : Asker) (answered : IsAnswered (new_session 0) command after)
    → map (λ r. r.entry) after.receipts ≡ (record { session = 0; command = command; reply = answered.reply }) ∷ []
one_entry command after answered = ap (λ (s : Asker). map (λ (r : Receipt). r.entry) s.receipts) answered.same

-- The history has just the entry of this call.
module _ (opening : Opening) (command : LocalCommand) (after : Asker) (joined : Joined) (answered : IsAnswered (new_session 0) command after) (alone : IsAlone opening after joined) where
  abbrev entry : Entry
  entry = record { session = 0; command = command; reply = answered.reply }

  entries_are : joined.entries ≡ entry ∷ []
  entries_are = alone.own ∙ one_entry command after answered

  replied : answered.reply ∷ [] ≡ replies_along (new_exporter opening.kind opening.bytes) (entry ∷ [])
  replied = subst (λ (xs : List Entry). IsLegal opening.kind opening.bytes xs) entries_are alone.is.legal

  left : last_bytes joined ≡ (replay opening.kind opening.bytes (entry ∷ [])).bytes
  left =
      ap (λ (k : ExporterKind). (replay k joined.opening joined.entries).bytes) alone.is.same_kind
      ∙ ap (λ (bytes : List ℕ). (replay opening.kind bytes joined.entries).bytes) alone.is.same_bytes
      ∙ ap (λ (xs : List Entry). (replay opening.kind opening.bytes xs).bytes) entries_are

module _ (from to : List ℕ) (giver taker : Asker) (first second : Joined) (asked : IsAnswered (new_session 0) (bytes_asked subject.Own) giver) (takes : Takes (new_session 0) extending 0 (bytes_given giver) taker) (source : IsAlone (byte_array from) giver first) (target : IsAlone (byte_array to) taker second) where
  told : asked.reply ≡ reply.Bytes from
  told = ap (λ (l : List LocalReply). get_or l 0 reply.Ok) (replied (byte_array from) (bytes_asked subject.Own) giver first asked source)

  told_all : bytes_given giver ≡ Some from
  told_all = ap (λ (s : Asker). bytes_in_reply (last_reply s.receipts)) asked.same ∙ ap (λ (r : LocalReply). bytes_in_reply (Some r)) told

  given_is : last_bytes first ≡ from
  given_is = left (byte_array from) (bytes_asked subject.Own) giver first asked source

  taken_is : last_bytes second ≡ to ++ from
  taken_is =
      let has = subst (λ (o : Option (List ℕ)). Takes (new_session 0) extending 0 o taker) told_all takes in
      left (byte_array to) (with_bytes 0 from extending) taker second has.answered target

  pub is_handed : record { given = last_bytes first; taken = last_bytes second } ≡ handed from to
  is_handed = cc (given_is, taken_is)
