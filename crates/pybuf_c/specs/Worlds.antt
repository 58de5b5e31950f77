-- What a call says of the world of a handle, before and after the call.
use Rattle.std.specs.Prelude.{◌≡◌, ◌≢◌, ◌⊎◌, ℕ, ℤ, Bool, List, slice_get, Option, Some, None, IsSomeAnd}
use Rattle.pybuf_value.specs.declared.values.Value.{Value}
use Rattle.pybuf_value.specs.declared.values.Value.TheVariants as value
use Rattle.pybuf_value.specs.declared.values.CompareOp.{CompareOp}
use Rattle.pybuf_command.specs.declared.kinds.ExporterKind.{ExporterKind}
use Rattle.pybuf_command.specs.declared.commands.PropertyName.{PropertyName}
use Rattle.pybuf_command.specs.declared.commands.Verb.{Verb}
use Rattle.pybuf_command.specs.declared.commands.Verb.TheVariants as verb
use Rattle.pybuf_command.specs.declared.worlds.Command.{Command}
use Rattle.pybuf_command.specs.declared.worlds.Command.TheVariants as command
use Rattle.pybuf_command.specs.declared.worlds.Reply.{Reply}
use Rattle.pybuf_console.specs.Console.{Console, HasAsked, HasStopped, refusal_of, shown_reply}
use Rattle.pybuf_console.specs.Held.{held}
use Rattle.pybuf_console.specs.Replies.{number_of, bytes_of, part_at}
use Rattle.pybuf_console.specs.Values.{number_value, slice_of, source_of}
use Rattle.pybuf_console.specs.declared.handle.WorldHandle.{WorldHandle}
use Rattle.pybuf_console.specs.declared.values.SliceWords.{SliceWords}
use Rattle.pybuf_crossing.specs.Rooms.{Hands}
use Rattle.pybuf_crossing.specs.Words.{signed, IsNoWord}
use Rattle.pybuf_crossing.specs.declared.rooms.Handed.{Handed}
use Rattle.pybuf_c.specs.Holding.{BothHold, IsWord}
use Rattle.pybuf_c.specs.Numbers.{kind_number, operator_number, property_number}
use Rattle.pybuf_c.specs.Status.{answer_number, fault_number}

-- ---- what was asked

-- The command was carried out, and the number of the call tells how.
abbrev pub Answers : Command → ℕ → Console → Console → Type 0
Answers asked n old new = HasAsked asked old new × (n ≡ answer_number (refusal_of new.last))

-- The world of the handle carried out the command, unless the call answers 1 (there is no memory) or 2 (the handle has no world).
abbrev pub CarriesOut : Command → ℕ → WorldHandle → WorldHandle → Type 0
CarriesOut asked n old new = n ≢ 1 → n ≢ 2 → BothHold (Answers asked n) (held old) (held new)

-- so it carried out a verb, asked of a subject
abbrev pub Asks : ℕ → Verb → ℕ → WorldHandle → WorldHandle → Type 0
Asks subject asked n old new = CarriesOut (command.Do subject asked) n old new

-- so it did, unless the call answers 6 (what was passed stands for nothing)
abbrev pub AsksKnown : ℕ → Verb → ℕ → WorldHandle → WorldHandle → Type 0
AsksKnown subject asked n old new = n ≢ 1 → n ≢ 2 → n ≢ 6 → BothHold (Answers (command.Do subject asked) n) (held old) (held new)

-- so it made an exporter of these bytes, of the kind that a number stands for
abbrev pub MakesExporter : ℕ → List ℕ → ℕ → WorldHandle → WorldHandle → Type 0
MakesExporter kind bytes n old new =
    n ≢ 1 → n ≢ 2 → n ≢ 6 → (made : ExporterKind) → kind_number made ≡ kind →
    BothHold (Answers (command.New made (source_of bytes)) n) (held old) (held new)

-- so it told the property that a number stands for
abbrev pub AsksProperty : ℕ → ℕ → ℕ → WorldHandle → WorldHandle → Type 0
AsksProperty subject property n old new =
    n ≢ 1 → n ≢ 2 → n ≢ 6 → (asked : PropertyName) → property_number asked ≡ property →
    BothHold (Answers (command.Do subject (verb.Property asked)) n) (held old) (held new)

-- so it compared by the operator that a number stands for
abbrev pub AsksComparison : ℕ → ℕ → Value → ℕ → WorldHandle → WorldHandle → Type 0
AsksComparison subject operator other n old new =
    n ≢ 1 → n ≢ 2 → n ≢ 6 → (op : CompareOp) → operator_number op ≡ operator →
    BothHold (Answers (command.Do subject (verb.Compare op other)) n) (held old) (held new)

-- so it read an item by its index, whatever the call answers besides
abbrev pub HasGot : ℕ → Value → ℕ → WorldHandle → WorldHandle → Type 0
HasGot subject index n old new = n ≢ 1 → n ≢ 2 → BothHold (HasAsked (command.Do subject (verb.Get index))) (held old) (held new)

-- nothing was run of a text, or some of its lines were
abbrev pub MayHaveStopped : List ℕ → Console → Console → Type 0
MayHaveStopped text old new = (new ≡ old) ⊎ HasStopped text old new

-- ---- values that are passed

-- the number of a size and a sign
abbrev pub word_value : Bool → ℕ → Value
word_value negative magnitude = number_value (signed negative magnitude)

-- the slice of three words
abbrev pub slice_value : SliceWords → Value
slice_value words = value.Slice (slice_of words)

-- ---- the last reply

-- The reply is no refusal, and has no number that fits into a size of 64 bits and a sign.
abbrev pub HasNoNumber : Reply → Type 0
HasNoNumber reply = (refusal_of reply ≡ None) × IsNoWord (number_of reply)

-- The reply is the refusal that has this number.
abbrev pub IsRefusedBy : ℕ → Reply → Type 0
IsRefusedBy n reply = IsSomeAnd (refusal_of reply) (λ fault. n ≡ fault_number fault)

-- the handle has a world, and this is said of its last reply
abbrev pub OfLast : (Reply → Type 0) → WorldHandle → Type 0
OfLast Says handle = IsSomeAnd (held handle) (λ console. Says console.last)

-- it is the number of a size and a sign
abbrev pub LastIsWord : Bool → ℕ → WorldHandle → Type 0
LastIsWord negative magnitude handle = IsSomeAnd (held handle) (λ console. IsWord (number_of console.last) negative magnitude)

-- so is its part at a place
abbrev pub PartIsWord : ℕ → Bool → ℕ → WorldHandle → Type 0
PartIsWord index negative magnitude handle = IsSomeAnd (held handle) (λ console. IsWord (part_at console.last index) negative magnitude)

-- ---- what is handed out

-- the bytes of the last reply are handed out so, with a room and a count before and after
abbrev pub HandsLast : Handed → WorldHandle → List ℕ → List ℕ → ℕ → ℕ → Type 0
HandsLast how handle old new count_old count_new = IsSomeAnd (held handle) (λ console. Hands how (bytes_of console.last) old new count_old count_new)

-- so is the text of a kept reply
abbrev pub HandsReply : Handed → ℕ → WorldHandle → List ℕ → List ℕ → ℕ → ℕ → Type 0
HandsReply how index handle old new count_old count_new =
    IsSomeAnd (held handle) (λ console. Hands how (shown_reply (slice_get console.replies index)) old new count_old count_new)
