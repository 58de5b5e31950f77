-- Replies that own memory, and what a command that gives one has changed.
use Rattle.std.specs.Prelude.{◌≡◌, ◌⊎◌, ℕ, Bool, true, false, List, length, nat_lt, Ok, Err}
use Rattle.pybuf_value.specs.declared.faults.Fault.{Fault}
use Rattle.pybuf_value.specs.declared.values.Scalar.{Scalar}
use Rattle.pybuf_value.specs.declared.values.Scalar.TheVariants as scalar
use Rattle.pybuf_value.specs.declared.values.Item.{Item}
use Rattle.pybuf_value.specs.declared.values.Item.TheVariants as item
use Rattle.pybuf_command.specs.declared.kinds.Subject.{Subject}
use Rattle.pybuf_command.specs.declared.kinds.Subject.TheVariants as subject
use Rattle.pybuf_command.specs.declared.commands.Verb.{Verb}
use Rattle.pybuf_command.specs.declared.commands.Verb.TheVariants as verb
use Rattle.pybuf_command.specs.declared.commands.LocalReply.{LocalReply}
use Rattle.pybuf_command.specs.declared.commands.LocalReply.TheVariants as reply
use Rattle.pybuf_command.specs.declared.loans.Loan.{Loan}
use Rattle.pybuf_state.specs.Exporter.{Exporter, Iterator, iterator_at, iterator_put}
use Rattle.pybuf_exporter.specs.Step.{estep}

abbrev pub scalar_owns : Scalar → Bool
scalar_owns (scalar.Text text) = true
scalar_owns (scalar.Bytes bytes) = true
scalar_owns _ = false

abbrev pub item_owns : Item → Bool
item_owns (item.One s) = scalar_owns s
item_owns (item.Many values) = true

-- Whether a reply owns memory. Every other reply can be copied without memory.
abbrev pub reply_owns : LocalReply → Bool
reply_owns (reply.Item x) = item_owns x
reply_owns (reply.Items shape items) = true
reply_owns (reply.Bytes bytes) = true
reply_owns (reply.Text text) = true
reply_owns (reply.Shown text) = true
reply_owns (reply.Numbers numbers) = true
reply_owns (reply.ByteLists lists) = true
reply_owns (reply.Fresh snap) = true
reply_owns _ = false

-- Two commands change something and may reply what owns memory. One takes the bytes of a vector, and the other
-- asks an iterator for its next item.
abbrev pub hands_over : Subject → Verb → Bool
hands_over subject.Own verb.Take = true
hands_over (subject.Iter k) verb.Next = true
hands_over _ _ = false

-- If any other command's reply owns memory, the command changes nothing.
abbrev pub OwningRepliesChangeNothing : Type 0
OwningRepliesChangeNothing =
    (e : Exporter) (s : Subject) (v : Verb) (loans : List (ℕ × Loan)) → hands_over s v ≡ false → reply_owns (estep e s v loans).1 ≡ true → (estep e s v loans).0 ≡ e

-- `take` replies all bytes, and every other reply to it owns no memory.
abbrev pub TakenBytesAreAll : Type 0
TakenBytesAreAll =
    (e : Exporter) (loans : List (ℕ × Loan)) → (reply_owns (estep e subject.Own verb.Take loans).1 ≡ false) ⊎ ((estep e subject.Own verb.Take loans).1 ≡ reply.Bytes e.bytes)

-- `next` is undone if the iterator is put back as it was.
abbrev pub NextIsUndone : Type 0
NextIsUndone =
    (e : Exporter) (k : ℕ) (it : Iterator) (loans : List (ℕ × Loan)) → iterator_at e k ≡ Ok it
    → (nat_lt k (length (estep e (subject.Iter k) verb.Next loans).0.iterators) ≡ true) × (iterator_put (estep e (subject.Iter k) verb.Next loans).0 k it ≡ e)

-- An iterator that was never made has no next item.
abbrev pub NoIteratorHasNoNext : Type 0
NoIteratorHasNoNext = (e : Exporter) (k : ℕ) (f : Fault) (loans : List (ℕ × Loan)) → iterator_at e k ≡ Err f → (estep e (subject.Iter k) verb.Next loans).0 ≡ e
