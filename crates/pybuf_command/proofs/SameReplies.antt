-- Two replies are equal by Rust's `==` exactly if they are the same.
use Rattle.std.proofs.Common.{◌≡◌, ℕ, ℤ, Bool, true, false, List, refl, ap, sym, ◌∙◌, subst}
use Rattle.std.specs.Bool.{Decides}
use Rattle.std.specs.Str.{bytes_eq}
use Rattle.std.specs.Ordering.{int_eq}
use Rattle.std.specs.Cmp.Lexicographic.{pointwise}
use Rattle.std.proofs.lemmas.Bool.{false≢true}
use Rattle.std.proofs.lemmas.Bool.Decides.{Decides-eqb, Decides-int_eq}
use Rattle.std.proofs.lemmas.Slice.Eq.{bytes_eq-Decides, slice_eq-Decides}
use Rattle.std.specs.contracts.prelude.BoolPartialEq.TheImpl as bool_eq
use Rattle.pybuf_lemmas.proofs.Booleans.{both_of, both_hold}
use Rattle.pybuf_value.specs.declared.faults.Fault.{Fault}
use Rattle.pybuf_value.specs.declared.faults.Fault.TheVariants as fault
use Rattle.pybuf_value.specs.declared.values.Item.{Item}
use Rattle.pybuf_value.specs.contracts.faults.FaultPartialEq.TheImpl as fault_eq
use Rattle.pybuf_value.specs.contracts.values.ItemPartialEq.TheImpl as item_eq
use Rattle.pybuf_value.specs.Laws.{EqualExactly}
use Rattle.pybuf_command.specs.declared.commands.LocalReply.{LocalReply}
use Rattle.pybuf_command.specs.declared.commands.LocalReply.TheVariants as reply
use Rattle.pybuf_command.specs.contracts.commands.LocalReplyPartialEq.TheImpl as reply_eq
use Rattle.pybuf_command.specs.Laws.{EqualRepliesAreTheSame}

bools_same : (a b : Bool) → Decides (bool_eq.eq-value.it a b) (a ≡ b)
bools_same true true = (λ _. refl, λ _. refl)
bools_same false false = (λ _. refl, λ _. refl)
bools_same true false = (λ h. absurd (false≢true h), λ p. sym p)
bools_same false true = (λ h. absurd (false≢true h), λ p. p)

fault_itself : (f : Fault) → fault_eq.eq-value.it f f ≡ true
fault_itself fault.Index = refl
fault_itself fault.Value = refl
fault_itself fault.Kind = refl
fault_itself fault.Buffer = refl
fault_itself fault.Struct = refl
fault_itself fault.Overflow = refl
fault_itself fault.NotImplemented = refl
fault_itself fault.UnknownName = refl

from_fault : (f g : Fault) → fault_eq.eq-value.it f g ≡ true → f ≡ g
from_fault fault.Index fault.Index h = refl
from_fault fault.Value fault.Value h = refl
from_fault fault.Kind fault.Kind h = refl
from_fault fault.Buffer fault.Buffer h = refl
from_fault fault.Struct fault.Struct h = refl
from_fault fault.Overflow fault.Overflow h = refl
from_fault fault.NotImplemented fault.NotImplemented h = refl
from_fault fault.UnknownName fault.UnknownName h = refl
from_fault _ _ h = absurd (false≢true h)

item_lists_same : EqualExactly → (xs ys : List Item) → Decides (pointwise item_eq.eq-value.it xs ys) (xs ≡ ys)
item_lists_same e xs ys = slice_eq-Decides e.items xs ys (pointwise item_eq.eq-value.it xs ys) refl

number_lists_same : (xs ys : List ℤ) → Decides (pointwise int_eq xs ys) (xs ≡ ys)
number_lists_same xs ys = slice_eq-Decides Decides-int_eq xs ys (pointwise int_eq xs ys) refl

byte_lists_same : (xs ys : List (List ℕ)) → Decides (pointwise bytes_eq xs ys) (xs ≡ ys)
byte_lists_same xs ys = slice_eq-Decides bytes_eq-Decides xs ys (pointwise bytes_eq xs ys) refl

reply_itself : EqualExactly → (r : LocalReply) → reply_eq.eq-value.it r r ≡ true
reply_itself e reply.Ok = refl
reply_itself e (reply.View n) = (Decides-eqb n n).1 refl
reply_itself e (reply.Iter n) = (Decides-eqb n n).1 refl
reply_itself e reply.Itself = refl
reply_itself e reply.Own = refl
reply_itself e (reply.Item x) = (e.items x x).1 refl
reply_itself e (reply.Items shape items) = both_hold _ _ ((bytes_eq-Decides shape shape).1 refl) ((item_lists_same e items items).1 refl)
reply_itself e (reply.Bytes bytes) = (bytes_eq-Decides bytes bytes).1 refl
reply_itself e (reply.Text text) = (bytes_eq-Decides text text).1 refl
reply_itself e (reply.Shown text) = (bytes_eq-Decides text text).1 refl
reply_itself e (reply.Truth truth) = (bools_same truth truth).1 refl
reply_itself e reply.NotImplementedReply = refl
reply_itself e (reply.Numbers numbers) = (number_lists_same numbers numbers).1 refl
reply_itself e (reply.ByteLists lists) = (byte_lists_same lists lists).1 refl
reply_itself e reply.Stop = refl
reply_itself e (reply.Fresh snap) = (e.snaps snap snap).1 refl
reply_itself e (reply.Refused f) = fault_itself f

from_reply : EqualExactly → (x y : LocalReply) → reply_eq.eq-value.it x y ≡ true → x ≡ y
from_reply e reply.Ok reply.Ok h = refl
from_reply e (reply.View m) (reply.View n) h = ap reply.View ((Decides-eqb m n).0 h)
from_reply e (reply.Iter m) (reply.Iter n) h = ap reply.Iter ((Decides-eqb m n).0 h)
from_reply e reply.Itself reply.Itself h = refl
from_reply e reply.Own reply.Own h = refl
from_reply e (reply.Item x) (reply.Item y) h = ap reply.Item ((e.items x y).0 h)
from_reply e (reply.Items m xs) (reply.Items n ys) h =
    ap (λ a. reply.Items a xs) ((bytes_eq-Decides m n).0 (both_of _ _ h).0) ∙ ap (reply.Items n) ((item_lists_same e xs ys).0 (both_of _ _ h).1)
from_reply e (reply.Bytes x) (reply.Bytes y) h = ap reply.Bytes ((bytes_eq-Decides x y).0 h)
from_reply e (reply.Text x) (reply.Text y) h = ap reply.Text ((bytes_eq-Decides x y).0 h)
from_reply e (reply.Shown x) (reply.Shown y) h = ap reply.Shown ((bytes_eq-Decides x y).0 h)
from_reply e (reply.Truth x) (reply.Truth y) h = ap reply.Truth ((bools_same x y).0 h)
from_reply e reply.NotImplementedReply reply.NotImplementedReply h = refl
from_reply e (reply.Numbers x) (reply.Numbers y) h = ap reply.Numbers ((number_lists_same x y).0 h)
from_reply e (reply.ByteLists x) (reply.ByteLists y) h = ap reply.ByteLists ((byte_lists_same x y).0 h)
from_reply e reply.Stop reply.Stop h = refl
from_reply e (reply.Fresh x) (reply.Fresh y) h = ap reply.Fresh ((e.snaps x y).0 h)
from_reply e (reply.Refused f) (reply.Refused g) h = ap reply.Refused (from_fault f g h)
from_reply e _ _ h = absurd (false≢true h)

pub replies_same : EqualExactly → EqualRepliesAreTheSame
replies_same e x y = (from_reply e x y, λ p. subst (λ u. reply_eq.eq-value.it x u ≡ true) p (reply_itself e x))
