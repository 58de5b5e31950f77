-- What it costs to add bytes if there is free room in front of them.
use Rattle.std.proofs.Common.{◌≡◌, ℕ, Bool, true, false, List, ◌++◌, length, refl, inl, inr, arith, length-append}
use Rattle.std.specs.Prelude.{nat_lt, if◌then◌else◌}
use Rattle.std.proofs.lemmas.Bool.{ltb-true, ltb-false}
use Rattle.pybuf_front.specs.FrontContent.{FrontContent, IsPaidByRoom, AddingIsPaidByRoom}

-- This holds whether the bytes are moved or not.
paid_by : (f : FrontContent) (added : List ℕ) (memory : ℕ) (b : Bool) → nat_lt f.room (length f.items) ≡ b
    → IsPaidByRoom f (record { items = f.items ++ added; room = if b then f.room else 0; memory = memory }) (if b then 0 else length f.items)
paid_by f added memory true test =
    let less = ltb-true f.room (length f.items) test in
    record { paid = omega arith; few = omega arith; spare = inr (omega (arith, less, length-append f.items added)) }
paid_by f added memory false test =
    let more = ltb-false f.room (length f.items) test in
    record { paid = omega (arith, more); few = omega arith; spare = inl refl }

pub adding_is_paid : (f : FrontContent) (added : List ℕ) → AddingIsPaidByRoom f added
adding_is_paid f added memory = paid_by f added memory (nat_lt f.room (length f.items)) refl
