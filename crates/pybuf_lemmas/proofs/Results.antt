-- What a call gives or is refused with.
use Rattle.std.specs.Prelude.{Result, Ok, Err, IfOk}
use Rattle.std.specs.Result.{OnOk}

pub if_ok_follows : {X E : Type 0} (r : Result X E) (P Q : X → Type 0) → ((x : X) → P x → Q x) → IfOk r P → IfOk r Q
if_ok_follows (Ok x) P Q h p = h x p
if_ok_follows (Err e) P Q h p = tt

pub on_ok_follows : {T E P Q : Type 0} (r : Result T E) → (P → Q) → OnOk r P → OnOk r Q
on_ok_follows (Ok value) f h = f h
on_ok_follows (Err e) f h = tt
