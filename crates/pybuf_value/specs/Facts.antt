-- Facts about the definitions of this crate, with their proofs, for the proofs of the crates above.
use Rattle.std.proofs.Common.{◌≡◌, ap, ℕ, List, false, ◌==◌, ◌&&◌, not, subst, Bool, true, refl}
use Rattle.std.specs.Prelude.{Result, Err, Option, Some, Ok}
use Rattle.std.specs.List.{list_any}
use Rattle.pybuf_lemmas.proofs.Booleans.{quote_is_no_line_end}
use Rattle.pybuf_value.specs.declared.faults.Fault.{Fault}
use Rattle.pybuf_value.specs.Refusing.{◌>>=◌, IfDone, unless}
use Rattle.pybuf_value.specs.declared.snaps.Snap.{Snap}
use Rattle.pybuf_value.specs.Quotes.{quote_of}

-- where the first check refuses, so does the chain
pub first_refuses : {A B : Type 0} (r : Result A Fault) (f : A → Result B Fault) (g : Fault) → r ≡ Err g → (r >>= f) ≡ Err g
first_refuses r f g is = ap (λ s. s >>= f) is

abbrev pub there : Snap → Option Snap
there snap = Some snap

pub snap_is_there : (snap source : Snap) → there snap ≡ Some source → snap ≡ source
snap_is_there snap source is = cc

pub quote_of_is_no_line_end : (bytes : List ℕ) → (quote_of bytes == 10) ≡ false
quote_of_is_no_line_end bytes = quote_is_no_line_end (list_any (λ b. b == 39) bytes && not (list_any (λ b. b == 34) bytes))

pub done_holds : {B : Type 0} (P : B → Type 0) (r : Result B Fault) (x : B) → IfDone P r → r ≡ Ok x → P x
done_holds P (Ok y) x holds is = let same : y ≡ x = cc in subst P same holds
done_holds P (Err f) x holds is = absurd (cc)

pub passed_unless : (b : Bool) (f : Fault) (u : Bool) → unless b f ≡ Ok u → b ≡ false
passed_unless true f u is = absurd (cc)
passed_unless false f u is = refl
