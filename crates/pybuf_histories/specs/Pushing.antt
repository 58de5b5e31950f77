-- What a writer owes: it adds a text to those that are there, unless memory runs out.
use Rattle.std.specs.Prelude.{◌≡◌, ℕ, ◌++◌, List, Result, OnOk}
use Rattle.std.specs.declared.alloc.Global.{Global}
use Rattle.std.specs.declared.vec.Vec.{Vec}

abbrev pub Pushes : {A E : Type 0} → List ℕ → Vec ℕ Global → Vec ℕ Global → Result A E → Type 0
Pushes text old new result = OnOk result (new.items ≡ old.items ++ text)
