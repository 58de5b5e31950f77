-- Values that may be missing: what is computed from one, and what takes its place.
use Rattle.std.specs.Prelude.{Option, Some, None}

-- One step after another. If a step gives none, the whole is none.
infixl 10 ◌>>=◌
abbrev pub ◌>>=◌ : {A B : Type 0} → Option A → (A → Option B) → Option B
(Some x) >>= f = f x
None >>= f = None

-- One option or another. The other counts if the first gives nothing.
infixr 10 ◌or_else◌
abbrev pub ◌or_else◌ : {A : Type 0} → Option A → Option A → Option A
(Some x) or_else other = Some x
None or_else other = other
