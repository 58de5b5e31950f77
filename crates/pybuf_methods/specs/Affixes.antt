-- The end at which bytes are searched for an affix.
use Rattle.std.specs.Prelude.{ℕ, Bool, List}
use Rattle.pybuf_search.specs.Ends.{begins_with, ends_with}
use Rattle.pybuf_methods.specs.declared.affixes.End.{End}
use Rattle.pybuf_methods.specs.declared.affixes.End.TheVariants as end

-- whether an affix stands at an end of bytes
abbrev pub stands_at : End → List ℕ → List ℕ → Bool
stands_at end.Front bytes affix = begins_with bytes affix
stands_at end.Back bytes affix = ends_with bytes affix
