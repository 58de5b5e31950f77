-- The effects of iterators change nothing but iterators, and leave an exhausted one as it is.
use Rattle.std.specs.Prelude.{ℕ}
use Rattle.pybuf_value.specs.Refusing.{IfDone}
use Rattle.pybuf_command.specs.declared.commands.Verb.{Verb}
use Rattle.pybuf_state.specs.Exporter.{Exporter}
use Rattle.pybuf_state.specs.Keeps.{IsIterated}
use Rattle.pybuf_verbs_iters.specs.Iterators.{iter_of_own, iter_of_view, effect_on_iterator}

abbrev pub IterIsSafe : Type 0
IterIsSafe =
    ((e : Exporter) → IfDone (IsIterated e) (iter_of_own e))
    × ((e : Exporter) (k : ℕ) → IfDone (IsIterated e) (iter_of_view e k))

abbrev pub IteratorsAreSafe : Type 0
IteratorsAreSafe = (e : Exporter) (k : ℕ) (v : Verb) → IfDone (IsIterated e) (effect_on_iterator e k v)
