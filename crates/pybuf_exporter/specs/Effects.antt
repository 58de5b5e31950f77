-- What each effect has to keep, so that the laws hold for every command.
use Rattle.std.specs.Prelude.{ℕ, List, Option, Result}
use Rattle.pybuf_value.specs.declared.faults.Fault.{Fault}
use Rattle.pybuf_value.specs.Refusing.{IfDone}
use Rattle.pybuf_command.specs.declared.kinds.Subject.{Subject}
use Rattle.pybuf_command.specs.declared.kinds.Subject.TheVariants as subject
use Rattle.pybuf_command.specs.declared.commands.Verb.{Verb}
use Rattle.pybuf_command.specs.declared.commands.Verb.TheVariants as verb
use Rattle.pybuf_command.specs.declared.commands.LocalReply.{LocalReply}
use Rattle.pybuf_command.specs.declared.loans.Loan.{Loan}
use Rattle.pybuf_state.specs.Exporter.{Exporter}
use Rattle.pybuf_state.specs.Loans.{Lent}
use Rattle.pybuf_state.specs.Keeps.{IsSafe, IsCopied, IsIterated}
use Rattle.pybuf_state.specs.Sound.{IsSoundExporter}
use Rattle.pybuf_exporter.specs.Step.{effect, estep_by}

-- `contig` of a view and `copy` of a bytearray reply a copy of it. `iter` and the effects of an iterator change
-- only iterators. Every other effect is safe.
abbrev pub EffectIsSafe : Exporter → Subject → Verb → Result (Exporter × LocalReply) Fault → Type 0
EffectIsSafe e (subject.View k) verb.ToContiguous after = IfDone (IsCopied e (subject.View k)) after
EffectIsSafe e subject.Own verb.Copy after = IfDone (IsCopied e subject.Own) after
EffectIsSafe e (subject.Iter k) v after = IfDone (IsIterated e) after
EffectIsSafe e s verb.Iter after = IfDone (IsIterated e) after
EffectIsSafe e s v after = IsSafe e after

abbrev pub EffectsAreSafe : Type 0
EffectsAreSafe = (e : Exporter) (s : Subject) (v : Verb) (lents : List Lent) → EffectIsSafe e s v (effect e s v lents)

-- Each command keeps an exporter sound, whatever its handles are lent as.
abbrev pub StepsKeepSound : Type 0
StepsKeepSound = (e : Exporter) (s : Subject) (v : Verb) (named : ℕ → Option Loan) → IsSoundExporter e → IsSoundExporter (estep_by e s v named).0
