use Rattle.std.proofs.Common.{◌≡◌, length, take, map, ap, subst, ◌∙◌}
use Rattle.std.proofs.lemmas.List.{length-map}
use Rattle.pybuf_world.specs.World.{replies_of}
use Rattle.example_users.specs.Program.{command_of, IsMade}
use Rattle.example_users.proofs.WorldLemmas.{made_more, made_stays_sound, length-replies_of}
use Rattle.example_users.proofs.interpreter.Interpreter.run.Goals as goal

pub returns-in_err-commands-clause-sound : goal.returns-in_err-commands-clause-sound
returns-in_err-commands-clause-sound c = made_stays_sound c.runs_stay_sound.ensures _ (map command_of c.args.program.items) (subst IsMade c.self.view_is c.self.invariant)

pub invariant_of-self : goal.invariant_of-self
invariant_of-self c =
    let stopped = c.in_err-run.ensures.stopped in
    made_more c.self.inside.world _ (take stopped.0 c.as_slice.result.now) c.self.invariant stopped.2

pub invariant_of-self-2 : goal.invariant_of-self-2
invariant_of-self-2 c = made_more c.self.inside.world _ c.as_slice.result.now c.self.invariant c.in_ok-run.ensures.world

pub returns-clause-one_each : goal.returns-clause-one_each
returns-clause-one_each c =
    let replies : c.run.new.replies ≡ replies_of c.self.inside.world c.as_slice.result.now = rw c.new-answers.ensures at c.in_ok-run.ensures.replies in
    ap (λ rs. length rs) replies
    ∙ (length-replies_of c.self.inside.world c.as_slice.result.now
    ∙ (ap (λ cs. length cs) (c.as_slice.ensures.value ∙ c.in_ok-commands.ensures) ∙ length-map c.args.program.items command_of))

pub returns-in_err-run-clause-sound : goal.returns-in_err-run-clause-sound
returns-in_err-run-clause-sound c = made_stays_sound c.runs_stay_sound.ensures _ (map command_of c.args.program.items) (subst IsMade c.self.view_is c.self.invariant)

pub returns-clause-sound : goal.returns-clause-sound
returns-clause-sound c = made_stays_sound c.runs_stay_sound.ensures _ (map command_of c.args.program.items) (subst IsMade c.self.view_is c.self.invariant)
