-- Worlds that commands made.
use Rattle.std.proofs.Common.{◌≡◌, ℕ, suc, ◌<◌, List, [], ◌∷◌, ◌++◌, length, take, refl, ap, sym, subst, ◌∙◌, slice_get}
use Rattle.std.specs.Prelude.{Result, Ok, Err, IfOk, OnErr}
use Rattle.std.proofs.Math.Seq.{take-length}
use Rattle.pybuf_world.specs.Facts.{after_both}
use Rattle.pybuf_command.specs.declared.worlds.Command.{Command}
use Rattle.pybuf_value.specs.declared.faults.Fault.{Fault}
use Rattle.pybuf_command.specs.declared.worlds.Reply.{Reply}
use Rattle.pybuf_command.specs.declared.worlds.Reply.TheVariants as replies
use Rattle.pybuf_world.specs.World.{World, empty_world, wstep, world_after_all, replies_of}
use Rattle.pybuf_world.specs.Sound.{IsSoundWorld, StaysSound}
use Rattle.pybuf_world.specs.Laws.{HandlesStay, RefusalsChangeNothing, RunsStaySound}
use Rattle.example_users.specs.Program.{IsMade}

-- There is a reply for each command.
pub length-replies_of : (w : World) (commands : List Command) → length (replies_of w commands) ≡ length commands
length-replies_of w [] = refl
length-replies_of w (c ∷ commands) = ap suc (length-replies_of (wstep w c).0 commands)

-- A world that commands made is still made by commands after more of them.
pub made_more : (w new : World) (commands : List Command) → IsMade w → new ≡ world_after_all w commands → IsMade new
made_more w new commands made is = record {
  commands = made.commands ++ commands;
  after = is ∙ (ap (λ v. world_after_all v commands) made.after ∙ sym (after_both empty_world made.commands commands));
}

-- Such a world is sound after each command that follows.
pub made_stays_sound : RunsStaySound → (w : World) (commands : List Command) → IsMade w → StaysSound w commands
made_stays_sound law w commands made k =
    let all : List Command = made.commands ++ take k commands in
    let whole : world_after_all empty_world (take (length all) all) ≡ world_after_all w (take k commands) =
    ap (λ cs. world_after_all empty_world cs) (take-length all)
    ∙ (after_both empty_world made.commands (take k commands) ∙ ap (λ v. world_after_all v (take k commands)) (sym made.after)) in
    subst IsSoundWorld whole (law all (length all))

module _ {E : Type 0} where
  -- One more command makes such a world too, and a step without memory changes none.
  pub made_by_step : (w new : World) (c : Command) (r : Result Reply E) → IsMade w → IfOk r (λ reply. wstep w c ≡ (new, reply)) → OnErr r (new ≡ w) → IsMade new
  made_by_step w new c (Ok reply) made ok err = made_more w new (c ∷ []) made (sym (ap (λ after. after.0) ok))
  made_by_step w new c (Err e) made ok err = subst IsMade (sym err) made

  -- Each handle names what it named before.
  pub handles_kept : HandlesStay → (w new : World) (c : Command) (r : Result Reply E) → IfOk r (λ reply. wstep w c ≡ (new, reply))
      → IfOk r (λ _. (handle : ℕ) → handle < length w.handles → slice_get new.handles handle ≡ slice_get w.handles handle)
  handles_kept law w new c (Ok reply) ok = λ handle given. subst (λ v. slice_get v.handles handle ≡ slice_get w.handles handle) (ap (λ after. after.0) ok) (law w c handle given)
  handles_kept law w new c (Err e) ok = tt

  -- A refusal changes nothing.
  pub refusal_kept : RefusalsChangeNothing → (w new : World) (c : Command) (r : Result Reply E) → IfOk r (λ reply. wstep w c ≡ (new, reply))
      → IfOk r (λ reply. (fault : Fault) → reply ≡ replies.Refused fault → new ≡ w)
  refusal_kept law w new c (Ok answer) ok = λ fault refused. sym (ap (λ after. after.0) ok) ∙ law w c fault (ap (λ after. after.1) ok ∙ refused)
  refusal_kept law w new c (Err e) ok = tt
