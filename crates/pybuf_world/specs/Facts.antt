-- Facts about the definitions of this crate, with their proofs, for the proofs of the crates above.
use Rattle.std.proofs.Common.{◌≡◌, List, [], ◌∷◌, ◌++◌, refl, ap}
use Rattle.pybuf_command.specs.declared.worlds.Command.{Command}
use Rattle.pybuf_world.specs.World.{World, wstep, world_after_all, replies_of}

pub after_both : (w : World) (xs ys : List Command) → world_after_all w (xs ++ ys) ≡ world_after_all (world_after_all w xs) ys
after_both w [] ys = refl
after_both w (x ∷ xs) ys = after_both (wstep w x).0 xs ys

pub replies_of_both : (w : World) (xs ys : List Command) → replies_of w (xs ++ ys) ≡ replies_of w xs ++ replies_of (world_after_all w xs) ys
replies_of_both w [] ys = refl
replies_of_both w (x ∷ xs) ys = ap (λ rs. (wstep w x).1 ∷ rs) (replies_of_both (wstep w x).0 xs ys)
