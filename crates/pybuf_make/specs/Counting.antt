-- How a run is counted, command by command.
use Rattle.std.specs.Prelude.{◌≡◌, ◌+◌, List, length, count_by}
use Rattle.pybuf_command.specs.declared.worlds.Command.{Command}
use Rattle.pybuf_world.specs.World.{world_after_all, replies_of}
use Rattle.pybuf_make.specs.declared.counting.Counted.{Counted}
use Rattle.pybuf_make.specs.Summary.{is_refusal}

-- These commands were carried out. Each of them was counted, and so was each refusal.
pub record HasRun (old : Counted) (commands : List Command) (new : Counted) : Type 0 where
  pub world : new.world ≡ world_after_all old.world commands
  pub lines : new.lines ≡ old.lines + length commands
  pub refused : new.refused ≡ old.refused + count_by is_refusal (replies_of old.world commands)
