-- Worlds whose exporters forget what released views and exhausted iterators keep.
use Rattle.std.specs.Prelude.{◌≡◌, ℕ, List, [], ◌∷◌, map}
use Rattle.pybuf_command.specs.declared.worlds.Command.{Command}
use Rattle.pybuf_command.specs.declared.worlds.Reply.{Reply}
use Rattle.pybuf_state.specs.Exporter.{Exporter}
use Rattle.pybuf_forgetting.specs.Forgotten.{forgotten}
use Rattle.pybuf_world.specs.World.{World, wstep, world_after_all}

-- the world after all its exporters have forgotten; handles name what they named
abbrev pub forgotten_world : World → World
forgotten_world w = record { exporters = map forgotten w.exporters; handles = w.handles }

-- the bytes of each exporter of a world
abbrev pub bytes_of_world : World → List (List ℕ)
bytes_of_world w = map (λ (e : Exporter). e.bytes) w.exporters

-- Two steps are the same but for what may be forgotten: the same reply, the same bytes, and worlds that are the same once
-- both have forgotten.
pub record IsSameWorldStep (one other : World × Reply) : Type 0 where
  pub reply : one.1 ≡ other.1
  pub bytes : bytes_of_world one.0 ≡ bytes_of_world other.0
  pub world : forgotten_world one.0 ≡ forgotten_world other.0

-- So it is for every command.
abbrev pub ForgettingChangesNoWorldStep : Type 0
ForgettingChangesNoWorldStep = (w : World) (c : Command) → IsSameWorldStep (wstep (forgotten_world w) c) (wstep w c)

-- the replies to a list of commands, in order
abbrev pub world_replies : World → List Command → List Reply
world_replies w [] = []
world_replies w (c ∷ cs) = (wstep w c).1 ∷ world_replies (wstep w c).0 cs

-- Two worlds run the same: the same replies, and at the end the same bytes.
pub record RunTheSame (one other : World) (cs : List Command) : Type 0 where
  pub replies : world_replies one cs ≡ world_replies other cs
  pub bytes : bytes_of_world (world_after_all one cs) ≡ bytes_of_world (world_after_all other cs)
  pub world : forgotten_world (world_after_all one cs) ≡ forgotten_world (world_after_all other cs)

-- Worlds that are the same once all exporters of both have forgotten run the same. In one of them some exporters may
-- have forgotten, and others not.
abbrev pub WorldsThatForgetAlikeRunAlike : Type 0
WorldsThatForgetAlikeRunAlike = (one other : World) (cs : List Command) → forgotten_world one ≡ forgotten_world other → RunTheSame one other cs
