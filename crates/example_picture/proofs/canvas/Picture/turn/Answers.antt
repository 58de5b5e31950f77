use Rattle.std.proofs.Common.{length}
use Rattle.example_picture.proofs.canvas.Picture.turn.Goals as goal

pub add-requires-clause-valid : goal.add-requires-clause-valid
add-requires-clause-valid c = c.in_ok-desc.ensures.valid (length c.args.self.now.levels) c.described-start.ensures.valid
