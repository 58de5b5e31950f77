use Rattle.example_users.proofs.WholeLemmas.{lent_sound}
use Rattle.example_users.proofs.number_array.NumberArray.lend.Goals as goal

pub invariant_of-self : goal.invariant_of-self
invariant_of-self c = lent_sound c.self.inside.0 _ _ c.of_all.result c.self.invariant c.state_mut.ensures.value c.of_all.ensures.answer
