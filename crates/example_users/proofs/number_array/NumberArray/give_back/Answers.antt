use Rattle.example_users.proofs.OutLemmas.{given_back, stays_on_err}
use Rattle.example_users.proofs.WholeLemmas.{back_sound}
use Rattle.example_users.proofs.number_array.NumberArray.give_back.Goals as goal

pub returns : goal.returns
returns c =
    let state = c.state_mut.ensures.value in
    let number = c.number.ensures in
    given_back _ c.self.inside.0 _ c.args.view c.release_view.result c.self.view_is (rw (number, state) at c.release_view.ensures.exact) (stays_on_err c.release_view.result _ _ c.self.inside.0 state c.release_view.ensures.err)

pub invariant_of-self : goal.invariant_of-self
invariant_of-self c =
    let state = c.state_mut.ensures.value in
    let number = c.number.ensures in
    back_sound c.self.inside.0 _ c.args.view c.release_view.result c.self.invariant (rw (number, state) at c.release_view.ensures.exact) (stays_on_err c.release_view.result _ _ c.self.inside.0 state c.release_view.ensures.err)
