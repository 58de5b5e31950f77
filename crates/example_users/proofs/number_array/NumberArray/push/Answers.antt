use Rattle.example_users.proofs.PushLemmas.{pushed}
use Rattle.example_users.proofs.number_array.NumberArray.push.Goals as goal

pub returns-clause-ok : goal.returns-clause-ok
returns-clause-ok c =
    (pushed _ c.self.inside.0 _ c.args.number c.self.invariant c.self.view_is c.ranges.number.fits c.extend_from_slice.result (rw (c.to_le_bytes.ensures) at c.extend_from_slice.ensures)).ok

pub returns-clause-lent : goal.returns-clause-lent
returns-clause-lent c =
    let facts =
    pushed _ c.self.inside.0 _ c.args.number c.self.invariant c.self.view_is c.ranges.number.fits c.extend_from_slice.result (rw (c.to_le_bytes.ensures) at c.extend_from_slice.ensures) in
    (facts.refused, facts.lent)

pub returns-clause-err : goal.returns-clause-err
returns-clause-err c =
    (pushed _ c.self.inside.0 _ c.args.number c.self.invariant c.self.view_is c.ranges.number.fits c.extend_from_slice.result (rw (c.to_le_bytes.ensures) at c.extend_from_slice.ensures)).err

pub invariant_of-self : goal.invariant_of-self
invariant_of-self c =
    (pushed _ c.self.inside.0 _ c.args.number c.self.invariant c.self.view_is c.ranges.number.fits c.extend_from_slice.result (rw (c.to_le_bytes.ensures) at c.extend_from_slice.ensures)).sound
