-- Chains of views.
use Rattle.std.proofs.Common.{ℕ, List, [], ◌∷◌}
use Rattle.pybuf_desc.specs.Descriptor.{Descriptor}
use Rattle.pybuf_nd.specs.Chains.{Step, view_after, view_after_all, Makes, IsChain, last_made}

pub chain : (steps : List Step) (d : Descriptor) (start : ℕ) (made : List (Descriptor × ℕ)) → IsChain steps d start made → Makes (view_after_all steps) d start (last_made (d, start) made)
chain [] d start [] c = record { valid = λ room v. v; stands = λ view s. s }
chain [] d start (m ∷ later) c = absurd c
chain (step ∷ steps) d start [] c = absurd c
chain (step ∷ steps) d start (m ∷ later) c =
    let one = c.0 in
    let rest = chain steps m.0 m.1 later c.1 in
    record {
      valid = λ room v. rest.valid room (one.valid room v);
      stands = λ view s. rest.stands (view_after step view) (one.stands view s);
    }
