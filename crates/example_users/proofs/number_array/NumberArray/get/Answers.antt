use Rattle.example_users.proofs.NumberLemmas.{number_read}
use Rattle.example_users.proofs.number_array.NumberArray.get.Goals as goal

pub returns : goal.returns
returns c =
    let lookup = c.in_ok-get.ensures.lookup in
    number_read _ c.self.inside.0 _ _ _ c.args.index c.from_le_bytes.result c.self.invariant c.self.view_is c.as_slice.ensures c.as_chunks.ensures.front c.as_chunks.ensures.front_len lookup.3.0 lookup.1 c.from_le_bytes.ensures
