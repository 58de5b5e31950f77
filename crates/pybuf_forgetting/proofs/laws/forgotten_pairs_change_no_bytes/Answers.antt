use Rattle.pybuf_forgetting.proofs.Methods.{bytes_of_options}
use Rattle.pybuf_forgetting.proofs.laws.forgotten_pairs_change_no_bytes.Goals as goal

pub returns : goal.returns
returns c = λ pairs others source encoding errors alike. bytes_of_options pairs others (record { named = alike }) source encoding errors
