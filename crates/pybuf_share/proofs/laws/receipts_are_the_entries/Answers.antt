use Rattle.pybuf_share.proofs.Theirs.{theirs}
use Rattle.pybuf_share.proofs.laws.receipts_are_the_entries.Goals as goal

pub returns : goal.returns
returns c =
    λ sessions entries are.
    theirs entries sessions are.numbers are.rise are.stand (λ i d within. (are.known i d within).counted (are.plain i d within)) (λ i d within. (are.known i d within).own (are.plain i d within)) are.counted
