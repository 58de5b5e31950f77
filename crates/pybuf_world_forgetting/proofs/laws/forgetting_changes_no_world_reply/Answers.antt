use Rattle.pybuf_world_forgetting.proofs.Worlds.{no_world_step}
use Rattle.pybuf_world_forgetting.proofs.laws.forgetting_changes_no_world_reply.Goals as goal

pub returns : goal.returns
returns c =
    no_world_step c.fresh_replies_are_copies.ensures c.forgetting_twice_is_forgetting_once.ensures c.forgetting_changes_no_reply.ensures.loans c.forgotten_loans_change_no_reply.ensures.loans
    c.forgotten_loans_change_no_reply.ensures.snaps c.forgotten_pairs_change_no_bytes.ensures
