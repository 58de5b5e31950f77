use Rattle.pybuf_lemmas.proofs.Results.{on_ok_follows}
use Rattle.pybuf_histories.specs.Names.{name_of}
use Rattle.pybuf_histories.proofs.Joined.{parts_joined}
use Rattle.pybuf_histories.proofs.spellings.push_first_parts.Goals as goal

pub returns : goal.returns
returns g c =
    on_ok_follows c.push_next_parts.result
    (parts_joined (g.T.Part.spelling (name_of c.args.loans.now)) c.args.first.now c.args.more.now c.args.out.now.items c.push_part.new.out.items
    c.push_next_parts.new.out.items c.in_ok-push_part.ensures)
    c.push_next_parts.ensures
