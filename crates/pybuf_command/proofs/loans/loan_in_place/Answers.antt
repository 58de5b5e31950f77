use Rattle.std.proofs.Common.{Some, ap, sym, ◌∙◌}
use Rattle.std.proofs.lemmas.Option.{slice_get-get_or, slice_get_past}
use Rattle.pybuf_command.proofs.Places.{found_at_place, none_past_places}
use Rattle.pybuf_command.proofs.loans.loan_in_place.Goals as goal

pub returns-in-Some : goal.returns-in-Some
returns-in-Some c =
    let inside = c.in-Some.ensures.lookup.3 in
    found_at_place c.args.loans.now c.args.handle c.in-Some.pair.now c.requires (slice_get-get_or c.args.loans.now c.args.handle c.in-Some.pair.now inside.0 ∙ ap Some (sym (inside.1 c.in-Some.pair.now)))

pub returns-in-None : goal.returns-in-None
returns-in-None c = none_past_places c.args.loans.now c.args.handle c.requires (slice_get_past c.args.loans.now c.args.handle c.in-None.ensures.lookup.3)
