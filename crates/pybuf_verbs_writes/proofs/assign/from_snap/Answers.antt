use Rattle.std.proofs.Common.{rules, ◌≡◌, true, length, ◌∙◌, ap}
use Rattle.pybuf_verbs_writes.specs.Assign.{has_form_of}
use Rattle.pybuf_verbs_writes.proofs.Assigning.{of_form, bytes_of_form, content_fits}
use Rattle.pybuf_verbs_writes.proofs.assign.from_snap.Goals as goal

pub lay-requires-clause-as_many : goal.lay-requires-clause-as_many
lay-requires-clause-as_many c =
    let snap = c.args.snap.now in
    let target = c.args.target.now in
    let form : has_form_of target snap.format snap.itemsize snap.shape ≡ true = search rules in
    ap length c.as_slice-3.ensures ∙ content_fits snap c.requires.fits c.requires.no_iterator c.if-snap.false
    ∙ bytes_of_form target snap.itemsize snap.shape (of_form target snap.format snap.itemsize snap.shape c.requires.one_dimension form)
