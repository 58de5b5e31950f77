use Rattle.std.proofs.Common.{◌≡◌, true, sym, subst}
use Rattle.pybuf_value.specs.declared.snaps.Snap.{Snap}
use Rattle.pybuf_command.specs.declared.kinds.Subject.TheVariants as subjects
use Rattle.pybuf_memoryview.specs.Fits.{fits_snap}
use Rattle.pybuf_state.specs.Answers.{exporter_of}
use Rattle.pybuf_state.proofs.Fitting.{exporter_fits, subject_fits, fits_so}
use Rattle.pybuf_state.proofs.snaps.snap_of_subject.Goals as goal

pub returns-in_ok-snap-in-Own-clause-fits : goal.returns-in_ok-snap-in-Own-clause-fits
returns-in_ok-snap-in-Own-clause-fits c =
    subst (λ (x : Snap). fits_snap x ≡ true) (sym c.in_ok-snap-in-Own.ensures) (exporter_fits (exporter_of c.args.parts.now))

pub returns-in-View-clause-fits : goal.returns-in-View-clause-fits
returns-in-View-clause-fits c =
    fits_so c.snap_of_given.result _ c.snap_of_given.ensures
    (subject_fits c.contents_are_whole.ensures (exporter_of c.args.parts.now) (subjects.View c.in-View.view) c.requires.sound)

pub returns-in-Iter-clause-fits : goal.returns-in-Iter-clause-fits
returns-in-Iter-clause-fits c =
    fits_so c.snap_of_iterator.result _ c.snap_of_iterator.ensures
    (subject_fits c.contents_are_whole.ensures (exporter_of c.args.parts.now) (subjects.Iter c.in-Iter.iterator) c.requires.sound)
