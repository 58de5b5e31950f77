use Rattle.std.proofs.Common.{◌≡◌, ℕ, List, refl, sym, subst}
use Rattle.std.specs.Prelude.{slice_get}
use Rattle.pybuf_command.specs.declared.loans.Loan.{Loan}
use Rattle.pybuf_world.specs.declared.named.Target.{Target}
use Rattle.pybuf_world.specs.declared.tables.Tables.{Tables}
use Rattle.pybuf_world.specs.Tables.{world_of, IsKept}
use Rattle.pybuf_world.specs.World.{World, step_of_new, loans_of, step_of_target}
use Rattle.pybuf_world.specs.Exporters.{ExporterLaws}
use Rattle.pybuf_world.proofs.Sound.{step_of_new_sound, loans_sound, sound_in_either, owned_after_loans}
use Rattle.pybuf_world.proofs.tables.Tables.step.Goals as goal
use Rattle.pybuf_world.proofs.tables.Tables.step.Goals.{in-Some-Exporter, in-Some-View, in-Some-Iterator}

pub returns-in-New-clause-kept : goal.returns-in-New-clause-kept
returns-in-New-clause-kept c =
    let w : World = world_of c.args.self.now in
    record {
      sound = sound_in_either w (world_of c.make.new.self) (step_of_new w c.in-New.kind c.in-New.options) c.make.result c.make.ensures.ok c.make.ensures.err c.requires.sound
          (step_of_new_sound w c.in-New.kind c.in-New.options c.requires.sound);
      owned = c.make.ensures.owned;
    }

pub returns-after-get-2-clause-kept : goal.returns-after-get-2-clause-kept
returns-after-get-2-clause-kept c =
    let old : Tables = c.match-get-2.self in
    let same : old ≡ c.args.self.now = elim c.match-get-2.branch [ in-Some-Exporter x ↦ x.self-is | in-Some-View x ↦ x.self-is | in-Some-Iterator x ↦ x.self-is ] in
    let kept : IsKept old = subst IsKept (sym same) c.requires in
    let w : World = world_of old in
    let t : Target = record { handle = c.in-Do.subject; exporter = c.match-get-2.exporter.0; subject = c.match-get-2.exporter.1 } in
    let v = c.in-Do.verb in
    let after : World = world_of c.step_of_target.new.self in
    let loans : List (ℕ × Loan) = loans_of w t.exporter v in
    let laws : ExporterLaws = c.exporter_laws.ensures in
    record {
      sound = sound_in_either w after (step_of_target w t v) c.step_of_target.result c.step_of_target.ensures.ok c.step_of_target.ensures.err kept.sound
          (loans_sound laws w t v loans (slice_get w.exporters t.exporter) refl kept.sound);
      owned = owned_after_loans laws w after t v loans c.step_of_target.result _ _ c.step_of_target.ensures.ok c.step_of_target.ensures.err c.step_of_target.ensures.owners c.step_of_target.ensures.owners_kept
          kept.sound kept.owned;
    }
