use Rattle.std.proofs.Common.{◌∙◌, ap}
use Rattle.pybuf_state.specs.Fits.{all_fit}
use Rattle.pybuf_share.proofs.Lends.{more_fit, has_taken, on_ok}
use Rattle.pybuf_share.proofs.shared.SharedExporter.take_bytes.Goals as goal

pub call-requires : goal.call-requires
call-requires g c = ap all_fit c.in-Ok.ensures ∙ more_fit c.subjects_fit.ensures c.args.command.loans c.args.handle c.args.bytes.now c.requires.fit

pub returns-in-Ok-clause-ok : goal.returns-in-Ok-clause-ok
returns-in-Ok-clause-ok g c =
    on_ok c.call.result
    (has_taken c.args.session.now c.call.new.session c.args.command _ c.args.handle c.args.bytes.now c.requires.free (ap (λ ls. record c.args.command { loans = ls }) c.in-Ok.ensures))
    c.call.ensures.ok
