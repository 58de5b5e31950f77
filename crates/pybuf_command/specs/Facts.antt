-- Facts about the definitions of this crate, with their proofs, for the proofs of the crates above.
use Rattle.std.proofs.Common.{◌≡◌}
use Rattle.pybuf_value.specs.declared.faults.Fault.{Fault}
use Rattle.pybuf_command.specs.declared.commands.LocalReply.TheVariants as reply

pub refused_is_not_ok : (f : Fault) → reply.Refused f ≡ reply.Ok → ⊥
refused_is_not_ok f is = absurd (cc)
