use Rattle.std.proofs.Common.{subst}
use Rattle.pybuf_value.specs.Halting.{Gives}
use Rattle.pybuf_methods.specs.Methods.{method_reply}
use Rattle.pybuf_methods.proofs.methods.apply_method.Goals as goal

pub returns : goal.returns
returns g c =
    let pairs = g.L.Lender.pairs c.args.lender.now in
    c.tried.ensures (method_reply pairs c.args.bytes.now c.args.call.now.name c.args.call.now.args)
    (subst (λ args. Gives (method_reply pairs c.args.bytes.now c.args.call.now.name args) c.reply_of.result) c.as_slice.ensures c.reply_of.ensures)
