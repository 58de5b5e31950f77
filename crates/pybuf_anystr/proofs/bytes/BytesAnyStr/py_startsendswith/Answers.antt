use Rattle.std.proofs.Common.{rules}
use Rattle.std.specs.Fn.{FnReturnsAtPair}
use Rattle.pybuf_anystr.proofs.TestLemmas.{each_outcome, as_another}
use Rattle.pybuf_anystr.proofs.bytes.BytesAnyStr.py_startsendswith.Goals as goal

pub returns-clause-calls : goal.returns-clause-calls
returns-clause-calls g c =
    each_outcome _ _ c.single_or_tuple_any.result c.single_or_tuple_any.ensures.calls (λ outcome made. (
      made.0,
      made.1,
      as_another _ (FnReturnsAtPair g.F.Fn c.args.func.now c.args.self.now) (g.L.Lender.pairs c.args.lender.now) c.args.affix.now made.0 made.2
          (λ part answer says. search rules),
    ))
