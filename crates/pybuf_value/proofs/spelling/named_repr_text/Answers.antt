use Rattle.std.proofs.Common.{refl, subst, ◌++◌, codes}
use Rattle.pybuf_value.specs.Halting.{Gives}
use Rattle.pybuf_value.specs.Texts.{fitted}
use Rattle.pybuf_value.specs.Quotes.{repr_of}
use Rattle.pybuf_value.proofs.AsciiLemmas.{utf8_from_ascii}
use Rattle.pybuf_value.proofs.spelling.named_repr_text.Goals as goal

pub quoted_between-requires : goal.quoted_between-requires
quoted_between-requires c = record {
  name = c.as_bytes.ensures.utf8;
  opening = utf8_from_ascii (codes "(b") refl;
  closing = utf8_from_ascii (codes ")") refl;
}

pub returns : goal.returns
returns c =
    c.tried.ensures (fitted (repr_of (c.args.name.now ++ codes "(b") c.args.bytes.now (codes ")")))
    (subst (λ name. Gives (fitted (repr_of (name ++ codes "(b") c.args.bytes.now (codes ")"))) c.quoted_between.result) c.as_bytes.ensures.value c.quoted_between.ensures)
