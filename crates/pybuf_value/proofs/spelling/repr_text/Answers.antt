use Rattle.std.proofs.Common.{refl, []}
use Rattle.pybuf_value.specs.Texts.{fitted}
use Rattle.pybuf_value.specs.Quotes.{repr_of}
use Rattle.pybuf_value.proofs.AsciiLemmas.{utf8_from_ascii}
use Rattle.pybuf_value.proofs.spelling.repr_text.Goals as goal

pub quoted_between-requires : goal.quoted_between-requires
quoted_between-requires c = record {
  name = utf8_from_ascii [] refl;
  opening = utf8_from_ascii c.args.before.now c.requires.before;
  closing = utf8_from_ascii c.args.after.now c.requires.after;
}

pub returns : goal.returns
returns c = c.tried.ensures (fitted (repr_of c.args.before.now c.args.bytes.now c.args.after.now)) c.quoted_between.ensures
