use Rattle.std.proofs.Common.{◌≡◌, ◌++◌, subst, sym, arith}
use Rattle.std.specs.Str.{IsUtf8}
use Rattle.std.proofs.lemmas.Grind.{common_steps}
use Rattle.pybuf_value.specs.Quotes.{repr_of}
use Rattle.pybuf_value.proofs.AsciiLemmas.{between_utf8}
use Rattle.pybuf_value.proofs.spelling.quoted_between.Goals as goal

pub from_utf8-requires : goal.from_utf8-requires
from_utf8-requires c =
    let whole : c.extend_from_slice-3.new.self.items ≡ repr_of (c.args.name.now ++ c.args.opening.now) c.args.bytes.now c.args.closing.now =
    grind (arith, common_steps) in
    subst IsUtf8 (sym whole) (between_utf8 c.args.name.now c.args.opening.now c.args.bytes.now c.args.closing.now c.requires.name c.requires.opening c.requires.closing)
