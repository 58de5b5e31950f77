use Rattle.std.proofs.Common.{rules, tests, sym, ◌∙◌}
use Rattle.std.specs.Char.{is_ascii_alphanumeric}
use Rattle.std.proofs.lemmas.Iterator.{YieldsList-from_slice}
use Rattle.std.proofs.lemmas.Iterator.Search.{all_from_yields_List}
use Rattle.pybuf_letters.proofs.ByteClasses.{all_of-some}
use Rattle.pybuf_letters.proofs.classes.is_alnum.Goals as goal

pub returns : goal.returns
returns c =
    let all = all_from_yields_List is_ascii_alphanumeric _ _ c.all.result c.all.ensures.ran (YieldsList-from_slice c.args.bytes.now cc) (λ x b q k. search (rules, tests)) in
    all_of-some is_ascii_alphanumeric _ _ (sym c.if-is_empty.false ∙ c.is_empty.ensures) all
