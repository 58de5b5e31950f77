use Rattle.std.proofs.Common.{◌∙◌}
use Rattle.pybuf_lemmas.proofs.Results.{if_ok_follows}
use Rattle.golden_picture.proofs.SizeLemmas.{sized}
use Rattle.golden_picture.proofs.sizes.turned.Goals as goal

pub returns : goal.returns
returns c =
    if_ok_follows c.turn.result _ _
    (λ k made. sized c.args.picture.now _ made.0 k _ _ _ made.2 (made.1.rows ∙ c.requires.wide) (made.1.columns ∙ c.requires.tall) (made.1.channels ∙ c.requires.deep))
    c.turn.ensures.ok
