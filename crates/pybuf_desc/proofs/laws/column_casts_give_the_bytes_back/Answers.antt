use Rattle.std.proofs.Common.{◌≡◌, ap, ◌∙◌}
use Rattle.pybuf_desc.specs.Items.{bytes_of_items}
use Rattle.pybuf_desc.proofs.ColumnCasts.{column_order}
use Rattle.pybuf_desc.proofs.ItemRuns.{shaped_share}
use Rattle.pybuf_desc.proofs.laws.column_casts_give_the_bytes_back.Goals as goal

pub returns : goal.returns
returns c = λ bytes view format size shape flat some whole there.
    ap (bytes_of_items bytes size) (column_order view format size shape there) ∙ (shaped_share bytes view format size shape flat some whole).content
