use Rattle.std.proofs.Common.{◌∙◌}
use Rattle.pybuf_desc.proofs.FewDims.{two_of_shape}
use Rattle.pybuf_desc.proofs.casts.row_major_dims.Goals as goal

pub returns-in-len2 : goal.returns-in-len2
returns-in-len2 c =
    c.two.ensures ∙ two_of_shape c.args.itemsize c.args.len c.args.shape.now c.in-len2.len_at_least c.in-len2.len_below c.requires.size_fits c.requires.entries c.requires.whole c.requires.fits
