use Rattle.std.proofs.Common.{◌∙◌}
use Rattle.pybuf_desc.proofs.FewDims.{two_of_dims}
use Rattle.pybuf_desc.proofs.packed.packed_dims.Goals as goal

pub returns-in-len2 : goal.returns-in-len2
returns-in-len2 c =
    c.two.ensures
    ∙ two_of_dims c.args.itemsize c.args.extent c.entry_size.result c.args.dims.now c.in-len2.len_at_least c.in-len2.len_below c.requires.size_fits c.requires.later c.requires.whole c.requires.fits c.entry_size.ensures.none c.entry_size.ensures.some
