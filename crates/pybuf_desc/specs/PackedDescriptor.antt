-- The descriptor of items that lie one after the other.
use Rattle.pybuf_desc.specs.Descriptor.{Descriptor, shape_of}
use Rattle.pybuf_desc.specs.RowMajor.{row_major_dims}

-- the descriptor of the same items, if they lie one after the other
abbrev pub row_major_descriptor : Descriptor → Descriptor
row_major_descriptor d = record d { dims = row_major_dims d.itemsize (shape_of d.dims) }
