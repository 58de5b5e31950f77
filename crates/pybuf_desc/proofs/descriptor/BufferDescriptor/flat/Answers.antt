use Rattle.std.proofs.Common.{◌≡◌, ◌/◌, rules, sym, subst}
use Rattle.pybuf_desc.specs.Layouts.{flat_layout}
use Rattle.pybuf_desc.specs.Descriptor.{flat_descriptor}
use Rattle.pybuf_desc.specs.Places.{Stands}
use Rattle.pybuf_desc.specs.Valid.{IsValid}
use Rattle.pybuf_desc.proofs.Flat.{valid_flat, whole_items, stands_flat}
use Rattle.pybuf_desc.proofs.Validity.{raw_descriptor}
use Rattle.pybuf_desc.proofs.descriptor.BufferDescriptor.flat.Goals as goal

pub returns-clause-valid : goal.returns-clause-valid
returns-clause-valid c =
    let whole = whole_items c.args.bytes_len c.args.itemsize c.requires.some_size c.requires.whole_items in
    let made : raw_descriptor c.args.bytes_len c.args.readonly c.args.itemsize c.args.format c.one.result ≡ flat_descriptor c.args.format c.args.itemsize (c.args.bytes_len / c.args.itemsize) c.args.readonly = search (rules, whole) in
    subst (λ d. IsValid d 0 c.args.bytes_len) (sym made)
    (valid_flat c.args.format c.args.itemsize (c.args.bytes_len / c.args.itemsize) c.args.bytes_len c.args.readonly c.requires.some_size c.requires.size_fits whole c.requires.len_fits)

pub returns-clause-stands : goal.returns-clause-stands
returns-clause-stands c =
    let whole = whole_items c.args.bytes_len c.args.itemsize c.requires.some_size c.requires.whole_items in
    let made : raw_descriptor c.args.bytes_len c.args.readonly c.args.itemsize c.args.format c.one.result ≡ flat_descriptor c.args.format c.args.itemsize (c.args.bytes_len / c.args.itemsize) c.args.readonly = search (rules, whole) in
    subst (λ d. Stands d 0 (flat_layout c.args.format c.args.itemsize (c.args.bytes_len / c.args.itemsize) c.args.readonly)) (sym made)
    (stands_flat c.args.format c.args.itemsize (c.args.bytes_len / c.args.itemsize) c.args.readonly)
