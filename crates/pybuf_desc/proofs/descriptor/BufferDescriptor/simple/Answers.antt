use Rattle.std.proofs.Common.{◌≡◌, codes, sym, subst, rules, div-one}
use Rattle.pybuf_desc.specs.Layouts.{bytes_layout, bytes_layout_from}
use Rattle.pybuf_desc.specs.Descriptor.{flat_descriptor}
use Rattle.pybuf_desc.specs.Places.{Stands}
use Rattle.pybuf_desc.specs.Valid.{IsValid}
use Rattle.pybuf_desc.proofs.Flat.{stands_bytes, stands_bytes_from, valid_bytes_from}
use Rattle.pybuf_desc.proofs.descriptor.BufferDescriptor.simple.Goals as goal

pub returns-clause-stands : goal.returns-clause-stands
returns-clause-stands c =
    let made : c.flat.result ≡ flat_descriptor (codes "B") 1 c.args.bytes_len c.args.readonly = search (rules, div-one) in
    subst (λ d. Stands d 0 (bytes_layout c.args.bytes_len c.args.readonly)) (sym made) (stands_bytes c.args.bytes_len c.args.readonly)

pub returns-clause-valid_from : goal.returns-clause-valid_from
returns-clause-valid_from c =
    let made : c.flat.result ≡ flat_descriptor (codes "B") 1 c.args.bytes_len c.args.readonly = search (rules, div-one) in
    λ start room inside. subst (λ d. IsValid d start room) (sym made) (valid_bytes_from c.args.bytes_len start room c.args.readonly c.requires inside)

pub returns-clause-stands_from : goal.returns-clause-stands_from
returns-clause-stands_from c =
    let made : c.flat.result ≡ flat_descriptor (codes "B") 1 c.args.bytes_len c.args.readonly = search (rules, div-one) in
    λ start. subst (λ d. Stands d start (bytes_layout_from start c.args.bytes_len c.args.readonly)) (sym made) (stands_bytes_from c.args.bytes_len start c.args.readonly)
