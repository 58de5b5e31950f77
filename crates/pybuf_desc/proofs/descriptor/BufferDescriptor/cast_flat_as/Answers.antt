use Rattle.std.proofs.Common.{◌≡◌, ◌/◌, ◌^◌, ◌<◌, rules, sym, subst}
use Rattle.pybuf_desc.specs.Descriptor.{flat_descriptor}
use Rattle.pybuf_desc.specs.Places.{Stands}
use Rattle.pybuf_desc.specs.Valid.{IsValid}
use Rattle.pybuf_desc.specs.Casts.{cast_of}
use Rattle.pybuf_desc.proofs.CastFacts.{len_fits, valid_cast, stands_cast}
use Rattle.pybuf_desc.proofs.DescribedLayouts.{gapless_placed}
use Rattle.pybuf_desc.proofs.descriptor.BufferDescriptor.cast_flat_as.Goals as goal

pub flat-requires-clause-len_fits : goal.flat-requires-clause-len_fits
flat-requires-clause-len_fits c = subst (λ n. n < 2 ^ 63) (sym c.len.ensures) (len_fits c.args.self.now c.requires.valid)

pub returns-clause-valid : goal.returns-clause-valid
returns-clause-valid c =
    let made : c.flat.result ≡ flat_descriptor c.args.format c.args.itemsize (c.args.self.now.len / c.args.itemsize) c.args.self.now.readonly = search rules in
    λ start room valid.
    subst (λ d. IsValid d start room) (sym made)
    (valid_cast c.args.self.now c.args.format c.args.itemsize c.requires.valid (gapless_placed c.args.self.now c.requires.valid c.requires.contiguous) c.requires.some_size c.requires.size_fits c.requires.whole_items start room valid)

pub returns-clause-stands : goal.returns-clause-stands
returns-clause-stands c =
    let made : c.flat.result ≡ flat_descriptor c.args.format c.args.itemsize (c.args.self.now.len / c.args.itemsize) c.args.self.now.readonly = search rules in
    λ start view stands.
    subst (λ d. Stands d start (cast_of view c.args.format c.args.itemsize)) (sym made)
    (stands_cast c.args.self.now c.args.format c.args.itemsize c.requires.valid start view stands)
