use Rattle.std.proofs.Common.{◌≡◌, ◌^◌, ◌<◌, rules, sym, subst}
use Rattle.pybuf_desc.specs.ShapedCasts.{cast_to}
use Rattle.pybuf_desc.specs.Places.{Stands}
use Rattle.pybuf_desc.specs.Valid.{IsValid}
use Rattle.pybuf_desc.specs.RowMajor.{shaped_cast}
use Rattle.pybuf_desc.proofs.CastFacts.{len_fits}
use Rattle.pybuf_desc.proofs.DescribedLayouts.{gapless_placed}
use Rattle.pybuf_desc.proofs.ShapedCasts.{IsShapedCast, valid_shaped, stands_shaped}
use Rattle.pybuf_desc.proofs.descriptor.BufferDescriptor.cast_shape_as.Goals as goal

pub row_major_dims-requires-clause-fits : goal.row_major_dims-requires-clause-fits
row_major_dims-requires-clause-fits c = subst (λ n. n < 2 ^ 63) (sym c.len.ensures) (len_fits c.args.self.now c.requires.valid)

pub returns-clause-valid : goal.returns-clause-valid
returns-clause-valid c =
    let made : c.from_dims.result ≡ shaped_cast c.args.self.now c.args.format c.args.itemsize c.args.shape.now = search rules in
    let cast : IsShapedCast c.args.self.now c.args.itemsize c.args.shape.now = record {
      sized = c.requires.some_size;
      fits = c.requires.size_fits;
      few = c.requires.few_dimensions;
      some = c.requires.entries;
      whole = c.requires.whole_items;
    } in
    λ start room valid.
    subst (λ x. IsValid x start room) (sym made)
    (valid_shaped c.args.self.now c.args.format c.args.itemsize c.args.shape.now c.requires.valid (gapless_placed c.args.self.now c.requires.valid c.requires.contiguous) cast start room valid)

pub returns-clause-stands : goal.returns-clause-stands
returns-clause-stands c =
    let made : c.from_dims.result ≡ shaped_cast c.args.self.now c.args.format c.args.itemsize c.args.shape.now = search rules in
    let cast : IsShapedCast c.args.self.now c.args.itemsize c.args.shape.now = record {
      sized = c.requires.some_size;
      fits = c.requires.size_fits;
      few = c.requires.few_dimensions;
      some = c.requires.entries;
      whole = c.requires.whole_items;
    } in
    λ start view stands.
    subst (λ x. Stands x start (cast_to view c.args.format c.args.itemsize c.args.shape.now)) (sym made)
    (stands_shaped c.args.self.now c.args.format c.args.itemsize c.args.shape.now c.requires.valid cast start view stands)
