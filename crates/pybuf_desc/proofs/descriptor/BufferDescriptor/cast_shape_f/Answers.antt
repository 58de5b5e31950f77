use Rattle.std.proofs.Common.{◌≡◌, ◌^◌, ◌<◌, rules, sym, subst}
use Rattle.pybuf_desc.specs.Places.{Stands}
use Rattle.pybuf_desc.specs.Valid.{IsValid}
use Rattle.pybuf_desc.specs.ColumnMajor.{column_cast}
use Rattle.pybuf_desc.specs.ColumnCasts.{column_cast_to}
use Rattle.pybuf_desc.proofs.CastFacts.{len_fits}
use Rattle.pybuf_desc.proofs.DescribedLayouts.{gapless_placed}
use Rattle.pybuf_desc.proofs.ShapedCasts.{IsShapedCast}
use Rattle.pybuf_desc.proofs.ColumnCasts.{valid_column, stands_column}
use Rattle.pybuf_desc.proofs.descriptor.BufferDescriptor.cast_shape_f.Goals as goal

pub column_major_list-requires-clause-fits : goal.column_major_list-requires-clause-fits
column_major_list-requires-clause-fits c = subst (λ n. n < 2 ^ 63) (sym c.requires.whole_items) (len_fits c.args.self.now c.requires.valid)

pub returns-clause-valid : goal.returns-clause-valid
returns-clause-valid c =
    let made : c.from_dims.result ≡ column_cast c.args.self.now c.args.format c.args.itemsize c.args.shape.now = search rules in
    let cast : IsShapedCast c.args.self.now c.args.itemsize c.args.shape.now = record {
      sized = c.requires.some_size;
      fits = c.requires.size_fits;
      few = c.requires.few_dimensions;
      some = c.requires.entries;
      whole = c.requires.whole_items;
    } in
    λ start room valid.
    subst (λ x. IsValid x start room) (sym made)
    (valid_column c.args.self.now c.args.format c.args.itemsize c.args.shape.now c.requires.valid (gapless_placed c.args.self.now c.requires.valid c.requires.contiguous) cast start room valid)

pub returns-clause-stands : goal.returns-clause-stands
returns-clause-stands c =
    let made : c.from_dims.result ≡ column_cast c.args.self.now c.args.format c.args.itemsize c.args.shape.now = search rules in
    let cast : IsShapedCast c.args.self.now c.args.itemsize c.args.shape.now = record {
      sized = c.requires.some_size;
      fits = c.requires.size_fits;
      few = c.requires.few_dimensions;
      some = c.requires.entries;
      whole = c.requires.whole_items;
    } in
    λ start view stands.
    subst (λ x. Stands x start (column_cast_to view c.args.format c.args.itemsize c.args.shape.now)) (sym made)
    (stands_column c.args.self.now c.args.format c.args.itemsize c.args.shape.now c.requires.valid cast start view stands)
