use Rattle.std.proofs.Common.{◌≡◌, rules, sym, subst}
use Rattle.pybuf_desc.specs.Places.{Stands}
use Rattle.pybuf_desc.specs.Valid.{IsValid}
use Rattle.pybuf_desc.specs.Packed.{row_major_of}
use Rattle.pybuf_desc.specs.PackedDescriptor.{row_major_descriptor}
use Rattle.pybuf_desc.proofs.PackedDims.{valid_row_major, stands_row_major}
use Rattle.pybuf_desc.proofs.descriptor.BufferDescriptor.to_row_major.Goals as goal

pub returns-clause-valid : goal.returns-clause-valid
returns-clause-valid c =
    let made : c.from_dims.result ≡ row_major_descriptor c.args.self.now = search rules in
    subst (λ d. IsValid d 0 c.args.self.now.len) (sym made) (valid_row_major c.args.self.now c.requires)

pub returns-clause-stands : goal.returns-clause-stands
returns-clause-stands c =
    let made : c.from_dims.result ≡ row_major_descriptor c.args.self.now = search rules in
    λ start view stands. subst (λ d. Stands d 0 (row_major_of view)) (sym made) (stands_row_major c.args.self.now start view stands)
