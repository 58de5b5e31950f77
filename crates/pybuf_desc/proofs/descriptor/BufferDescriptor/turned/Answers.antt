use Rattle.std.proofs.Common.{◌≡◌, rules, reverse, sym, subst}
use Rattle.pybuf_desc.specs.Descriptor.{Descriptor}
use Rattle.pybuf_desc.specs.Places.{Stands}
use Rattle.pybuf_desc.specs.Valid.{IsValid}
use Rattle.pybuf_desc.specs.ColumnOrder.{columns_of}
use Rattle.pybuf_desc.proofs.TurnedDims.{valid_turned, stands_turned}
use Rattle.pybuf_desc.proofs.descriptor.BufferDescriptor.turned.Goals as goal

pub returns-clause-valid : goal.returns-clause-valid
returns-clause-valid c =
    let made : c.from_dims.result ≡ record c.args.self.now { dims = reverse c.args.self.now.dims } = search rules in
    λ start room valid. subst (λ d. IsValid d start room) (sym made) (valid_turned c.args.self.now start room c.requires.entries valid)

pub returns-clause-stands : goal.returns-clause-stands
returns-clause-stands c =
    let made : c.from_dims.result ≡ record c.args.self.now { dims = reverse c.args.self.now.dims } = search rules in
    λ start view stands. subst (λ d. Stands d start (columns_of view)) (sym made) (stands_turned c.args.self.now start view stands)
