-- The numbers of kinds, properties and operators.
use Rattle.std.specs.Prelude.{ℕ, true, false}
use Rattle.pybuf_command.specs.declared.kinds.ExporterKind.{ExporterKind}
use Rattle.pybuf_command.specs.declared.kinds.ExporterKind.TheVariants as kind
use Rattle.pybuf_command.specs.declared.commands.PropertyName.{PropertyName}
use Rattle.pybuf_command.specs.declared.commands.PropertyName.TheVariants as name
use Rattle.pybuf_value.specs.declared.values.CompareOp.{CompareOp}
use Rattle.pybuf_value.specs.declared.values.CompareOp.TheVariants as operator

abbrev pub kind_number : ExporterKind → ℕ
kind_number kind.Bytes = 0
kind_number kind.ByteArray = 1
kind_number (kind.Vector false) = 2
kind_number (kind.Vector true) = 3

abbrev pub property_number : PropertyName → ℕ
property_number name.Exports = 0
property_number name.Obj = 1
property_number name.Nbytes = 2
property_number name.Readonly = 3
property_number name.Itemsize = 4
property_number name.Ndim = 5
property_number name.Shape = 6
property_number name.Strides = 7
property_number name.Suboffsets = 8
property_number name.Format = 9
property_number name.Contiguous = 10
property_number name.CContiguous = 11
property_number name.FContiguous = 12

abbrev pub operator_number : CompareOp → ℕ
operator_number operator.Eq = 0
operator_number operator.Ne = 1
operator_number operator.Lt = 2
operator_number operator.Le = 3
operator_number operator.Gt = 4
operator_number operator.Ge = 5
