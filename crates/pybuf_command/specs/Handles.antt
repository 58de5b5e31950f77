-- The handles that a command's values are or hold, and those whose bytes the command reads.
use Rattle.std.specs.Prelude.{ℕ, List, [], ◌∷◌, ◌++◌, Option, Some, None}
use Rattle.std.specs.List.{flat_map}
use Rattle.pybuf_value.specs.declared.values.Scalar.{Scalar}
use Rattle.pybuf_value.specs.declared.values.Scalar.TheVariants as scalar
use Rattle.pybuf_value.specs.declared.values.PySlice.{PySlice}
use Rattle.pybuf_value.specs.declared.values.Value.{Value}
use Rattle.pybuf_value.specs.declared.values.Value.TheVariants as value
use Rattle.pybuf_command.specs.declared.options.ByteInnerNewOptions.{ByteInnerNewOptions}
use Rattle.pybuf_command.specs.declared.kinds.Subject.{Subject}
use Rattle.pybuf_command.specs.declared.kinds.Subject.TheVariants as subject
use Rattle.pybuf_command.specs.declared.commands.Verb.{Verb}
use Rattle.pybuf_command.specs.declared.commands.Verb.TheVariants as verb

abbrev pub handles_in_scalar : Scalar → List ℕ
handles_in_scalar (scalar.Handle h) = h ∷ []
handles_in_scalar _ = []

abbrev pub handles_in_slice : PySlice → List ℕ
handles_in_slice s = handles_in_scalar s.start ++ handles_in_scalar s.stop ++ handles_in_scalar s.step

-- the handles of a value, in order
abbrev pub handles_in : Value → List ℕ
handles_in (value.One s) = handles_in_scalar s
handles_in (value.Slice s) = handles_in_slice s
handles_in (value.Tuple parts) = flat_map handles_in_scalar parts
handles_in (value.List parts) = flat_map handles_in_scalar parts
handles_in (value.Slices slices) = flat_map handles_in_slice slices

abbrev pub handles_in_option : Option Value → List ℕ
handles_in_option (Some v) = handles_in v
handles_in_option None = []

-- the handles of the options that bytes are made from
abbrev pub handles_of_options : ByteInnerNewOptions → List ℕ
handles_of_options options = handles_in_option options.source ++ handles_in_option options.encoding ++ handles_in_option options.errors

-- the handle of a source, if it is given without an encoding; only then are the bytes of a handle read
abbrev pub source_alone : Option Value → Option Value → Option Value → Option ℕ
source_alone (Some (value.One (scalar.Handle h))) None None = Some h
source_alone _ _ _ = None

abbrev pub handle_alone : ByteInnerNewOptions → Option ℕ
handle_alone options = source_alone options.source options.encoding options.errors

-- the handles of all values of a command, in order
abbrev pub handles_of : Verb → List ℕ
handles_of (verb.Range from to) = handles_in from ++ handles_in to
handles_of (verb.Get key) = handles_in key
handles_of (verb.Set key value) = handles_in key ++ handles_in value
handles_of (verb.Cast format shape) = handles_in format ++ handles_in_option shape
handles_of (verb.CastF format shape) = handles_in format ++ handles_in shape
handles_of (verb.ToBytes order) = handles_in_option order
handles_of (verb.Del key) = handles_in key
handles_of (verb.Append v) = handles_in v
handles_of (verb.Extend v) = handles_in v
handles_of (verb.Insert index v) = handles_in index ++ handles_in v
handles_of (verb.Pop index) = handles_in_option index
handles_of (verb.Remove v) = handles_in v
handles_of (verb.IAdd v) = handles_in v
handles_of (verb.IMul count) = handles_in count
handles_of (verb.Init options) = handles_of_options options
handles_of (verb.Compare op other) = handles_in other
handles_of (verb.SetState state) = handles_in state
handles_of (verb.Contains v) = handles_in v
handles_of (verb.Hex sep group) = handles_in_option sep ++ handles_in_option group
handles_of (verb.Call method) = flat_map handles_in method.args
handles_of _ = []

-- the handle that a value is
abbrev pub handle_of_value : Value → List ℕ
handle_of_value (value.One s) = handles_in_scalar s
handle_of_value _ = []

abbrev pub handle_of_option : Option Value → List ℕ
handle_of_option (Some v) = handle_of_value v
handle_of_option None = []

-- The handles whose bytes a command reads. They are a value that is written through a view or by a slice, a value that
-- is added or that bytes are made from, a value that a subject is compared with or searched for, a separator of digits,
-- and each argument of a method. For every other handle it only matters that it was given.
abbrev pub handles_read : Subject → Verb → List ℕ
handles_read (subject.View k) (verb.Set key v) = handle_of_value v
handles_read (subject.View k) (verb.Compare op v) = handle_of_value v
handles_read subject.Own (verb.Set (value.Slice slice) v) = handle_of_value v
handles_read subject.Own (verb.Extend v) = handle_of_value v
handles_read subject.Own (verb.IAdd v) = handle_of_value v
handles_read subject.Own (verb.Init options) = handle_of_option options.source
handles_read subject.Own (verb.Compare op v) = handle_of_value v
handles_read (subject.View k) (verb.Hex sep group) = handle_of_option sep
handles_read subject.Own (verb.Contains v) = handle_of_value v
handles_read subject.Own (verb.Call method) = flat_map handles_in method.args
handles_read _ _ = []
