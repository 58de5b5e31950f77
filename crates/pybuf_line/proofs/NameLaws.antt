-- Every entry of the lists of words is read back.
use Rattle.std.proofs.Common.{◌≡◌, ℕ, List, true, false, Some, refl}
use Rattle.std.specs.Str.{bytes_eq}
use Rattle.std.proofs.lemmas.Slice.Eq.{bytes_eq-Decides}
use Rattle.pybuf_lemmas.proofs.Lists.{found_passes}
use Rattle.pybuf_value.specs.declared.values.CompareOp.{CompareOp}
use Rattle.pybuf_value.specs.declared.values.CompareOp.TheVariants as op
use Rattle.pybuf_command.specs.declared.kinds.ExporterKind.{ExporterKind}
use Rattle.pybuf_command.specs.declared.kinds.ExporterKind.TheVariants as kind
use Rattle.pybuf_command.specs.declared.commands.PropertyName.{PropertyName}
use Rattle.pybuf_command.specs.declared.commands.PropertyName.TheVariants as property
use Rattle.pybuf_command.specs.declared.methods.MethodName.{MethodName}
use Rattle.pybuf_command.specs.declared.methods.MethodName.TheVariants as name
use Rattle.pybuf_line.specs.declared.words.Word.{Word}
use Rattle.pybuf_line.specs.declared.words.Word.TheVariants as word
use Rattle.pybuf_line.specs.Words.{named_in, written_word, every_word, word_in, written_kind, every_kind, kind_in, written_operator, every_operator, operator_in, written_name, every_property, property_in}
use Rattle.pybuf_line.specs.Methods.{written_method, every_method, method_in}
use Rattle.pybuf_line.specs.Laws.{IsAny, WordsReadBack, KindsReadBack, OperatorsReadBack, PropertiesReadBack, MethodsReadBack}

named_is : {A : Type 0} (name : A → List ℕ) (table : List A) (text : List ℕ) (found : A) → named_in name table text ≡ Some found → text ≡ name found
named_is name table text found h =
    (bytes_eq-Decides text (name found)).0 (found_passes (λ one. bytes_eq text (name one)) table found h)

word_read : (w : Word) → IsAny w → word_in (written_word w) ≡ Some w
unfolding word_in
word_read word.New h = refl
word_read _ h = refl

word_written : (text : List ℕ) (w : Word) → word_in text ≡ Some w → text ≡ written_word w
unfolding word_in
word_written text w h = named_is written_word every_word text w h

pub words_read : WordsReadBack
words_read = record { read = word_read; written = word_written }

kind_read : (k : ExporterKind) → IsAny k → kind_in (written_kind k) ≡ Some k
kind_read kind.Bytes h = refl
kind_read kind.ByteArray h = refl
kind_read (kind.Vector false) h = refl
kind_read (kind.Vector true) h = refl

pub kinds_read : KindsReadBack
kinds_read = record { read = kind_read; written = named_is written_kind every_kind }

operator_read : (o : CompareOp) → IsAny o → operator_in (written_operator o) ≡ Some o
operator_read op.Eq h = refl
operator_read _ h = refl

pub operators_read : OperatorsReadBack
operators_read = record { read = operator_read; written = named_is written_operator every_operator }

property_read : (p : PropertyName) → IsAny p → property_in (written_name p) ≡ Some p
unfolding property_in
property_read property.Exports h = refl
property_read _ h = refl

property_written : (text : List ℕ) (p : PropertyName) → property_in text ≡ Some p → text ≡ written_name p
unfolding property_in
property_written text p h = named_is written_name every_property text p h

pub properties_read : PropertiesReadBack
properties_read = record { read = property_read; written = property_written }

method_read : (m : MethodName) → IsAny m → method_in (written_method m) ≡ Some m
unfolding method_in
method_read name.Add h = refl
method_read _ h = refl

method_written : (text : List ℕ) (m : MethodName) → method_in text ≡ Some m → text ≡ written_method m
unfolding method_in
method_written text m h = named_is written_method every_method text m h

pub methods_read : MethodsReadBack
methods_read = record { read = method_read; written = method_written }
