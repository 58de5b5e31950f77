-- No check before an edit asks for another length gives `BufferError`, except that an exporter isn't added to
-- itself.
use Rattle.std.proofs.Common.{◌≡◌, ℕ, List, [], ◌∷◌, Bool, true, false, ap, refl}
use Rattle.std.specs.Prelude.{◌≢◌, ℤ, pos, negsuc, zero, suc, not, ◌&&◌, ◌||◌, nat_lt, Option, Some, None, Result, Ok, Err, if◌then◌else◌}
use Rattle.pybuf_value.specs.declared.faults.Fault.{Fault}
use Rattle.pybuf_value.specs.declared.faults.Fault.TheVariants as fault
use Rattle.pybuf_value.specs.declared.values.Scalar.{Scalar}
use Rattle.pybuf_value.specs.declared.values.Scalar.TheVariants as scalar
use Rattle.pybuf_value.specs.declared.values.Value.{Value}
use Rattle.pybuf_value.specs.declared.values.Value.TheVariants as value
use Rattle.pybuf_value.specs.declared.values.PySlice.{PySlice}
use Rattle.pybuf_value.specs.declared.snaps.Snap.{Snap}
use Rattle.pybuf_value.specs.declared.snaps.SnapKind.{SnapKind}
use Rattle.pybuf_value.specs.declared.snaps.SnapKind.TheVariants as snap_kind
use Rattle.pybuf_value.specs.Refusing.{◌>>=◌, unless}
use Rattle.pybuf_value.specs.Numbers.{number_in, number_of, is_word, fitted_number, count_in, byte_of, byte_in}
use Rattle.pybuf_value.specs.Texts.{text_in, is_ascii}
use Rattle.pybuf_value.specs.Snaps.{snap_of, content_of_view, content_of_kind, content_of, like_in, content_read, content_of_named, byte_in_scalar, bytes_in_parts, bytes_in}
use Rattle.pybuf_index.specs.Parts.{part_in, nonzero, step_in, parts_of, saturated_parts_of}
use Rattle.pybuf_bytes.specs.Options.{zeros_of, bytes_by_number, is_utf8_name, is_ascii_name, is_strict, encoded, text_given, bytes_by, bytes_of_options}
use Rattle.pybuf_command.specs.declared.kinds.ExporterKind.{ExporterKind}
use Rattle.pybuf_command.specs.declared.kinds.ExporterKind.TheVariants as kind
use Rattle.pybuf_command.specs.declared.commands.Verb.{Verb}
use Rattle.pybuf_command.specs.declared.commands.Verb.TheVariants as verb
use Rattle.pybuf_command.specs.Kinds.{of_byte_array}
use Rattle.pybuf_memoryview.specs.Items.{index_in}
use Rattle.pybuf_state.specs.Exporter.{Exporter}
use Rattle.pybuf_state.specs.Keeps.{is_vector}
use Rattle.pybuf_state.specs.Loans.{Lent, snaps_of}
use Rattle.pybuf_verbs_edits.specs.Common.{is_itself}
use Rattle.pybuf_verbs_edits.specs.Shrinking.{count_or_last}
use Rattle.pybuf_verbs_edits.specs.Asking.{passed, key_passed, assignment_asks, byte_array_asks}
use Rattle.pybuf_verbs_edits.specs.Laws.{IsAddedToItself, OnlyAddingItselfIsRefusedEarlier}

-- ---- checks

abbrev NoBuffer : {A : Type 0} → Result A Fault → Type 0
NoBuffer r = r ≡ Err fault.Buffer → ⊥

abbrev gone : {A : Type 0} → Fault → Result A Fault
gone f = Err f

okay : {A : Type 0} (x : A) → NoBuffer (Ok x)
okay x is = absurd (cc)

other : {A : Type 0} (f : Fault) → f ≢ fault.Buffer → NoBuffer (gone {A = A} f)
other f differs is = differs (let same : f ≡ fault.Buffer = cc in same)

then_so : {A B : Type 0} (r : Result A Fault) (f : A → Result B Fault) → NoBuffer r → ((a : A) → NoBuffer (f a)) → NoBuffer (r >>= f)
then_so (Ok a) f first rest is = rest a is
then_so (Err x) f first rest is = first (ap (λ (y : Fault). gone y) (let same : x ≡ fault.Buffer = cc in same))

either : {A : Type 0} (b : Bool) (r s : Result A Fault) → NoBuffer r → NoBuffer s → NoBuffer (if b then r else s)
either true r s first second = first
either false r s first second = second

unless_so : (b : Bool) (f : Fault) → f ≢ fault.Buffer → NoBuffer (unless b f)
unless_so true f differs = other f differs
unless_so false f differs = okay true

passed_so : {A : Type 0} (r : Result A Fault) → NoBuffer r → NoBuffer (passed r)
passed_so (Ok a) first is = okay true is
passed_so (Err x) first is = first (ap (λ (y : Fault). gone y) (let same : x ≡ fault.Buffer = cc in same))

index_differs : fault.Index ≢ fault.Buffer
index_differs is = absurd (cc)

value_differs : fault.Value ≢ fault.Buffer
value_differs is = absurd (cc)

kind_differs : fault.Kind ≢ fault.Buffer
kind_differs is = absurd (cc)

overflow_differs : fault.Overflow ≢ fault.Buffer
overflow_differs is = absurd (cc)

unknown_differs : fault.UnknownName ≢ fault.Buffer
unknown_differs is = absurd (cc)

-- ---- numbers

number_in_so : (s : Scalar) → NoBuffer (number_in s)
number_in_so scalar.None = other fault.Kind kind_differs
number_in_so (scalar.Bool true) = okay (pos 1)
number_in_so (scalar.Bool false) = okay (pos 0)
number_in_so (scalar.Int n) = okay n
number_in_so (scalar.Text text) = other fault.Kind kind_differs
number_in_so (scalar.Bytes bytes) = other fault.Kind kind_differs
number_in_so scalar.Ellipsis = other fault.Kind kind_differs
number_in_so (scalar.Handle h) = other fault.Kind kind_differs

number_of_so : (v : Value) → NoBuffer (number_of v)
number_of_so (value.One s) = number_in_so s
number_of_so (value.Slice s) = other fault.Kind kind_differs
number_of_so (value.Tuple parts) = other fault.Kind kind_differs
number_of_so (value.List parts) = other fault.Kind kind_differs
number_of_so (value.Slices slices) = other fault.Kind kind_differs

fitted_so : (f : Fault) (n : ℤ) → f ≢ fault.Buffer → NoBuffer (fitted_number f n)
fitted_so f n differs = either (is_word n) (Ok n) (Err f) (okay n) (other f differs)

count_in_so : (v : Value) → NoBuffer (count_in v)
count_in_so v = then_so (number_of v) (fitted_number fault.Overflow) (number_of_so v) (λ n. fitted_so fault.Overflow n overflow_differs)

count_or_last_so : (index : Option Value) → NoBuffer (count_or_last index)
count_or_last_so None = okay (negsuc 0)
count_or_last_so (Some v) = count_in_so v

byte_of_so : (n : ℤ) → NoBuffer (byte_of n)
byte_of_so (pos n) = either (nat_lt n 256) (Ok n) (Err fault.Value) (okay n) (other fault.Value value_differs)
byte_of_so (negsuc n) = other fault.Value value_differs

byte_in_so : (v : Value) → NoBuffer (byte_in v)
byte_in_so v = then_so (number_of v) byte_of (number_of_so v) byte_of_so

index_in_so : (key : Value) → NoBuffer (index_in key)
index_in_so key = then_so (number_of key) (fitted_number fault.Index) (number_of_so key) (λ n. fitted_so fault.Index n index_differs)

-- ---- slices

some_so : (s : Scalar) → NoBuffer (number_in s >>= λ n. Ok (Some n))
some_so s = then_so (number_in s) (λ n. Ok (Some n)) (number_in_so s) (λ n. okay (Some n))

part_in_so : (s : Scalar) → NoBuffer (part_in s)
part_in_so scalar.None = okay None
part_in_so (scalar.Bool b) = some_so (scalar.Bool b)
part_in_so (scalar.Int n) = some_so (scalar.Int n)
part_in_so (scalar.Text text) = some_so (scalar.Text text)
part_in_so (scalar.Bytes bytes) = some_so (scalar.Bytes bytes)
part_in_so scalar.Ellipsis = some_so scalar.Ellipsis
part_in_so (scalar.Handle h) = some_so (scalar.Handle h)

nonzero_so : (n : ℤ) → NoBuffer (nonzero n)
nonzero_so (pos zero) = other fault.Value value_differs
nonzero_so (pos (suc n)) = okay (pos (suc n))
nonzero_so (negsuc n) = okay (negsuc n)

moving_so : (s : Scalar) → NoBuffer (number_in s >>= nonzero)
moving_so s = then_so (number_in s) nonzero (number_in_so s) nonzero_so

step_in_so : (s : Scalar) → NoBuffer (step_in s)
step_in_so scalar.None = okay (pos 1)
step_in_so (scalar.Bool b) = moving_so (scalar.Bool b)
step_in_so (scalar.Int n) = moving_so (scalar.Int n)
step_in_so (scalar.Text text) = moving_so (scalar.Text text)
step_in_so (scalar.Bytes bytes) = moving_so (scalar.Bytes bytes)
step_in_so scalar.Ellipsis = moving_so scalar.Ellipsis
step_in_so (scalar.Handle h) = moving_so (scalar.Handle h)

parts_so : (s : PySlice) → NoBuffer (saturated_parts_of s)
parts_so s =
    then_so (parts_of s) _
    (then_so (step_in s.step) _ (step_in_so s.step) (λ step. then_so (part_in s.start) _ (part_in_so s.start) (λ start. then_so (part_in s.stop) _ (part_in_so s.stop) (λ stop. okay _))))
    (λ parts. okay _)

-- ---- bytes

content_read_so : (k : SnapKind) (released : Bool) (content : List ℕ) → NoBuffer (content_read k released content)
content_read_so snap_kind.Iterator released content = other fault.Kind kind_differs
content_read_so snap_kind.View true content = other fault.Value value_differs
content_read_so snap_kind.View false content = okay content
content_read_so snap_kind.Bytes released content = okay content
content_read_so snap_kind.ByteArray released content = okay content
content_read_so snap_kind.Vector released content = okay content

named_so : (o : Option Snap) → NoBuffer (content_of_named o)
named_so None = other fault.UnknownName unknown_differs
named_so (Some snap) = content_read_so snap.kind snap.released snap.content

bytes_in_parts_so : (parts : List Scalar) → NoBuffer (bytes_in_parts parts)
bytes_in_parts_so [] = okay []
bytes_in_parts_so (s ∷ parts) =
    then_so (byte_in_scalar s) _ (then_so (number_in s) byte_of (number_in_so s) byte_of_so)
    (λ byte. then_so (bytes_in_parts parts) _ (bytes_in_parts_so parts) (λ bytes. okay (byte ∷ bytes)))

bytes_in_so : (pairs : List (ℕ × Snap)) (v : Value) → NoBuffer (bytes_in pairs v)
bytes_in_so pairs (value.One scalar.None) = other fault.Kind kind_differs
bytes_in_so pairs (value.One (scalar.Bool b)) = other fault.Kind kind_differs
bytes_in_so pairs (value.One (scalar.Int n)) = other fault.Kind kind_differs
bytes_in_so pairs (value.One (scalar.Text text)) = other fault.Kind kind_differs
bytes_in_so pairs (value.One (scalar.Bytes bytes)) = okay bytes
bytes_in_so pairs (value.One scalar.Ellipsis) = other fault.Kind kind_differs
bytes_in_so pairs (value.One (scalar.Handle h)) = named_so (snap_of pairs h)
bytes_in_so pairs (value.Slice s) = other fault.Kind kind_differs
bytes_in_so pairs (value.Tuple parts) = bytes_in_parts_so parts
bytes_in_so pairs (value.List parts) = bytes_in_parts_so parts
bytes_in_so pairs (value.Slices slices) = other fault.Kind kind_differs

content_of_view_so : (released contiguous : Bool) (content : List ℕ) → NoBuffer (content_of_view released contiguous content)
content_of_view_so true contiguous content = other fault.Value value_differs
content_of_view_so false true content = okay content
content_of_view_so false false content = other fault.Kind kind_differs

content_of_kind_so : (k : SnapKind) (released contiguous : Bool) (content : List ℕ) → NoBuffer (content_of_kind k released contiguous content)
content_of_kind_so snap_kind.Iterator released contiguous content = other fault.Kind kind_differs
content_of_kind_so snap_kind.View released contiguous content = content_of_view_so released contiguous content
content_of_kind_so snap_kind.Bytes released contiguous content = okay content
content_of_kind_so snap_kind.ByteArray released contiguous content = okay content
content_of_kind_so snap_kind.Vector released contiguous content = okay content

content_of_so : (o : Option Snap) → NoBuffer (content_of o)
content_of_so None = other fault.UnknownName unknown_differs
content_of_so (Some snap) = content_of_kind_so snap.kind snap.released snap.contiguous snap.content

like_in_so : (pairs : List (ℕ × Snap)) (v : Value) → NoBuffer (like_in pairs v)
like_in_so pairs (value.One scalar.None) = other fault.Kind kind_differs
like_in_so pairs (value.One (scalar.Bool b)) = other fault.Kind kind_differs
like_in_so pairs (value.One (scalar.Int n)) = other fault.Kind kind_differs
like_in_so pairs (value.One (scalar.Text text)) = other fault.Kind kind_differs
like_in_so pairs (value.One (scalar.Bytes bytes)) = okay bytes
like_in_so pairs (value.One scalar.Ellipsis) = other fault.Kind kind_differs
like_in_so pairs (value.One (scalar.Handle h)) = content_of_so (snap_of pairs h)
like_in_so pairs (value.Slice s) = other fault.Kind kind_differs
like_in_so pairs (value.Tuple parts) = other fault.Kind kind_differs
like_in_so pairs (value.List parts) = other fault.Kind kind_differs
like_in_so pairs (value.Slices slices) = other fault.Kind kind_differs

-- ---- options

text_in_so : (v : Value) → NoBuffer (text_in v)
text_in_so (value.One scalar.None) = other fault.Kind kind_differs
text_in_so (value.One (scalar.Bool b)) = other fault.Kind kind_differs
text_in_so (value.One (scalar.Int n)) = other fault.Kind kind_differs
text_in_so (value.One (scalar.Text text)) = okay text
text_in_so (value.One (scalar.Bytes bytes)) = other fault.Kind kind_differs
text_in_so (value.One scalar.Ellipsis) = other fault.Kind kind_differs
text_in_so (value.One (scalar.Handle h)) = other fault.Kind kind_differs
text_in_so (value.Slice s) = other fault.Kind kind_differs
text_in_so (value.Tuple parts) = other fault.Kind kind_differs
text_in_so (value.List parts) = other fault.Kind kind_differs
text_in_so (value.Slices slices) = other fault.Kind kind_differs

text_given_so : (o : Option Value) → NoBuffer (text_given o)
text_given_so None = okay None
text_given_so (Some v) = then_so (text_in v) _ (text_in_so v) (λ text. okay (Some text))

zeros_so : (n : ℤ) → NoBuffer (zeros_of n)
zeros_so (pos n) = okay _
zeros_so (negsuc n) = other fault.Value value_differs

by_number_so : (pairs : List (ℕ × Snap)) (source : Value) (r : Result ℤ Fault) → NoBuffer (bytes_by_number pairs source r)
by_number_so pairs source (Ok n) = then_so (fitted_number fault.Overflow n) zeros_of (fitted_so fault.Overflow n overflow_differs) zeros_so
by_number_so pairs source (Err f) = bytes_in_so pairs source

encoded_so : (source : Value) (encoding : List ℕ) (errors : Option (List ℕ)) → NoBuffer (encoded source encoding errors)
encoded_so source encoding errors =
    then_so (text_in source) _ (text_in_so source)
    (λ text. then_so (unless (not (is_utf8_name encoding || is_ascii_name encoding)) fault.Value) _ (unless_so (not (is_utf8_name encoding || is_ascii_name encoding)) fault.Value value_differs)
    (λ _. then_so (unless (not (is_strict errors)) fault.Value) _ (unless_so (not (is_strict errors)) fault.Value value_differs)
    (λ _. then_so (unless (is_ascii_name encoding && not (is_ascii text)) fault.Value) _ (unless_so (is_ascii_name encoding && not (is_ascii text)) fault.Value value_differs) (λ _. okay text))))

bytes_by_so : (pairs : List (ℕ × Snap)) (source : Option Value) (encoding errors : Option (List ℕ)) → NoBuffer (bytes_by pairs source encoding errors)
bytes_by_so pairs None None None = okay []
bytes_by_so pairs None None (Some errors) = other fault.Kind kind_differs
bytes_by_so pairs None (Some encoding) errors = other fault.Kind kind_differs
bytes_by_so pairs (Some source) None None = by_number_so pairs source (number_of source)
bytes_by_so pairs (Some source) None (Some errors) = other fault.Kind kind_differs
bytes_by_so pairs (Some source) (Some encoding) errors = encoded_so source encoding errors

options_so : (pairs : List (ℕ × Snap)) (source encoding errors : Option Value) → NoBuffer (bytes_of_options pairs source encoding errors)
options_so pairs source encoding errors =
    then_so (text_given encoding) _ (text_given_so encoding) (λ encoding. then_so (text_given errors) _ (text_given_so errors) (λ errors. bytes_by_so pairs source encoding errors))

-- ---- edits

key_so : (key : Value) → NoBuffer (key_passed key)
key_so (value.Slice s) = passed_so (saturated_parts_of s) (parts_so s)
key_so (value.One s) = passed_so (index_in (value.One s)) (index_in_so (value.One s))
key_so (value.Tuple parts) = passed_so (index_in (value.Tuple parts)) (index_in_so (value.Tuple parts))
key_so (value.List parts) = passed_so (index_in (value.List parts)) (index_in_so (value.List parts))
key_so (value.Slices slices) = passed_so (index_in (value.Slices slices)) (index_in_so (value.Slices slices))

assignment_so : (e : Exporter) (key v : Value) (lents : List Lent) → NoBuffer (assignment_asks e key v lents)
assignment_so e (value.Slice s) v lents = then_so (saturated_parts_of s) _ (parts_so s) (λ parts. then_so (bytes_in (snaps_of lents) v) _ (bytes_in_so (snaps_of lents) v) (λ bytes. okay _))
assignment_so e (value.One s) v lents = okay false
assignment_so e (value.Tuple parts) v lents = okay false
assignment_so e (value.List parts) v lents = okay false
assignment_so e (value.Slices slices) v lents = okay false

-- Only the effect of a bytearray can give it.
of_kind : (k : ExporterKind) (r : Result Bool Fault) → of_byte_array k r ≡ Err fault.Buffer → (k ≡ kind.ByteArray) × (r ≡ Err fault.Buffer)
of_kind kind.ByteArray r is = (refl, is)
of_kind kind.Bytes r is = absurd (other {A = Bool} fault.UnknownName unknown_differs is)
of_kind (kind.Vector readonly) r is = absurd (other {A = Bool} fault.UnknownName unknown_differs is)

-- Here no check of an edit gives it.
none : (e : Exporter) (v : Verb) (lents : List Lent) (r : Result Bool Fault) → NoBuffer r → of_byte_array e.kind r ≡ Err fault.Buffer → IsAddedToItself e v lents
none e v lents r never is = absurd (never (of_kind e.kind r is).1)

itself_only : (b : Bool) → (unless b fault.Buffer >>= λ _. Ok true) ≡ gone {A = Bool} fault.Buffer → b ≡ true
itself_only true is = refl
itself_only false is = absurd (okay true is)

by_itself : (b : Bool) (r : Result (List ℕ) Fault) → NoBuffer r → (r >>= λ _. unless b fault.Buffer >>= λ _. Ok true) ≡ gone {A = Bool} fault.Buffer → b ≡ true
by_itself b (Ok bytes) never is = itself_only b is
by_itself b (Err x) never is = absurd (never (ap (λ (y : Fault). gone y) (let same : x ≡ fault.Buffer = cc in same)))

taking : (e : Exporter) (lents : List Lent) (b : Bool) → (if b then Ok true else Ok false) ≡ gone {A = Bool} fault.Buffer → IsAddedToItself e verb.Take lents
taking e lents true is = absurd (okay true is)
taking e lents false is = absurd (okay false is)

pub only_itself : OnlyAddingItselfIsRefusedEarlier
only_itself e (verb.Append v) lents is = none e _ lents (passed (byte_in v)) (passed_so (byte_in v) (byte_in_so v)) is
only_itself e (verb.Extend v) lents is =
    none e _ lents (byte_array_asks e (verb.Extend v) lents) (either (is_itself v lents) _ _ (okay _) (passed_so (bytes_in (snaps_of lents) v) (bytes_in_so (snaps_of lents) v))) is
only_itself e (verb.Insert index v) lents is =
    none e _ lents (byte_array_asks e (verb.Insert index v) lents) (then_so (count_in index) _ (count_in_so index) (λ _. passed_so (byte_in v) (byte_in_so v))) is
only_itself e (verb.Pop index) lents is = none e _ lents (passed (count_or_last index)) (passed_so (count_or_last index) (count_or_last_so index)) is
only_itself e (verb.Remove v) lents is = none e _ lents (passed (byte_in v)) (passed_so (byte_in v) (byte_in_so v)) is
only_itself e verb.Clear lents is = none e _ lents (Ok true) (okay true) is
only_itself e verb.Reverse lents is = none e _ lents (Ok false) (okay false) is
only_itself e (verb.Del key) lents is = none e _ lents (key_passed key) (key_so key) is
only_itself e (verb.IAdd v) lents is =
    let own = of_kind e.kind (byte_array_asks e (verb.IAdd v) lents) is in
    record { byte_array = own.0; source = v; added = refl; itself = by_itself (is_itself v lents) (like_in (snaps_of lents) v) (like_in_so (snaps_of lents) v) own.1 }
only_itself e (verb.IMul count) lents is = none e _ lents (byte_array_asks e (verb.IMul count) lents) (then_so (count_in count) _ (count_in_so count) (λ number. okay _)) is
only_itself e (verb.Init options) lents is =
    none e _ lents (byte_array_asks e (verb.Init options) lents)
    (passed_so (bytes_of_options (snaps_of lents) options.source options.encoding options.errors) (options_so (snaps_of lents) options.source options.encoding options.errors)) is
only_itself e verb.Take lents is = taking e lents (is_vector e.kind) is
only_itself e verb.Copy lents is = none e _ lents (Ok false) (okay false) is
only_itself e (verb.Set key v) lents is = none e _ lents (assignment_asks e key v lents) (assignment_so e key v lents) is
only_itself e verb.View lents is = none e _ lents (Ok false) (okay false) is
only_itself e (verb.Range from to) lents is = none e _ lents (Ok false) (okay false) is
only_itself e (verb.Get key) lents is = none e _ lents (Ok false) (okay false) is
only_itself e (verb.Cast format shape) lents is = none e _ lents (Ok false) (okay false) is
only_itself e (verb.CastF format shape) lents is = none e _ lents (Ok false) (okay false) is
only_itself e (verb.ToBytes order) lents is = none e _ lents (Ok false) (okay false) is
only_itself e verb.Release lents is = none e _ lents (Ok false) (okay false) is
only_itself e verb.Enter lents is = none e _ lents (Ok false) (okay false) is
only_itself e verb.Exit lents is = none e _ lents (Ok false) (okay false) is
only_itself e verb.ToContiguous lents is = none e _ lents (Ok false) (okay false) is
only_itself e verb.ToList lents is = none e _ lents (Ok false) (okay false) is
only_itself e verb.Len lents is = none e _ lents (Ok false) (okay false) is
only_itself e (verb.Property name) lents is = none e _ lents (Ok false) (okay false) is
only_itself e verb.ToReadonly lents is = none e _ lents (Ok false) (okay false) is
only_itself e (verb.Compare op against) lents is = none e _ lents (Ok false) (okay false) is
only_itself e verb.Hash lents is = none e _ lents (Ok false) (okay false) is
only_itself e verb.Repr lents is = none e _ lents (Ok false) (okay false) is
only_itself e verb.Iter lents is = none e _ lents (Ok false) (okay false) is
only_itself e verb.Next lents is = none e _ lents (Ok false) (okay false) is
only_itself e verb.LengthHint lents is = none e _ lents (Ok false) (okay false) is
only_itself e (verb.SetState state) lents is = none e _ lents (Ok false) (okay false) is
only_itself e (verb.Contains v) lents is = none e _ lents (Ok false) (okay false) is
only_itself e (verb.Hex sep group) lents is = none e _ lents (Ok false) (okay false) is
only_itself e (verb.Call method) lents is = none e _ lents (Ok false) (okay false) is
