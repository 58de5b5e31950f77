-- Methods, searches and digits answer the same, whether released views that their arguments name were forgotten or not.
use Rattle.std.proofs.Common.{◌≡◌, ℕ, List, [], ◌∷◌, Bool, true, ap, refl}
use Rattle.std.specs.Prelude.{ℤ, Option, Some, None, Result, Ok, Err, if◌then◌else◌}
use Rattle.pybuf_value.specs.declared.faults.Fault.{Fault}
use Rattle.pybuf_value.specs.declared.snaps.Snap.{Snap}
use Rattle.pybuf_value.specs.declared.values.Scalar.{Scalar}
use Rattle.pybuf_value.specs.declared.values.Scalar.TheVariants as scalar
use Rattle.pybuf_value.specs.declared.values.Value.{Value}
use Rattle.pybuf_value.specs.declared.values.Value.TheVariants as value
use Rattle.pybuf_value.specs.Numbers as numbers
use Rattle.pybuf_value.specs.Snaps as snaps
use Rattle.pybuf_search.specs.Affixes as affixes
use Rattle.pybuf_search.specs.Bounds.{between_bounds}
use Rattle.pybuf_search.specs.Ends.{without_prefix, without_suffix, begins_with, ends_with}
use Rattle.pybuf_search.specs.Places.{first_place, last_place}
use Rattle.pybuf_letters.specs.Strips.{stripped, stripped_left, stripped_right}
use Rattle.pybuf_shaping.specs.Padding.{centered, justified_left, justified_right}
use Rattle.pybuf_shaping.specs.Arguments as fills
use Rattle.pybuf_bytes.specs.Needles as needles
use Rattle.pybuf_bytes.specs.Options as options
use Rattle.pybuf_bytes.specs.Searching as searching
use Rattle.pybuf_command.specs.declared.methods.MethodName.{MethodName}
use Rattle.pybuf_command.specs.declared.methods.MethodName.TheVariants as name
use Rattle.pybuf_methods.specs.Given as given
use Rattle.pybuf_methods.specs.Plain as plain
use Rattle.pybuf_methods.specs.Sought as sought
use Rattle.pybuf_methods.specs.Shaped as shaped
use Rattle.pybuf_methods.specs.Cut as cut
use Rattle.pybuf_methods.specs.Methods.{method_reply}
use Rattle.pybuf_forgetting.proofs.Reading as reading
use Rattle.pybuf_forgetting.proofs.Reading.{Alike, bind, after, read, bytes_in, like_in}

-- ---- the bytes that something new is made of

bytes_by_number : (pairs others : List (ℕ × Snap)) → Alike pairs others → (source : Value) (r : Result ℤ Fault) → options.bytes_by_number pairs source r ≡ options.bytes_by_number others source r
bytes_by_number pairs others alike source (Ok n) = refl
bytes_by_number pairs others alike source (Err f) = bytes_in pairs others alike source

bytes_by : (pairs others : List (ℕ × Snap)) → Alike pairs others → (source : Option Value) (encoding errors : Option (List ℕ)) → options.bytes_by pairs source encoding errors ≡ options.bytes_by others source encoding errors
bytes_by pairs others alike None None None = refl
bytes_by pairs others alike None None (Some errors) = refl
bytes_by pairs others alike None (Some encoding) errors = refl
bytes_by pairs others alike (Some source) None None = bytes_by_number pairs others alike source (numbers.number_of source)
bytes_by pairs others alike (Some source) None (Some errors) = refl
bytes_by pairs others alike (Some source) (Some encoding) errors = refl

pub bytes_of_options : (pairs others : List (ℕ × Snap)) → Alike pairs others → (source encoding errors : Option Value) → options.bytes_of_options pairs source encoding errors ≡ options.bytes_of_options others source encoding errors
bytes_of_options pairs others alike source encoding errors =
    after (options.text_given encoding) _ _ (λ codec. after (options.text_given errors) _ _ (λ handler. bytes_by pairs others alike source codec handler))

-- ---- arguments of methods

bytes_of_scalar : (pairs others : List (ℕ × Snap)) → Alike pairs others → (s : Scalar) → given.bytes_if pairs (value.One s) ≡ given.bytes_if others (value.One s)
bytes_of_scalar pairs others alike scalar.None = refl
bytes_of_scalar pairs others alike s = read (snaps.bytes_in pairs (value.One s)) (snaps.bytes_in others (value.One s)) (λ bytes. Ok (Some bytes)) (bytes_in pairs others alike (value.One s))

bytes_if : (pairs others : List (ℕ × Snap)) → Alike pairs others → (v : Value) → given.bytes_if pairs v ≡ given.bytes_if others v
bytes_if pairs others alike (value.One s) = bytes_of_scalar pairs others alike s
bytes_if pairs others alike v = read (snaps.bytes_in pairs v) (snaps.bytes_in others v) (λ bytes. Ok (Some bytes)) (bytes_in pairs others alike v)

bytes_given : (pairs others : List (ℕ × Snap)) → Alike pairs others → (v : Option Value) → given.bytes_given pairs v ≡ given.bytes_given others v
bytes_given pairs others alike None = refl
bytes_given pairs others alike (Some v) = bytes_if pairs others alike v

separator_of_scalar : (pairs others : List (ℕ × Snap)) → Alike pairs others → (s : Scalar) → given.separator_in pairs (value.One s) ≡ given.separator_in others (value.One s)
separator_of_scalar pairs others alike (scalar.Text text) = refl
separator_of_scalar pairs others alike s = reading.bytes_alone pairs others alike s

separator_in : (pairs others : List (ℕ × Snap)) → Alike pairs others → (v : Value) → given.separator_in pairs v ≡ given.separator_in others v
separator_in pairs others alike (value.One s) = separator_of_scalar pairs others alike s
separator_in pairs others alike _ = refl

separator_given : (pairs others : List (ℕ × Snap)) → Alike pairs others → (v : Option Value) → given.separator_given pairs v ≡ given.separator_given others v
separator_given pairs others alike None = refl
separator_given pairs others alike (Some v) = read (given.separator_in pairs v) (given.separator_in others v) _ (separator_in pairs others alike v)

each_in : (pairs others : List (ℕ × Snap)) → Alike pairs others → (parts : List Scalar) → given.each_in pairs parts ≡ given.each_in others parts
each_in pairs others alike [] = refl
each_in pairs others alike (part ∷ parts) =
    bind (snaps.bytes_in pairs (value.One part)) (snaps.bytes_in others (value.One part)) _ _ (bytes_in pairs others alike (value.One part)) (λ bytes.
    read (given.each_in pairs parts) (given.each_in others parts) _ (each_in pairs others alike parts))

lists_in : (pairs others : List (ℕ × Snap)) → Alike pairs others → (v : Value) → given.lists_in pairs v ≡ given.lists_in others v
lists_in pairs others alike (value.Tuple parts) = each_in pairs others alike parts
lists_in pairs others alike (value.List parts) = each_in pairs others alike parts
lists_in pairs others alike _ = refl

-- ---- needles and affixes

needle_by : (pairs others : List (ℕ × Snap)) → Alike pairs others → (v : Value) (r : Result ℤ Fault) → needles.needle_by pairs v r ≡ needles.needle_by others v r
needle_by pairs others alike v (Ok n) = refl
needle_by pairs others alike v (Err f) = read (snaps.bytes_in pairs v) (snaps.bytes_in others v) _ (bytes_in pairs others alike v)

sought_in : (pairs others : List (ℕ × Snap)) → Alike pairs others → (v : Value) → sought.sought_in pairs v ≡ sought.sought_in others v
sought_in pairs others alike v = read (needles.needle_in pairs v) (needles.needle_in others v) _ (needle_by pairs others alike v (numbers.number_of v))

pub contains_in : (pairs others : List (ℕ × Snap)) → Alike pairs others → (bytes : List ℕ) (v : Value) → sought.contains_in pairs bytes v ≡ sought.contains_in others bytes v
contains_in pairs others alike bytes v = ap (λ r. searching.contains_by r bytes) (sought_in pairs others alike v)

any_of : (pairs others : List (ℕ × Snap)) → Alike pairs others → (test : List ℕ → Bool) (parts : List Scalar) → affixes.any_of test pairs parts ≡ affixes.any_of test others parts
any_of pairs others alike test [] = refl
any_of pairs others alike test (part ∷ parts) =
    bind (snaps.bytes_in pairs (value.One part)) (snaps.bytes_in others (value.One part)) _ _ (bytes_in pairs others alike (value.One part)) (λ bytes.
    ap (λ (r : Result Bool Fault). if test bytes then Ok true else r) (any_of pairs others alike test parts))

single_or_any_of : (pairs others : List (ℕ × Snap)) → Alike pairs others → (test : List ℕ → Bool) (v : Value) → affixes.single_or_any_of test pairs v ≡ affixes.single_or_any_of test others v
single_or_any_of pairs others alike test (value.Tuple parts) = any_of pairs others alike test parts
single_or_any_of pairs others alike test v = read (snaps.bytes_in pairs v) (snaps.bytes_in others v) (λ bytes. Ok (test bytes)) (bytes_in pairs others alike v)

test_in : (pairs others : List (ℕ × Snap)) → Alike pairs others → (test : List ℕ → List ℕ → Bool) (affix : Value) (part : Option (List ℕ)) → affixes.test_in test pairs affix part ≡ affixes.test_in test others affix part
test_in pairs others alike test affix None = refl
test_in pairs others alike test affix (Some part) = single_or_any_of pairs others alike (test part) affix

-- ---- fills, tables and digits

fill_in : (pairs others : List (ℕ × Snap)) → Alike pairs others → (v : Value) → fills.fill_in pairs v ≡ fills.fill_in others v
fill_in pairs others alike (value.One (scalar.Handle h)) = reading.fill_named pairs others alike h
fill_in pairs others alike _ = refl

fill_of : (pairs others : List (ℕ × Snap)) → Alike pairs others → (v : Option Value) → fills.fill_of pairs v ≡ fills.fill_of others v
fill_of pairs others alike None = refl
fill_of pairs others alike (Some v) = fill_in pairs others alike v

table_of_scalar : (pairs others : List (ℕ × Snap)) → Alike pairs others → (s : Scalar) → fills.table_in pairs (value.One s) ≡ fills.table_in others (value.One s)
table_of_scalar pairs others alike scalar.None = refl
table_of_scalar pairs others alike s = ap fills.table_read (bytes_in pairs others alike (value.One s))

table_in : (pairs others : List (ℕ × Snap)) → Alike pairs others → (v : Value) → fills.table_in pairs v ≡ fills.table_in others v
table_in pairs others alike (value.One s) = table_of_scalar pairs others alike s
table_in pairs others alike v = ap fills.table_read (bytes_in pairs others alike v)

table_given : (pairs others : List (ℕ × Snap)) → Alike pairs others → (v : Option Value) → fills.table_given pairs v ≡ fills.table_given others v
table_given pairs others alike None = refl
table_given pairs others alike (Some v) = table_in pairs others alike v

dropped_given : (pairs others : List (ℕ × Snap)) → Alike pairs others → (v : Option Value) → fills.dropped_given pairs v ≡ fills.dropped_given others v
dropped_given pairs others alike None = refl
dropped_given pairs others alike (Some v) = bytes_in pairs others alike v

tables_of : (pairs others : List (ℕ × Snap)) → Alike pairs others → (table delete : Option Value) → fills.tables_of pairs table delete ≡ fills.tables_of others table delete
tables_of pairs others alike table delete =
    bind (fills.table_given pairs table) (fills.table_given others table) _ _ (table_given pairs others alike table) (λ t.
    read (fills.dropped_given pairs delete) (fills.dropped_given others delete) _ (dropped_given pairs others alike delete))

translation : (pairs others : List (ℕ × Snap)) → Alike pairs others → (table delete : Option Value) (bytes : List ℕ) → fills.translation pairs table delete bytes ≡ fills.translation others table delete bytes
translation pairs others alike table delete bytes = read (fills.tables_of pairs table delete) (fills.tables_of others table delete) _ (tables_of pairs others alike table delete)

pub hex_of : (pairs others : List (ℕ × Snap)) → Alike pairs others → (sep group : Option Value) (bytes : List ℕ) → shaped.hex_of pairs sep group bytes ≡ shaped.hex_of others sep group bytes
hex_of pairs others alike sep group bytes = read (given.separator_given pairs sep) (given.separator_given others sep) _ (separator_given pairs others alike sep)

-- ---- methods

add : (pairs others : List (ℕ × Snap)) → Alike pairs others → (bytes : List ℕ) (args : List Value) → plain.add pairs bytes args ≡ plain.add others bytes args
add pairs others alike bytes args = after (given.one args) _ _ (λ other. read (snaps.like_in pairs other) (snaps.like_in others other) _ (like_in pairs others alike other))

operand_in : (pairs others : List (ℕ × Snap)) → Alike pairs others → (v : Value) → searching.operand_in pairs v ≡ searching.operand_in others v
operand_in pairs others alike (value.One s) = bytes_in pairs others alike (value.One s)
operand_in pairs others alike _ = refl

concat_of : (pairs others : List (ℕ × Snap)) → Alike pairs others → (other : Value) (bytes : List ℕ) → searching.concat_of pairs other bytes ≡ searching.concat_of others other bytes
concat_of pairs others alike other bytes = read (searching.operand_in pairs other) (searching.operand_in others other) _ (operand_in pairs others alike other)

concat : (pairs others : List (ℕ × Snap)) → Alike pairs others → (bytes : List ℕ) (args : List Value) → plain.concat pairs bytes args ≡ plain.concat others bytes args
concat pairs others alike bytes args = after (given.one args) _ _ (λ other. read (searching.concat_of pairs other bytes) (searching.concat_of others other bytes) _ (concat_of pairs others alike other bytes))

join : (pairs others : List (ℕ × Snap)) → Alike pairs others → (bytes : List ℕ) (args : List Value) → plain.join pairs bytes args ≡ plain.join others bytes args
join pairs others alike bytes args = after (given.one args) _ _ (λ list. read (given.lists_in pairs list) (given.lists_in others list) _ (lists_in pairs others alike list))

hex : (pairs others : List (ℕ × Snap)) → Alike pairs others → (bytes : List ℕ) (args : List Value) → shaped.hex pairs bytes args ≡ shaped.hex others bytes args
hex pairs others alike bytes args = after (given.at_most_two args) _ _ (λ two. read (shaped.hex_of pairs two.0 two.1 bytes) (shaped.hex_of others two.0 two.1 bytes) _ (hex_of pairs others alike two.0 two.1 bytes))

width_and_fill : (pairs others : List (ℕ × Snap)) → Alike pairs others → (args : List Value) → shaped.width_and_fill pairs args ≡ shaped.width_and_fill others args
width_and_fill pairs others alike args =
    after (given.one_or_two args) _ _ (λ two. after (numbers.count_in two.0) _ _ (λ width. read (fills.fill_of pairs two.1) (fills.fill_of others two.1) _ (fill_of pairs others alike two.1)))

padded : (pairs others : List (ℕ × Snap)) → Alike pairs others → (shape : ℤ → ℕ → List ℕ → List ℕ) (bytes : List ℕ) (args : List Value) → shaped.padded shape pairs bytes args ≡ shaped.padded shape others bytes args
padded pairs others alike shape bytes args = read (shaped.width_and_fill pairs args) (shaped.width_and_fill others args) _ (width_and_fill pairs others alike args)

maketrans : (pairs others : List (ℕ × Snap)) → Alike pairs others → (args : List Value) → shaped.maketrans pairs args ≡ shaped.maketrans others args
maketrans pairs others alike args =
    after (given.two args) _ _ (λ both.
    bind (snaps.bytes_in pairs both.0) (snaps.bytes_in others both.0) _ _ (bytes_in pairs others alike both.0) (λ from.
    read (snaps.bytes_in pairs both.1) (snaps.bytes_in others both.1) _ (bytes_in pairs others alike both.1)))

translate : (pairs others : List (ℕ × Snap)) → Alike pairs others → (bytes : List ℕ) (args : List Value) → shaped.translate pairs bytes args ≡ shaped.translate others bytes args
translate pairs others alike bytes args =
    after (given.one_or_two args) _ _ (λ both. read (fills.translation pairs (Some both.0) both.1 bytes) (fills.translation others (Some both.0) both.1 bytes) _ (translation pairs others alike (Some both.0) both.1 bytes))

replace : (pairs others : List (ℕ × Snap)) → Alike pairs others → (bytes : List ℕ) (args : List Value) → shaped.replace pairs bytes args ≡ shaped.replace others bytes args
replace pairs others alike bytes args =
    after (given.two_or_three args) _ _ (λ three.
    bind (snaps.bytes_in pairs three.0) (snaps.bytes_in others three.0) _ _ (bytes_in pairs others alike three.0) (λ old.
    read (snaps.bytes_in pairs three.1) (snaps.bytes_in others three.1) _ (bytes_in pairs others alike three.1)))

strip : (pairs others : List (ℕ × Snap)) → Alike pairs others → (side : (ℕ → Bool) → List ℕ → List ℕ) (bytes : List ℕ) (args : List Value) → cut.strip side pairs bytes args ≡ cut.strip side others bytes args
strip pairs others alike side bytes args = after (given.at_most_one args) _ _ (λ v. read (given.bytes_given pairs v) (given.bytes_given others v) _ (bytes_given pairs others alike v))

remove : (pairs others : List (ℕ × Snap)) → Alike pairs others → (without : List ℕ → List ℕ → List ℕ) (bytes : List ℕ) (args : List Value) → cut.remove without pairs bytes args ≡ cut.remove without others bytes args
remove pairs others alike without bytes args = after (given.one args) _ _ (λ v. read (snaps.bytes_in pairs v) (snaps.bytes_in others v) _ (bytes_in pairs others alike v))

split : (pairs others : List (ℕ × Snap)) → Alike pairs others → (parts_by : Option (List ℕ) → ℤ → List ℕ → Result (List (List ℕ)) Fault) (bytes : List ℕ) (args : List Value) → cut.split parts_by pairs bytes args ≡ cut.split parts_by others bytes args
split pairs others alike parts_by bytes args = after (given.at_most_two args) _ _ (λ two. read (given.bytes_given pairs two.0) (given.bytes_given others two.0) _ (bytes_given pairs others alike two.0))

partition : (pairs others : List (ℕ × Snap)) → Alike pairs others → (bytes : List ℕ) (args : List Value) → cut.partition pairs bytes args ≡ cut.partition others bytes args
partition pairs others alike bytes args = after (given.one args) _ _ (λ v. read (snaps.bytes_in pairs v) (snaps.bytes_in others v) _ (bytes_in pairs others alike v))

rpartition : (pairs others : List (ℕ × Snap)) → Alike pairs others → (bytes : List ℕ) (args : List Value) → cut.rpartition pairs bytes args ≡ cut.rpartition others bytes args
rpartition pairs others alike bytes args = after (given.one args) _ _ (λ v. read (snaps.bytes_in pairs v) (snaps.bytes_in others v) _ (bytes_in pairs others alike v))

place : (pairs others : List (ℕ × Snap)) → Alike pairs others → (search : List ℕ → List ℕ → Option ℕ) (bytes : List ℕ) (args : List Value) → sought.place search pairs bytes args ≡ sought.place search others bytes args
place pairs others alike search bytes args = after (given.one_to_three args) _ _ (λ three. read (sought.sought_in pairs three.0) (sought.sought_in others three.0) _ (sought_in pairs others alike three.0))

find : (pairs others : List (ℕ × Snap)) → Alike pairs others → (search : List ℕ → List ℕ → Option ℕ) (bytes : List ℕ) (args : List Value) → sought.find search pairs bytes args ≡ sought.find search others bytes args
find pairs others alike search bytes args = read (sought.place search pairs bytes args) (sought.place search others bytes args) _ (place pairs others alike search bytes args)

index : (pairs others : List (ℕ × Snap)) → Alike pairs others → (search : List ℕ → List ℕ → Option ℕ) (bytes : List ℕ) (args : List Value) → sought.index search pairs bytes args ≡ sought.index search others bytes args
index pairs others alike search bytes args = read (sought.place search pairs bytes args) (sought.place search others bytes args) _ (place pairs others alike search bytes args)

count : (pairs others : List (ℕ × Snap)) → Alike pairs others → (bytes : List ℕ) (args : List Value) → sought.count pairs bytes args ≡ sought.count others bytes args
count pairs others alike bytes args = after (given.one_to_three args) _ _ (λ three. read (sought.sought_in pairs three.0) (sought.sought_in others three.0) _ (sought_in pairs others alike three.0))

startswith : (pairs others : List (ℕ × Snap)) → Alike pairs others → (bytes : List ℕ) (args : List Value) → sought.startswith pairs bytes args ≡ sought.startswith others bytes args
startswith pairs others alike bytes args =
    after (sought.affix_given args) _ _ (λ three.
    read (affixes.startswith_of pairs three.0 three.1 three.2 bytes) (affixes.startswith_of others three.0 three.1 three.2 bytes) _ (test_in pairs others alike begins_with three.0 (between_bounds three.1 three.2 bytes)))

endswith : (pairs others : List (ℕ × Snap)) → Alike pairs others → (bytes : List ℕ) (args : List Value) → sought.endswith pairs bytes args ≡ sought.endswith others bytes args
endswith pairs others alike bytes args =
    after (sought.affix_given args) _ _ (λ three.
    read (affixes.endswith_of pairs three.0 three.1 three.2 bytes) (affixes.endswith_of others three.0 three.1 three.2 bytes) _ (test_in pairs others alike ends_with three.0 (between_bounds three.1 three.2 bytes)))

pub method : (pairs others : List (ℕ × Snap)) → Alike pairs others → (bytes : List ℕ) (m : MethodName) (args : List Value) → method_reply pairs bytes m args ≡ method_reply others bytes m args
method pairs others alike bytes name.Add args = add pairs others alike bytes args
method pairs others alike bytes name.Concat args = concat pairs others alike bytes args
method pairs others alike bytes name.Hex args = hex pairs others alike bytes args
method pairs others alike bytes name.Center args = padded pairs others alike centered bytes args
method pairs others alike bytes name.LJust args = padded pairs others alike justified_left bytes args
method pairs others alike bytes name.RJust args = padded pairs others alike justified_right bytes args
method pairs others alike bytes name.Find args = find pairs others alike first_place bytes args
method pairs others alike bytes name.RFind args = find pairs others alike last_place bytes args
method pairs others alike bytes name.Index args = index pairs others alike first_place bytes args
method pairs others alike bytes name.RIndex args = index pairs others alike last_place bytes args
method pairs others alike bytes name.Count args = count pairs others alike bytes args
method pairs others alike bytes name.StartsWith args = startswith pairs others alike bytes args
method pairs others alike bytes name.EndsWith args = endswith pairs others alike bytes args
method pairs others alike bytes name.Join args = join pairs others alike bytes args
method pairs others alike bytes name.MakeTrans args = maketrans pairs others alike args
method pairs others alike bytes name.Translate args = translate pairs others alike bytes args
method pairs others alike bytes name.Strip args = strip pairs others alike stripped bytes args
method pairs others alike bytes name.LStrip args = strip pairs others alike stripped_left bytes args
method pairs others alike bytes name.RStrip args = strip pairs others alike stripped_right bytes args
method pairs others alike bytes name.RemovePrefix args = remove pairs others alike without_prefix bytes args
method pairs others alike bytes name.RemoveSuffix args = remove pairs others alike without_suffix bytes args
method pairs others alike bytes name.Split args = split pairs others alike searching.split_of bytes args
method pairs others alike bytes name.RSplit args = split pairs others alike searching.rsplit_of bytes args
method pairs others alike bytes name.Partition args = partition pairs others alike bytes args
method pairs others alike bytes name.RPartition args = rpartition pairs others alike bytes args
method pairs others alike bytes name.Replace args = replace pairs others alike bytes args
method pairs others alike bytes _ args = refl
