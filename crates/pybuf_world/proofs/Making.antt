-- The bytes of a new exporter are those of a single handle, or no handle is read for them.
use Rattle.std.proofs.Common.{◌≡◌, ◌≢◌, ℕ, ◌≤◌, Bool, true, false, true≢false, List, [], ◌∷◌, length, ap, sym, ◌∙◌, refl, arith}
use Rattle.std.specs.Prelude.{◌==◌, ◌&&◌, ◌||◌, nat_lt, Option, Some, None, Result, Ok, Err, if◌then◌else◌}
use Rattle.std.specs.List.{list_all, list_any}
use Rattle.std.proofs.lemmas.Bool.{eqb-true, le-ltb}
use Rattle.pybuf_lemmas.proofs.Booleans.{and_false}
use Rattle.pybuf_value.specs.declared.faults.Fault.{Fault}
use Rattle.pybuf_value.specs.declared.faults.Fault.TheVariants as fault
use Rattle.pybuf_value.specs.declared.snaps.Snap.{Snap}
use Rattle.pybuf_value.specs.declared.values.Scalar.TheVariants as scalar
use Rattle.pybuf_value.specs.declared.values.Value.{Value}
use Rattle.pybuf_value.specs.declared.values.Value.TheVariants as value
use Rattle.pybuf_value.specs.Refusing.{◌>>=◌}
use Rattle.pybuf_value.specs.Texts.{text_in}
use Rattle.pybuf_command.specs.declared.options.ByteInnerNewOptions.{ByteInnerNewOptions}
use Rattle.pybuf_bytes.specs.Options.{bytes_of_source, text_given, bytes_by, bytes_of_options}
use Rattle.pybuf_command.specs.declared.kinds.ExporterKind.{ExporterKind}
use Rattle.pybuf_command.specs.Handles.{source_alone as handle_by, handle_alone, handles_of_options}
use Rattle.pybuf_command.specs.declared.worlds.Reply.TheVariants as reply
use Rattle.pybuf_world.specs.World.{World, bytes_of_new, world_with_bytes, are_given}
use Rattle.pybuf_world.specs.Laws.{IsNewMade, NewExportersStandBehind, UnknownSourcesAreRefused}

-- ---- no handle

source_read : (pairs : List (ℕ × Snap)) (v : Value) → handle_by (Some v) None None ≡ None → bytes_of_source pairs v ≡ bytes_of_source [] v
source_read pairs (value.One (scalar.Handle h)) is = absurd (cc)
source_read pairs (value.One scalar.None) is = refl
source_read pairs (value.One (scalar.Bool true)) is = refl
source_read pairs (value.One (scalar.Bool false)) is = refl
source_read pairs (value.One (scalar.Int n)) is = refl
source_read pairs (value.One (scalar.Text text)) is = refl
source_read pairs (value.One (scalar.Bytes bytes)) is = refl
source_read pairs (value.One scalar.Ellipsis) is = refl
source_read pairs (value.Slice slice) is = refl
source_read pairs (value.Tuple parts) is = refl
source_read pairs (value.List parts) is = refl
source_read pairs (value.Slices slices) is = refl

errors_alone : (pairs : List (ℕ × Snap)) (s : Option Value) (r : Result (List ℕ) Fault)
    → ((r >>= (λ text. Ok (Some text))) >>= (λ errors. bytes_by pairs s None errors)) ≡ ((r >>= (λ text. Ok (Some text))) >>= (λ errors. bytes_by [] s None errors))
errors_alone pairs s (Err f) = refl
errors_alone pairs (Some v) (Ok text) = refl
errors_alone pairs None (Ok text) = refl

by_encoding : (pairs : List (ℕ × Snap)) (s : Option Value) (text : List ℕ) (r : Result (Option (List ℕ)) Fault)
    → (r >>= (λ errors. bytes_by pairs s (Some text) errors)) ≡ (r >>= (λ errors. bytes_by [] s (Some text) errors))
by_encoding pairs s text (Err f) = refl
by_encoding pairs (Some v) text (Ok errors) = refl
by_encoding pairs None text (Ok errors) = refl

encoding_given : (pairs : List (ℕ × Snap)) (s : Option Value) (e : Result (List ℕ) Fault) (r : Result (Option (List ℕ)) Fault)
    → ((e >>= (λ text. Ok (Some text))) >>= (λ encoding. r >>= (λ errors. bytes_by pairs s encoding errors))) ≡ ((e >>= (λ text. Ok (Some text))) >>= (λ encoding. r >>= (λ errors. bytes_by [] s encoding errors)))
encoding_given pairs s (Err f) r = refl
encoding_given pairs s (Ok text) r = by_encoding pairs s text r

of_none : (pairs : List (ℕ × Snap)) (s e r : Option Value) → handle_by s e r ≡ None → bytes_of_options pairs s e r ≡ bytes_of_options [] s e r
of_none pairs s (Some e) r is = encoding_given pairs s (text_in e) (text_given r)
of_none pairs s None (Some r) is = errors_alone pairs s (text_in r)
of_none pairs (Some v) None None is = source_read pairs v is
of_none pairs None None None is = refl

-- If the source isn't a single handle, nothing that is lent is read.
pub bytes_of_none : (w : World) (options : ByteInnerNewOptions) → handle_alone options ≡ None → bytes_of_new w options ≡ bytes_of_options [] options.source options.encoding options.errors
bytes_of_none w options is = of_none _ options.source options.encoding options.errors is

-- ---- the new exporter

bytes_made : (w : World) (k : ExporterKind) (options : ByteInnerNewOptions) (r : Result (List ℕ) Fault) → bytes_of_new w options ≡ r → ((f : Fault) → (world_with_bytes w k r).1 ≢ reply.Refused f)
    → IsNewMade w k options (world_with_bytes w k r).0 (world_with_bytes w k r).1
bytes_made w k options (Ok bytes) is made = record { bytes = bytes; read = is; behind = refl; next = refl; replied = refl }
bytes_made w k options (Err f) is made = absurd (made f refl)

given_made : (w : World) (given : Bool) (k : ExporterKind) (options : ByteInnerNewOptions) → ((f : Fault) → (if given then world_with_bytes w k (bytes_of_new w options) else (w, reply.Refused fault.UnknownName)).1 ≢ reply.Refused f)
    → IsNewMade w k options (if given then world_with_bytes w k (bytes_of_new w options) else (w, reply.Refused fault.UnknownName)).0 (if given then world_with_bytes w k (bytes_of_new w options) else (w, reply.Refused fault.UnknownName)).1
given_made w true k options made = bytes_made w k options (bytes_of_new w options) refl made
given_made w false k options made = absurd (made fault.UnknownName refl)

pub stand_behind : NewExportersStandBehind
stand_behind w k options made = given_made w (are_given w (handles_of_options options)) k options made

-- ---- handles that were never given

either_unknown : (n h x : ℕ) (is any all : Bool) → (x == h) ≡ is → (is || any) ≡ true → n ≤ h → (any ≡ true → all ≡ false) → (nat_lt x n && all) ≡ false
either_unknown n h x true any all same among from later =
    let here : x ≡ h = eqb-true x h same in ap (λ (b : Bool). b && all) (le-ltb x n (omega (arith, here, from)))
either_unknown n h x false any all same among from later = ap (λ (b : Bool). nat_lt x n && b) (later among) ∙ and_false (nat_lt x n)

not_all_given : (n h : ℕ) (handles : List ℕ) → list_any (λ (given : ℕ). given == h) handles ≡ true → n ≤ h → list_all (λ (given : ℕ). nat_lt given n) handles ≡ false
not_all_given n h [] among from = absurd (true≢false (sym among))
not_all_given n h (x ∷ xs) among from =
    either_unknown n h x (x == h) (list_any (λ (given : ℕ). given == h) xs) (list_all (λ (given : ℕ). nat_lt given n) xs) refl among from (λ later. not_all_given n h xs later from)

pub unknown_refused : UnknownSourcesAreRefused
unknown_refused w k options h among from =
    ap (λ (given : Bool). if given then world_with_bytes w k (bytes_of_new w options) else (w, reply.Refused fault.UnknownName)) (not_all_given (length w.handles) h (handles_of_options options) among from)
