-- What is read of a handle is the same, whether a released view that it names was forgotten or not.
use Rattle.std.proofs.Common.{◌≡◌, ℕ, List, [], Bool, true, false, ap, sym, ◌∙◌, refl}
use Rattle.std.specs.Prelude.{Option, Some, None, Result, Ok, Err, if◌then◌else◌}
use Rattle.std.specs.Option.{option_map}
use Rattle.pybuf_value.specs.declared.faults.Fault.{Fault}
use Rattle.pybuf_value.specs.declared.snaps.Snap.{Snap}
use Rattle.pybuf_value.specs.declared.snaps.SnapKind.{SnapKind}
use Rattle.pybuf_value.specs.declared.snaps.SnapKind.TheVariants as kind
use Rattle.pybuf_value.specs.declared.values.Scalar.{Scalar}
use Rattle.pybuf_value.specs.declared.values.Scalar.TheVariants as scalar
use Rattle.pybuf_value.specs.declared.values.Value.{Value}
use Rattle.pybuf_value.specs.declared.values.Value.TheVariants as value
use Rattle.pybuf_value.specs.Refusing.{◌>>=◌}
use Rattle.pybuf_value.specs.Snaps as snaps
use Rattle.pybuf_shaping.specs.Arguments.{single, fill_of_named}
use Rattle.pybuf_forgetting.specs.Forgotten.{is_released_view, forgotten_snap}

-- ---- chains of checks

pub bind : {A B : Type 0} (r s : Result A Fault) (f g : A → Result B Fault) → r ≡ s → ((a : A) → f a ≡ g a) → (r >>= f) ≡ (s >>= g)
bind (Ok a) s f g same after = after a ∙ ap (λ t. t >>= g) same
bind (Err x) s f g same after = ap (λ t. t >>= g) same

pub after : {A B : Type 0} (r : Result A Fault) (f g : A → Result B Fault) → ((a : A) → f a ≡ g a) → (r >>= f) ≡ (r >>= g)
after r f g each = bind r r f g refl each

pub read : {A B : Type 0} (r s : Result A Fault) (f : A → Result B Fault) → r ≡ s → (r >>= f) ≡ (s >>= f)
read r s f same = ap (λ t. t >>= f) same

-- ---- what handles name

-- Both name the same, but for released views, which may be forgotten.
pub record Alike (pairs others : List (ℕ × Snap)) : Type 0 where
  pub named : (h : ℕ) → option_map forgotten_snap (snaps.snap_of pairs h) ≡ option_map forgotten_snap (snaps.snap_of others h)

through : {X : Type 0} (look : Option Snap → X) (pairs others : List (ℕ × Snap)) → ((o : Option Snap) → look (option_map forgotten_snap o) ≡ look o) → Alike pairs others → (h : ℕ) → look (snaps.snap_of pairs h) ≡ look (snaps.snap_of others h)
through look pairs others erased alike h = sym (erased (snaps.snap_of pairs h)) ∙ ap look (alike.named h) ∙ erased (snaps.snap_of others h)

content_kept : (k : SnapKind) (released contiguous : Bool) (content : List ℕ)
    → snaps.content_of_kind k released (if is_released_view k released then true else contiguous) (if is_released_view k released then [] else content) ≡ snaps.content_of_kind k released contiguous content
content_kept kind.View true contiguous content = refl
content_kept kind.View false contiguous content = refl
content_kept _ released contiguous content = refl

pub content_erased : (o : Option Snap) → snaps.content_of (option_map forgotten_snap o) ≡ snaps.content_of o
content_erased None = refl
content_erased (Some s) = content_kept s.kind s.released s.contiguous s.content

read_kept : (k : SnapKind) (released : Bool) (content : List ℕ) → snaps.content_read k released (if is_released_view k released then [] else content) ≡ snaps.content_read k released content
read_kept kind.View true content = refl
read_kept kind.View false content = refl
read_kept _ released content = refl

named_erased : (o : Option Snap) → snaps.content_of_named (option_map forgotten_snap o) ≡ snaps.content_of_named o
named_erased None = refl
named_erased (Some s) = read_kept s.kind s.released s.content

bytes_kept : (k : SnapKind) (released : Bool) (content : List ℕ) → snaps.content_if_bytes k (if is_released_view k released then [] else content) ≡ snaps.content_if_bytes k content
bytes_kept kind.View released content = refl
bytes_kept _ released content = refl

bytes_erased : (o : Option Snap) → snaps.content_of_bytes (option_map forgotten_snap o) ≡ snaps.content_of_bytes o
bytes_erased None = refl
bytes_erased (Some s) = bytes_kept s.kind s.released s.content

string_kept : (k : SnapKind) (released : Bool) (content : List ℕ) → snaps.content_of_string k (if is_released_view k released then [] else content) ≡ snaps.content_of_string k content
string_kept kind.View released content = refl
string_kept _ released content = refl

fill_erased : (o : Option Snap) → fill_of_named (option_map forgotten_snap o) ≡ fill_of_named o
fill_erased None = refl
fill_erased (Some s) = ap single (string_kept s.kind s.released s.content)

-- ---- what values are read as

pub bytes_like : (pairs others : List (ℕ × Snap)) → Alike pairs others → (s : Scalar) → snaps.bytes_like pairs s ≡ snaps.bytes_like others s
bytes_like pairs others alike (scalar.Handle h) = through snaps.content_of pairs others content_erased alike h
bytes_like pairs others alike _ = refl

pub like_in : (pairs others : List (ℕ × Snap)) → Alike pairs others → (v : Value) → snaps.like_in pairs v ≡ snaps.like_in others v
like_in pairs others alike (value.One s) = bytes_like pairs others alike s
like_in pairs others alike _ = refl

pub bytes_alone : (pairs others : List (ℕ × Snap)) → Alike pairs others → (s : Scalar) → snaps.bytes_alone pairs s ≡ snaps.bytes_alone others s
bytes_alone pairs others alike (scalar.Handle h) = through snaps.content_of_bytes pairs others bytes_erased alike h
bytes_alone pairs others alike _ = refl

bytes_of_one : (pairs others : List (ℕ × Snap)) → Alike pairs others → (s : Scalar) → snaps.bytes_in pairs (value.One s) ≡ snaps.bytes_in others (value.One s)
bytes_of_one pairs others alike (scalar.Handle h) = through snaps.content_of_named pairs others named_erased alike h
bytes_of_one pairs others alike _ = refl

pub bytes_in : (pairs others : List (ℕ × Snap)) → Alike pairs others → (v : Value) → snaps.bytes_in pairs v ≡ snaps.bytes_in others v
bytes_in pairs others alike (value.One s) = bytes_of_one pairs others alike s
bytes_in pairs others alike _ = refl

pub fill_named : (pairs others : List (ℕ × Snap)) → Alike pairs others → (h : ℕ) → fill_of_named (snaps.snap_of pairs h) ≡ fill_of_named (snaps.snap_of others h)
fill_named pairs others alike h = through fill_of_named pairs others fill_erased alike h
