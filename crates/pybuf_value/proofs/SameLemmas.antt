-- Two values are equal by Rust's `==` exactly if they are the same.
use Rattle.std.proofs.Common.{◌≡◌, ℕ, Bool, true, false, List, refl, ap, sym, ◌∙◌, subst}
use Rattle.std.specs.Bool.{Decides}
use Rattle.std.specs.Cmp.Lexicographic.{pointwise}
use Rattle.std.proofs.lemmas.Bool.{false≢true}
use Rattle.std.proofs.lemmas.Bool.Decides.{Decides-eqb}
use Rattle.std.proofs.lemmas.Slice.Eq.{bytes_eq-Decides, slice_eq-Decides}
use Rattle.pybuf_value.specs.declared.values.Scalar.{Scalar}
use Rattle.pybuf_value.specs.declared.values.Scalar.TheVariants as scalar
use Rattle.pybuf_value.specs.declared.values.PySlice.{PySlice}
use Rattle.pybuf_value.specs.declared.values.Value.{Value}
use Rattle.pybuf_value.specs.declared.values.Value.TheVariants as value
use Rattle.pybuf_value.specs.declared.values.Item.{Item}
use Rattle.pybuf_value.specs.declared.values.Item.TheVariants as item
use Rattle.pybuf_value.specs.declared.snaps.Snap.{Snap}
use Rattle.pybuf_value.specs.declared.snaps.SnapKind.{SnapKind}
use Rattle.pybuf_value.specs.declared.snaps.SnapKind.TheVariants as kind
use Rattle.pybuf_value.specs.contracts.values.ScalarPartialEq.TheImpl as scalar_eq
use Rattle.pybuf_value.specs.contracts.values.PySlicePartialEq.TheImpl as slice_eq
use Rattle.pybuf_value.specs.contracts.values.ValuePartialEq.TheImpl as value_eq
use Rattle.pybuf_value.specs.contracts.values.ItemPartialEq.TheImpl as item_eq
use Rattle.pybuf_value.specs.contracts.snaps.SnapKindPartialEq.TheImpl as kind_eq
use Rattle.pybuf_value.specs.contracts.snaps.SnapPartialEq.TheImpl as snap_eq
use Rattle.std.specs.contracts.prelude.BoolPartialEq.TheImpl as bool_eq
use Rattle.pybuf_lemmas.proofs.Booleans.{decided_alike, both_decided}
use Rattle.pybuf_value.specs.Equality.{identical}
use Rattle.pybuf_value.specs.Laws.{EqualExactly}
use Rattle.pybuf_value.proofs.EqualityLemmas.{decides_same}

-- ---- truth values

transferred : {b c : Bool} {P : Type 0} → b ≡ c → Decides c P → Decides b P
transferred e d = (λ h. d.0 (sym e ∙ h), λ p. e ∙ d.1 p)

-- ---- values without parts

agrees : (s t : Scalar) → scalar_eq.eq-value.it s t ≡ identical s t
agrees scalar.None scalar.None = refl
agrees (scalar.Bool true) (scalar.Bool true) = refl
agrees (scalar.Bool true) (scalar.Bool false) = refl
agrees (scalar.Bool false) (scalar.Bool true) = refl
agrees (scalar.Bool false) (scalar.Bool false) = refl
agrees (scalar.Int m) (scalar.Int n) = refl
agrees (scalar.Text s) (scalar.Text t) = refl
agrees (scalar.Bytes s) (scalar.Bytes t) = refl
agrees scalar.Ellipsis scalar.Ellipsis = refl
agrees (scalar.Handle m) (scalar.Handle n) = refl
agrees _ _ = refl

pub scalars_same : (s t : Scalar) → Decides (scalar_eq.eq-value.it s t) (s ≡ t)
scalars_same s t = transferred (agrees s t) (decides_same s t)

pub parts_same : (xs ys : List Scalar) → Decides (pointwise scalar_eq.eq-value.it xs ys) (xs ≡ ys)
parts_same xs ys = slice_eq-Decides scalars_same xs ys (pointwise scalar_eq.eq-value.it xs ys) refl

-- ---- slices

abbrev slice_with : Scalar → Scalar → Scalar → PySlice
slice_with start stop step = record { start = start; stop = stop; step = step }

by_bounds : (x y : PySlice) → (x.start ≡ y.start) × ((x.stop ≡ y.stop) × (x.step ≡ y.step)) → x ≡ y
by_bounds x y p =
    ap (λ a. slice_with a x.stop x.step) p.0 ∙ ap (λ a. slice_with y.start a x.step) p.1.0
    ∙ ap (λ a. slice_with y.start y.stop a) p.1.1

pub slices_same : (x y : PySlice) → Decides (slice_eq.eq-value.it x y) (x ≡ y)
slices_same x y = decided_alike (by_bounds x y) (λ p. (ap (λ s. s.start) p, (ap (λ s. s.stop) p, ap (λ s. s.step) p)))
    (both_decided _ _ (scalars_same x.start y.start) (both_decided _ _ (scalars_same x.stop y.stop) (scalars_same x.step y.step)))

slice_lists_same : (xs ys : List PySlice) → Decides (pointwise slice_eq.eq-value.it xs ys) (xs ≡ ys)
slice_lists_same xs ys = slice_eq-Decides slices_same xs ys (pointwise slice_eq.eq-value.it xs ys) refl

-- ---- values and items

value_itself : (v : Value) → value_eq.eq-value.it v v ≡ true
value_itself (value.One s) = (scalars_same s s).1 refl
value_itself (value.Slice s) = (slices_same s s).1 refl
value_itself (value.Tuple parts) = (parts_same parts parts).1 refl
value_itself (value.List parts) = (parts_same parts parts).1 refl
value_itself (value.Slices parts) = (slice_lists_same parts parts).1 refl

from_value : (v w : Value) → value_eq.eq-value.it v w ≡ true → v ≡ w
from_value (value.One s) (value.One t) h = ap value.One ((scalars_same s t).0 h)
from_value (value.Slice s) (value.Slice t) h = ap value.Slice ((slices_same s t).0 h)
from_value (value.Tuple s) (value.Tuple t) h = ap value.Tuple ((parts_same s t).0 h)
from_value (value.List s) (value.List t) h = ap value.List ((parts_same s t).0 h)
from_value (value.Slices s) (value.Slices t) h = ap value.Slices ((slice_lists_same s t).0 h)
from_value _ _ h = absurd (false≢true h)

pub values_same : (v w : Value) → Decides (value_eq.eq-value.it v w) (v ≡ w)
values_same v w = (from_value v w, λ p. subst (λ u. value_eq.eq-value.it v u ≡ true) p (value_itself v))

item_itself : (x : Item) → item_eq.eq-value.it x x ≡ true
item_itself (item.One s) = (scalars_same s s).1 refl
item_itself (item.Many parts) = (parts_same parts parts).1 refl

from_item : (x y : Item) → item_eq.eq-value.it x y ≡ true → x ≡ y
from_item (item.One s) (item.One t) h = ap item.One ((scalars_same s t).0 h)
from_item (item.Many s) (item.Many t) h = ap item.Many ((parts_same s t).0 h)
from_item _ _ h = absurd (false≢true h)

pub items_same : (x y : Item) → Decides (item_eq.eq-value.it x y) (x ≡ y)
items_same x y = (from_item x y, λ p. subst (λ u. item_eq.eq-value.it x u ≡ true) p (item_itself x))

-- ---- snaps

kind_itself : (k : SnapKind) → kind_eq.eq-value.it k k ≡ true
kind_itself kind.Bytes = refl
kind_itself kind.ByteArray = refl
kind_itself kind.Vector = refl
kind_itself kind.View = refl
kind_itself kind.Iterator = refl

from_kind : (k l : SnapKind) → kind_eq.eq-value.it k l ≡ true → k ≡ l
from_kind kind.Bytes kind.Bytes h = refl
from_kind kind.ByteArray kind.ByteArray h = refl
from_kind kind.Vector kind.Vector h = refl
from_kind kind.View kind.View h = refl
from_kind kind.Iterator kind.Iterator h = refl
from_kind _ _ h = absurd (false≢true h)

kinds_same : (k l : SnapKind) → Decides (kind_eq.eq-value.it k l) (k ≡ l)
kinds_same k l = (from_kind k l, λ p. subst (λ m. kind_eq.eq-value.it k m ≡ true) p (kind_itself k))

bools_same : (a b : Bool) → Decides (bool_eq.eq-value.it a b) (a ≡ b)
bools_same true true = (λ _. refl, λ _. refl)
bools_same false false = (λ _. refl, λ _. refl)
bools_same true false = (λ h. absurd (false≢true h), λ p. sym p)
bools_same false true = (λ h. absurd (false≢true h), λ p. p)

abbrev snap_with : SnapKind → List ℕ → ℕ → List ℕ → List ℕ → Bool → Bool → Snap
snap_with kind format itemsize shape content contiguous released =
    record { kind = kind; format = format; itemsize = itemsize; shape = shape; content = content; contiguous = contiguous; released = released }

by_fields : (x y : Snap) → (x.kind ≡ y.kind) × ((x.format ≡ y.format) × ((x.itemsize ≡ y.itemsize) × ((x.shape ≡ y.shape) × ((x.content ≡ y.content) × ((x.contiguous ≡ y.contiguous) × (x.released ≡ y.released)))))) → x ≡ y
by_fields x y p =
    ap (λ a. snap_with a x.format x.itemsize x.shape x.content x.contiguous x.released) p.0
    ∙ ap (λ a. snap_with y.kind a x.itemsize x.shape x.content x.contiguous x.released) p.1.0
    ∙ ap (λ a. snap_with y.kind y.format a x.shape x.content x.contiguous x.released) p.1.1.0
    ∙ ap (λ a. snap_with y.kind y.format y.itemsize a x.content x.contiguous x.released) p.1.1.1.0
    ∙ ap (λ a. snap_with y.kind y.format y.itemsize y.shape a x.contiguous x.released) p.1.1.1.1.0
    ∙ ap (λ a. snap_with y.kind y.format y.itemsize y.shape y.content a x.released) p.1.1.1.1.1.0
    ∙ ap (λ a. snap_with y.kind y.format y.itemsize y.shape y.content y.contiguous a) p.1.1.1.1.1.1

pub snaps_same : (x y : Snap) → Decides (snap_eq.eq-value.it x y) (x ≡ y)
snaps_same x y =
    decided_alike (by_fields x y)
    (λ p. (ap (λ s. s.kind) p, (ap (λ s. s.format) p, (ap (λ s. s.itemsize) p, (ap (λ s. s.shape) p, (ap (λ s. s.content) p, (ap (λ s. s.contiguous) p, ap (λ s. s.released) p)))))))
    (both_decided _ _ (kinds_same x.kind y.kind) (both_decided _ _ (bytes_eq-Decides x.format y.format)
    (both_decided _ _ (Decides-eqb x.itemsize y.itemsize) (both_decided _ _ (bytes_eq-Decides x.shape y.shape)
    (both_decided _ _ (bytes_eq-Decides x.content y.content)
    (both_decided _ _ (bools_same x.contiguous y.contiguous) (bools_same x.released y.released)))))))

pub same : EqualExactly
same = record { texts = bytes_eq-Decides; scalars = scalars_same; slices = slices_same; values = values_same; items = items_same; snaps = snaps_same }
