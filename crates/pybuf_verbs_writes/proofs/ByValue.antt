-- An assignment by a slice is by value.
use Rattle.std.proofs.Common.{◌≡◌, ℕ, zero, suc, ◌+◌, ◌-◌, ◌*◌, ◌/◌, ◌<◌, ◌≤◌, List, [], ◌∷◌, ◌++◌, length, take, drop, Bool, true, false, inl, inr, ap, ap₂, sym, ◌∙◌, refl, subst, arith}
use Rattle.std.specs.Prelude.{◌⊎◌, not, All, slice_index, Result, Ok, Err}
use Rattle.std.proofs.lemmas.Grind.{common_steps}
use Rattle.std.proofs.Math.Nat.{mul-div_cancel_left}
use Rattle.std.proofs.lemmas.List.Elements.{All-head, All-tail}
use Rattle.std.proofs.lemmas.List.{length-take-le, length-drop}
use Rattle.pybuf_lemmas.proofs.Numbers.{either_order_turned}
use Rattle.pybuf_lemmas.proofs.Booleans.{true_if_not_false}
use Rattle.pybuf_desc.specs.Facts.{whole_bytes as whole_item, length-content}
use Rattle.pybuf_verbs_writes.specs.Facts.{bytes_before_piece}
use Rattle.pybuf_value.specs.Facts.{done_holds as done}
use Rattle.pybuf_index.specs.Facts.{slice_parts_move}
use Rattle.pybuf_value.specs.declared.faults.Fault.{Fault}
use Rattle.pybuf_value.specs.declared.faults.Fault.TheVariants as fault
use Rattle.pybuf_value.specs.declared.values.Value.{Value}
use Rattle.pybuf_value.specs.declared.values.Value.TheVariants as value
use Rattle.pybuf_value.specs.declared.values.Scalar.TheVariants as scalar
use Rattle.pybuf_value.specs.declared.snaps.Snap.{Snap}
use Rattle.pybuf_value.specs.Refusing.{◌>>=◌, unless}
use Rattle.pybuf_value.specs.Snaps.{is_iterator}
use Rattle.pybuf_index.specs.Parts.{SliceParts}
use Rattle.pybuf_desc.specs.Layouts.{Layout, LiesInside, HasItemsOfItsShape}
use Rattle.pybuf_desc.specs.Slices.{slice_of}
use Rattle.pybuf_desc.specs.Laws.{SlicesStayInside, SlicesHaveTheirShape}
use Rattle.pybuf_memoryview.specs.Sized.{byte_count}
use Rattle.pybuf_memoryview.specs.Fits.{fits_snap}
use Rattle.pybuf_command.specs.declared.commands.LocalReply.{LocalReply}
use Rattle.pybuf_command.specs.declared.commands.LocalReply.TheVariants as reply
use Rattle.pybuf_state.specs.Exporter.{Exporter}
use Rattle.pybuf_state.specs.Loans.{Lent}
use Rattle.pybuf_state.specs.Laws.{LiveLayoutsAreSound}
use Rattle.pybuf_verbs_writes.specs.Laid.{bytes_with, laid}
use Rattle.pybuf_verbs_writes.specs.Assign.{no_iterator, lent_source, source_in, has_form_of, assign_target, assigned, assigned_of_value}
use Rattle.pybuf_desc.specs.Items.{bytes_at, bytes_of_items, content_of_layout}
use Rattle.pybuf_desc.specs.Apart.{AreApart}
use Rattle.pybuf_verbs_writes.specs.Laws.{AreOutside, IsAssigned, AssignmentsAreByValue, ContentsHoldTheItems}
use Rattle.pybuf_verbs_writes.proofs.Bytes.{dropped, between}
use Rattle.pybuf_verbs_writes.proofs.LaidLengths.{piece_short, rest_inside, length-laid}
use Rattle.pybuf_verbs_writes.proofs.Assigning.{of_form, bytes_of_form, content_fits}
use Rattle.pybuf_verbs_writes.proofs.AssignSafe.{IsAssignTarget, target_is, target_inside}

-- ---- lists

dropped_twice : (xs : List ℕ) (m n : ℕ) → drop n (drop m xs) ≡ drop (m + n) xs
dropped_twice xs m n = grind (arith, common_steps)

none_dropped : (xs : List ℕ) → drop 0 xs ≡ xs
none_dropped xs = grind (arith, common_steps)

taken_twice : (xs : List ℕ) (n t : ℕ) → n ≤ t → take n (take t xs) ≡ take n xs
taken_twice xs n t less = grind (arith, common_steps, less)

first_taken : (xs ys : List ℕ) (n : ℕ) → length xs ≡ n → take n (xs ++ ys) ≡ xs
first_taken xs ys n long = grind (arith, common_steps, long)

first_dropped : (xs ys : List ℕ) (n : ℕ) → length xs ≡ n → drop n (xs ++ ys) ≡ ys
first_dropped xs ys n long = grind (arith, common_steps, long)

empty_take : (xs : List ℕ) → take 0 xs ≡ []
empty_take xs = grind (arith, common_steps)

cancelled : (m a b : ℕ) → suc m * a ≡ suc m * b → a ≡ b
cancelled m a b same = let some : 0 < suc m = omega arith in sym (mul-div_cancel_left a some) ∙ ap (λ (n : ℕ). n / suc m) same ∙ mul-div_cancel_left b some

-- ---- bytes outside an item

within_first : (xs : List ℕ) (s n t : ℕ) → s + n ≤ t → take n (drop s (take t xs)) ≡ take n (drop s xs)
within_first [] s n t before = grind (arith, common_steps)
within_first (x ∷ xs) s n zero before = let none : n ≡ 0 = omega (arith, before) in rw none (grind (arith, common_steps))
within_first (x ∷ xs) zero n (suc t) before =
    ap (take n) (none_dropped (take (suc t) (x ∷ xs))) ∙ taken_twice (x ∷ xs) n (suc t) (let less : n ≤ suc t = omega (arith, before) in less) ∙ ap (take n) (sym (none_dropped (x ∷ xs)))
within_first (x ∷ xs) (suc s) n (suc t) before = within_first xs s n t (let less : s + n ≤ t = omega (arith, before) in less)

past_last : (xs ys : List ℕ) (s t : ℕ) → t ≤ s → drop t xs ≡ drop t ys → drop s xs ≡ drop s ys
past_last xs ys s t after same =
    let at : t + (s - t) ≡ s = omega (arith, after) in
    ap (λ (n : ℕ). drop n xs) (sym at) ∙ sym (dropped_twice xs t (s - t)) ∙ ap (drop (s - t)) same ∙ dropped_twice ys t (s - t) ∙ ap (λ (n : ℕ). drop n ys) at

beside : (bytes : List ℕ) (t size : ℕ) (content : List ℕ) (s n : ℕ) → t + size ≤ length bytes → (t + size ≤ s) ⊎ (s + n ≤ t) → bytes_at (bytes_with bytes t (take size content)) n s ≡ bytes_at bytes n s
beside bytes t size content s n inside (inl after) =
    let piece : List ℕ = take size content in
    let short = piece_short size content in
    let fits : t + length piece ≤ length bytes = omega (arith, inside, short) in
    let past : t + length piece ≤ s = omega (arith, after, short) in
    ap (take n) (past_last (bytes_with bytes t piece) bytes s (t + length piece) past (dropped bytes piece t fits))
beside bytes t size content s n inside (inr before) =
    let piece : List ℕ = take size content in
    let within : t ≤ length bytes = omega (arith, inside) in
    sym (within_first (bytes_with bytes t piece) s n t before) ∙ ap (λ (xs : List ℕ). take n (drop s xs)) (bytes_before_piece bytes piece t within) ∙ within_first bytes s n t before

pub stays : (bytes : List ℕ) (size : ℕ) (starts content : List ℕ) (s n : ℕ) → All (λ t. t + size ≤ length bytes) starts → AreOutside size starts s n → bytes_at (laid bytes size starts content) n s ≡ bytes_at bytes n s
stays bytes size [] content s n inside outside = refl
stays bytes size (t ∷ starts) content s n inside outside =
    stays (bytes_with bytes t (take size content)) size starts (drop size content) s n (rest_inside bytes t size starts content inside)
    (λ i below. outside (suc i) (let more : suc i < length (t ∷ starts) = omega (arith, below) in more))
    ∙ beside bytes t size content s n (All-head (λ t. t + size ≤ length bytes) t starts inside) (outside 0 (let some : 0 < length (t ∷ starts) = omega arith in some))

-- ---- items

next_item : (content : List ℕ) (size k : ℕ) → bytes_at (drop size content) size (k * size) ≡ bytes_at content size (suc k * size)
next_item content size k =
    let next : size + k * size ≡ suc k * size = grind arith in
    ap (take size) (dropped_twice content size (k * size)) ∙ ap (λ (n : ℕ). take size (drop n content)) next

pub item_is : (bytes : List ℕ) (size : ℕ) (starts content : List ℕ) (k : ℕ) → All (λ t. t + size ≤ length bytes) starts → length content ≡ size * length starts → AreApart size starts → k < length starts
    → bytes_at (laid bytes size starts content) size (slice_index starts k) ≡ bytes_at content size (k * size)
item_is bytes size [] content k inside long apart below = absurd (omega (arith, below))
item_is bytes size (t ∷ starts) content zero inside long apart below =
    let enough : size ≤ length content = grind (arith, long) in
    let wide : length (take size content) ≡ size = length-take-le size content enough in
    let here : t + size ≤ length bytes = All-head (λ t. t + size ≤ length bytes) t starts inside in
    let within : t ≤ length bytes = omega (arith, here) in
    let first : 0 * size ≡ 0 = omega arith in
    stays (bytes_with bytes t (take size content)) size starts (drop size content) t size (rest_inside bytes t size starts content inside)
    (λ i more. either_order_turned (t + size) (slice_index starts i) (slice_index starts i + size) t (apart 0 (suc i) (let less : 0 < suc i = omega arith in less) (let in_all : suc i < length (t ∷ starts) = omega (arith, more) in in_all)))
    ∙ ap (λ (n : ℕ). take n (drop t (bytes_with bytes t (take size content)))) (sym wide) ∙ between bytes (take size content) t within
    ∙ ap (take size) (sym (none_dropped content)) ∙ ap (λ (n : ℕ). take size (drop n content)) (sym first)
item_is bytes size (t ∷ starts) content (suc k) inside long apart below =
    item_is (bytes_with bytes t (take size content)) size starts (drop size content) k (rest_inside bytes t size starts content inside)
    (let rest : length (drop size content) ≡ size * length starts = grind (arith, long, length-drop size content) in rest)
    (λ i j less more. apart (suc i) (suc j) (let less' : suc i < suc j = omega (arith, less) in less') (let in_all : suc j < length (t ∷ starts) = omega (arith, more) in in_all))
    (let fewer : k < length starts = omega (arith, below) in fewer)
    ∙ next_item content size k

-- item k of a view's content
pub item_of_content : (bytes : List ℕ) (size : ℕ) (starts : List ℕ) (k : ℕ) → All (λ t. t + size ≤ length bytes) starts → k < length starts → bytes_at (bytes_of_items bytes size starts) size (k * size) ≡ bytes_at bytes size (slice_index starts k)
item_of_content bytes size [] k inside below = absurd (omega (arith, below))
item_of_content bytes size (t ∷ starts) zero inside below =
    let here : t + size ≤ length bytes = All-head (λ t. t + size ≤ length bytes) t starts inside in
    let wide : length (bytes_at bytes size t) ≡ size = whole_item bytes size t here in
    let first : 0 * size ≡ 0 = omega arith in
    ap (λ (n : ℕ). take size (drop n (bytes_of_items bytes size (t ∷ starts)))) first ∙ ap (take size) (none_dropped (bytes_of_items bytes size (t ∷ starts)))
    ∙ first_taken (bytes_at bytes size t) (bytes_of_items bytes size starts) size wide
item_of_content bytes size (t ∷ starts) (suc k) inside below =
    let here : t + size ≤ length bytes = All-head (λ t. t + size ≤ length bytes) t starts inside in
    let wide : length (bytes_at bytes size t) ≡ size = whole_item bytes size t here in
    sym (next_item (bytes_of_items bytes size (t ∷ starts)) size k)
    ∙ ap (λ (xs : List ℕ). bytes_at xs size (k * size)) (first_dropped (bytes_at bytes size t) (bytes_of_items bytes size starts) size wide)
    ∙ item_of_content bytes size starts k (All-tail (λ t. t + size ≤ length bytes) t starts inside) (let fewer : k < length starts = omega (arith, below) in fewer)

-- ---- the law

refused_not : {B : Type 0} (b : Bool) (f : Fault) (r : Result B Fault) (x : B) → (unless b f >>= λ _. r) ≡ Ok x → (b ≡ false) × (r ≡ Ok x)
refused_not true f r x is = absurd (cc)
refused_not false f r x is = (refl, is)

pub record WasAssigned (e : Exporter) (target : Layout) (source : Snap) (after : Exporter × LocalReply) : Type 0 where
  pub live : source.released ≡ false
  pub form : has_form_of target source.format source.itemsize source.shape ≡ true
  pub is : after ≡ (record e { bytes = laid e.bytes target.itemsize target.starts source.content }, reply.Ok)

abbrev okay : Exporter × LocalReply → Result (Exporter × LocalReply) Fault
okay after = Ok after

ok_same : (x y : Exporter × LocalReply) → okay x ≡ okay y → y ≡ x
ok_same x y is = cc

pub was_assigned : (e : Exporter) (target : Layout) (source : Snap) (after : Exporter × LocalReply) → assigned e target source ≡ Ok after → WasAssigned e target source after
was_assigned e target source after is =
    let first = refused_not source.released fault.Value (unless (not (has_form_of target source.format source.itemsize source.shape)) fault.Value >>= λ _. okay (record e { bytes = laid e.bytes target.itemsize target.starts source.content }, reply.Ok)) after is in
    let second = refused_not (not (has_form_of target source.format source.itemsize source.shape)) fault.Value (okay (record e { bytes = laid e.bytes target.itemsize target.starts source.content }, reply.Ok)) after first.1 in
    record { live = first.0; form = true_if_not_false (has_form_of target source.format source.itemsize source.shape) second.0; is = ok_same _ after second.1 }

-- Items without bytes are all the same.
no_bytes : (xs ys : List ℕ) (size s t : ℕ) → size ≡ 0 → bytes_at xs size s ≡ bytes_at ys size t
no_bytes xs ys size s t none = ap (λ (n : ℕ). bytes_at xs n s) none ∙ empty_take (drop s xs) ∙ sym (empty_take (drop t ys)) ∙ ap (λ (n : ℕ). bytes_at ys n t) (sym none)

by_size : (bytes : List ℕ) (layout : Layout) (k size count : ℕ) → LiesInside (length bytes) layout → layout.itemsize ≡ size → size * count ≡ layout.itemsize * length layout.starts → k < count
    → bytes_at (content_of_layout bytes layout) layout.itemsize (k * layout.itemsize) ≡ bytes_at bytes layout.itemsize (slice_index layout.starts k)
by_size bytes layout k zero count lies same total below = no_bytes (content_of_layout bytes layout) bytes layout.itemsize (k * layout.itemsize) (slice_index layout.starts k) same
by_size bytes layout k (suc size) count lies same total below =
    let equal : suc size * count ≡ suc size * length layout.starts = total ∙ ap (λ (n : ℕ). n * length layout.starts) same in
    let as_many : count ≡ length layout.starts = cancelled size count (length layout.starts) equal in
    item_of_content bytes layout.itemsize layout.starts k lies (let there : k < length layout.starts = omega (arith, below, as_many) in there)

-- The bytes of the source are those of its items.
pub assigned_is : (e : Exporter) (target : Layout) (source : Snap) → LiesInside (length e.bytes) target → length source.content ≡ target.itemsize * length target.starts → source.itemsize ≡ target.itemsize
    → IsAssigned e (record e { bytes = laid e.bytes target.itemsize target.starts source.content }) target source
assigned_is e target source inside long size = record {
  views = refl;
  as_long = length-laid e.bytes target.itemsize target.starts source.content inside;
  same_size = size;
  as_many = long;
  others = λ place count outside. stays e.bytes target.itemsize target.starts source.content place count inside outside;
  items = λ apart k below. item_is e.bytes target.itemsize target.starts source.content k inside long apart below;
  items_of_view = λ bytes layout of lies apart k below.
      let same : layout.itemsize ≡ target.itemsize = sym (ap (λ (s : Snap). s.itemsize) of) ∙ size in
      let content : source.content ≡ content_of_layout bytes layout = ap (λ (s : Snap). s.content) of in
      let count : target.itemsize * length target.starts ≡ layout.itemsize * length layout.starts = sym long ∙ ap length content ∙ length-content bytes layout.itemsize layout.starts lies in
      item_is e.bytes target.itemsize target.starts source.content k inside long apart below
      ∙ ap₂ (λ (xs : List ℕ) (n : ℕ). bytes_at xs n (k * n)) content (sym same)
      ∙ by_size bytes layout k target.itemsize (length target.starts) lies same count below;
}

-- ---- the source

first_done : {A B : Type 0} (r : Result A Fault) (f : A → Result B Fault) (y : B) → (r >>= f) ≡ Ok y → (x : A) × (r ≡ Ok x) × (f x ≡ Ok y)
first_done (Ok x) f y is = (x, refl, is)
first_done (Err g) f y is = absurd (cc)

checked : (b : Bool) (snap source : Snap) → is_iterator snap.kind ≡ b → no_iterator snap ≡ Ok source → (b ≡ false) × (snap ≡ source)
checked true snap source kind is = absurd (cc)
checked false snap source kind is = let passes : (unless false fault.Kind >>= λ _. Ok snap) ≡ Ok source = subst (λ (b : Bool). (unless b fault.Kind >>= λ _. Ok snap) ≡ Ok source) kind is in (refl, cc)

lent_fits : (lents : List Lent) (source : Snap) → All (λ (l : Lent). fits_snap l.snap ≡ true) lents → lent_source lents ≡ Ok source → source.released ≡ false → length source.content ≡ byte_count source.itemsize source.shape
lent_fits [] source fit is live = absurd (cc)
lent_fits (l ∷ lents) source fit is live =
    let named = checked (is_iterator l.snap.kind) l.snap source refl is in
    subst (λ (s : Snap). s.released ≡ false → length s.content ≡ byte_count s.itemsize s.shape) named.1
    (λ alive. content_fits l.snap (All-head (λ (l : Lent). fits_snap l.snap ≡ true) l lents fit) named.0 alive) live

whole_bytes : (bytes : List ℕ) (source : Snap) (is_it : source.content ≡ bytes) → source.itemsize ≡ 1 → source.shape ≡ length bytes ∷ [] → length source.content ≡ byte_count source.itemsize source.shape
whole_bytes bytes source content size shape =
    let one : length bytes ≡ byte_count 1 (length bytes ∷ []) = omega arith in
    ap length content ∙ one ∙ sym (ap₂ (λ (n : ℕ) (s : List ℕ). byte_count n s) size shape)

source_fits : (v : Value) (lents : List Lent) (source : Snap) → All (λ (l : Lent). fits_snap l.snap ≡ true) lents → source_in v lents ≡ Ok source → source.released ≡ false → length source.content ≡ byte_count source.itemsize source.shape
source_fits (value.One (scalar.Bytes bytes)) lents source fit is live = whole_bytes bytes source (let content : source.content ≡ bytes = cc in content) (let size : source.itemsize ≡ 1 = cc in size) (let shape : source.shape ≡ length bytes ∷ [] = cc in shape)
source_fits (value.One (scalar.Handle h)) lents source fit is live = lent_fits lents source fit is live
source_fits (value.One scalar.None) lents source fit is live = absurd (cc)
source_fits (value.One (scalar.Bool b)) lents source fit is live = absurd (cc)
source_fits (value.One (scalar.Int n)) lents source fit is live = absurd (cc)
source_fits (value.One (scalar.Text t)) lents source fit is live = absurd (cc)
source_fits (value.One scalar.Ellipsis) lents source fit is live = absurd (cc)
source_fits (value.Slice s) lents source fit is live = absurd (cc)
source_fits (value.Tuple parts) lents source fit is live = absurd (cc)
source_fits (value.List parts) lents source fit is live = absurd (cc)
source_fits (value.Slices parts) lents source fit is live = absurd (cc)

-- ---- the whole law

only_entry : (shape : List ℕ) → length shape ≡ 1 → shape ≡ slice_index shape 0 ∷ []
only_entry [] one = absurd (omega (arith, one))
only_entry (n ∷ []) one = refl
only_entry (n ∷ (m ∷ shape)) one = absurd (omega (arith, one))

one_after_slice : (layout : Layout) (parts : SliceParts) → length layout.shape ≡ 1 → length (slice_of layout parts).shape ≡ 1
one_after_slice layout parts one =
    let rest : length (drop 1 layout.shape) ≡ 0 = omega (arith, one, length-drop 1 layout.shape) in
    omega (arith, rest)

pub by_value : LiveLayoutsAreSound → SlicesStayInside → SlicesHaveTheirShape → AssignmentsAreByValue
by_value live inside shapes e new k slice v lents r sound fit is =
    let first = first_done (assign_target e k slice v) (λ target. assigned_of_value e target v lents) (new, r) is in
    let target = first.0 in
    let at = done (IsAssignTarget e k slice) (assign_target e k slice v) target (target_is e k slice v) first.1 in
    let second = first_done (source_in v lents) (assigned e target) (new, r) first.2 in
    let source = second.0 in
    let was = was_assigned e target source (new, r) second.2 in
    let layout = at.layout in
    let here = live e k layout sound at.live in
    let one : length target.shape ≡ 1 = ap (λ (l : Layout). length l.shape) at.is ∙ one_after_slice layout at.parts at.one_dimension in
    let counted : HasItemsOfItsShape target = subst HasItemsOfItsShape (sym at.is) (shapes layout (slice_index layout.shape 0) [] at.parts (only_entry layout.shape at.one_dimension) here.formed.counted (slice_parts_move slice at.parts at.given)) in
    let form = of_form target source.format source.itemsize source.shape one was.form in
    let long : length source.content ≡ target.itemsize * length target.starts =
    source_fits v lents source fit second.1 was.live ∙ bytes_of_form target source.itemsize source.shape form ∙ ap (λ (n : ℕ). target.itemsize * n) (sym counted) in
    let made = assigned_is e target source (target_inside live inside e k slice target at sound) long form.same_size in
    record {
      layout = layout;
      live = at.live;
      parts = at.parts;
      given = at.given;
      moves = slice_parts_move slice at.parts at.given;
      source = source;
      named = second.1;
      unreleased = was.live;
      done = subst (λ (t : Layout). IsAssigned e new t source) at.is (subst (λ (x : Exporter). IsAssigned e x target source) (sym (ap (λ (after : Exporter × LocalReply). after.0) was.is)) made);
    }

pub contents_hold : ContentsHoldTheItems
contents_hold bytes layout k inside below = item_of_content bytes layout.itemsize layout.starts k inside below
