-- Each effect keeps a sound exporter.
use Rattle.std.proofs.Common.{◌≡◌, ◌≢◌, ℕ, zero, suc, ◌<◌, ◌≤◌, ◌+◌, ◌-◌, ◌*◌, mul_comm, ap, ◌∙◌, List, [], ◌∷◌, ◌++◌, length, Bool, true, false, true≢false, ap₂, sym, refl, subst, arith}
use Rattle.pybuf_value.specs.declared.faults.Fault.{Fault}
use Rattle.pybuf_value.specs.declared.faults.Fault.TheVariants as fault
use Rattle.pybuf_value.specs.Refusing.{◌>>=◌, unless, IfDone, done_bind}
use Rattle.pybuf_desc.specs.Layouts.{Layout, product, bytes_layout_from}
use Rattle.pybuf_command.specs.declared.commands.LocalReply.{LocalReply}
use Rattle.pybuf_command.specs.declared.commands.LocalReply.TheVariants as reply
use Rattle.pybuf_state.specs.Exporter.{Exporter, View, whole_layout, view_at, live_layout, with_view, released_at, released_in}
use Rattle.pybuf_state.specs.Sound.{IsSoundExporter}
use Rattle.pybuf_state.specs.Spaced.{IsSpaced}
use Rattle.pybuf_command.specs.declared.kinds.Subject.TheVariants as subject
use Rattle.pybuf_command.specs.Kinds.{holds_readonly}
use Rattle.pybuf_state.specs.Keeps.{IsCarriedOut, IsSafe, IsCopied}
use Rattle.std.specs.Prelude.{◌==◌, ◌%◌, ◌&&◌, ◌||◌, not, nat_lt, nat_le, Option, Some, None, ok_or, if◌then◌else◌, ℤ, pos, negsuc, Result, Ok, Err}
use Rattle.std.proofs.lemmas.List.{length-append}
use Rattle.std.proofs.lemmas.Bool.{eq-eqb, eqb-true}
use Rattle.pybuf_lemmas.proofs.Booleans.{true_if_not_false, second_of_neither}
use Rattle.pybuf_state.specs.Facts.{safe_bind}
use Rattle.pybuf_value.specs.Facts.{passed_unless, done_holds}
use Rattle.pybuf_index.specs.Facts.{slice_moves}
use Rattle.pybuf_value.specs.declared.values.Scalar.{Scalar}
use Rattle.pybuf_value.specs.declared.values.Value.{Value}
use Rattle.pybuf_value.specs.declared.values.Value.TheVariants as value
use Rattle.pybuf_value.specs.Numbers.{number_of}
use Rattle.pybuf_index.specs.Parts.{SliceParts, saturated_parts_of}
use Rattle.pybuf_struct.specs.declared.table.Endianness.TheVariants as order
use Rattle.pybuf_struct.specs.declared.table.FormatType.{FormatType}
use Rattle.pybuf_struct.specs.declared.table.FormatType.TheVariants as code
use Rattle.pybuf_struct.specs.Table.{size_of}
use Rattle.pybuf_struct.specs.Formats.{Format, format_of}
use Rattle.pybuf_struct.specs.Singles.{size_by}
use Rattle.pybuf_struct.specs.Natives.{native_single_code, is_byte_code, is_byte_format}
use Rattle.pybuf_struct.specs.Laws.{NativeCodesHaveTheirSize}
use Rattle.pybuf_desc.specs.Contiguous.{is_contiguous_layout}
use Rattle.pybuf_desc.specs.Items.{content_of_layout}
use Rattle.pybuf_desc.specs.ColumnOrder.{column_content, is_f_contiguous_layout}
use Rattle.pybuf_desc.specs.Slices.{slice_of}
use Rattle.pybuf_desc.specs.Casts.{cast_of}
use Rattle.pybuf_desc.specs.Apart.{HasItemsApart}
use Rattle.pybuf_desc.specs.Laws.{SlicesStayInside, SlicesHaveTheirShape, SlicesLieApart, CastsStayInside, CastsHaveTheirShape, CastsLieApart, ShapedCastsStayInside, ShapedCastsHaveTheirShape, ColumnCastsStayInside, ColumnCastsHaveTheirShape, ColumnCastsLieApart, ColumnCastsAreFContiguous, ColumnCastsGiveTheBytesBack, WholeLayoutsLieApart}
use Rattle.pybuf_memoryview.specs.Sized.{is_size_of}
use Rattle.pybuf_memoryview.specs.Items.{has_dimensions}
use Rattle.pybuf_memoryview.specs.Orders.{nbytes_of, has_zero_entry}
use Rattle.pybuf_state.specs.Laws.{IsSoundLayout, WholeLayoutsAreSound, PartLayoutsAreSound, LiveLayoutsAreSound, LiveLayoutsLieApart, ReadingKeeps, NewViewsKeep, ReleasingKeeps}
use Rattle.pybuf_verbs_views.specs.Range.{part_between}
use Rattle.pybuf_value.specs.Texts.{text_in}
use Rattle.pybuf_verbs_views.specs.Cast.{code_for, size_for, entries_of, flat_layout_of, cast_in, shaped_layout_of, layout_in_shape, cast_of_view, column_layout_in, column_cast_of_view}
use Rattle.pybuf_verbs_views.specs.Laws.{ViewIsSafe, RangeIsSafe, SliceIsSafe, CastIsSafe, ColumnCastIsSafe, HoldsTheBytes, ColumnCastsHoldTheBytes, CastsAreOfBytes, ReleaseIsSafe, EnterIsSafe, ContiguousIsCopied, ToReadonlyIsSafe}

last_is_there : (views : List View) (v : View) → nat_lt (length views) (length (views ++ v ∷ [])) ≡ true
last_is_there views v = let more : length (views ++ v ∷ []) ≡ length views + 1 = length-append views (v ∷ []) in grind (arith, more)

-- A new view keeps a sound exporter if its layout is sound whenever the exporter is, and its items lie apart
-- whenever those of the other views do.
new_view : NewViewsKeep → (e : Exporter) (layout : Layout) → (IsSoundExporter e → IsSoundLayout e layout) → (IsSpaced e → HasItemsApart layout) → IsCarriedOut e (with_view e layout)
new_view adding e layout made apart = record {
  keeps = λ sound. adding e layout sound (made sound) apart;
  answers = last_is_there e.views (record { made_at = length e.bytes; layout = layout; released = false });
}

pub view_safe : NewViewsKeep → WholeLayoutsAreSound → WholeLayoutsLieApart → LiveLayoutsAreSound → LiveLayoutsLieApart → ViewIsSafe
view_safe adding whole bytes_apart live apart = (
  (λ e. new_view adding e (whole_layout e) (λ sound. whole e) (λ spaced. bytes_apart.0 (length e.bytes) (holds_readonly e.kind))),
  (λ e k. safe_bind e (live_layout e k) _ (λ layout found. new_view adding e layout (λ sound. live e k layout sound found) (λ spaced. apart e k layout spaced found))),
)

-- ---- slices

shape_of : (shape : List ℕ) → (length shape == 0) ≡ false → (n : ℕ) × (rest : List ℕ) × (shape ≡ n ∷ rest)
shape_of [] some = absurd (true≢false some)
shape_of (n ∷ rest) some = (n, rest, refl)

sliced : SlicesStayInside → SlicesHaveTheirShape → (e : Exporter) (layout : Layout) (parts : SliceParts) (u : Bool) → has_dimensions layout ≡ Ok u → parts.step ≢ pos 0
    → IsSoundLayout e layout → IsSoundLayout e (slice_of layout parts)
sliced inside shapes e layout parts u some moves sound =
    let shape = shape_of layout.shape (passed_unless (length layout.shape == 0) fault.Kind u some) in
    record {
      formed = record { sized = sound.formed.sized; counted = shapes layout shape.0 shape.1 parts shape.2 sound.formed.counted moves };
      inside = inside layout parts (length e.bytes) sound.inside;
      readonly = sound.readonly;
    }

-- the laws that the proof for slices uses
pub record SliceLaws : Type 0 where
  pub adding : NewViewsKeep
  pub live : LiveLayoutsAreSound
  pub inside : SlicesStayInside
  pub shapes : SlicesHaveTheirShape
  pub live_apart : LiveLayoutsLieApart
  pub apart : SlicesLieApart

pub slice_safe : SliceLaws → SliceIsSafe
slice_safe laws e k slice =
    safe_bind e (live_layout e k) _ (λ layout found.
    safe_bind e (has_dimensions layout) _ (λ u some.
    safe_bind e (saturated_parts_of slice) _ (λ parts given.
    let moves : parts.step ≢ pos 0 = done_holds (λ (p : SliceParts). p.step ≢ pos 0) (saturated_parts_of slice) parts (slice_moves slice) given in
    new_view laws.adding e (slice_of layout parts) (λ sound. sliced laws.inside laws.shapes e layout parts u some moves (laws.live e k layout sound found))
    (λ spaced. laws.apart layout parts moves (laws.live_apart e k layout spaced found)))))

-- ---- casts

size_told : (r : Result Format Fault) (size : ℕ) → (r >>= λ f. Ok f.size) ≡ Ok size → 0 < size → is_size_of size r ≡ true
size_told (Ok f) size is some =
    let same : f.size ≡ size = cc in
    rw same (ap₂ (λ (a b : Bool). a && b) (let less : nat_lt 0 size ≡ true = grind (arith, some) in less) (eq-eqb size size refl))
size_told (Err g) size is some = absurd (cc)

cast : CastsStayInside → CastsHaveTheirShape → (e : Exporter) (layout : Layout) (text : List ℕ) (size : ℕ) → is_contiguous_layout layout ≡ true → size_by text ≡ Ok size → 0 < size
    → IsSoundLayout e layout → IsSoundLayout e (cast_of layout text size)
cast inside shapes e layout text size flat told some sound = record {
  formed = record { sized = size_told (format_of text) size told some; counted = shapes layout text size };
  inside = inside layout text size (length e.bytes) flat sound.inside;
  readonly = sound.readonly;
}

-- the laws that the proof for casts uses
pub record CastLaws : Type 0 where
  pub adding : NewViewsKeep
  pub live : LiveLayoutsAreSound
  pub inside : CastsStayInside
  pub shapes : CastsHaveTheirShape
  pub shaped_inside : ShapedCastsStayInside
  pub shaped_shapes : ShapedCastsHaveTheirShape
  pub apart : CastsLieApart
  pub column_inside : ColumnCastsStayInside
  pub column_shapes : ColumnCastsHaveTheirShape
  pub column_apart : ColumnCastsLieApart
  pub sizes : NativeCodesHaveTheirSize

size_some : (c : FormatType) → 0 < size_of order.Native c
size_some code.Short = omega arith
size_some _ = omega arith

code_case : (d c : FormatType) (mixed : Bool) → (unless mixed fault.Kind >>= λ _. Ok d) ≡ Ok c → d ≡ c
code_case d c true is = absurd (cc)
code_case d c false is = cc

code_of_text : (layout : Layout) (r : Option FormatType) (c : FormatType)
    → (ok_or r fault.Value >>= λ d. unless (not (is_byte_code d) && not (is_byte_format layout.format)) fault.Kind >>= λ _. Ok d) ≡ Ok c → r ≡ Some c
code_of_text layout None c is = absurd (cc)
code_of_text layout (Some d) c is = ap (λ (x : FormatType). Some x) (code_case d c (not (is_byte_code d) && not (is_byte_format layout.format)) is)

size_case : (n size : ℕ) (part : Bool) → (unless part fault.Kind >>= λ _. Ok n) ≡ Ok size → n ≡ size
size_case n size true is = absurd (cc)
size_case n size false is = cc

of_code : (layout : Layout) (text : List ℕ) (size : ℕ) (r : Result FormatType Fault) → r ≡ code_for layout text
    → (r >>= λ c. unless (not (nbytes_of layout % size_of order.Native c == 0)) fault.Kind >>= λ _. Ok (size_of order.Native c)) ≡ Ok size
    → (c : FormatType) × (code_for layout text ≡ Ok c) × (size_of order.Native c ≡ size)
of_code layout text size (Err f) told is = absurd (cc)
of_code layout text size (Ok c) told is = (c, sym told, size_case (size_of order.Native c) size (not (nbytes_of layout % size_of order.Native c == 0)) is)

-- The format is one of `struct`, and its items have that size, which isn't 0.
size_bound : NativeCodesHaveTheirSize → (layout : Layout) (text : List ℕ) (size : ℕ) → size_for layout text ≡ Ok size → (size_by text ≡ Ok size) × (0 < size)
size_bound sizes layout text size is =
    let found = of_code layout text size (code_for layout text) refl is in
    let told = sizes text found.0 (code_of_text layout (native_single_code text) found.0 found.1) in
    (told ∙ ap (λ (m : ℕ). Ok m) found.2, subst (λ (m : ℕ). 0 < m) found.2 (size_some found.0))

flat_sound : CastLaws → (e : Exporter) (layout : Layout) (text : List ℕ) → is_contiguous_layout layout ≡ true → IfDone (λ (l : Layout). IsSoundLayout e layout → IsSoundLayout e l) (flat_layout_of layout text)
flat_sound laws e layout text flat =
    let P : Layout → Type 0 = λ l. IsSoundLayout e layout → IsSoundLayout e l in
    done_bind P (unless (not (length layout.shape == 1) && has_zero_entry layout.shape) fault.Kind) _ (λ _ _.
    done_bind P (size_for layout text) _ (λ size told.
    let sized = size_bound laws.sizes layout text size told in
    (λ sound. cast laws.inside laws.shapes e layout text size flat sized.0 sized.1 sound)))

-- The cast has as many bytes as the items of the view.
bytes_told : (n m : ℕ) (b : Bool) → unless (not (n == m)) fault.Kind ≡ Ok b → n ≡ m
bytes_told n m b is = eqb-true n m (true_if_not_false (n == m) (passed_unless (not (n == m)) fault.Kind b is))

-- No dimension lacks an entry.
some_items : (shape : List ℕ) → has_zero_entry shape ≡ false → 0 < product shape
some_items [] is = omega arith
some_items (zero ∷ shape) is = absurd (true≢false is)
some_items (suc n ∷ shape) is = let rest = some_items shape (second_of_neither (suc n == 0) (has_zero_entry shape) is) in grind (arith, rest)

in_sound : CastLaws → (e : Exporter) (columns : Bool) (layout : Layout) (text : List ℕ) (size : ℕ) (entries : List ℕ) → is_contiguous_layout layout ≡ true → (size_by text ≡ Ok size) × (0 < size)
    → 0 < length layout.starts → length layout.starts * layout.itemsize ≡ product entries * size → IsSoundLayout e layout → IsSoundLayout e (cast_in columns layout text size entries)
in_sound laws e true layout text size entries flat sized some bytes sound = record {
  formed = record { sized = size_told (format_of text) size sized.0 sized.1; counted = laws.column_shapes layout text size entries some };
  inside = laws.column_inside layout text size entries (length e.bytes) flat sized.1 bytes sound.inside;
  readonly = sound.readonly;
}
in_sound laws e false layout text size entries flat sized some bytes sound = record {
  formed = record { sized = size_told (format_of text) size sized.0 sized.1; counted = laws.shaped_shapes layout text size entries sized.1 bytes };
  inside = laws.shaped_inside layout text size entries (length e.bytes) flat sized.1 bytes sound.inside;
  readonly = sound.readonly;
}

shaped_sound : CastLaws → (e : Exporter) (columns : Bool) (layout : Layout) (text : List ℕ) (parts : List Scalar) → is_contiguous_layout layout ≡ true
    → IfDone (λ (l : Layout). IsSoundLayout e layout → IsSoundLayout e l) (shaped_layout_of columns layout text parts)
shaped_sound laws e columns layout text parts flat =
    let P : Layout → Type 0 = λ l. IsSoundLayout e layout → IsSoundLayout e l in
    done_bind P (unless (has_zero_entry layout.shape) fault.Kind) _ (λ none no_zero.
    done_bind P (unless (not (length layout.shape == 1) && not (length parts == 1)) fault.Kind) _ (λ _ _.
    done_bind P (unless (nat_lt 64 (length parts)) fault.Value) _ (λ _ _.
    done_bind P (size_for layout text) _ (λ size told.
    done_bind P (entries_of size parts) _ (λ entries _.
    done_bind P (unless (not (size * product entries == nbytes_of layout)) fault.Kind) _ (λ b whole.
    let sized = size_bound laws.sizes layout text size told in
    let counted : size * product entries ≡ nbytes_of layout = bytes_told (size * product entries) (nbytes_of layout) b whole in
    (λ sound.
    let bytes : length layout.starts * layout.itemsize ≡ product entries * size =
    ap (λ (n : ℕ). n * layout.itemsize) sound.formed.counted ∙ mul_comm (product layout.shape) layout.itemsize ∙ sym counted ∙ mul_comm size (product entries) in
    let some : 0 < length layout.starts = subst (λ (n : ℕ). 0 < n) (sym sound.formed.counted) (some_items layout.shape (passed_unless (has_zero_entry layout.shape) fault.Kind none no_zero)) in
    in_sound laws e columns layout text size entries flat sized some bytes sound)))))))

in_shape_sound : CastLaws → (e : Exporter) (layout : Layout) (text : List ℕ) (shape : Option Value) → is_contiguous_layout layout ≡ true
    → IfDone (λ (l : Layout). IsSoundLayout e layout → IsSoundLayout e l) (layout_in_shape layout text shape)
in_shape_sound laws e layout text None flat = flat_sound laws e layout text flat
in_shape_sound laws e layout text (Some (value.Tuple parts)) flat = shaped_sound laws e false layout text parts flat
in_shape_sound laws e layout text (Some (value.List parts)) flat = shaped_sound laws e false layout text parts flat
in_shape_sound laws e layout text (Some (value.One s)) flat = tt
in_shape_sound laws e layout text (Some (value.Slice s)) flat = tt
in_shape_sound laws e layout text (Some (value.Slices s)) flat = tt

-- The items of the cast lie apart.
flat_apart : CastsLieApart → (layout : Layout) (text : List ℕ) → IfDone HasItemsApart (flat_layout_of layout text)
flat_apart apart layout text =
    done_bind HasItemsApart (unless (not (length layout.shape == 1) && has_zero_entry layout.shape) fault.Kind) _ (λ _ _.
    done_bind HasItemsApart (size_for layout text) _ (λ size _. apart.0 layout text size))

in_apart : CastsLieApart → ColumnCastsLieApart → (columns : Bool) (layout : Layout) (text : List ℕ) (size : ℕ) (entries : List ℕ) → HasItemsApart (cast_in columns layout text size entries)
in_apart apart column_apart true layout text size entries = column_apart layout text size entries
in_apart apart column_apart false layout text size entries = apart.1 layout text size entries

shaped_apart : CastsLieApart → ColumnCastsLieApart → (columns : Bool) (layout : Layout) (text : List ℕ) (parts : List Scalar) → IfDone HasItemsApart (shaped_layout_of columns layout text parts)
shaped_apart apart column_apart columns layout text parts =
    done_bind HasItemsApart (unless (has_zero_entry layout.shape) fault.Kind) _ (λ _ _.
    done_bind HasItemsApart (unless (not (length layout.shape == 1) && not (length parts == 1)) fault.Kind) _ (λ _ _.
    done_bind HasItemsApart (unless (nat_lt 64 (length parts)) fault.Value) _ (λ _ _.
    done_bind HasItemsApart (size_for layout text) _ (λ size _.
    done_bind HasItemsApart (entries_of size parts) _ (λ entries _.
    done_bind HasItemsApart (unless (not (size * product entries == nbytes_of layout)) fault.Kind) _ (λ _ _. in_apart apart column_apart columns layout text size entries))))))

in_shape_apart : CastsLieApart → ColumnCastsLieApart → (layout : Layout) (text : List ℕ) (shape : Option Value) → IfDone HasItemsApart (layout_in_shape layout text shape)
in_shape_apart apart column_apart layout text None = flat_apart apart layout text
in_shape_apart apart column_apart layout text (Some (value.Tuple parts)) = shaped_apart apart column_apart false layout text parts
in_shape_apart apart column_apart layout text (Some (value.List parts)) = shaped_apart apart column_apart false layout text parts
in_shape_apart apart column_apart layout text (Some (value.One s)) = tt
in_shape_apart apart column_apart layout text (Some (value.Slice s)) = tt
in_shape_apart apart column_apart layout text (Some (value.Slices s)) = tt

pub cast_safe : CastLaws → CastIsSafe
cast_safe laws e k format shape =
    safe_bind e (live_layout e k) _ (λ layout found.
    safe_bind e (unless (not (is_contiguous_layout layout)) fault.Kind) _ (λ b is_flat.
    safe_bind e (text_in format) _ (λ text _.
    safe_bind e (layout_in_shape layout text shape) _ (λ made given.
    new_view laws.adding e made (λ sound.
    let flat = true_if_not_false (is_contiguous_layout layout) (passed_unless (not (is_contiguous_layout layout)) fault.Kind b is_flat) in
    let P : Layout → Type 0 = λ l. IsSoundLayout e layout → IsSoundLayout e l in
    done_holds P (layout_in_shape layout text shape) made (in_shape_sound laws e layout text shape flat) given (laws.live e k layout sound found))
    (λ spaced. done_holds HasItemsApart (layout_in_shape layout text shape) made (in_shape_apart laws.apart laws.column_apart layout text shape) given)))))

columns_sound : CastLaws → (e : Exporter) (layout : Layout) (text : List ℕ) (shape : Value) → is_contiguous_layout layout ≡ true
    → IfDone (λ (l : Layout). IsSoundLayout e layout → IsSoundLayout e l) (column_layout_in layout text shape)
columns_sound laws e layout text (value.Tuple parts) flat = shaped_sound laws e true layout text parts flat
columns_sound laws e layout text (value.List parts) flat = shaped_sound laws e true layout text parts flat
columns_sound laws e layout text (value.One s) flat = tt
columns_sound laws e layout text (value.Slice s) flat = tt
columns_sound laws e layout text (value.Slices s) flat = tt

columns_apart : CastsLieApart → ColumnCastsLieApart → (layout : Layout) (text : List ℕ) (shape : Value) → IfDone HasItemsApart (column_layout_in layout text shape)
columns_apart apart column_apart layout text (value.Tuple parts) = shaped_apart apart column_apart true layout text parts
columns_apart apart column_apart layout text (value.List parts) = shaped_apart apart column_apart true layout text parts
columns_apart apart column_apart layout text (value.One s) = tt
columns_apart apart column_apart layout text (value.Slice s) = tt
columns_apart apart column_apart layout text (value.Slices s) = tt

pub column_cast_safe : CastLaws → ColumnCastIsSafe
column_cast_safe laws e k format shape =
    safe_bind e (live_layout e k) _ (λ layout found.
    safe_bind e (unless (not (is_contiguous_layout layout)) fault.Kind) _ (λ b is_flat.
    safe_bind e (text_in format) _ (λ text _.
    safe_bind e (column_layout_in layout text shape) _ (λ made given.
    new_view laws.adding e made (λ sound.
    let flat = true_if_not_false (is_contiguous_layout layout) (passed_unless (not (is_contiguous_layout layout)) fault.Kind b is_flat) in
    let P : Layout → Type 0 = λ l. IsSoundLayout e layout → IsSoundLayout e l in
    done_holds P (column_layout_in layout text shape) made (columns_sound laws e layout text shape flat) given (laws.live e k layout sound found))
    (λ spaced. done_holds HasItemsApart (column_layout_in layout text shape) made (columns_apart laws.apart laws.column_apart layout text shape) given)))))

-- ---- the bytes of a cast in column order

-- the laws that these proofs use
pub record ColumnLaws : Type 0 where
  pub live : LiveLayoutsAreSound
  pub contiguous : ColumnCastsAreFContiguous
  pub bytes : ColumnCastsGiveTheBytesBack
  pub sizes : NativeCodesHaveTheirSize

abbrev HasTheBytes : Exporter → Layout → Layout → Type 0
HasTheBytes e layout cast = (is_f_contiguous_layout cast ≡ true) × (column_content e.bytes cast ≡ content_of_layout e.bytes layout)

columns_of_shape : ColumnLaws → (e : Exporter) (layout : Layout) (text : List ℕ) (parts : List Scalar) → is_contiguous_layout layout ≡ true
    → IfDone (λ (l : Layout). IsSoundLayout e layout → HasTheBytes e layout l) (shaped_layout_of true layout text parts)
columns_of_shape laws e layout text parts flat =
    let P : Layout → Type 0 = λ l. IsSoundLayout e layout → HasTheBytes e layout l in
    done_bind P (unless (has_zero_entry layout.shape) fault.Kind) _ (λ none no_zero.
    done_bind P (unless (not (length layout.shape == 1) && not (length parts == 1)) fault.Kind) _ (λ _ _.
    done_bind P (unless (nat_lt 64 (length parts)) fault.Value) _ (λ _ _.
    done_bind P (size_for layout text) _ (λ size told.
    done_bind P (entries_of size parts) _ (λ entries _.
    done_bind P (unless (not (size * product entries == nbytes_of layout)) fault.Kind) _ (λ b whole.
    let sized = size_bound laws.sizes layout text size told in
    let counted : size * product entries ≡ nbytes_of layout = bytes_told (size * product entries) (nbytes_of layout) b whole in
    (λ sound.
    let bytes : length layout.starts * layout.itemsize ≡ product entries * size =
    ap (λ (n : ℕ). n * layout.itemsize) sound.formed.counted ∙ mul_comm (product layout.shape) layout.itemsize ∙ sym counted ∙ mul_comm size (product entries) in
    let some : 0 < length layout.starts = subst (λ (n : ℕ). 0 < n) (sym sound.formed.counted) (some_items layout.shape (passed_unless (has_zero_entry layout.shape) fault.Kind none no_zero)) in
    (laws.contiguous layout text size entries, laws.bytes e.bytes layout text size entries flat sized.1 bytes some))))))))

columns_in : ColumnLaws → (e : Exporter) (layout : Layout) (text : List ℕ) (shape : Value) → is_contiguous_layout layout ≡ true
    → IfDone (λ (l : Layout). IsSoundLayout e layout → HasTheBytes e layout l) (column_layout_in layout text shape)
columns_in laws e layout text (value.Tuple parts) flat = columns_of_shape laws e layout text parts flat
columns_in laws e layout text (value.List parts) flat = columns_of_shape laws e layout text parts flat
columns_in laws e layout text (value.One s) flat = tt
columns_in laws e layout text (value.Slice s) flat = tt
columns_in laws e layout text (value.Slices s) flat = tt

columns_made : ColumnLaws → (e : Exporter) (k : ℕ) (format shape : Value) → IsSoundExporter e → IfDone (HoldsTheBytes e k) (column_cast_of_view e k format shape)
columns_made laws e k format shape sound =
    let P : Exporter × LocalReply → Type 0 = λ made. HoldsTheBytes e k made in
    done_bind P (live_layout e k) _ (λ layout found.
    done_bind P (unless (not (is_contiguous_layout layout)) fault.Kind) _ (λ b is_flat.
    done_bind P (text_in format) _ (λ text _.
    done_bind P (column_layout_in layout text shape) _ (λ cast given.
    let flat = true_if_not_false (is_contiguous_layout layout) (passed_unless (not (is_contiguous_layout layout)) fault.Kind b is_flat) in
    let Q : Layout → Type 0 = λ l. IsSoundLayout e layout → HasTheBytes e layout l in
    let held = done_holds Q (column_layout_in layout text shape) cast (columns_in laws e layout text shape flat) given (laws.live e k layout sound found) in
    record { layout = layout; live = found; cast = cast; answer = refl; in_column_order = held.0; bytes = held.1 }))))

pub column_casts_hold : ColumnLaws → ColumnCastsHoldTheBytes
column_casts_hold laws e k format shape made sound is =
    done_holds (λ (m : Exporter × LocalReply). HoldsTheBytes e k m) (column_cast_of_view e k format shape) made (columns_made laws e k format shape sound) is

-- The text is a single native code, and that code or the view's format has single bytes.
abbrev OfBytes : Layout → List ℕ → Type 0
OfBytes layout text = (c : FormatType) × (native_single_code text ≡ Some c) × (is_byte_code c || is_byte_format layout.format ≡ true)

either : (a b mixed : Bool) → (not a && not b) ≡ mixed → mixed ≡ false → a || b ≡ true
either true b mixed told is = refl
either false true mixed told is = refl
either false false mixed told is = absurd (true≢false (told ∙ is))

mixed_case : (layout : Layout) (d : FormatType) (mixed : Bool) → (not (is_byte_code d) && not (is_byte_format layout.format)) ≡ mixed → IfDone (λ (c : FormatType). is_byte_code c || is_byte_format layout.format ≡ true) (unless mixed fault.Kind >>= λ _. Ok d)
mixed_case layout d true told = tt
mixed_case layout d false told = either (is_byte_code d) (is_byte_format layout.format) false told refl

code_of_bytes : (layout : Layout) (r : Option FormatType) → IfDone (λ (c : FormatType). is_byte_code c || is_byte_format layout.format ≡ true) (ok_or r fault.Value >>= λ d. unless (not (is_byte_code d) && not (is_byte_format layout.format)) fault.Kind >>= λ _. Ok d)
code_of_bytes layout None = tt
code_of_bytes layout (Some d) = mixed_case layout d (not (is_byte_code d) && not (is_byte_format layout.format)) refl

of_bytes : (layout : Layout) (text : List ℕ) (size : ℕ) → size_for layout text ≡ Ok size → OfBytes layout text
of_bytes layout text size is =
    let found = of_code layout text size (code_for layout text) refl is in
    (found.0, code_of_text layout (native_single_code text) found.0 found.1, done_holds (λ (c : FormatType). is_byte_code c || is_byte_format layout.format ≡ true) (code_for layout text) found.0 (code_of_bytes layout (native_single_code text)) found.1)

flat_of_bytes : (layout : Layout) (text : List ℕ) → IfDone (λ (l : Layout). OfBytes layout text) (flat_layout_of layout text)
flat_of_bytes layout text =
    let P : Layout → Type 0 = λ l. OfBytes layout text in
    done_bind P (unless (not (length layout.shape == 1) && has_zero_entry layout.shape) fault.Kind) _ (λ _ _.
    done_bind P (size_for layout text) _ (λ size told. of_bytes layout text size told))

shaped_of_bytes : (layout : Layout) (text : List ℕ) (parts : List Scalar) → IfDone (λ (l : Layout). OfBytes layout text) (shaped_layout_of false layout text parts)
shaped_of_bytes layout text parts =
    let P : Layout → Type 0 = λ l. OfBytes layout text in
    done_bind P (unless (has_zero_entry layout.shape) fault.Kind) _ (λ _ _.
    done_bind P (unless (not (length layout.shape == 1) && not (length parts == 1)) fault.Kind) _ (λ _ _.
    done_bind P (unless (nat_lt 64 (length parts)) fault.Value) _ (λ _ _.
    done_bind P (size_for layout text) _ (λ size told.
    done_bind P (entries_of size parts) _ (λ entries _.
    done_bind P (unless (not (size * product entries == nbytes_of layout)) fault.Kind) _ (λ _ _. of_bytes layout text size told))))))

in_shape_of_bytes : (layout : Layout) (text : List ℕ) (shape : Option Value) → IfDone (λ (l : Layout). OfBytes layout text) (layout_in_shape layout text shape)
in_shape_of_bytes layout text None = flat_of_bytes layout text
in_shape_of_bytes layout text (Some (value.Tuple parts)) = shaped_of_bytes layout text parts
in_shape_of_bytes layout text (Some (value.List parts)) = shaped_of_bytes layout text parts
in_shape_of_bytes layout text (Some (value.One s)) = tt
in_shape_of_bytes layout text (Some (value.Slice s)) = tt
in_shape_of_bytes layout text (Some (value.Slices s)) = tt

abbrev CastOfBytes : Exporter → ℕ → Value → Type 0
CastOfBytes e k format =
    (layout : Layout) × (text : List ℕ) × (c : FormatType)
    × (live_layout e k ≡ Ok layout) × (text_in format ≡ Ok text) × (native_single_code text ≡ Some c)
    × (is_byte_code c || is_byte_format layout.format ≡ true)

cast_done : (e : Exporter) (k : ℕ) (format : Value) (shape : Option Value) → IfDone (λ (made : Exporter × LocalReply). CastOfBytes e k format) (cast_of_view e k format shape)
cast_done e k format shape =
    let P : Exporter × LocalReply → Type 0 = λ made. CastOfBytes e k format in
    done_bind P (live_layout e k) _ (λ layout found.
    done_bind P (unless (not (is_contiguous_layout layout)) fault.Kind) _ (λ _ _.
    done_bind P (text_in format) _ (λ text at.
    done_bind P (layout_in_shape layout text shape) _ (λ cast given.
    let code = done_holds (λ (l : Layout). OfBytes layout text) (layout_in_shape layout text shape) cast (in_shape_of_bytes layout text shape) given in
    (layout, text, code.0, found, at, code.1, code.2)))))

pub casts_of_bytes : CastsAreOfBytes
casts_of_bytes e k format shape made is = done_holds (λ (m : Exporter × LocalReply). CastOfBytes e k format) (cast_of_view e k format shape) made (cast_done e k format shape) is

-- ---- ranges

part_case : (count from to : ℕ) (b : Bool) → (nat_le from to && nat_le to count) ≡ b → IfDone {B = ℕ × ℕ} (λ part. part.0 + part.1 ≤ count) (if b then Ok (from, to - from) else Err fault.Index)
part_case count from to true is = grind (arith, is)
part_case count from to false is = tt

part_within : (count : ℕ) (first end : ℤ) → IfDone (λ (part : ℕ × ℕ). part.0 + part.1 ≤ count) (part_between count first end)
part_within count (pos from) (pos to) = part_case count from to (nat_le from to && nat_le to count) refl
part_within count (pos from) (negsuc to) = tt
part_within count (negsuc from) (pos to) = tt
part_within count (negsuc from) (negsuc to) = tt

pub range_safe : NewViewsKeep → PartLayoutsAreSound → WholeLayoutsLieApart → RangeIsSafe
range_safe adding part apart e from to =
    safe_bind e (number_of from) _ (λ first _.
    safe_bind e (number_of to) _ (λ end _.
    safe_bind e (part_between (length e.bytes) first end) _ (λ found is.
    new_view adding e (bytes_layout_from found.0 found.1 (holds_readonly e.kind)) (λ sound.
    part e found.0 found.1 (done_holds (λ (p : ℕ × ℕ). p.0 + p.1 ≤ length e.bytes) (part_between (length e.bytes) first end) found (part_within (length e.bytes) first end) is))
    (λ spaced. apart.1 found.0 found.1 (holds_readonly e.kind)))))

-- ---- the view itself, and its copy

pub enter_safe : ReadingKeeps → EnterIsSafe
enter_safe reading e k = safe_bind e (live_layout e k) _ (λ layout found. record { keeps = λ sound. reading e sound; answers = refl })

pub contiguous_copied : ContiguousIsCopied
contiguous_copied e k =
    done_bind (IsCopied e (subject.View k)) (live_layout e k) _ (λ layout found. record { same = refl; copied = (layout, found, refl) })

-- ---- views that can only be read

read_only : (e : Exporter) (layout : Layout) → IsSoundLayout e layout → IsSoundLayout e (record layout { readonly = true })
read_only e layout sound = record {
  formed = record { sized = sound.formed.sized; counted = sound.formed.counted };
  inside = sound.inside;
  readonly = λ _. refl;
}

pub toreadonly_safe : NewViewsKeep → LiveLayoutsAreSound → LiveLayoutsLieApart → ToReadonlyIsSafe
toreadonly_safe adding live apart e k =
    safe_bind e (live_layout e k) _ (λ layout found.
    new_view adding e (record layout { readonly = true }) (λ sound. read_only e layout (live e k layout sound found)) (λ spaced. apart e k layout spaced found))

-- ---- releases

released : ReleasingKeeps → (e : Exporter) (k : ℕ) (r : Result View Fault) → r ≡ view_at e k → IsSafe e ((r >>= (λ v. Ok (released_at e k v))) >>= (λ after. Ok (after, reply.Ok)))
released releasing e k (Ok v) is = record { keeps = λ sound. releasing e k v sound (sym is); answers = refl }
released releasing e k (Err f) is = tt

pub release_safe : ReleasingKeeps → ReleaseIsSafe
release_safe releasing e k = released releasing e k (view_at e k) refl

released_from : ReleasingKeeps → (e new : Exporter) (k : ℕ) (r : Result View Fault) → IsSoundExporter e → r ≡ view_at e k → (r >>= (λ v. Ok (released_at e k v))) ≡ Ok new → IsSoundExporter new
released_from keeps e new k (Ok v) sound at is = let same : released_at e k v ≡ new = cc in subst IsSoundExporter same (keeps e k v sound (sym at)).sound
released_from keeps e new k (Err f) sound at is = absurd (cc)

-- An exporter is sound after a view of it is released.
pub released_is_sound : ReleasingKeeps → (e new : Exporter) (k : ℕ) → IsSoundExporter e → released_in e k ≡ Ok new → IsSoundExporter new
released_is_sound keeps e new k sound is = released_from keeps e new k (view_at e k) sound refl is
