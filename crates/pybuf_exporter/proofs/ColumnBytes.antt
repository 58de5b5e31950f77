-- `castf` makes a view whose bytes in column order are those of the old view, and `bytes` replies both.
use Rattle.std.proofs.Common.{◌≡◌, ◌⊎◌, inl, inr, ℕ, zero, suc, List, [], ◌∷◌, ◌++◌, length, Bool, true, false, ap, ap₂, sym, ◌∙◌, refl, subst}
use Rattle.std.specs.Prelude.{◌&&◌, ◌||◌, ◌==◌, not, bytes_eq, Option, Some, None, Result, Ok, Err, slice_get, if◌then◌else◌}
use Rattle.std.specs.Option.{ok_or}
use Rattle.std.proofs.lemmas.Bool.{eqb-true}
use Rattle.std.proofs.lemmas.Slice.Eq.{bytes_eq-Decides}
use Rattle.pybuf_lemmas.proofs.Lists.{empty_if_no_length as no_items}
use Rattle.pybuf_value.specs.declared.faults.Fault.{Fault}
use Rattle.pybuf_value.specs.declared.faults.Fault.TheVariants as fault
use Rattle.pybuf_value.specs.Refusing.{◌>>=◌, unless}
use Rattle.pybuf_desc.specs.Layouts.{Layout, product, HasItemsOfItsShape}
use Rattle.pybuf_desc.specs.Contiguous.{starts_from, is_contiguous_layout}
use Rattle.pybuf_desc.specs.Items.{bytes_of_items, content_of_layout}
use Rattle.pybuf_desc.specs.ColumnOrder.{column_content, column_starts, is_f_contiguous_layout}
use Rattle.pybuf_desc.specs.Laws.{NoItemsAreNoColumns}
use Rattle.pybuf_value.specs.declared.values.Value.{Value}
use Rattle.pybuf_command.specs.declared.kinds.Subject.TheVariants as subject
use Rattle.pybuf_command.specs.declared.commands.Verb.TheVariants as verb
use Rattle.pybuf_command.specs.declared.commands.LocalReply.{LocalReply}
use Rattle.pybuf_command.specs.declared.commands.LocalReply.TheVariants as reply
use Rattle.pybuf_state.specs.Exporter.{Exporter, View, live_layout, with_view}
use Rattle.pybuf_state.specs.Laws.{LiveLayoutsAreSound}
use Rattle.pybuf_state.specs.Sound.{IsSoundExporter}
use Rattle.pybuf_verbs_views.specs.Cast.{column_cast_of_view}
use Rattle.pybuf_verbs_views.specs.Laws.{HoldsTheBytes, ColumnCastsHoldTheBytes}
use Rattle.pybuf_verbs_reads.specs.ToBytes.{by_letter, content_in, is_column_order}
use Rattle.pybuf_exporter.specs.Step.{settled_answer}
use Rattle.pybuf_exporter.specs.Columns.{bytes_replied, order_named, GivesTheBytesBack, ColumnCastsGiveTheBytesBack}
use Rattle.pybuf_exporter.specs.Laws.{CommandsKeepSound}
use Rattle.pybuf_exporter.proofs.Iterating.{get-middle}

-- ---- a single order, if items lie one after the other in both

-- The number of items decides whether they lie so in column order.
columns_of_some : (starts columns run : List ℕ) (b : Bool) → (length starts == 0) ≡ b → b || bytes_eq columns run ≡ true → (starts ≡ []) ⊎ (columns ≡ run)
columns_of_some starts columns run true is told = inl (no_items starts (eqb-true (length starts) 0 is))
columns_of_some starts columns run false is told = inr ((bytes_eq-Decides columns run).0 told)

by_items : NoItemsAreNoColumns → (bytes : List ℕ) (view : Layout) → HasItemsOfItsShape view → view.starts ≡ starts_from view.starts view.itemsize (length view.starts)
    → (view.starts ≡ []) ⊎ (column_starts view ≡ starts_from view.starts view.itemsize (length view.starts)) → content_of_layout bytes view ≡ column_content bytes view
by_items none bytes view counted rows (inl empty) =
    let no_items : product view.shape ≡ 0 = sym counted ∙ ap (λ (xs : List ℕ). length xs) empty in
    ap (bytes_of_items bytes view.itemsize) (empty ∙ sym (none view no_items))
by_items none bytes view counted rows (inr columns) = ap (bytes_of_items bytes view.itemsize) (rows ∙ sym columns)

one_order : NoItemsAreNoColumns → (bytes : List ℕ) (view : Layout) → HasItemsOfItsShape view → is_contiguous_layout view ≡ true → is_f_contiguous_layout view ≡ true
    → content_of_layout bytes view ≡ column_content bytes view
one_order none bytes view counted rows columns =
    by_items none bytes view counted ((bytes_eq-Decides view.starts (starts_from view.starts view.itemsize (length view.starts))).0 rows)
    (columns_of_some view.starts (column_starts view) (starts_from view.starts view.itemsize (length view.starts)) (length view.starts == 0) refl columns)

in_either : NoItemsAreNoColumns → (bytes : List ℕ) (view : Layout) (flat columns : Bool) → HasItemsOfItsShape view → is_contiguous_layout view ≡ flat → is_f_contiguous_layout view ≡ columns → columns ≡ true
    → content_in (columns && not flat) bytes view ≡ column_content bytes view
in_either none bytes view true true counted rows told is = one_order none bytes view counted rows told
in_either none bytes view false true counted rows told is = refl
in_either none bytes view flat false counted rows told is = absurd (cc)

-- ---- the command

abbrev okay : Exporter × LocalReply → Result (Exporter × LocalReply) Fault
okay after = Ok after

refused_not : (f : Fault) (j : ℕ) → reply.Refused f ≡ reply.View j → ⊥
refused_not f j is = absurd (cc)

answered : (e new : Exporter) (j : ℕ) (named : Bool) (row : Result (Exporter × LocalReply) Fault) → settled_answer e (if named then row else Err fault.UnknownName) ≡ (new, reply.View j) → row ≡ okay (new, reply.View j)
answered e new j true (Ok after) is = ap okay is
answered e new j true (Err f) is = absurd (refused_not f j (ap (λ (after : Exporter × LocalReply). after.1) is))
answered e new j false row is = absurd (refused_not fault.UnknownName j (ap (λ (after : Exporter × LocalReply). after.1) is))

-- ---- what is read afterwards

abbrev read_in : Exporter → Result Layout Fault → Option Value → LocalReply
read_in e found order = (settled_answer e (found >>= λ layout. is_column_order layout order >>= λ columns. Ok (e, reply.Bytes (content_in columns e.bytes layout)))).1

pub read : (e : Exporter) (k : ℕ) (layout : Layout) → live_layout e k ≡ Ok layout → bytes_replied e k None ≡ reply.Bytes (content_of_layout e.bytes layout)
read e k layout live = ap (λ (found : Result Layout Fault). read_in e found None) live

pub read_by : (e : Exporter) (k : ℕ) (layout : Layout) (letter : List ℕ) → live_layout e k ≡ Ok layout → bytes_replied e k (order_named letter) ≡ read_in e (Ok layout) (order_named letter)
read_by e k layout letter live = ap (λ (found : Result Layout Fault). read_in e found (order_named letter)) live

view_numbered : (j k : ℕ) → reply.View j ≡ reply.View k → j ≡ k
view_numbered j k is = cc

-- The view that was made is there.
made_live : (e : Exporter) (cast : Layout) → live_layout (with_view e cast).0 (length e.views) ≡ Ok cast
made_live e cast =
    let v : View = record { made_at = length e.bytes; layout = cast; released = false } in
    ap (λ (o : Option View). ok_or o fault.UnknownName >>= λ w. unless w.released fault.Value >>= λ _. Ok w.layout) (get-middle e.views v [])

given_back : NoItemsAreNoColumns → LiveLayoutsAreSound → (e new : Exporter) (k j : ℕ) → IsSoundExporter new → HoldsTheBytes e k (new, reply.View j) → GivesTheBytesBack e new k j
given_back none sound_live e new k j sound held =
    let same : new ≡ (with_view e held.cast).0 = ap (λ (after : Exporter × LocalReply). after.0) held.answer in
    let number : j ≡ length e.views = view_numbered j (length e.views) (ap (λ (after : Exporter × LocalReply). after.1) held.answer) in
    let live : live_layout new j ≡ Ok held.cast = ap₂ live_layout same number ∙ made_live e held.cast in
    let kept : new.bytes ≡ e.bytes = ap (λ (x : Exporter). x.bytes) same in
    let counted = (sound_live new j held.cast sound live).formed.counted in
    let columns : column_content new.bytes held.cast ≡ content_of_layout e.bytes held.layout = ap (λ (bytes : List ℕ). column_content bytes held.cast) kept ∙ held.bytes in
    record {
      bytes = content_of_layout e.bytes held.layout;
      before = read e k held.layout held.live;
      in_column_order = read_by new j held.cast (70 ∷ []) live ∙ ap (λ (bytes : List ℕ). reply.Bytes bytes) columns;
      in_either_order = read_by new j held.cast (65 ∷ []) live
          ∙ ap (λ (bytes : List ℕ). reply.Bytes bytes) (in_either none new.bytes held.cast (is_contiguous_layout held.cast) (is_f_contiguous_layout held.cast) counted refl refl held.in_column_order ∙ columns);
    }

pub bytes_given_back : NoItemsAreNoColumns → LiveLayoutsAreSound → CommandsKeepSound → ColumnCastsHoldTheBytes → ColumnCastsGiveTheBytesBack
bytes_given_back none sound_live keep holds e new k j format shape loans sound is =
    let row : column_cast_of_view e k format shape ≡ okay (new, reply.View j) = answered e new j _ (column_cast_of_view e k format shape) is in
    let after : IsSoundExporter new = subst IsSoundExporter (ap (λ (x : Exporter × LocalReply). x.0) is) (keep e (subject.View k) (verb.CastF format shape) loans sound) in
    given_back none sound_live e new k j after (holds e k format shape (new, reply.View j) sound row)
