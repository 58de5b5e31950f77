-- Each effect that compares keeps a sound exporter.
use Rattle.std.proofs.Common.{◌≡◌, ℕ, ◌^◌, List, length, Bool, true, false, refl, subst}
use Rattle.std.specs.Prelude.{not, nat_lt, Option, Result, Ok, Err, if◌then◌else◌}
use Rattle.pybuf_state.specs.Facts.{safe_bind, reading_is_carried_out}
use Rattle.pybuf_value.specs.declared.faults.Fault.{Fault}
use Rattle.pybuf_value.specs.declared.faults.Fault.TheVariants as fault
use Rattle.pybuf_value.specs.declared.values.CompareOp.{CompareOp}
use Rattle.pybuf_value.specs.declared.snaps.Snap.{Snap}
use Rattle.pybuf_value.specs.Refusing.{unless}
use Rattle.pybuf_value.specs.Order.{is_order}
use Rattle.pybuf_value.specs.Texts.{fitted}
use Rattle.pybuf_value.specs.Snaps.{content_of}
use Rattle.pybuf_command.specs.Kinds.{holds_readonly}
use Rattle.pybuf_command.specs.declared.commands.LocalReply.TheVariants as reply
use Rattle.pybuf_state.specs.Exporter.{Exporter, view_at, live_layout}
use Rattle.pybuf_state.specs.Keeps.{is_answer, is_one_line, is_vector, IsSafe}
use Rattle.pybuf_state.specs.Laws.{ReadingKeeps}
use Rattle.pybuf_verbs_compare.specs.Compare.{has_no_order_with, bytes_compared, compare_string, other_in}
use Rattle.pybuf_verbs_compare.specs.Repr.{shown_bytes, shown, shown_view}
use Rattle.pybuf_verbs_compare.specs.Laws.{CompareIsSafe, HashIsSafe, ReprIsSafe}
use Rattle.pybuf_verbs_compare.proofs.Lines.{bytes_shown, view_shown}

-- ---- compare

compared_answers : (e : Exporter) (bytes : List ℕ) (op : CompareOp) (other : Result (List ℕ) Fault) → is_answer e (bytes_compared bytes op other) ≡ true
compared_answers e bytes op (Ok effect) = refl
compared_answers e bytes op (Err f) = refl

string_safe : ReadingKeeps → (e : Exporter) (op : CompareOp) (other : Option Snap) → IsSafe e (compare_string e op other)
string_safe reading e op other =
    safe_bind e (unless (has_no_order_with e.kind op other) fault.Kind) _ (λ _ _. reading_is_carried_out reading e _ (compared_answers e e.bytes op (content_of other)))

pub compare_safe : ReadingKeeps → CompareIsSafe
compare_safe reading = (
  (λ e op other lents. safe_bind e (unless (is_vector e.kind) fault.UnknownName) _ (λ _ _. string_safe reading e op (other_in other lents))),
  (λ e k op other lents. safe_bind e (view_at e k) _ (λ view _. safe_bind e (unless (is_order op) fault.Kind) _ (λ _ _. reading_is_carried_out reading e _ refl))),
)

-- ---- hash

pub hash_safe : ReadingKeeps → HashIsSafe
hash_safe reading = (
  (λ e. safe_bind e (unless (is_vector e.kind) fault.UnknownName) _ (λ _ _. safe_bind e (unless (not (holds_readonly e.kind)) fault.Kind) _ (λ _ _. reading_is_carried_out reading e _ refl))),
  (λ e k. safe_bind e (live_layout e k) _ (λ layout _. safe_bind e (unless (not layout.readonly) fault.Value) _ (λ _ _. reading_is_carried_out reading e _ refl))),
)

-- ---- repr

same_if_fitting : (fits : Bool) (text whole : List ℕ) → (if fits then Ok text else Err fault.Overflow) ≡ Ok whole → text ≡ whole
same_if_fitting true text whole found = cc
same_if_fitting false text whole found = absurd (cc)

shown_safe : ReadingKeeps → (e : Exporter) (text : List ℕ) → is_one_line text ≡ true → IsSafe e (shown e text)
shown_safe reading e text single =
    safe_bind e (fitted text) _ (λ whole found. reading_is_carried_out reading e (reply.Shown whole) (subst (λ (t : List ℕ). is_one_line t ≡ true) (same_if_fitting (nat_lt (length text) (2 ^ 63)) text whole found) single))

pub repr_safe : ReadingKeeps → ReprIsSafe
repr_safe reading = (
  (λ e. safe_bind e (unless (is_vector e.kind) fault.UnknownName) _ (λ _ _. shown_safe reading e (shown_bytes e.kind e.bytes) (bytes_shown e.kind e.bytes))),
  (λ e k. safe_bind e (view_at e k) _ (λ view _. reading_is_carried_out reading e (reply.Shown (shown_view k view.released)) (view_shown k view.released))),
)
