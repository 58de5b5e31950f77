-- Each effect that reads bytes as strings keeps a sound exporter.
use Rattle.std.proofs.Common.{◌≡◌, true, refl}
use Rattle.pybuf_state.specs.Facts.{safe_bind, reading_is_carried_out}
use Rattle.pybuf_value.specs.declared.faults.Fault.TheVariants as fault
use Rattle.pybuf_value.specs.Refusing.{unless}
use Rattle.pybuf_bytes.specs.declared.methods.MethodReply.{MethodReply}
use Rattle.pybuf_bytes.specs.declared.methods.MethodReply.TheVariants as answer
use Rattle.pybuf_methods.specs.Methods.{method_reply}
use Rattle.pybuf_methods.specs.Sought.{contains_in}
use Rattle.pybuf_methods.specs.Shaped.{hex_of}
use Rattle.pybuf_desc.specs.Items.{content_of_layout}
use Rattle.pybuf_state.specs.Exporter.{Exporter, live_layout}
use Rattle.pybuf_state.specs.Keeps.{is_answer, is_vector}
use Rattle.pybuf_state.specs.Laws.{ReadingKeeps}
use Rattle.pybuf_verbs_methods.specs.Calls.{reply_of_answer}
use Rattle.pybuf_verbs_methods.specs.Laws.{CallIsSafe, ContainsIsSafe, HexIsSafe}

method_answers : (e : Exporter) (given : MethodReply) → is_answer e (reply_of_answer given) ≡ true
method_answers e (answer.Bytes bytes) = refl
method_answers e (answer.ByteLists lists) = refl
method_answers e (answer.Truth truth) = refl
method_answers e (answer.Number n) = refl
method_answers e (answer.Text text) = refl

pub call_safe : ReadingKeeps → CallIsSafe
call_safe reading e call pairs =
    safe_bind e (unless (is_vector e.kind) fault.UnknownName) _ (λ _ _. safe_bind e (method_reply pairs e.bytes call.name call.args) _ (λ given _. reading_is_carried_out reading e _ (method_answers e given)))

pub contains_safe : ReadingKeeps → ContainsIsSafe
contains_safe reading e v pairs =
    safe_bind e (unless (is_vector e.kind) fault.UnknownName) _ (λ _ _. safe_bind e (contains_in pairs e.bytes v) _ (λ found _. reading_is_carried_out reading e _ refl))

pub hex_safe : ReadingKeeps → HexIsSafe
hex_safe reading e k sep group pairs =
    safe_bind e (live_layout e k) _ (λ layout _. safe_bind e (hex_of pairs sep group (content_of_layout e.bytes layout)) _ (λ text _. reading_is_carried_out reading e _ refl))
