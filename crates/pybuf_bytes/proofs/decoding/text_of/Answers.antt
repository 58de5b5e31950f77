use Rattle.std.proofs.Common.{◌≡◌, ℕ, Bool, true, false, not, List, Ok, Err, refl, ap, arith}
use Rattle.std.proofs.lemmas.Grind.{common_steps}
use Rattle.std.proofs.lemmas.Str.{is_utf8-from_IsUtf8, IsUtf8-from_is_utf8}
use Rattle.std.specs.Str.{IsUtf8, is_utf8}
use Rattle.pybuf_value.specs.declared.faults.Fault.TheVariants as fault
use Rattle.pybuf_value.specs.Refusing.{◌>>=◌, unless}
use Rattle.pybuf_bytes.specs.Shaping.{text_of}
use Rattle.pybuf_bytes.proofs.decoding.text_of.Goals as goal

valid : (bytes : List ℕ) → IsUtf8 bytes → text_of bytes ≡ Ok bytes
valid bytes h = ap (λ t. unless (not t) fault.Value >>= (λ _. Ok bytes)) (is_utf8-from_IsUtf8 bytes h)

refused : (valid : Bool) → (valid ≡ true → ⊥) → valid ≡ false
refused true never = absurd (never refl)
refused false never = refl

invalid : (bytes : List ℕ) → (IsUtf8 bytes → ⊥) → text_of bytes ≡ Err fault.Value
invalid bytes never =
    ap (λ t. unless (not t) fault.Value >>= (λ _. Ok bytes)) (refused (is_utf8 bytes) (λ valid. never (IsUtf8-from_is_utf8 bytes valid)))

pub returns-in_ok-from_str-in-Ok : goal.returns-in_ok-from_str-in-Ok
returns-in_ok-from_str-in-Ok c =
    let text = valid c.args.bytes.now c.in-Ok.ensures.cases.1 in
    grind (arith, common_steps, text, c.in-Ok.ensures.cases.0)

pub returns-in-Err : goal.returns-in-Err
returns-in-Err c = invalid c.args.bytes.now c.in-Err.ensures.cases.0
