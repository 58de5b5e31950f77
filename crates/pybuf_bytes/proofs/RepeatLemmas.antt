-- Bytes that are repeated once are the same bytes.
use Rattle.std.proofs.Common.{◌≡◌, ℕ, ◌^◌, ◌<◌, pos, true, nat_lt, List, length, Ok, Err, Result, refl, ap, ◌∙◌, if◌then◌else◌}
use Rattle.std.proofs.Common.{ℤ, sym, w64, SFits, of_z, to_z}
use Rattle.std.proofs.lemmas.Int.{to_z-of_z}
use Rattle.std.proofs.lemmas.Bool.{cond-true, lt-ltb}
use Rattle.bstr.specs.Text.{repeated}
use Rattle.pybuf_value.specs.declared.faults.Fault.{Fault}
use Rattle.pybuf_value.specs.declared.faults.Fault.TheVariants as fault
use Rattle.pybuf_value.specs.Texts.{fitted}
use Rattle.pybuf_bytes.specs.Searching.{repeated_of}

once : (bytes : List ℕ) → repeated 1 bytes ≡ bytes
unfolding repeated
once bytes = refl

repeated_at_one : (bytes : List ℕ) → length bytes < 2 ^ 63 → repeated_of (pos 1) bytes ≡ Ok bytes
repeated_at_one bytes small = ap fitted (once bytes) ∙ cond-true _ _ _ (lt-ltb _ _ small)

pub repeated_once : (n : ℤ) (bytes : List ℕ) → SFits w64 n → of_z w64 n ≡ 1 → length bytes < 2 ^ 63 → repeated_of n bytes ≡ Ok bytes
repeated_once n bytes fits one small =
    let same : n ≡ pos 1 = sym (to_z-of_z w64 n fits) ∙ ap (to_z w64) one in
    ap (λ k. repeated_of k bytes) same ∙ repeated_at_one bytes small
