-- A number is added by adding its two bytes.
use Rattle.std.proofs.Common.{◌≡◌, ℕ, ◌+◌, ◌<◌, ◌/◌, ◌%◌, ◌^◌, Bool, true, false, [], ◌∷◌, ◌++◌, length, refl, ap, sym, subst, ◌∙◌, arith}
use Rattle.std.specs.Prelude.{Result, Ok, Err, OnOk, OnErr}
use Rattle.std.proofs.Common.{length-append}
use Rattle.std.proofs.lemmas.Bool.Decides.{nat_tests}
use Rattle.pybuf_state.specs.Facts.{none_live}
use Rattle.pybuf_value.specs.declared.faults.Fault.{Fault}
use Rattle.pybuf_value.specs.declared.faults.Fault.TheVariants as fault
use Rattle.pybuf_value.specs.declared.halt.Halt.{Halt}
use Rattle.pybuf_value.specs.declared.halt.Halt.TheVariants as halt
use Rattle.pybuf_value.specs.Refusing.{unless}
use Rattle.pybuf_command.specs.Kinds.{of_byte_array}
use Rattle.pybuf_state.specs.Exporter.{Exporter, exports_of}
use Rattle.pybuf_state.specs.Live.{is_live}
use Rattle.pybuf_state.specs.Resizing.{has_exports, resizable}
use Rattle.pybuf_object.specs.Plain.{Settles, extended_by, may_resize}
use Rattle.example_users.specs.Numbers.{Numbers, numbers_of, numbers_in, IsLent, IsNumberArray}
use Rattle.example_users.proofs.NumberLemmas.{numbers_of-low_high}
use Rattle.example_users.proofs.OutLemmas.{lent_by, lent_none}

pub record Pushed (a : Numbers) (new : Exporter) (n : ℕ) (r : Result (Unit {0}) Halt) : Type 0 where
  pub ok : OnOk r (numbers_in new ≡ record a { numbers = a.numbers ++ n ∷ [] })
  pub refused : r ≡ Err (halt.Refused fault.Buffer) → IsLent a
  pub lent : IsLent a → r ≡ Err (halt.Refused fault.Buffer)
  pub err : OnErr r (numbers_in new ≡ a)
  pub sound : IsNumberArray new

abbrev after_of : Result (Exporter × Unit {0}) Fault → Exporter → Exporter
after_of (Ok pair) e = pair.0
after_of (Err f) e = e

-- whether the number of bytes of a bytearray may change
may_by : (e : Exporter) (b : Bool) → IsNumberArray e → has_exports e ≡ b → may_resize e ≡ unless b fault.Buffer
may_by e b is test = ap (λ k. of_byte_array k (resizable e)) is.kind ∙ ap (λ c. unless c fault.Buffer) test

module _ (a : Numbers) (e new : Exporter) (n : ℕ) (is : IsNumberArray e) (shown : numbers_in e ≡ a) (small : n < 2 ^ 16) where
  added : numbers_of (e.bytes ++ n % 256 ∷ n / 256 % 256 ∷ []) ≡ numbers_of e.bytes ++ n ∷ []
  added = numbers_of-low_high e.bytes n small is.pairs

  added_sound : has_exports e ≡ false → new ≡ record e { bytes = e.bytes ++ n % 256 ∷ n / 256 % 256 ∷ [] } → IsNumberArray new
  added_sound test now =
      let more : length (numbers_of new.bytes) ≡ length (numbers_of e.bytes) + 1 = ap (λ x. length (numbers_of x.bytes)) now ∙ (ap (λ ns. length ns) added ∙ length-append (numbers_of e.bytes) (n ∷ [])) in
      let long : length new.bytes ≡ length e.bytes + 2 = ap (λ x. length x.bytes) now ∙ length-append e.bytes (n % 256 ∷ n / 256 % 256 ∷ []) in
      let none : exports_of e ≡ 0 = grind (arith, nat_tests) in
      record {
        kind = ap (λ x. x.kind) now ∙ is.kind;
        pairs = omega (arith, is.pairs);
        whole = λ view live. absurd (none_live e.views view none (sym (ap (λ x. is_live x view) now) ∙ live));
      }

  added_shown : new ≡ record e { bytes = e.bytes ++ n % 256 ∷ n / 256 % 256 ∷ [] } → numbers_in new ≡ record a { numbers = a.numbers ++ n ∷ [] }
  added_shown now =
      ap numbers_in now
      ∙ (ap (λ ns. record (numbers_in e) { numbers = ns }) added ∙ ap {B = Numbers} (λ b. record b { numbers = b.numbers ++ n ∷ [] }) shown)

  kept_sound : new ≡ e → IsNumberArray new
  kept_sound now = subst IsNumberArray (sym now) is

  free : has_exports e ≡ false → IsLent a → ⊥
  free test lent = lent_none a e shown (grind (arith, nat_tests)) lent

  out : has_exports e ≡ true → IsLent a
  out test = lent_by a e shown (λ none. grind (arith, nat_tests))

  pushed_by : (b : Bool) (r : Result (Unit {0}) Halt) → has_exports e ≡ b → Settles (extended_by e (n % 256 ∷ n / 256 % 256 ∷ [])) e r new → Pushed a new n r
  pushed_by false (Ok x) test settles =
      let may = may_by e false is test in
      let now : new ≡ record e { bytes = e.bytes ++ n % 256 ∷ n / 256 % 256 ∷ [] } = (let given = rw may at settles in sym (ap (λ r. after_of r e) given)) in
      record { ok = added_shown now; refused = λ same. absurd cc; lent = λ lent. absurd (free test lent); err = tt; sound = added_sound test now }
  pushed_by false (Err (halt.Refused f)) test settles = let may = may_by e false is test in let given = rw may at settles.0 in absurd cc
  pushed_by false (Err halt.NoMemory) test settles =
      record { ok = tt; refused = λ same. absurd cc; lent = λ lent. absurd (free test lent); err = ap numbers_in settles.1 ∙ shown; sound = kept_sound settles.1 }
  pushed_by true (Ok x) test settles = let may = may_by e true is test in let given = rw may at settles in absurd cc
  pushed_by true (Err (halt.Refused f)) test settles =
      let may = may_by e true is test in
      let given = rw may at settles.0 in
      let same : f ≡ fault.Buffer = cc in
      record { ok = tt; refused = λ _. out test; lent = λ _. ap (λ g. Err (halt.Refused g)) same; err = ap numbers_in settles.1 ∙ shown; sound = kept_sound settles.1 }
  pushed_by true (Err halt.NoMemory) test settles = let may = may_by e true is test in let given = rw may at settles.0 in absurd cc

  pub pushed : (r : Result (Unit {0}) Halt) → Settles (extended_by e (n % 256 ∷ n / 256 % 256 ∷ [])) e r new → Pushed a new n r
  pushed r settles = pushed_by (has_exports e) r refl settles
