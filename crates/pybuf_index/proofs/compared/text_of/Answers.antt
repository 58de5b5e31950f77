use Rattle.std.proofs.Common.{◌≡◌, ◌<◌, ◌++◌, List, [], ◌∷◌, ℕ, zero, suc, true, slice_index, codes, refl, subst, sym, arith}
use Rattle.std.specs.Prelude.{nat_lt}
use Rattle.std.specs.List.{list_all}
use Rattle.std.specs.Str.{IsUtf8}
use Rattle.std.proofs.lemmas.Bool.Decides.{nat_tests}
use Rattle.std.proofs.lemmas.Grind.{common_steps}
use Rattle.std.proofs.lemmas.Str.{IsUtf8-from_ascii, IsUtf8-append}
use Rattle.pybuf_value.specs.Spelling.{scalar_text, handle_text, slice_text}
use Rattle.pybuf_index.proofs.compared.text_of.Goals as goal

byte_ascii : (xs : List ℕ) (k : ℕ) → list_all (λ b. nat_lt b 128) xs ≡ true → slice_index xs k < 128
byte_ascii [] k h = omega arith
byte_ascii (x ∷ xs) zero h = grind (arith, nat_tests)
byte_ascii (x ∷ xs) (suc k) h = byte_ascii xs k (grind (arith, nat_tests))

ascii_utf8 : (xs : List ℕ) → list_all (λ b. nat_lt b 128) xs ≡ true → IsUtf8 xs
ascii_utf8 xs h = IsUtf8-from_ascii xs (λ k. byte_ascii xs k h)

whole_utf8 : (start stop step : List ℕ) → IsUtf8 start → IsUtf8 stop → IsUtf8 step →
    IsUtf8 (codes "slice(" ++ start ++ codes ", " ++ stop ++ codes ", " ++ step ++ codes ")")
whole_utf8 start stop step h k l =
    let opening : List ℕ = codes "slice(" in
    let comma : List ℕ = codes ", " in
    let closing : List ℕ = codes ")" in
    let between : IsUtf8 comma = ascii_utf8 comma refl in
    IsUtf8-append (opening ++ start ++ comma ++ stop ++ comma ++ step) closing
    (IsUtf8-append (opening ++ start ++ comma ++ stop ++ comma) step
    (IsUtf8-append (opening ++ start ++ comma ++ stop) comma
    (IsUtf8-append (opening ++ start ++ comma) stop
    (IsUtf8-append (opening ++ start) comma (IsUtf8-append opening start (ascii_utf8 opening refl) h) between) k) between) l)
    (ascii_utf8 closing refl)

pub from_utf8-requires : goal.from_utf8-requires
from_utf8-requires c =
    let slice = c.args.slice.now in
    let start : List ℕ = scalar_text handle_text slice.start in
    let stop : List ℕ = scalar_text handle_text slice.stop in
    let step : List ℕ = scalar_text handle_text slice.step in
    let spelled = c.values_are_spelled_in_ascii.ensures in
    let whole : c.extend_from_slice-4.new.self.items ≡ slice_text slice = grind (arith, common_steps) in
    subst IsUtf8 (sym whole)
    (whole_utf8 start stop step (IsUtf8-from_ascii start (spelled slice.start)) (IsUtf8-from_ascii stop (spelled slice.stop)) (IsUtf8-from_ascii step (spelled slice.step)))
