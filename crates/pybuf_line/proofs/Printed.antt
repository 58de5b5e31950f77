-- The bytes of a text are ASCII.
use Rattle.std.proofs.Common.{◌≡◌, ℕ, ◌<◌, true, List, get_or, arith, tests}
use Rattle.std.specs.List.{list_all}
use Rattle.std.specs.Str.{IsUtf8}
use Rattle.std.proofs.lemmas.Str.Ascii.{IsAscii-from_all}
use Rattle.std.proofs.lemmas.Str.{IsUtf8-from_ascii}
use Rattle.std.proofs.lemmas.List.Sums.{AllPass-from_list_all}
use Rattle.pybuf_line.specs.Scalars.{is_text, is_text_byte}

text_byte : (b : ℕ) → is_text_byte b ≡ true → b < 128
text_byte b h = grind (arith, tests)

each_text_byte : (text : List ℕ) → is_text text ≡ true → list_all is_text_byte text ≡ true
each_text_byte text h = grind (arith, tests)

pub text_is_utf8 : (text : List ℕ) → is_text text ≡ true → IsUtf8 text
text_is_utf8 text h =
    let all = AllPass-from_list_all is_text_byte text (each_text_byte text h) in
    IsUtf8-from_ascii text (IsAscii-from_all text (λ k d here. text_byte (get_or text k d) (all k d here)))
