-- Items of the format `B`, which are read without looking at their format.
use Rattle.std.proofs.Common.{◌≡◌, ℕ, List, [], ◌∷◌, length, true, true≢false, ap, sym, ◌∙◌, arith}
use Rattle.std.proofs.lemmas.Bool.{eqb-true}
use Rattle.pybuf_memoryview.specs.Fits.{is_byte_format}
use Rattle.pybuf_memoryview.specs.Items.{item_by}
use Rattle.pybuf_memoryview.specs.Readers.{read_by}
use Rattle.pybuf_memoryview.specs.declared.readers.ItemReader.TheVariants as reader
use Rattle.pybuf_memoryview.proofs.SingleBytes.{reads_byte}

byte_format : (format : List ℕ) → is_byte_format format ≡ true → format ≡ 66 ∷ []
byte_format [] is = absurd (true≢false (sym is))
byte_format (b ∷ []) is = ap (λ (x : ℕ). x ∷ []) (eqb-true b 66 is)
byte_format (b ∷ (c ∷ format)) is = absurd (true≢false (sym is))

pub byte_reads : (format bytes : List ℕ) → is_byte_format format ≡ true → length bytes ≡ 1 → read_by reader.Byte bytes ≡ item_by format bytes
byte_reads format [] is long = absurd (omega (arith, long))
byte_reads format (b ∷ []) is long = sym (reads_byte b) ∙ ap (λ (text : List ℕ). item_by text (b ∷ [])) (sym (byte_format format is))
byte_reads format (b ∷ (c ∷ bytes)) is long = absurd (omega (arith, long))
