-- Facts about the definitions of this crate, with their proofs, for the proofs of the crates above.
use Rattle.std.proofs.Common.{◌≡◌, inl, inr, ℕ, List, true, ap, sym, ◌∙◌}
use Rattle.pybuf_lemmas.proofs.Numbers.{size_is_one}
use Rattle.pybuf_struct.specs.Formats.{codes_in, layout_from, format_after_prefix}
use Rattle.pybuf_memoryview.specs.Sized.{is_sized}
use Rattle.pybuf_equality.specs.Laws.{IsByteFormat}

pub one_byte : (format : List ℕ) (size : ℕ) → IsByteFormat format → is_sized format size ≡ true → size ≡ 1
unfolding codes_in layout_from format_after_prefix
one_byte format size (inl is) sized = size_is_one size (ap (λ text. is_sized text size) (sym is) ∙ sized)
one_byte format size (inr (inl is)) sized = size_is_one size (ap (λ text. is_sized text size) (sym is) ∙ sized)
one_byte format size (inr (inr is)) sized = size_is_one size (ap (λ text. is_sized text size) (sym is) ∙ sized)
