-- Classes of bytes, as std and `bstr` name them and as the definitions do.
use Rattle.std.proofs.Common.{◌≡◌, refl, ap, ◌∙◌, ℕ, List, [], ◌∷◌, Bool, false, arith}
use Rattle.std.specs.Prelude.{◌&&◌, ◌==◌, not, length}
use Rattle.std.specs.List.{list_any, list_all}
use Rattle.bstr.specs.Bytes.{is_in}
use Rattle.pybuf_letters.specs.Classes.{all_of, is_blank}
use Rattle.pybuf_letters.specs.Lines.{is_line_break}

-- ---- classes

pub all_of-some : (of_class : ℕ → Bool) (bytes : List ℕ) (all : Bool) → false ≡ (length bytes == 0) → all ≡ list_all of_class bytes → all ≡ all_of of_class bytes
all_of-some of_class bytes all some is = is ∙ ap (λ (x : Bool). not x && list_all of_class bytes) some

-- ---- sets of bytes

pub is_in-list_any : (chars : List ℕ) (b : ℕ) → is_in chars b ≡ list_any (λ c. c == b) chars
unfolding is_in
is_in-list_any [] b = refl
is_in-list_any (c ∷ chars) b = grind (arith, is_in-list_any chars b)

pub is_in-blanks : (b : ℕ) → is_in (32 ∷ 9 ∷ 10 ∷ 11 ∷ 12 ∷ 13 ∷ []) b ≡ is_blank b
unfolding is_in
is_in-blanks b = grind arith

pub is_in-line_breaks : (b : ℕ) → is_in (10 ∷ 13 ∷ []) b ≡ is_line_break b
unfolding is_in
is_in-line_breaks b = grind arith
