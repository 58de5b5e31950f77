-- What a format of one native code spells.
use Rattle.std.proofs.Common.{◌≡◌, ◌⊎◌, inl, inr, ℕ, Bool, true, false, cond, List, [], ◌∷◌, Option, Some, None, Ok, refl, ap, ap₂, subst, ◌∙◌, sym}
use Rattle.std.specs.Prelude.{◌==◌}
use Rattle.std.specs.Str.{byte}
use Rattle.std.proofs.lemmas.Bool.{eqb-true}
use Rattle.pybuf_lemmas.proofs.Lists.{found_passes}
use Rattle.pybuf_struct.specs.declared.table.Endianness.TheVariants as order
use Rattle.pybuf_struct.specs.declared.table.FormatType.{FormatType}
use Rattle.pybuf_struct.specs.declared.table.FormatType.TheVariants as code
use Rattle.pybuf_struct.specs.Table.{letter, every_code, size_of}
use Rattle.pybuf_struct.specs.Formats.{codes_in, layout_from, format_after_prefix, format_of}
use Rattle.pybuf_struct.specs.Singles.{single_code, size_by}
use Rattle.pybuf_struct.specs.Natives.{is_item_code, item_code_alone, without_at, native_single_code}
use Rattle.pybuf_struct.specs.Laws.{NativeCodesAreSpelled, NativeCodesHaveTheirSize}

letter_alone : (c : FormatType) → is_item_code c ≡ true → native_single_code (letter c ∷ []) ≡ Some c
letter_alone code.Pad is = absurd cc
letter_alone code.Str is = absurd cc
letter_alone code.Pascal is = absurd cc
letter_alone _ is = refl

letter_behind : (c : FormatType) → is_item_code c ≡ true → native_single_code (byte "@" ∷ letter c ∷ []) ≡ Some c
letter_behind code.Pad is = absurd cc
letter_behind code.Str is = absurd cc
letter_behind code.Pascal is = absurd cc
letter_behind _ is = refl

size_behind : (c : FormatType) → size_by (byte "@" ∷ letter c ∷ []) ≡ Ok (size_of order.Native c)
unfolding codes_in layout_from format_after_prefix
size_behind code.Pad = refl
size_behind _ = refl

size_alone : (c : FormatType) → size_by (letter c ∷ []) ≡ Ok (size_of order.Native c)
unfolding codes_in layout_from format_after_prefix
size_alone code.Pad = refl
size_alone _ = refl

-- a text that spells a single code is the letter of this code
is_letter : (text : List ℕ) (c : FormatType) → single_code text ≡ Some c → text ≡ letter c ∷ []
is_letter [] c is = absurd cc
is_letter (b ∷ []) c is = ap (λ (x : ℕ). x ∷ []) (sym (eqb-true (letter c) b (found_passes (λ d. letter d == b) every_code c is)))
is_letter (b ∷ d ∷ rest) c is = absurd cc

item_case : (d : FormatType) (b : Bool) (c : FormatType) → is_item_code d ≡ b → cond b (Some d) None ≡ Some c → (Some d ≡ Some c) × (is_item_code c ≡ true)
item_case d true c is found = let same : d ≡ c = cc in (found, subst (λ (x : FormatType). is_item_code x ≡ true) same is)
item_case d false c is found = absurd cc

item_is : (code : Option FormatType) (c : FormatType) → item_code_alone code ≡ Some c → (code ≡ Some c) × (is_item_code c ≡ true)
item_is None c is = absurd cc
item_is (Some d) c is = item_case d (is_item_code d) c refl is

abbrev Spelled : List ℕ → FormatType → Type 0
Spelled text c = (text ≡ letter c ∷ []) ⊎ (text ≡ byte "@" ∷ letter c ∷ [])

head_case : (b : ℕ) (rest : List ℕ) (u : Bool) (c : FormatType) → (b == byte "@") ≡ u → single_code (cond u rest (b ∷ rest)) ≡ Some c → Spelled (b ∷ rest) c
head_case b rest true c is found = inr (ap₂ (λ (x : ℕ) (xs : List ℕ). x ∷ xs) (eqb-true b (byte "@") is) (is_letter rest c found))
head_case b rest false c is found = inl (is_letter (b ∷ rest) c found)

spelled : (text : List ℕ) (c : FormatType) → single_code (without_at text) ≡ Some c → Spelled text c
spelled [] c is = absurd cc
spelled (b ∷ rest) c is = head_case b rest (b == byte "@") c refl is

pub are_spelled : NativeCodesAreSpelled
are_spelled = record {
  alone = letter_alone;
  behind = letter_behind;
  only = λ text c is. let item = item_is (single_code (without_at text)) c is in (item.1, spelled text c item.0);
}

size_case : (text : List ℕ) (c : FormatType) → Spelled text c → size_by text ≡ Ok (size_of order.Native c)
size_case text c (inl same) = subst (λ (x : List ℕ). size_by x ≡ Ok (size_of order.Native c)) (sym same) (size_alone c)
size_case text c (inr same) = subst (λ (x : List ℕ). size_by x ≡ Ok (size_of order.Native c)) (sym same) (size_behind c)

pub have_their_size : NativeCodesHaveTheirSize
have_their_size text c is = size_case text c (spelled text c (item_is (single_code (without_at text)) c is).0)
