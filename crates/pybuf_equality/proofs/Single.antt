-- Views of single bytes.
use Rattle.std.proofs.Common.{◌≡◌, inl, inr, ℕ, zero, suc, ◌+◌, ◌*◌, ◌<◌, ℤ, pos, Bool, true, false, true≢false, List, [], ◌∷◌, length, ap, ap₂, sym, ◌∙◌, refl, arith}
use Rattle.std.specs.Prelude.{All, ◌==◌, ◌&&◌, ◌-ℤ◌, if◌then◌else◌}
use Rattle.std.proofs.lemmas.Int.{ints}
use Rattle.std.proofs.lemmas.Bool.Decides.{Decides-int_eq}
use Rattle.std.proofs.lemmas.Slice.Eq.{bytes_eq-Decides}
use Rattle.std.proofs.lemmas.List.Elements.{All-head, All-tail}
use Rattle.pybuf_lemmas.proofs.Booleans.{first_of_both, second_of_both}
use Rattle.pybuf_value.specs.declared.values.Scalar.TheVariants as scalar
use Rattle.pybuf_value.specs.declared.values.Item.{Item}
use Rattle.pybuf_value.specs.declared.values.Item.TheVariants as item
use Rattle.pybuf_value.specs.Equality.{same_item}
use Rattle.pybuf_struct.specs.Digits.{has_top_bit}
use Rattle.pybuf_struct.specs.Formats.{codes_in, layout_from, format_after_prefix}
use Rattle.pybuf_desc.specs.Layouts.{product}
use Rattle.pybuf_memoryview.specs.Items.{item_by}
use Rattle.pybuf_equality.specs.Equality.{items_cut, items_of_snap, shapes_agree, same_items}
use Rattle.pybuf_equality.specs.Laws.{IsByteFormat, EqualByteViewsHoldTheSameBytes}

-- ---- what a byte reads as

abbrev signed_byte : ℕ → ℤ
signed_byte n = if has_top_bit 1 n then pos n -ℤ pos 256 else pos n

reads_signed : (x : ℕ) → item_by (98 ∷ []) (x ∷ []) ≡ item.One (scalar.Int (signed_byte x))
unfolding codes_in layout_from format_after_prefix
reads_signed x = ap (λ (n : ℕ). item.One (scalar.Int (signed_byte n))) (let same : x * 1 + 0 ≡ x = omega arith in same)

reads_unsigned : (x : ℕ) → item_by (66 ∷ []) (x ∷ []) ≡ item.One (scalar.Int (pos x))
unfolding codes_in layout_from format_after_prefix
reads_unsigned x = ap (λ (n : ℕ). item.One (scalar.Int (pos n))) (let same : x * 1 + 0 ≡ x = omega arith in same)

reads_char : (x : ℕ) → item_by (99 ∷ []) (x ∷ []) ≡ item.One (scalar.Bytes (x ∷ []))
unfolding codes_in layout_from format_after_prefix
reads_char x = refl

-- ---- equal items are the same byte

chosen_alike : (x y : ℕ) (a b : Bool) → x < 256 → y < 256 → (if a then pos x -ℤ pos 256 else pos x) ≡ (if b then pos y -ℤ pos 256 else pos y) → x ≡ y
chosen_alike x y true true small other e = omega (arith, ints, e)
chosen_alike x y true false small other e = absurd (omega (arith, ints, e, small))
chosen_alike x y false true small other e = absurd (omega (arith, ints, e, other))
chosen_alike x y false false small other e = omega (arith, ints, e)

numbers_alike : (x y : ℕ) → x < 256 → y < 256 → signed_byte x ≡ signed_byte y → x ≡ y
numbers_alike x y small other e = chosen_alike x y (has_top_bit 1 x) (has_top_bit 1 y) small other e

signed_alike : (x y : ℕ) → x < 256 → y < 256 → signed_byte x ≡ pos y → x ≡ y
signed_alike x y small other e = chosen_alike x y (has_top_bit 1 x) false small other e

as_read : (f g xs ys : List ℕ) (i j : Item) → item_by f xs ≡ i → item_by g ys ≡ j → same_item (item_by f xs) (item_by g ys) ≡ true → same_item i j ≡ true
as_read f g xs ys i j p q e = ap₂ same_item (sym p) (sym q) ∙ e

abbrev signed : ℕ → Item
signed x = item.One (scalar.Int (signed_byte x))

abbrev unsigned : ℕ → Item
unsigned x = item.One (scalar.Int (pos x))

abbrev char : ℕ → Item
char x = item.One (scalar.Bytes (x ∷ []))

read_signed : (f : List ℕ) (x : ℕ) → f ≡ 98 ∷ [] → item_by f (x ∷ []) ≡ signed x
read_signed f x is = ap (λ (t : List ℕ). item_by t (x ∷ [])) is ∙ reads_signed x

read_unsigned : (f : List ℕ) (x : ℕ) → f ≡ 66 ∷ [] → item_by f (x ∷ []) ≡ unsigned x
read_unsigned f x is = ap (λ (t : List ℕ). item_by t (x ∷ [])) is ∙ reads_unsigned x

read_char : (f : List ℕ) (x : ℕ) → f ≡ 99 ∷ [] → item_by f (x ∷ []) ≡ char x
read_char f x is = ap (λ (t : List ℕ). item_by t (x ∷ [])) is ∙ reads_char x

same_pos : (x y : ℕ) → pos x ≡ pos y → x ≡ y
same_pos x y e = cc

same_char : (x y : ℕ) → x ∷ [] ≡ y ∷ [] → x ≡ y
same_char x y e = cc

items_alike : (f g : List ℕ) (x y : ℕ) → IsByteFormat f → IsByteFormat g → x < 256 → y < 256 → same_item (item_by f (x ∷ [])) (item_by g (y ∷ [])) ≡ true → x ≡ y
items_alike f g x y (inl p) (inl q) small other e =
    numbers_alike x y small other ((Decides-int_eq (signed_byte x) (signed_byte y)).0 (as_read f g (x ∷ []) (y ∷ []) (signed x) (signed y) (read_signed f x p) (read_signed g y q) e))
items_alike f g x y (inl p) (inr (inl q)) small other e =
    signed_alike x y small other ((Decides-int_eq (signed_byte x) (pos y)).0 (as_read f g (x ∷ []) (y ∷ []) (signed x) (unsigned y) (read_signed f x p) (read_unsigned g y q) e))
items_alike f g x y (inl p) (inr (inr q)) small other e =
    absurd (true≢false (sym (as_read f g (x ∷ []) (y ∷ []) (signed x) (char y) (read_signed f x p) (read_char g y q) e)))
items_alike f g x y (inr (inl p)) (inl q) small other e =
    sym (signed_alike y x other small (sym ((Decides-int_eq (pos x) (signed_byte y)).0 (as_read f g (x ∷ []) (y ∷ []) (unsigned x) (signed y) (read_unsigned f x p) (read_signed g y q) e))))
items_alike f g x y (inr (inl p)) (inr (inl q)) small other e =
    same_pos x y ((Decides-int_eq (pos x) (pos y)).0 (as_read f g (x ∷ []) (y ∷ []) (unsigned x) (unsigned y) (read_unsigned f x p) (read_unsigned g y q) e))
items_alike f g x y (inr (inl p)) (inr (inr q)) small other e =
    absurd (true≢false (sym (as_read f g (x ∷ []) (y ∷ []) (unsigned x) (char y) (read_unsigned f x p) (read_char g y q) e)))
items_alike f g x y (inr (inr p)) (inl q) small other e =
    absurd (true≢false (sym (as_read f g (x ∷ []) (y ∷ []) (char x) (signed y) (read_char f x p) (read_signed g y q) e)))
items_alike f g x y (inr (inr p)) (inr (inl q)) small other e =
    absurd (true≢false (sym (as_read f g (x ∷ []) (y ∷ []) (char x) (unsigned y) (read_char f x p) (read_unsigned g y q) e)))
items_alike f g x y (inr (inr p)) (inr (inr q)) small other e =
    same_char x y ((bytes_eq-Decides (x ∷ []) (y ∷ [])).0 (as_read f g (x ∷ []) (y ∷ []) (char x) (char y) (read_char f x p) (read_char g y q) e))

-- ---- whole views

abbrev AreBytes : List ℕ → Type 0
AreBytes xs = All (λ b. b < 256) xs

cut_alike : (f g : List ℕ) (n m : ℕ) (xs ys : List ℕ) → IsByteFormat f → IsByteFormat g → length xs ≡ n → length ys ≡ m → AreBytes xs → AreBytes ys → same_items (items_cut f 1 n xs) (items_cut g 1 m ys) ≡ true → xs ≡ ys
cut_alike f g zero zero [] [] is other_is long other_long small other e = refl
cut_alike f g zero zero (x ∷ xs) ys is other_is long other_long small other e = absurd (omega (arith, long))
cut_alike f g zero zero [] (y ∷ ys) is other_is long other_long small other e = absurd (omega (arith, other_long))
cut_alike f g zero (suc m) xs ys is other_is long other_long small other e = absurd (true≢false (sym e))
cut_alike f g (suc n) zero xs ys is other_is long other_long small other e = absurd (true≢false (sym e))
cut_alike f g (suc n) (suc m) [] ys is other_is long other_long small other e = absurd (omega (arith, long))
cut_alike f g (suc n) (suc m) (x ∷ xs) [] is other_is long other_long small other e = absurd (omega (arith, other_long))
cut_alike f g (suc n) (suc m) (x ∷ xs) (y ∷ ys) is other_is long other_long small other e =
    let rest : same_items (items_cut f 1 n xs) (items_cut g 1 m ys) ≡ true = second_of_both (same_item (item_by f (x ∷ [])) (item_by g (y ∷ []))) (same_items (items_cut f 1 n xs) (items_cut g 1 m ys)) e in
    ap₂ (λ (z : ℕ) (zs : List ℕ). z ∷ zs)
    (items_alike f g x y is other_is (All-head (λ b. b < 256) x xs small) (All-head (λ b. b < 256) y ys other)
    (first_of_both (same_item (item_by f (x ∷ [])) (item_by g (y ∷ []))) (same_items (items_cut f 1 n xs) (items_cut g 1 m ys)) e))
    (cut_alike f g n m xs ys is other_is (omega (arith, long)) (omega (arith, other_long)) (All-tail (λ b. b < 256) x xs small) (All-tail (λ b. b < 256) y ys other) rest)

pub same_bytes_held : EqualByteViewsHoldTheSameBytes
same_bytes_held s t is other_is e =
    let later = second_of_both (length s.shape == length t.shape) (shapes_agree s.shape t.shape && same_items (items_of_snap s) (items_of_snap t)) e in
    let items = second_of_both (shapes_agree s.shape t.shape) (same_items (items_of_snap s) (items_of_snap t)) later in
    cut_alike s.format t.format (product s.shape) (product t.shape) s.content t.content is.format other_is.format is.filled other_is.filled is.bytes other_is.bytes
    (ap₂ (λ (n m : ℕ). same_items (items_cut s.format n (product s.shape) s.content) (items_cut t.format m (product t.shape) t.content)) (sym is.size) (sym other_is.size) ∙ items)
