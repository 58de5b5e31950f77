-- Lists: parts, ranges, and what holds of each element.
use Rattle.std.proofs.Common.{◌≡◌, ℕ, ◌+◌, ◌*◌, List, [], ◌∷◌, map, ap₂, refl, arith, zero, suc, length, ap, drop, ◌≤◌, Bool, true, false, cond, ◌-◌, ◌<◌, take, ◌++◌, flat_map, ◌∙◌, reverse, ℤ, pos, ◌+ℤ◌, ◌≤ℤ◌, ◌<ℤ◌, nat_abs, sym, subst, ◌==◌, slice_index, tests, get_or, inl, inr}
use Rattle.std.specs.Simd.{first_chunks}
use Rattle.std.specs.Prelude.{nat_lt, None, slice_get, All, Some, set}
use Rattle.std.proofs.lemmas.Option.{slice_get_past, slice_get_within, get_or_from_slice_get}
use Rattle.std.proofs.lemmas.Grind.{common_steps}
use Rattle.std.proofs.lemmas.List.{length-take-le, length-drop, map-append, reverse-append, get_or_append_left, length-append, get_or-append-add, append_assoc, take_more, get_or-drop, get_or_past}
use Rattle.std.specs.List.{cons_option, range_with_len, list_any, list_all, find}
use Rattle.std.proofs.lemmas.List.Elements.{All-append, All-nil, All-head, All-tail}
use Rattle.std.specs.Char.{is_ascii_digit}
use Rattle.std.specs.Str.Parse.{AllDigits}
use Rattle.std.proofs.lemmas.Bool.{cases_lt}
use Rattle.pybuf_lemmas.proofs.Integers.{size_of_nonnegative, size_below}
use Rattle.pybuf_lemmas.proofs.Numbers.{range_inside, value_below_ten_is_digit}
use Rattle.hex.specs.Hex.{lower_digits}
use Rattle.pybuf_lemmas.proofs.Options.{found_by}

pub places_by_ones : (xs : List ℕ) → map (λ k. 0 + k * 1) xs ≡ xs
places_by_ones [] = refl
places_by_ones (x ∷ xs) = ap₂ (λ (y : ℕ) (ys : List ℕ). y ∷ ys) (let same : 0 + x * 1 ≡ x = omega arith in same) (places_by_ones xs)

pub length_of_chunks : (s k : ℕ) (xs : List ℕ) → length (first_chunks s k xs) ≡ k
length_of_chunks s zero xs = refl
length_of_chunks s (suc k) xs = ap suc (length_of_chunks s k (drop s xs))

pub at_most_one_part : (part : List ℕ) (empty : Bool) → length (cond empty [] (part ∷ [])) ≤ 1
at_most_one_part part true = omega arith
at_most_one_part part false = omega arith

pub nothing_past_the_end : {X : Type 0} (xs : List X) (k : ℕ) → nat_lt k (length xs) ≡ false → slice_get xs k ≡ None
nothing_past_the_end xs k none = slice_get_past xs k (grind (arith, none))

pub empty_if_no_length : (xs : List ℕ) → length xs ≡ 0 → xs ≡ []
empty_if_no_length [] none = refl
empty_if_no_length (x ∷ xs) none = absurd (omega (arith, none))

pub length_of_piece : (source : List ℕ) (start size : ℕ) → (0 < size → start + size ≤ length source) → length (take size (drop start source)) ≡ size
length_of_piece source start zero fits = grind (arith, common_steps)
length_of_piece source start (suc size) fits =
    let room : start + suc size ≤ length source = fits (let some : 0 < suc size = omega arith in some) in
    length-take-le (suc size) (drop start source) (let enough : suc size ≤ length (drop start source) = omega (arith, room, length-drop start source) in enough)

pub length_of_part : (bytes : List ℕ) (there size : ℕ) → there + size ≤ length bytes → length (take size (drop there bytes)) ≡ size
length_of_part bytes there size inside =
    length-take-le size (drop there bytes) (omega (arith, inside, length-drop there bytes))

pub flat_map_of_none : {X Y : Type 0} (f : X → List Y) (xs : List X) → ((x : X) → f x ≡ []) → flat_map f xs ≡ []
flat_map_of_none f [] each = refl
flat_map_of_none f (x ∷ xs) each = ap (λ ys. ys ++ flat_map f xs) (each x) ∙ flat_map_of_none f xs each

pub flat_map_same : {X A : Type 0} (g h : X → List A) (xs : List X) → ((x : X) → g x ≡ h x) → flat_map g xs ≡ flat_map h xs
flat_map_same g h [] e = refl
flat_map_same g h (x ∷ xs) e = ap₂ (λ ys zs. ys ++ zs) (e x) (flat_map_same g h xs e)

pub map_of_flat_map : {X A B : Type 0} (f : A → B) (g : X → List A) (xs : List X) → map f (flat_map g xs) ≡ flat_map (λ x. map f (g x)) xs
map_of_flat_map f g [] = refl
map_of_flat_map f g (x ∷ xs) = map-append f (g x) (flat_map g xs) ∙ ap (λ ys. map f (g x) ++ ys) (map_of_flat_map f g xs)

pub map_same : {X A : Type 0} (f g : X → A) (xs : List X) → ((x : X) → f x ≡ g x) → map f xs ≡ map g xs
map_same f g [] e = refl
map_same f g (x ∷ xs) e = ap₂ (λ y ys. y ∷ ys) (e x) (map_same f g xs e)

pub reverse_cons : {X : Type 0} (x : X) (xs : List X) → reverse (x ∷ xs) ≡ reverse xs ++ x ∷ []
reverse_cons x xs = reverse-append (x ∷ []) xs

abbrev pub Walks : ℕ → ℤ → ℤ → List ℕ → Type 0
Walks n step before [] = Unit {0}
Walks n step before (x ∷ xs) = (x < n) × (pos x ≡ before +ℤ step) × Walks n step (pos x) xs

pub walk_on : (n : ℕ) (step before z : ℤ) (rest : List ℕ) (b : Bool) → z ≡ before +ℤ step → (b ≡ true → (pos 0 ≤ℤ z) × (z <ℤ pos n)) → Walks n step z rest → Walks n step before (cond b (nat_abs z ∷ rest) [])
walk_on n step before z rest true e inside w =
    let at = inside refl in
    (size_below z n at.0 at.1, size_of_nonnegative z at.0 ∙ e, subst (λ x. Walks n step x rest) (sym (size_of_nonnegative z at.0)) w)
walk_on n step before z rest false e inside w = tt

pub sizes_of_naturals : (xs : List ℕ) → map nat_abs (map (λ x. pos x) xs) ≡ xs
sizes_of_naturals [] = refl
sizes_of_naturals (x ∷ xs) = ap (λ ys. x ∷ ys) (sizes_of_naturals xs)

pub numbers_left : (P : ℕ → Type 0) (xs ys : List ℕ) → All P (xs ++ ys) → All P xs
numbers_left P xs ys all = λ k d below.
    let within : k < length (xs ++ ys) = omega (arith, below, length-append xs ys) in
    subst P (get_or_append_left xs ys d k below) (all k d within)

pub numbers_right : (P : ℕ → Type 0) (xs ys : List ℕ) → All P (xs ++ ys) → All P ys
numbers_right P xs ys all = λ k d below.
    let within : length xs + k < length (xs ++ ys) = omega (arith, below, length-append xs ys) in
    subst P (get_or-append-add xs ys k d) (all (length xs + k) d within)

pub first_then_taken : (bytes : List ℕ) (start n : ℕ) → cons_option (slice_get bytes start) (take n (drop (suc start) bytes)) ≡ take (suc n) (drop start bytes)
first_then_taken [] zero n = grind (arith, common_steps)
first_then_taken [] (suc start) n = grind (arith, common_steps)
first_then_taken (b ∷ bytes) zero n = refl
first_then_taken (b ∷ bytes) (suc start) n = first_then_taken bytes start n

pub items_inside : (len size : ℕ) (starts : List ℕ) → All (λ start. start + size ≤ len) starts → All (λ place. place < len) (flat_map (λ place. range_with_len (nat_abs place) size) (map (λ x. pos x) starts))
items_inside len size [] all = All-nil (λ place. place < len)
items_inside len size (s ∷ starts) all =
    All-append (λ place. place < len) (range_with_len s size) (flat_map (λ place. range_with_len (nat_abs place) size) (map (λ x. pos x) starts))
    (range_inside len s size (All-head (λ start. start + size ≤ len) s starts all)) (items_inside len size starts (All-tail (λ start. start + size ≤ len) s starts all))

pub length_if : (b : Bool) (x : ℕ) (xs : List ℕ) (most : ℕ) → length xs ≤ most → length (cond b (x ∷ xs) []) ≤ suc most
length_if true x xs most h = omega arith
length_if false x xs most h = omega arith

pub map_of_reverse : {X A : Type 0} (f : X → A) (xs : List X) → map f (reverse xs) ≡ reverse (map f xs)
map_of_reverse f [] = refl
map_of_reverse f (x ∷ xs) =
    ap (map f) (reverse_cons x xs) ∙ map-append f (reverse xs) (x ∷ []) ∙ ap (λ ys. ys ++ f x ∷ []) (map_of_reverse f xs) ∙ sym (reverse_cons (f x) (map f xs))

pub get-left : {X : Type 0} (xs ys : List X) (k : ℕ) → k < length xs → slice_get (xs ++ ys) k ≡ slice_get xs k
get-left [] ys k inside = absurd (omega arith)
get-left (x ∷ xs) ys zero inside = refl
get-left (x ∷ xs) ys (suc k) inside = get-left xs ys k (omega (arith, inside))

pub element_holds : {X : Type 0} (P : X → Type 0) (xs : List X) (k : ℕ) (x : X) → All P xs → slice_get xs k ≡ Some x → P x
element_holds P xs k x all at = subst P (get_or_from_slice_get xs k x x at) (all k x (slice_get_within xs k x at))

pub element_after_set : {X : Type 0} (xs : List X) (k : ℕ) (x y : X) → slice_get xs k ≡ Some x → slice_get (set xs k y) k ≡ Some y
element_after_set [] k x y given = absurd (cc)
element_after_set (z ∷ xs) zero x y given = refl
element_after_set (z ∷ xs) (suc k) x y given = element_after_set xs k x y given

pub set_to_itself : {X : Type 0} (xs : List X) (k : ℕ) (x : X) → slice_get xs k ≡ Some x → set xs k x ≡ xs
set_to_itself [] k x given = absurd (cc)
set_to_itself (z ∷ xs) zero x given = cc (given)
set_to_itself (z ∷ xs) (suc k) x given = ap (λ ys. z ∷ ys) (set_to_itself xs k x given)

pub three_parts : (o o1 o2 o3 a b c : List ℕ) → o1 ≡ o ++ a → o2 ≡ o1 ++ b → o3 ≡ o2 ++ c → o3 ≡ o ++ (a ++ b ++ c)
three_parts o o1 o2 o3 a b c h1 h2 h3 = rw (h3, h2, h1) (simp append_assoc)

abbrev pub HasNoFeed : List ℕ → Type 0
HasNoFeed text = list_any (λ b. b == 10) text ≡ false

pub byte_single : (xs : List ℕ) (k : ℕ) → HasNoFeed xs → (slice_index xs k == 10) ≡ false
byte_single [] k h = refl
byte_single (x ∷ xs) zero h = grind (arith, tests)
byte_single (x ∷ xs) (suc k) h = byte_single xs k (grind (arith, tests))

pub hex_digit_is_no_line_end : (k : ℕ) → (slice_index lower_digits k == 10) ≡ false
hex_digit_is_no_line_end k = byte_single lower_digits k refl

pub first_of_all : (p : ℕ → Bool) (x : ℕ) (xs : List ℕ) → list_all p (x ∷ xs) ≡ true → p x ≡ true
first_of_all p x xs h = grind (arith, tests)

pub rest_of_all : (p : ℕ → Bool) (x : ℕ) (xs : List ℕ) → list_all p (x ∷ xs) ≡ true → list_all p xs ≡ true
rest_of_all p x xs h = grind (arith, tests)

pub part_grows_by_one : (text : List ℕ) (start i : ℕ) → start ≤ i → i < length text →
    take (i + 1 - start) (drop start text) ≡ take (i - start) (drop start text) ++ get_or text i 0 ∷ []
part_grows_by_one text start i within here =
    let inside : i - start < length (drop start text) = omega (arith, length-drop start text) in
    let more = take_more (drop start text) (i - start) 0 inside in
    let n : i + 1 - start ≡ i - start + 1 = omega arith in
    let m : start + (i - start) ≡ i = omega arith in
    ap (λ k. take k (drop start text)) n
    ∙ (more ∙ ap (λ b. take (i - start) (drop start text) ++ b ∷ []) (get_or-drop start text (i - start) 0 ∙ ap (λ k. get_or text k 0) m))

pub found_passes : {X : Type 0} (p : X → Bool) (xs : List X) (y : X) → find p xs ≡ Some y → p y ≡ true
found_passes p [] y found = absurd cc
found_passes p (x ∷ xs) y found = found_by p x (p x) (find p xs) y refl (found_passes p xs y) found

pub digits_pass : (ds : List ℕ) → AllDigits 10 ds → list_all is_ascii_digit ds ≡ true
digits_pass [] h = refl
digits_pass (c ∷ cs) h = rw (value_below_ten_is_digit c h.0, digits_pass cs h.1) refl

pub all_left : {X : Type 0} (P : X → Type 0) (xs ys : List X) → All P (xs ++ ys) → All P xs
all_left P xs ys all = λ k d below.
    let within : k < length (xs ++ ys) = omega (arith, below, length-append xs ys) in
    subst P (get_or_append_left xs ys d k below) (all k d within)

pub all_right : {X : Type 0} (P : X → Type 0) (xs ys : List X) → All P (xs ++ ys) → All P ys
all_right P xs ys all = λ k d below.
    let within : length xs + k < length (xs ++ ys) = omega (arith, below, length-append xs ys) in
    subst P (get_or-append-add xs ys k d) (all (length xs + k) d within)

abbrev pub IsBytes : List ℕ → Type 0
IsBytes bytes = (i : ℕ) → get_or bytes i 0 < 256

pub bytes_of_all : (bytes : List ℕ) → All (λ b. b < 256) bytes → IsBytes bytes
bytes_of_all bytes small i =
    elim (cases_lt i (length bytes)) [
      | inl lt ↦ small i 0 lt
      | inr le ↦ rw (get_or_past bytes i 0 le) (omega arith)
    ]

pub eight_items : (bs : List ℕ) → length bs ≡ 8
    → bs ≡ get_or bs 0 0 ∷ get_or bs 1 0 ∷ get_or bs 2 0 ∷ get_or bs 3 0 ∷ get_or bs 4 0 ∷ get_or bs 5 0 ∷ get_or bs 6 0 ∷ get_or bs 7 0 ∷ []
eight_items (a ∷ b ∷ c ∷ d ∷ e ∷ f ∷ g ∷ h ∷ []) len = refl
eight_items [] len = absurd (omega arith)
eight_items (a ∷ []) len = absurd (omega arith)
eight_items (a ∷ b ∷ []) len = absurd (omega arith)
eight_items (a ∷ b ∷ c ∷ []) len = absurd (omega arith)
eight_items (a ∷ b ∷ c ∷ d ∷ []) len = absurd (omega arith)
eight_items (a ∷ b ∷ c ∷ d ∷ e ∷ []) len = absurd (omega arith)
eight_items (a ∷ b ∷ c ∷ d ∷ e ∷ f ∷ []) len = absurd (omega arith)
eight_items (a ∷ b ∷ c ∷ d ∷ e ∷ f ∷ g ∷ []) len = absurd (omega arith)
eight_items (a ∷ b ∷ c ∷ d ∷ e ∷ f ∷ g ∷ h ∷ i ∷ rest) len = absurd (omega arith)

pub by_condition : (test : Bool) (s t : List ℕ) (G : List ℕ → Type 0) → (test ≡ true → G s) → (test ≡ false → G t) → G (cond test s t)
by_condition true s t G held failed = held refl
by_condition false s t G held failed = failed refl

pub set_twice : {X : Type 0} (xs : List X) (i : ℕ) (x y : X) → set (set xs i x) i y ≡ set xs i y
set_twice [] i x y = refl
set_twice (z ∷ zs) zero x y = refl
set_twice (z ∷ zs) (suc i) x y = ap (λ ws. z ∷ ws) (set_twice zs i x y)
