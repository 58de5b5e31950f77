-- Bytes that are written over items, dimension by dimension.
use Rattle.std.proofs.Common.{◌≡◌, ℕ, zero, suc, ◌+◌, ◌-◌, ◌*◌, ◌<◌, ◌≤◌, ◌^◌, ℤ, pos, negsuc, ◌+ℤ◌, ◌*ℤ◌, ◌≤ℤ◌, Bool, true, false, List, [], ◌∷◌, ◌++◌, length, map, drop, refl, ap, ap₂, sym, ◌∙◌, subst, arith, length-append}
use Rattle.std.specs.Prelude.{nat_abs, take, slice_index_or}
use Rattle.std.specs.List.{AllByRecursion, flat_map, range_with_len}
use Rattle.std.specs.Int.Signed.{lt_z}
use Rattle.std.proofs.lemmas.Int.{ints}
use Rattle.std.proofs.lemmas.Grind.{common_steps}
use Rattle.std.proofs.lemmas.List.{map-append, drop-drop, length-map}
use Rattle.pybuf_lemmas.proofs.Numbers.{range_with_one_more, step_below_start, place_a_step_lower, next_lower_place, place_below_start, natural_is_not_below_zero}
use Rattle.pybuf_lemmas.proofs.Recursion.{left_by_recursion, right_by_recursion}
use Rattle.pybuf_lemmas.proofs.Integers.{next_place, zeroth_place}
use Rattle.pybuf_strided.specs.Apart.{place_of, AreInside, moved_at}
use Rattle.pybuf_desc.specs.Places.{places}
use Rattle.pybuf_desc.specs.Segments.{line}
use Rattle.pybuf_desc.specs.Valid.{IsInside}
use Rattle.pybuf_verbs_writes.specs.Laid.{bytes_with, laid}

-- ---- one list of starts after another

pub laid_both : (bytes : List ℕ) (size : ℕ) (xs ys content : List ℕ) → laid bytes size (xs ++ ys) content ≡ laid (laid bytes size xs content) size ys (drop (length xs * size) content)
laid_both bytes size [] ys content = ap (laid bytes size ys) (let none : content ≡ drop (0 * size) content = grind (arith, common_steps) in none)
laid_both bytes size (x ∷ xs) ys content =
    let more : size + length xs * size ≡ suc (length xs) * size = grind arith in
    let rest : drop (length xs * size) (drop size content) ≡ drop (suc (length xs) * size) content = drop-drop (length xs * size) size content ∙ ap (λ (k : ℕ). drop k content) more in
    laid_both (bytes_with bytes x (take size content)) size xs ys (drop size content)
    ∙ ap (laid (laid (bytes_with bytes x (take size content)) size xs (drop size content)) size ys) rest

-- ---- copies in equal steps

long_map : (to : ℕ → ℕ) (j n : ℕ) → length (map to (range_with_len j n)) ≡ n
long_map to j zero = refl
long_map to j (suc n) = ap suc (long_map to (j + 1) n)

abbrev pub starts_of : (ℕ → ℕ) → ℕ → List ℕ
starts_of to n = map to (range_with_len 0 n)

starts_more : (to : ℕ → ℕ) (n : ℕ) → starts_of to (suc n) ≡ starts_of to n ++ to n ∷ []
starts_more to n =
    let last : 0 + n ≡ n = omega arith in
    ap (map to) (range_with_one_more 0 n ∙ ap (λ (k : ℕ). range_with_len 0 n ++ k ∷ []) last) ∙ map-append to (range_with_len 0 n) (n ∷ [])

pub moved_is_laid : (bytes source : List ℕ) (to : ℕ → ℕ) (from size n : ℕ) → moved_at bytes to source (place_of false from size) size n ≡ laid bytes size (starts_of to n) (drop from source)
moved_is_laid bytes source to from size zero = refl
moved_is_laid bytes source to from size (suc n) =
    let there : drop (length (starts_of to n) * size) (drop from source) ≡ drop (from + n * size) source =
    ap (λ (k : ℕ). drop (k * size) (drop from source)) (long_map to 0 n) ∙ drop-drop (n * size) from source in
    ap₂ (λ (bs cs : List ℕ). bytes_with bs (to n) (take size cs)) (moved_is_laid bytes source to from size n) (sym there)
    ∙ sym (ap (λ (xs : List ℕ). laid bytes size xs (drop from source)) (starts_more to n) ∙ laid_both bytes size (starts_of to n) (to n ∷ []) (drop from source))

-- ---- a line upwards or downwards

abbrev pub Inside : ℕ → ℕ → List ℤ → Type 0
Inside size room ps = AllByRecursion (IsInside size room) ps

pub record IsTrack (start : ℕ) (stride : ℤ) (count size room step : ℕ) (falls : Bool) : Type 0 where
  pub starts : starts_of (place_of falls start step) count ≡ map nat_abs (line (pos start) stride count)
  pub inside : AreInside falls start step count size room

rising : (start step j count : ℕ) → map (place_of false start step) (range_with_len j count) ≡ map nat_abs (line (pos (start + j * step)) (pos step) count)
rising start step j zero = refl
rising start step j (suc count) =
    let next : start + (j + 1) * step ≡ (start + j * step) + step = grind arith in
    ap (λ (xs : List ℕ). (start + j * step) ∷ xs) (rising start step (j + 1) count ∙ ap (λ (p : ℕ). map nat_abs (line (pos p) (pos step) count)) next)

rising_high : (start step j size room count : ℕ) → Inside size room (line (pos (start + j * step)) (pos step) count) → (k : ℕ) → k < count → start + (j + k) * step + size ≤ room
rising_high start step j size room zero all k less = absurd (omega (arith, less))
rising_high start step j size room (suc count) all zero less =
    let same : start + (j + 0) * step ≡ start + j * step = grind arith in
    let high = all.0.high in omega (arith, ints, same, high)
rising_high start step j size room (suc count) all (suc k) less =
    let next : start + (j + 1) * step ≡ (start + j * step) + step = grind arith in
    let same : start + ((j + 1) + k) * step ≡ start + (j + suc k) * step = grind arith in
    let fewer : k < count = omega (arith, less) in
    let rest = rising_high start step (j + 1) size room count (subst (λ (p : ℕ). Inside size room (line (pos p) (pos step) count)) (sym next) all.1) k fewer in
    omega (arith, same, rest)

-- What holds below: the places, and that each lies inside.
pub record Falls (start n size room j a count : ℕ) : Type 0 where
  pub starts : map (place_of true start (suc n)) (range_with_len j count) ≡ map nat_abs (line (pos a) (negsuc n) count)
  pub low : (k : ℕ) → k < count → (j + k) * suc n ≤ start
  pub high : (k : ℕ) → k < count → (start - (j + k) * suc n) + size ≤ room

falls_none : (start n size room j a : ℕ) → Falls start n size room j a 0
falls_none start n size room j a = record {
  starts = refl;
  low = λ k less. absurd (omega (arith, less));
  high = λ k less. absurd (omega (arith, less));
}

falls_first_low : (start n j a : ℕ) → a + j * suc n ≡ start → (j + 0) * suc n ≤ start
falls_first_low start n j a at =
    let same : (j + 0) * suc n ≡ j * suc n = grind arith in
    omega (arith, at, same)

falls_first_high : (start n size room j a : ℕ) → a + j * suc n ≡ start → (pos a +ℤ pos size) ≤ℤ pos room → (start - (j + 0) * suc n) + size ≤ room
falls_first_high start n size room j a at high =
    let same : (j + 0) * suc n ≡ j * suc n = grind arith in
    omega (arith, ints, at, same, high)

cons_low : (start n size room j a b count : ℕ) → a + j * suc n ≡ start → Falls start n size room (j + 1) b count → (k : ℕ) → k < suc count → (j + k) * suc n ≤ start
cons_low start n size room j a b count at rest zero less = falls_first_low start n j a at
cons_low start n size room j a b count at rest (suc k) less =
    let same : ((j + 1) + k) * suc n ≡ (j + suc k) * suc n = grind arith in
    let here = rest.low k (let fewer : k < count = omega (arith, less) in fewer) in
    omega (arith, same, here)

cons_high : (start n size room j a b count : ℕ) → a + j * suc n ≡ start → (pos a +ℤ pos size) ≤ℤ pos room → Falls start n size room (j + 1) b count
    → (k : ℕ) → k < suc count → (start - (j + k) * suc n) + size ≤ room
cons_high start n size room j a b count at high rest zero less = falls_first_high start n size room j a at high
cons_high start n size room j a b count at high rest (suc k) less =
    let same : ((j + 1) + k) * suc n ≡ (j + suc k) * suc n = grind arith in
    let here = rest.high k (let fewer : k < count = omega (arith, less) in fewer) in
    omega (arith, same, here)

falls_cons : (start n size room j a b count : ℕ) → a + j * suc n ≡ start → (pos a +ℤ pos size) ≤ℤ pos room → map nat_abs (line (pos b) (negsuc n) count) ≡ map nat_abs (line (pos a +ℤ negsuc n) (negsuc n) count)
    → Falls start n size room (j + 1) b count → Falls start n size room j a (suc count)
falls_cons start n size room j a b count at high next rest = record {
  starts = ap₂ (λ (p : ℕ) (xs : List ℕ). p ∷ xs) (place_below_start start (j * suc n) a at) (rest.starts ∙ next);
  low = cons_low start n size room j a b count at rest;
  high = cons_high start n size room j a b count at high rest;
}

falling : (start n size room j a count : ℕ) → a + j * suc n ≡ start → Inside size room (line (pos a) (negsuc n) count) → Falls start n size room j a count
falling start n size room j a zero at all = falls_none start n size room j a
falling start n size room j a (suc zero) at all = falls_cons start n size room j a a 0 at all.0.high refl (falls_none start n size room (j + 1) a)
falling start n size room j a (suc (suc count)) at all =
    let low : suc n ≤ a = step_below_start a n all.1.0.low in
    let next : pos a +ℤ negsuc n ≡ pos (a - suc n) = place_a_step_lower a n low in
    falls_cons start n size room j a (a - suc n) (suc count) at all.0.high (ap (λ (p : ℤ). map nat_abs (line p (negsuc n) (suc count))) (sym next))
    (falling start n size room (j + 1) (a - suc n) (suc count) (next_lower_place start n j a at low) (subst (λ (p : ℤ). Inside size room (line p (negsuc n) (suc count))) next all.1))

by_sign : (start : ℕ) (stride : ℤ) (count size room : ℕ) → Inside size room (line (pos start) stride count) → IsTrack start stride count size room (nat_abs stride) (lt_z stride (pos 0))
by_sign start (pos n) count size room all =
    let at : start + 0 * n ≡ start = grind arith in
    let begun : Inside size room (line (pos (start + 0 * n)) (pos n) count) = subst (λ (p : ℕ). Inside size room (line (pos p) (pos n) count)) (sym at) all in
    let high : (k : ℕ) → k < count → start + k * n + size ≤ room = λ k less. (let here = rising_high start n 0 size room count begun k less in let same : start + (0 + k) * n ≡ start + k * n = grind arith in omega (arith, here, same)) in
    subst (λ (b : Bool). IsTrack start (pos n) count size room n b) (sym (natural_is_not_below_zero n))
    (let up : IsTrack start (pos n) count size room n false = record {
      starts = rising start n 0 count ∙ ap (λ (p : ℕ). map nat_abs (line (pos p) (pos n) count)) at;
      inside = record { low = λ k less falls. absurd (cc); high = λ some k less. high k less };
    } in up)
by_sign start (negsuc n) count size room all =
    let at : start + 0 * suc n ≡ start = grind arith in
    let down = falling start n size room 0 start count at all in record {
      starts = down.starts;
      inside = record {
        low = λ k less falls. (let same : (0 + k) * suc n ≡ k * suc n = grind arith in let here = down.low k less in omega (arith, same, here));
        high = λ some k less. (let same : (0 + k) * suc n ≡ k * suc n = grind arith in let here = down.high k less in omega (arith, same, here));
      };
    }

pub by_track : (start : ℕ) (stride : ℤ) (count size room step : ℕ) (falls : Bool) → step ≡ nat_abs stride → falls ≡ lt_z stride (pos 0) → Inside size room (line (pos start) stride count)
    → IsTrack start stride count size room step falls
by_track start stride count size room step falls long sign all =
    subst (λ (n : ℕ). IsTrack start stride count size room n falls) (sym long)
    (subst (λ (b : Bool). IsTrack start stride count size room (nat_abs stride) b) (sym sign) (by_sign start stride count size room all))

-- ---- the rows of dimensions

spread_rows : (block : ℤ → List ℤ) (n i : ℕ) (p t : ℤ) → flat_map (λ index. block (p +ℤ pos index *ℤ t)) (range_with_len i n) ≡ flat_map block (line (p +ℤ pos i *ℤ t) t n)
spread_rows block zero i p t = refl
spread_rows block (suc n) i p t =
    ap (λ (rest : List ℤ). block (p +ℤ pos i *ℤ t) ++ rest) (spread_rows block n (i + 1) p t ∙ ap (λ (q : ℤ). flat_map block (line q t n)) (next_place p i t))

places_by_rows : (dim : ℕ × ℤ × ℤ) (dims : List (ℕ × ℤ × ℤ)) (p : ℤ) → places (dim ∷ dims) p ≡ flat_map (places dims) (line p dim.1 dim.0)
places_by_rows dim dims p = spread_rows (places dims) dim.0 0 p dim.1 ∙ ap (λ (q : ℤ). flat_map (places dims) (line q dim.1 dim.0)) (zeroth_place p dim.1)

rows_first : (block : ℤ → List ℤ) (p t : ℤ) (n : ℕ) → 0 < n → flat_map block (line p t n) ≡ block p ++ flat_map block (line (p +ℤ t) t (n - 1))
rows_first block p t zero some = absurd (omega (arith, some))
rows_first block p t (suc n) some = ap (λ (k : ℕ). block p ++ flat_map block (line (p +ℤ t) t k)) (let same : n ≡ suc n - 1 = omega arith in same)

length-line : (p t : ℤ) (n : ℕ) → length (line p t n) ≡ n
length-line p t zero = refl
length-line p t (suc n) = ap suc (length-line (p +ℤ t) t n)

abbrev pub Entered : List (ℕ × ℤ × ℤ) → Type 0
Entered dims = AllByRecursion (λ (dim : ℕ × ℤ × ℤ). 0 < dim.0) dims

first_place : (size room : ℕ) (dims : List (ℕ × ℤ × ℤ)) (p : ℤ) → Entered dims → Inside size room (places dims p) → IsInside size room p
first_place size room [] p some all = all.0
first_place size room (dim ∷ dims) p some all =
    first_place size room dims p some.1
    (left_by_recursion (IsInside size room) (places dims p) (flat_map (places dims) (line (p +ℤ dim.1) dim.1 (dim.0 - 1)))
    (subst (Inside size room) (places_by_rows dim dims p ∙ rows_first (places dims) p dim.1 dim.0 some.0) all))

abbrev pub first_dim : List (ℕ × ℤ × ℤ) → ℕ × ℤ × ℤ
first_dim dims = slice_index_or dims 0 (0, pos 0, pos 0)

abbrev pub other_dims : List (ℕ × ℤ × ℤ) → List (ℕ × ℤ × ℤ)
other_dims dims = take (length dims - 1) (drop 1 dims)

all_taken : (dims : List (ℕ × ℤ × ℤ)) → dims ≡ take (suc (length dims) - 1) dims
all_taken dims = grind (arith, common_steps)

split_dims : (dims : List (ℕ × ℤ × ℤ)) → 1 ≤ length dims → dims ≡ first_dim dims ∷ other_dims dims
split_dims [] some = absurd (omega (arith, some))
split_dims (dim ∷ dims) some = ap (λ (ds : List (ℕ × ℤ × ℤ)). dim ∷ ds) (all_taken dims)

alone : (dims : List (ℕ × ℤ × ℤ)) → 1 ≤ length dims → length dims < 2 → other_dims dims ≡ []
alone [] some few = absurd (omega (arith, some))
alone (dim ∷ []) some few = grind (arith, common_steps)
alone (dim ∷ (other ∷ dims)) some few = absurd (omega (arith, few))

pub others_entered : (dims : List (ℕ × ℤ × ℤ)) → 1 ≤ length dims → Entered dims → Entered (other_dims dims)
others_entered dims some all = (let both : Entered (first_dim dims ∷ other_dims dims) = subst Entered (split_dims dims some) all in both.1)

pub fewer_dims : (dims : List (ℕ × ℤ × ℤ)) → 1 ≤ length dims → length (other_dims dims) < length dims
fewer_dims dims some = let whole = ap length (split_dims dims some) in omega (arith, whole)

pub all_rows : (dims : List (ℕ × ℤ × ℤ)) (p stride : ℤ) → 1 ≤ length dims → stride ≡ (first_dim dims).1
    → places dims p ≡ flat_map (places (other_dims dims)) (line p stride (first_dim dims).0)
all_rows dims p stride some same =
    ap (λ (ds : List (ℕ × ℤ × ℤ)). places ds p) (split_dims dims some) ∙ places_by_rows (first_dim dims) (other_dims dims) p
    ∙ ap (λ (t : ℤ). flat_map (places (other_dims dims)) (line p t (first_dim dims).0)) (sym same)

singles : (ps : List ℤ) → flat_map (places []) ps ≡ ps
singles [] = refl
singles (p ∷ ps) = ap (λ (qs : List ℤ). p ∷ qs) (singles ps)

pub one_row : (dims : List (ℕ × ℤ × ℤ)) (p stride : ℤ) → 1 ≤ length dims → length dims < 2 → stride ≡ (first_dim dims).1 → places dims p ≡ line p stride (first_dim dims).0
one_row dims p stride some few same =
    all_rows dims p stride some same ∙ ap (λ (ds : List (ℕ × ℤ × ℤ)). flat_map (places ds) (line p stride (first_dim dims).0)) (alone dims some few)
    ∙ singles (line p stride (first_dim dims).0)

pub one_row_count : (dims : List (ℕ × ℤ × ℤ)) (p stride : ℤ) → 1 ≤ length dims → length dims < 2 → stride ≡ (first_dim dims).1 → length (places dims p) ≡ (first_dim dims).0
one_row_count dims p stride some few same = ap length (one_row dims p stride some few same) ∙ length-line p stride (first_dim dims).0

-- ---- the rows that are left

abbrev pub left_places : List (ℕ × ℤ × ℤ) → ℕ → ℤ → ℕ → List ℤ
left_places rest place stride left = flat_map (places rest) (line (pos place) stride left)

-- What is written and what is left to write are all of it.
pub record IsLeft (bytes before : List ℕ) (rest : List (ℕ × ℤ × ℤ)) (place : ℕ) (stride : ℤ) (left count start size : ℕ) (content : List ℕ) (next from : ℕ) : Type 0 where
  pub laid_so : laid bytes size (map nat_abs (left_places rest place stride left)) (drop next content) ≡ laid before size (map nat_abs (left_places rest start stride count)) (drop from content)
  pub long : length bytes ≡ length before
  pub inside : Inside size (length before) (left_places rest place stride left)
  pub counted : next + length (left_places rest place stride left) * size ≡ from + length (left_places rest start stride count) * size

pub begun : (bytes : List ℕ) (dims : List (ℕ × ℤ × ℤ)) (start : ℕ) (stride : ℤ) (size : ℕ) (content : List ℕ) (from : ℕ) → 1 ≤ length dims → stride ≡ (first_dim dims).1
    → Inside size (length bytes) (places dims (pos start)) → IsLeft bytes bytes (other_dims dims) start stride (first_dim dims).0 (first_dim dims).0 start size content from from
begun bytes dims start stride size content from some same all = record {
  laid_so = refl;
  long = refl;
  inside = subst (Inside size (length bytes)) (all_rows dims (pos start) stride some same) all;
  counted = refl;
}

-- The rows that are left begin with this one.
pub this_inside : (rest : List (ℕ × ℤ × ℤ)) (place : ℕ) (stride : ℤ) (left size room : ℕ) → 0 < left → Inside size room (left_places rest place stride left) → Inside size room (places rest (pos place))
this_inside rest place stride left size room some all =
    left_by_recursion (IsInside size room) (places rest (pos place)) (flat_map (places rest) (line (pos place +ℤ stride) stride (left - 1)))
    (subst (Inside size room) (rows_first (places rest) (pos place) stride left some) all)

this_place : (rest : List (ℕ × ℤ × ℤ)) (place : ℕ) (stride : ℤ) (left size room : ℕ) → 0 < left → Entered rest → Inside size room (left_places rest place stride left) → IsInside size room (pos place)
this_place rest place stride left size room some entered all = first_place size room rest (pos place) entered (this_inside rest place stride left size room some all)

that_place : (rest : List (ℕ × ℤ × ℤ)) (place : ℕ) (stride : ℤ) (left size room : ℕ) → 0 < left → 0 < left - 1 → Entered rest → Inside size room (left_places rest place stride left)
    → IsInside size room (pos place +ℤ stride)
that_place rest place stride left size room some more entered all =
    let behind : Inside size room (flat_map (places rest) (line (pos place +ℤ stride) stride (left - 1))) =
    right_by_recursion (IsInside size room) (places rest (pos place)) (flat_map (places rest) (line (pos place +ℤ stride) stride (left - 1)))
    (subst (Inside size room) (rows_first (places rest) (pos place) stride left some) all) in
    first_place size room rest (pos place +ℤ stride) entered
    (left_by_recursion (IsInside size room) (places rest (pos place +ℤ stride)) (flat_map (places rest) (line ((pos place +ℤ stride) +ℤ stride) stride (left - 1 - 1)))
    (subst (Inside size room) (rows_first (places rest) (pos place +ℤ stride) stride (left - 1) more) behind))

place_fits : (place size room : ℕ) → IsInside size room (pos place) → room < 2 ^ 63 → place < 2 ^ 63
place_fits place size room inside fits = let high = inside.high in omega (arith, ints, high, fits)

place_below_most : (q : ℤ) (size room : ℕ) → (q +ℤ pos size) ≤ℤ pos room → room < 2 ^ 63 → q ≤ℤ pos 9223372036854775807
place_below_most q size room high fits = omega (arith, ints, high, fits)

pub this_fits : (rest : List (ℕ × ℤ × ℤ)) (place : ℕ) (stride : ℤ) (left size room : ℕ) → 0 < left → Entered rest → Inside size room (left_places rest place stride left) → room < 2 ^ 63 → place < 2 ^ 63
this_fits rest place stride left size room some entered all fits = place_fits place size room (this_place rest place stride left size room some entered all) fits

pub that_low : (rest : List (ℕ × ℤ × ℤ)) (place : ℕ) (stride : ℤ) (left size room : ℕ) → 0 < left → Entered rest → Inside size room (left_places rest place stride left)
    → 0 < left - 1 → pos 0 ≤ℤ (pos place +ℤ stride)
that_low rest place stride left size room some entered all more = (that_place rest place stride left size room some more entered all).low

pub that_high : (rest : List (ℕ × ℤ × ℤ)) (place : ℕ) (stride : ℤ) (left size room : ℕ) → 0 < left → Entered rest → Inside size room (left_places rest place stride left) → room < 2 ^ 63
    → 0 < left - 1 → (pos place +ℤ stride) ≤ℤ pos 9223372036854775807
that_high rest place stride left size room some entered all fits more =
    place_below_most (pos place +ℤ stride) size room (that_place rest place stride left size room some more entered all).high fits

counted_sum : (next a b size : ℕ) → next + (a + b) * size ≡ (next + a * size) + b * size
counted_sum next a b size = grind arith

line_on : (p q t : ℤ) (n : ℕ) → (0 < n → q ≡ p) → line p t n ≡ line q t n
line_on p q t zero same = refl
line_on p q t (suc n) same = ap (λ (z : ℤ). line z t (suc n)) (sym (same (let some : 0 < suc n = omega arith in some)))

rows_split : (rest : List (ℕ × ℤ × ℤ)) (place other : ℕ) (stride : ℤ) (left : ℕ) → 0 < left → (0 < left - 1 → pos other ≡ pos place +ℤ stride)
    → left_places rest place stride left ≡ places rest (pos place) ++ left_places rest other stride (left - 1)
rows_split rest place other stride left some moved =
    rows_first (places rest) (pos place) stride left some
    ∙ ap (λ (ps : List ℤ). places rest (pos place) ++ flat_map (places rest) ps) (line_on (pos place +ℤ stride) (pos other) stride (left - 1) moved)

pub enough_here : (bytes before : List ℕ) (dims : List (ℕ × ℤ × ℤ)) (place : ℕ) (stride : ℤ) (left start size : ℕ) (content : List ℕ) (next from : ℕ) → 1 ≤ length dims → stride ≡ (first_dim dims).1
    → 0 < left → IsLeft bytes before (other_dims dims) place stride left (first_dim dims).0 start size content next from
    → from + length (places dims (pos start)) * size ≤ length content → next + length (places (other_dims dims) (pos place)) * size ≤ length content
enough_here bytes before dims place stride left start size content next from many same some now enough =
    let whole = ap length (all_rows dims (pos start) stride many same) in
    let total : from + length (left_places (other_dims dims) start stride (first_dim dims).0) * size ≤ length content = subst (λ (n : ℕ). from + n * size ≤ length content) whole enough in
    let parts = ap length (rows_first (places (other_dims dims)) (pos place) stride left some) ∙ length-append (places (other_dims dims) (pos place)) (flat_map (places (other_dims dims)) (line (pos place +ℤ stride) stride (left - 1))) in
    let sum = ap (λ (n : ℕ). next + n * size) parts
    ∙ counted_sum next (length (places (other_dims dims) (pos place))) (length (flat_map (places (other_dims dims)) (line (pos place +ℤ stride) stride (left - 1)))) size in
    let counted = now.counted in
    omega (arith, total, sum, counted)

pub stepped : (bytes more before : List ℕ) (rest : List (ℕ × ℤ × ℤ)) (place other : ℕ) (stride : ℤ) (left count start size : ℕ) (content : List ℕ) (next then from : ℕ) → 0 < left
    → IsLeft bytes before rest place stride left count start size content next from
    → more ≡ laid bytes size (map nat_abs (places rest (pos place))) (drop next content) → length more ≡ length bytes → then ≡ next + length (places rest (pos place)) * size
    → (0 < left - 1 → pos other ≡ pos place +ℤ stride) → IsLeft more before rest other stride (left - 1) count start size content then from
stepped bytes more before rest place other stride left count start size content next then from some now here long step moved =
    let split = rows_split rest place other stride left some moved in
    let first : List ℕ = map nat_abs (places rest (pos place)) in
    let after : List ℕ = map nat_abs (left_places rest other stride (left - 1)) in
    let behind : drop then content ≡ drop (length first * size) (drop next content) =
    ap (λ (n : ℕ). drop n content) (step ∙ ap (λ (n : ℕ). next + n * size) (sym (length-map (places rest (pos place)) nat_abs))) ∙ sym (drop-drop (length first * size) next content) in
    let sum = ap (λ (n : ℕ). next + n * size) (ap length split ∙ length-append (places rest (pos place)) (left_places rest other stride (left - 1)))
    ∙ counted_sum next (length (places rest (pos place))) (length (left_places rest other stride (left - 1))) size in
    let counted = now.counted in
    record {
      laid_so =
          ap₂ (λ (bs cs : List ℕ). laid bs size after cs) here behind
          ∙ sym (laid_both bytes size first after (drop next content))
          ∙ ap (λ (starts : List ℕ). laid bytes size starts (drop next content)) (sym (ap (map nat_abs) split ∙ map-append nat_abs (places rest (pos place)) (left_places rest other stride (left - 1))))
          ∙ now.laid_so;
      long = long ∙ now.long;
      inside = right_by_recursion (IsInside size (length before)) (places rest (pos place)) (left_places rest other stride (left - 1)) (subst (Inside size (length before)) split now.inside);
      counted = ap (λ (n : ℕ). n + length (left_places rest other stride (left - 1)) * size) step ∙ sym sum ∙ counted;
    }

pub all_laid : (bytes before : List ℕ) (dims : List (ℕ × ℤ × ℤ)) (place : ℕ) (stride : ℤ) (left start size : ℕ) (content : List ℕ) (next from : ℕ) → 1 ≤ length dims → stride ≡ (first_dim dims).1
    → left ≡ 0 → IsLeft bytes before (other_dims dims) place stride left (first_dim dims).0 start size content next from
    → bytes ≡ laid before size (map nat_abs (places dims (pos start))) (drop from content)
all_laid bytes before dims place stride left start size content next from many same none now =
    sym (ap (λ (n : ℕ). laid bytes size (map nat_abs (left_places (other_dims dims) place stride n)) (drop next content)) none)
    ∙ now.laid_so ∙ ap (λ (ps : List ℤ). laid before size (map nat_abs ps) (drop from content)) (sym (all_rows dims (pos start) stride many same))

pub all_counted : (bytes before : List ℕ) (dims : List (ℕ × ℤ × ℤ)) (place : ℕ) (stride : ℤ) (left start size : ℕ) (content : List ℕ) (next from : ℕ) → 1 ≤ length dims → stride ≡ (first_dim dims).1
    → left ≡ 0 → IsLeft bytes before (other_dims dims) place stride left (first_dim dims).0 start size content next from
    → next ≡ from + length (places dims (pos start)) * size
all_counted bytes before dims place stride left start size content next from many same none now =
    let zeroth : next ≡ next + 0 * size = grind arith in
    zeroth ∙ sym (ap (λ (n : ℕ). next + length (left_places (other_dims dims) place stride n) * size) none)
    ∙ now.counted ∙ ap (λ (ps : List ℤ). from + length ps * size) (sym (all_rows dims (pos start) stride many same))
