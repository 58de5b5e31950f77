-- What a cast makes from a cast.
use Rattle.std.proofs.Common.{◌≡◌, refl, sym, ap, ap₂, ◌∙◌, ℕ, zero, suc, ◌+◌, ◌*◌, ◌/◌, ◌<◌, pos, List, [], ◌∷◌, ◌++◌, length, map, Bool, Option, Some, None, subst, mul-pos, zero-mul, arith}
use Rattle.std.specs.List.{flat_map, range_with_len}
use Rattle.std.proofs.lemmas.List.FromFn.{length-map-range_with_len}
use Rattle.pybuf_lemmas.proofs.Numbers.{first_factor_positive, second_factor_positive}
use Rattle.pybuf_desc.specs.Layouts.{Layout, product}
use Rattle.pybuf_desc.specs.Contiguous.{starts_from}
use Rattle.pybuf_desc.specs.Strides.{row_major_strides}
use Rattle.pybuf_desc.specs.ColumnCasts.{column_major_strides, column_major_starts, column_starts_from}
use Rattle.pybuf_desc.specs.CastChains.{Cast, Flat, Shaped, InColumns, after_cast, size_of_cast, MakesUp, CanBeCast, ChainsOfCastsAreTheLast}
use Rattle.pybuf_desc.proofs.Flat.{whole_items}
use Rattle.pybuf_desc.proofs.ColumnCasts.{column_casts_counted}

-- where the first item starts, if there is one
abbrev pub first_of : List ℕ → Option ℕ
first_of [] = None
first_of (start ∷ starts) = Some start

abbrev pub bytes_of_view : Layout → ℕ
bytes_of_view view = length view.starts * view.itemsize

-- ---- a cast needs only the first start, the number of bytes, and whether the view may only be read

abbrev pub run_from : Option ℕ → ℕ → ℕ → List ℕ
run_from None size count = []
run_from (Some first) size count = map (λ k. first + k * size) (range_with_len 0 count)

abbrev pub columns_from : Option ℕ → ℕ → List ℕ → List ℕ
columns_from None size shape = []
columns_from (Some first) size shape = column_major_starts size shape first

starts_by_first : (starts : List ℕ) (size count : ℕ) → starts_from starts size count ≡ run_from (first_of starts) size count
starts_by_first [] size count = refl
starts_by_first (first ∷ starts) size count = refl

columns_by_first : (starts : List ℕ) (size : ℕ) (shape : List ℕ) → column_starts_from starts size shape ≡ columns_from (first_of starts) size shape
columns_by_first [] size shape = refl
columns_by_first (first ∷ starts) size shape = refl

abbrev pub made_by : Cast → Option ℕ → ℕ → Bool → Layout
made_by (Flat format size) first bytes readonly =
    record { format = format; itemsize = size; shape = bytes / size ∷ []; starts = run_from first size (bytes / size); strides = pos size ∷ []; readonly = readonly }
made_by (Shaped format size shape) first bytes readonly =
    record { format = format; itemsize = size; shape = shape; starts = run_from first size (product shape); strides = row_major_strides size shape; readonly = readonly }
made_by (InColumns format size shape) first bytes readonly =
    record { format = format; itemsize = size; shape = shape; starts = columns_from first size shape; strides = column_major_strides size shape; readonly = readonly }

cast_by_first : (cast : Cast) (view : Layout) → after_cast cast view ≡ made_by cast (first_of view.starts) (bytes_of_view view) view.readonly
cast_by_first (Flat format size) view =
    ap (λ (xs : List ℕ). record { format = format; itemsize = size; shape = bytes_of_view view / size ∷ []; starts = xs; strides = pos size ∷ []; readonly = view.readonly }) (starts_by_first view.starts size (bytes_of_view view / size))
cast_by_first (Shaped format size shape) view =
    ap (λ (xs : List ℕ). record { format = format; itemsize = size; shape = shape; starts = xs; strides = row_major_strides size shape; readonly = view.readonly }) (starts_by_first view.starts size (product shape))
cast_by_first (InColumns format size shape) view =
    ap (λ (xs : List ℕ). record { format = format; itemsize = size; shape = shape; starts = xs; strides = column_major_strides size shape; readonly = view.readonly }) (columns_by_first view.starts size shape)

-- ---- a cast begins where the view does, and has as many bytes

first_of_run : (starts : List ℕ) (size count : ℕ) → (0 < length starts → 0 < count) → first_of (starts_from starts size count) ≡ first_of starts
first_of_run [] size count some = refl
first_of_run (first ∷ starts) size zero some = absurd (let none = some (omega arith) in omega (arith, none))
first_of_run (first ∷ starts) size (suc count) some = ap (λ n. Some n) (let here : first + 0 * size ≡ first = omega arith in here)

length_of_run : (starts : List ℕ) (size count : ℕ) → 0 < length starts → length (starts_from starts size count) ≡ count
length_of_run [] size count some = absurd (omega (arith, some))
length_of_run (first ∷ starts) size count some = length-map-range_with_len (λ k. first + k * size) 0 count

first_of_both : (xs ys : List ℕ) (n : ℕ) → first_of xs ≡ Some n → first_of (xs ++ ys) ≡ Some n
first_of_both [] ys n h = absurd (cc)
first_of_both (x ∷ xs) ys n h = h

first_of_columns : (size : ℕ) (shape : List ℕ) (first : ℕ) → 0 < product shape → first_of (column_major_starts size shape first) ≡ Some first
first_of_columns size [] first some = refl
first_of_columns size (zero ∷ shape) first some = absurd (let none = first_factor_positive 0 (product shape) some in omega (arith, none))
first_of_columns size (suc n ∷ shape) first some =
    let here : first + 0 * size ≡ first = omega arith in
    first_of_both (column_major_starts (size * suc n) shape (first + 0 * size)) (flat_map (λ index. column_major_starts (size * suc n) shape (first + index * size)) (range_with_len 1 n)) first
    (first_of_columns (size * suc n) shape (first + 0 * size) (second_factor_positive (suc n) (product shape) some) ∙ ap (λ n. Some n) here)

first_of_column_cast : (starts : List ℕ) (size : ℕ) (shape : List ℕ) → (0 < length starts → 0 < product shape) → first_of (column_starts_from starts size shape) ≡ first_of starts
first_of_column_cast [] size shape some = refl
first_of_column_cast (first ∷ starts) size shape some = first_of_columns size shape first (some (omega arith))

-- how many items a cast makes from so many bytes
abbrev pub count_by : Cast → ℕ → ℕ
count_by (Flat format size) bytes = bytes / size
count_by (Shaped format size shape) bytes = product shape
count_by (InColumns format size shape) bytes = product shape

whole_count : (cast : Cast) (bytes : ℕ) → 0 < size_of_cast cast → MakesUp cast bytes → count_by cast bytes * size_of_cast cast ≡ bytes
whole_count (Flat format size) bytes some whole = whole_items bytes size some whole
whole_count (Shaped format size shape) bytes some whole = sym whole
whole_count (InColumns format size shape) bytes some whole = sym whole

-- if the view has items, so has the cast
some_count : (cast : Cast) (view : Layout) → 0 < view.itemsize → CanBeCast view cast → 0 < length view.starts → 0 < count_by cast (bytes_of_view view)
some_count cast view sized can some =
    first_factor_positive (count_by cast (bytes_of_view view)) (size_of_cast cast) (subst (λ n. 0 < n) (sym (whole_count cast (bytes_of_view view) can.some can.whole)) (mul-pos some sized))

first_kept : (cast : Cast) (view : Layout) → 0 < view.itemsize → CanBeCast view cast → first_of (after_cast cast view).starts ≡ first_of view.starts
first_kept (Flat format size) view sized can = first_of_run view.starts size (bytes_of_view view / size) (some_count (Flat format size) view sized can)
first_kept (Shaped format size shape) view sized can = first_of_run view.starts size (product shape) (some_count (Shaped format size shape) view sized can)
first_kept (InColumns format size shape) view sized can = first_of_column_cast view.starts size shape (some_count (InColumns format size shape) view sized can)

counted : (cast : Cast) (view : Layout) → 0 < length view.starts → length (after_cast cast view).starts ≡ count_by cast (bytes_of_view view)
counted (Flat format size) view some = length_of_run view.starts size (bytes_of_view view / size) some
counted (Shaped format size shape) view some = length_of_run view.starts size (product shape) some
counted (InColumns format size shape) view some = column_casts_counted view format size shape some

none_from_none : (xs ys : List ℕ) → first_of ys ≡ first_of xs → length xs ≡ 0 → length ys ≡ 0
none_from_none [] [] same none = refl
none_from_none [] (y ∷ ys) same none = absurd (cc)
none_from_none (x ∷ xs) ys same none = absurd (omega (arith, none))

size_kept : (cast : Cast) (view : Layout) → (after_cast cast view).itemsize ≡ size_of_cast cast
size_kept (Flat format size) view = refl
size_kept (Shaped format size shape) view = refl
size_kept (InColumns format size shape) view = refl

readonly_kept : (cast : Cast) (view : Layout) → (after_cast cast view).readonly ≡ view.readonly
readonly_kept (Flat format size) view = refl
readonly_kept (Shaped format size shape) view = refl
readonly_kept (InColumns format size shape) view = refl

bytes_kept : (cast : Cast) (view : Layout) → 0 < view.itemsize → CanBeCast view cast → bytes_of_view (after_cast cast view) ≡ bytes_of_view view
bytes_kept cast view sized can = by_length (length view.starts) refl
  where
    by_length : (n : ℕ) → length view.starts ≡ n → bytes_of_view (after_cast cast view) ≡ bytes_of_view view
    by_length zero none =
        let also : length (after_cast cast view).starts ≡ 0 = none_from_none view.starts (after_cast cast view).starts (first_kept cast view sized can) none in
        ap (λ n. n * (after_cast cast view).itemsize) also ∙ zero-mul (after_cast cast view).itemsize ∙ sym (ap (λ n. n * view.itemsize) none ∙ zero-mul view.itemsize)
    by_length (suc n) some =
        ap₂ (λ (n m : ℕ). n * m) (counted cast view (omega (arith, some))) (size_kept cast view) ∙ whole_count cast (bytes_of_view view) can.some can.whole

-- ---- a cast of a cast

twice : (cast last : Cast) (view : Layout) → 0 < view.itemsize → CanBeCast view cast → after_cast last (after_cast cast view) ≡ after_cast last view
twice cast last view sized can =
    cast_by_first last (after_cast cast view)
    ∙ ap (λ (first : Option ℕ). made_by last first (bytes_of_view (after_cast cast view)) (after_cast cast view).readonly) (first_kept cast view sized can)
    ∙ ap₂ (λ (bytes : ℕ) (readonly : Bool). made_by last (first_of view.starts) bytes readonly) (bytes_kept cast view sized can) (readonly_kept cast view)
    ∙ sym (cast_by_first last view)

pub chains_are_the_last : ChainsOfCastsAreTheLast
chains_are_the_last view [] last sized can = record { can = can.0; same = refl }
chains_are_the_last view (cast ∷ casts) last sized can =
    let made : Layout = after_cast cast view in
    let later = chains_are_the_last made casts last (subst (λ n. 0 < n) (sym (size_kept cast view)) can.0.some) can.1 in
    record {
      can = record {
        contiguous = can.0.contiguous;
        some = later.can.some;
        whole = subst (MakesUp last) (bytes_kept cast view sized can.0) later.can.whole;
      };
      same = later.same ∙ twice cast last view sized can.0;
    }
